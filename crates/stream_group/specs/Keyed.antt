-- Rows with their numbers, as groups see them.
use Rattle.std.specs.Prelude.{◌≡◌, ◌+◌, not, ℕ, ℤ, pos, Bool, true, false, List, ◌++◌, filter, length, map, slice_index_or, take}
use Rattle.std.specs.List.{list_any}
use Rattle.std.specs.Ordering.{int_cmp, is_lt}
use Rattle.std.specs.Cmp.Lexicographic.{slice_cmp}
use Rattle.plan_rules.specs.Bags.{AreSame}
use Rattle.stream_index.specs.Key.{key_eq}
use Rattle.stream_heads.specs.declared.member.Member.{Member}
use Rattle.stream_heads.specs.MemberEquality.{same_member}
use Rattle.stream_heads.specs.Sides.{first_numbers}
use Rattle.stream_heads.specs.Standing.{with_key}
use Rattle.stream_group.specs.declared.change.Change.{Change}

-- the number of a row that is collected: that after its keys
abbrev pub number_in : ℕ → Member → ℤ
number_in width member = slice_index_or member.numbers width (pos 0)

-- the rows under a key
abbrev pub under : ℕ → List ℤ → List Member → List Member
under width key members = with_key (first_numbers width) key members

-- the key of a row that goes or comes
abbrev pub change_key : ℕ → Change → List ℤ
change_key width change = first_numbers width change.member

-- whether the change is under this key
abbrev pub has_key : ℕ → List ℤ → Change → Bool
has_key width key change = key_eq (change_key width change) key

-- these changes are all under the key that some numbers begin with
abbrev pub IsRun : ℕ → List ℤ → List Change → Type 0
IsRun width numbers changes = filter (has_key width (take width numbers)) changes ≡ changes

-- the key of one change comes before that of the other
abbrev pub is_before : ℕ → Change → Change → Bool
is_before width one other = is_lt (slice_cmp int_cmp (change_key width one) (change_key width other))

-- the rows that go, and those that come
abbrev pub gone_in : List Change → List Member
gone_in changes = map (λ (change : Change). change.member) (filter (λ change. not change.comes) changes)

abbrev pub come_in : List Change → List Member
come_in changes = map (λ (change : Change). change.member) (filter (λ change. change.comes) changes)

-- rows as changes: those that go, and those that come
abbrev pub leaving : Member → Change
leaving member = record { member = member; comes = false }

abbrev pub coming : Member → Change
coming member = record { member = member; comes = true }

-- the row is one of these
abbrev pub is_one_of : List Member → Member → Bool
is_one_of members member = list_any (same_member member) members

-- those of the rows that stay
abbrev pub staying : List Change → List Member → List Member
staying changes members = filter (λ member. not (is_one_of (gone_in changes) member)) members

-- the rows without those that go, and with those that come
abbrev pub changed : List Change → List Member → List Member
changed changes members = staying changes members ++ come_in changes

-- the rows that go are there, and go once each
abbrev pub AreThere : List Change → List Member → Type 0
AreThere changes members = AreSame members (staying changes members ++ gone_in changes)

-- under a key there are as many rows as stay and go
abbrev pub AreThereUnder : ℕ → List ℤ → List Change → List Member → Type 0
AreThereUnder width key changes members =
    length (under width key members) ≡ length (under width key (staying changes members)) + length (gone_in changes)

-- the collected numbers of those of the rows that stay
abbrev pub numbers_staying : ℕ → List Change → List Member → List ℤ
numbers_staying width changes members = map (number_in width) (staying changes members)

-- the collected numbers of the rows that come
abbrev pub numbers_coming : ℕ → List Change → List ℤ
numbers_coming width changes = map (number_in width) (come_in changes)
