-- Lists of rows and of changes, one more at a time.
use Rattle.std.proofs.Common.{◌≡◌, ◌<◌, ◌+◌, ◌∙◌, ◌||◌, ℕ, ℤ, Bool, true, false, cond, not, List, [], ◌∷◌, ◌++◌, Option, Some, map, filter, drop, get_or, length, take, refl, ap, sym, subst}
use Rattle.std.specs.List.{cons_option, filter_map}
use Rattle.std.proofs.lemmas.List.{append-nil, map-append, take-append-drop, take_more}
use Rattle.std.proofs.lemmas.List.Elements.{filter-append, filter_map-append}
use Rattle.std.proofs.lemmas.List.Folds.{list_any-append}
use Rattle.plan_rules.specs.Bags.{AreSame}
use Rattle.plan_rules.proofs.Sums.{same-append, same-filter, same-map, same-refl}
use Rattle.stream_heads.specs.declared.member.Member.{Member}
use Rattle.stream_heads.specs.MemberEquality.{member_decides, same_member}
use Rattle.stream_group.specs.declared.change.Change.{Change}
use Rattle.stream_group.specs.Keyed.{come_in, gone_in, has_key, is_one_of, number_in, numbers_coming, numbers_staying, staying, changed, under}
use Rattle.stream_group.specs.Turns.{numbers_under}

pub gone_in-append : (xs ys : List Change) → gone_in (xs ++ ys) ≡ gone_in xs ++ gone_in ys
gone_in-append xs ys =
    ap (map (λ (c : Change). c.member)) (filter-append (λ (c : Change). not c.comes) xs ys)
    ∙ map-append (λ (c : Change). c.member) (filter (λ (c : Change). not c.comes) xs) (filter (λ (c : Change). not c.comes) ys)

pub come_in-append : (xs ys : List Change) → come_in (xs ++ ys) ≡ come_in xs ++ come_in ys
come_in-append xs ys =
    ap (map (λ (c : Change). c.member)) (filter-append (λ (c : Change). c.comes) xs ys)
    ∙ map-append (λ (c : Change). c.member) (filter (λ (c : Change). c.comes) xs) (filter (λ (c : Change). c.comes) ys)

pub staying-append : (run : List Change) (xs ys : List Member) → staying run (xs ++ ys) ≡ staying run xs ++ staying run ys
staying-append run xs ys = filter-append (λ m. not (is_one_of (gone_in run) m)) xs ys

pub numbers_staying-append : (width : ℕ) (run : List Change) (xs ys : List Member) → numbers_staying width run (xs ++ ys) ≡ numbers_staying width run xs ++ numbers_staying width run ys
numbers_staying-append width run xs ys = ap (map (number_in width)) (staying-append run xs ys) ∙ map-append (number_in width) (staying run xs) (staying run ys)

-- one place more
place_more : (at : ℕ → Option Member) (places : List ℕ) (i : ℕ) → i < length places → filter_map at (take (i + 1) places) ≡ filter_map at (take i places) ++ filter_map at (get_or places i 0 ∷ [])
place_more at places i within = ap (filter_map at) (take_more places i 0 within) ∙ filter_map-append at (take i places) (get_or places i 0 ∷ [])

pub numbers_more : (width : ℕ) (at : ℕ → Option Member) (places : List ℕ) (i : ℕ) → i < length places
    → map (number_in width) (filter_map at (take (i + 1) places)) ≡ map (number_in width) (filter_map at (take i places)) ++ map (number_in width) (filter_map at (get_or places i 0 ∷ []))
numbers_more width at places i within =
    ap (map (number_in width)) (place_more at places i within)
    ∙ map-append (number_in width) (filter_map at (take i places)) (filter_map at (get_or places i 0 ∷ []))

pub staying_more : (width : ℕ) (run : List Change) (at : ℕ → Option Member) (places : List ℕ) (i : ℕ) → i < length places
    → numbers_staying width run (filter_map at (take (i + 1) places)) ≡ numbers_staying width run (filter_map at (take i places)) ++ numbers_staying width run (filter_map at (get_or places i 0 ∷ []))
staying_more width run at places i within =
    ap (numbers_staying width run) (place_more at places i within)
    ∙ numbers_staying-append width run (filter_map at (take i places)) (filter_map at (get_or places i 0 ∷ []))

-- the number of a row that was found
pub one_there : (width : ℕ) (found : Option Member) (member : Member) (number : ℤ) → Some member ≡ found → number ≡ number_in width member → number ∷ [] ≡ map (number_in width) (cons_option found [])
one_there width found member number is same = ap (λ (n : ℤ). n ∷ []) same ∙ ap (λ (m : Option Member). map (number_in width) (cons_option m [])) is

-- the number of a row that was found and stays
pub one_stays : (width : ℕ) (run : List Change) (found : Option Member) (member : Member) (number : ℤ) → is_one_of (gone_in run) member ≡ false → Some member ≡ found → number ≡ number_in width member → number ∷ [] ≡ numbers_staying width run (cons_option found [])
one_stays width run found member number stays is same =
    ap (λ (n : ℤ). n ∷ []) same
    ∙ sym (ap (λ (b : Bool). map (number_in width) (cond (not b) (member ∷ []) [])) stays)
    ∙ ap (λ (m : Option Member). numbers_staying width run (cons_option m [])) is

none_more : (b c : Bool) → b ≡ false → c ≡ false → (b || c) ≡ false
none_more b c one other = (λ i. one i || c) ∙ other

-- a row is none of those that go, nor the next one
pub not_gone_more : (changes : List Change) (i : ℕ) (x : Change) (member : Member) → i < length changes → x ≡ get_or changes i x
    → is_one_of (gone_in (take i changes)) member ≡ false → is_one_of (gone_in (x ∷ [])) member ≡ false → is_one_of (gone_in (take (i + 1) changes)) member ≡ false
not_gone_more changes i x member within is none next =
    ap (λ (cs : List Change). is_one_of (gone_in cs) member) (take_more changes i x within ∙ ap (λ (c : Change). take i changes ++ c ∷ []) (sym is))
    ∙ ap (λ (ms : List Member). is_one_of ms member) (gone_in-append (take i changes) (x ∷ []))
    ∙ list_any-append (same_member member) (gone_in (take i changes)) (gone_in (x ∷ []))
    ∙ none_more (is_one_of (gone_in (take i changes)) member) (is_one_of (gone_in (x ∷ [])) member) none next

-- a row that is the next one, which goes
pub gone_alone : (x : Change) (member : Member) → x.comes ≡ false → x.member ≡ member → is_one_of (gone_in (x ∷ [])) member ≡ true
gone_alone x member goes is =
    ap (λ (b : Bool). is_one_of (map (λ (c : Change). c.member) (cond (not b) (x ∷ []) [])) member) goes
    ∙ ap (λ (b : Bool). b || false) ((member_decides member x.member).1 (sym is))

pub comes_alone : (x : Change) (member : Member) → x.comes ≡ true → is_one_of (gone_in (x ∷ [])) member ≡ false
comes_alone x member comes = ap (λ (b : Bool). is_one_of (map (λ (c : Change). c.member) (cond (not b) (x ∷ []) [])) member) comes

pub other_alone : (x : Change) (member : Member) → (x.member ≡ member → ⊥) → is_one_of (gone_in (x ∷ [])) member ≡ false
other_alone x member other =
    elim x.comes as (λ b. is_one_of (map (λ (c : Change). c.member) (cond (not b) (x ∷ []) [])) member ≡ false) [
      | true ↦ refl
      | false ↦ ap (λ (b : Bool). b || false) (elim (same_member member x.member) as (λ b. same_member member x.member ≡ b → b ≡ false) [
        | true ↦ λ is. absurd (other (sym ((member_decides member x.member).0 is)))
        | false ↦ λ is. refl
      ] refl)
    ]

or_true : (b : Bool) → (b || true) ≡ true
or_true true = refl
or_true false = refl

-- a row that is one of those that go
pub gone_at : (changes : List Change) (i : ℕ) (x : Change) (member : Member) → i < length changes → x ≡ get_or changes i x → x.comes ≡ false → x.member ≡ member → is_one_of (gone_in changes) member ≡ true
gone_at changes i x member within is goes same =
    let so_far = take (i + 1) changes in
    let here : is_one_of (gone_in so_far) member ≡ true =
    ap (λ (cs : List Change). is_one_of (gone_in cs) member) (take_more changes i x within ∙ ap (λ (c : Change). take i changes ++ c ∷ []) (sym is))
    ∙ ap (λ (ms : List Member). is_one_of ms member) (gone_in-append (take i changes) (x ∷ []))
    ∙ list_any-append (same_member member) (gone_in (take i changes)) (gone_in (x ∷ []))
    ∙ ap (λ (b : Bool). is_one_of (gone_in (take i changes)) member || b) (gone_alone x member goes same) ∙ or_true (is_one_of (gone_in (take i changes)) member) in
    ap (λ (cs : List Change). is_one_of (gone_in cs) member) (sym (take-append-drop (i + 1) changes))
    ∙ ap (λ (ms : List Member). is_one_of ms member) (gone_in-append so_far (drop (i + 1) changes))
    ∙ list_any-append (same_member member) (gone_in so_far) (gone_in (drop (i + 1) changes))
    ∙ ap (λ (b : Bool). b || is_one_of (gone_in (drop (i + 1) changes)) member) here

-- filters in turn
pub filter-twice : {X : Type 0} (p q : X → Bool) (xs : List X) → filter p (filter q xs) ≡ filter q (filter p xs)
filter-twice p q [] = refl
filter-twice {X} p q (x ∷ xs) =
    let rest = filter-twice p q xs in
    elim (p x) as (λ b. p x ≡ b → filter p (cond (q x) (x ∷ filter q xs) (filter q xs)) ≡ filter q (cond b (x ∷ filter p xs) (filter p xs))) [
      | true ↦ λ yes. elim (q x) as (λ b. q x ≡ b → filter p (cond b (x ∷ filter q xs) (filter q xs)) ≡ cond b (x ∷ filter q (filter p xs)) (filter q (filter p xs))) [
        | true ↦ λ also. ap (λ (b : Bool). cond b (x ∷ filter p (filter q xs)) (filter p (filter q xs))) yes ∙ ap (λ (zs : List X). x ∷ zs) rest
        | false ↦ λ not. rest
      ] refl
      | false ↦ λ no. elim (q x) as (λ b. filter p (cond b (x ∷ filter q xs) (filter q xs)) ≡ filter q (filter p xs)) [
        | true ↦ ap (λ (b : Bool). cond b (x ∷ filter p (filter q xs)) (filter p (filter q xs))) no ∙ rest
        | false ↦ rest
      ]
    ] refl

-- a filter of what a map makes
pub filter-mapped : {X Y : Type 0} (p : Y → Bool) (f : X → Y) (xs : List X) → filter p (map f xs) ≡ map f (filter (λ x. p (f x)) xs)
filter-mapped p f [] = refl
filter-mapped {X} {Y} p f (x ∷ xs) =
    let rest = filter-mapped p f xs in
    elim (p (f x)) as (λ b. cond b (f x ∷ filter p (map f xs)) (filter p (map f xs)) ≡ map f (cond b (x ∷ filter (λ x. p (f x)) xs) (filter (λ x. p (f x)) xs))) [
      | true ↦ ap (λ (zs : List Y). f x ∷ zs) rest
      | false ↦ rest
    ]

-- of changes that have a key, all rows that come are under it
pub come_under : (width : ℕ) (key : List ℤ) (run : List Change) → under width key (come_in run) ≡ come_in (filter (has_key width key) run)
come_under width key run =
    filter-mapped (λ m. has_key width key (record { member = m; comes = true })) (λ (c : Change). c.member) (filter (λ (c : Change). c.comes) run)
    ∙ ap (map (λ (c : Change). c.member)) (filter-twice (has_key width key) (λ (c : Change). c.comes) run)

-- of changes that have a key, all rows that go are under it
pub gone_under : (width : ℕ) (key : List ℤ) (run : List Change) → under width key (gone_in run) ≡ gone_in (filter (has_key width key) run)
gone_under width key run =
    filter-mapped (λ m. has_key width key (record { member = m; comes = true })) (λ (c : Change). c.member) (filter (λ (c : Change). not c.comes) run)
    ∙ ap (map (λ (c : Change). c.member)) (filter-twice (has_key width key) (λ (c : Change). not c.comes) run)

-- the collected numbers under a key once the changes of a run with that key are done
pub run_under : (width : ℕ) (key : List ℤ) (run : List Change) (members : List Member) → filter (has_key width key) run ≡ run
    → numbers_under width (changed run members) key ≡ numbers_staying width run (under width key members) ++ numbers_coming width run
run_under width key run members is =
    ap (map (number_in width)) (
    filter-append (λ m. has_key width key (record { member = m; comes = true })) (staying run members) (come_in run)
    ∙ (λ i. filter-twice (λ m. has_key width key (record { member = m; comes = true })) (λ m. not (is_one_of (gone_in run) m)) members i ++ (come_under width key run ∙ ap come_in is) i)
    )
    ∙ map-append (number_in width) (staying run (under width key members)) (come_in run)

-- the same of rows that stand in any order
pub numbers_later : (width : ℕ) (key : List ℤ) (run : List Change) (there members : List Member) → AreSame there (under width key members) → filter (has_key width key) run ≡ run
    → AreSame (numbers_staying width run there ++ numbers_coming width run) (numbers_under width (changed run members) key)
numbers_later width key run there members same is =
    let numbers = same-map (number_in width) _ _ (same-filter (λ m. not (is_one_of (gone_in run) m)) there (under width key members) same) in
    subst (AreSame (numbers_staying width run there ++ numbers_coming width run)) (sym (run_under width key run members is))
    (same-append (numbers_staying width run there) (numbers_staying width run (under width key members)) (numbers_coming width run) (numbers_coming width run) numbers (same-refl (numbers_coming width run)))

-- nothing is changed by no changes
pub unchanged : (members : List Member) → changed [] members ≡ members
unchanged members = append-nil (filter (λ m. true) members) ∙ all members
  where
    all : (ms : List Member) → filter (λ m. true) ms ≡ ms
    all [] = refl
    all (m ∷ ms) = ap (λ (rest : List Member). m ∷ rest) (all ms)
