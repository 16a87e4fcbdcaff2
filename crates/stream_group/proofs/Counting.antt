-- Rows that are counted, of which none is looked at.
use Rattle.std.proofs.Common.{◌≡◌, ◌+◌, ◌∙◌, ℕ, ℤ, pos, Bool, true, false, cond, not, List, [], ◌∷◌, ◌++◌, Option, Some, None, map, filter, length, take, refl, ap, sym, arith}
use Rattle.std.proofs.lemmas.List.{length-append, length-map}
use Rattle.std.proofs.lemmas.List.Elements.{filter-append}
use Rattle.plan_rules.specs.declared.rule.Collect.TheVariants as collect
use Rattle.stream_index.specs.Key.{key_eq}
use Rattle.stream_heads.specs.declared.member.Member.{Member}
use Rattle.stream_group.specs.declared.change.Change.{Change}
use Rattle.stream_group.specs.declared.grouping.Grouping.{Grouping}
use Rattle.stream_group.specs.Collected.{made_if_any}
use Rattle.stream_group.specs.Keyed.{changed, come_in, gone_in, has_key, number_in, staying, under}
use Rattle.stream_group.specs.Turns.{MakesCount, MakesCountAfter, MakesLater, MakesUnder, numbers_under}
use Rattle.stream_group.proofs.Listed.{come_under}

-- nothing is made of no rows
pub none_counted : (numbers : List ℤ) → length numbers ≡ 0 → None ≡ made_if_any collect.Count numbers
none_counted [] is = refl
none_counted (n ∷ numbers) is = absurd (omega (arith, is))

-- of some rows their number is made
pub some_counted : (numbers : List ℤ) (rows : ℕ) → length numbers ≡ rows → (rows ≡ 0 → ⊥) → Some (pos rows) ≡ made_if_any collect.Count numbers
some_counted [] rows is some = absurd (some (sym is))
some_counted (n ∷ numbers) rows is some = ap (λ (m : ℕ). Some (pos m)) (sym is)

-- each change takes a row away or puts one there
pub all_changes : (changes : List Change) → length (gone_in changes) + length (come_in changes) ≡ length changes
all_changes [] = refl
all_changes (x ∷ changes) =
    let rest = all_changes changes in
    let one = gone_one x changes in
    let other = come_one x changes in
    elim x.comes as (λ b. x.comes ≡ b → length (gone_in (x ∷ changes)) + length (come_in (x ∷ changes)) ≡ length (x ∷ changes)) [
      | true ↦ λ comes. omega (arith, rest, one, other, ap (λ (b : Bool). cond {A = ℕ} (not b) 1 0) comes, ap (λ (b : Bool). cond {A = ℕ} b 1 0) comes)
      | false ↦ λ goes. omega (arith, rest, one, other, ap (λ (b : Bool). cond {A = ℕ} (not b) 1 0) goes, ap (λ (b : Bool). cond {A = ℕ} b 1 0) goes)
    ] refl
  where
    kept_one : (b : Bool) (x : Change) (xs : List Change) → length (map (λ (c : Change). c.member) (cond b (x ∷ xs) xs)) ≡ cond b 1 0 + length (map (λ (c : Change). c.member) xs)
    kept_one true x xs = omega arith
    kept_one false x xs = omega arith

    gone_one : (x : Change) (changes : List Change) → length (gone_in (x ∷ changes)) ≡ cond (not x.comes) 1 0 + length (gone_in changes)
    gone_one x changes = kept_one (not x.comes) x (filter (λ (c : Change). not c.comes) changes)

    come_one : (x : Change) (changes : List Change) → length (come_in (x ∷ changes)) ≡ cond x.comes 1 0 + length (come_in changes)
    come_one x changes = kept_one x.comes x (filter (λ (c : Change). c.comes) changes)

-- what is made of as many rows as are under a key
pub counted_under : (by : Grouping) (kept : List Member) (key : List ℤ) (made : Option ℤ) → by.collect ≡ collect.Count → MakesCount (length (under (length by.keys) key kept)) made → MakesUnder by kept key made
counted_under by kept key made is makes = λ few.
    let numbers = numbers_under (length by.keys) kept key in
    makes numbers (length-map (under (length by.keys) key kept) (number_in (length by.keys))) few ∙ ap (λ c. made_if_any c numbers) (sym is)

-- and of as many as are left of them
pub counted_later : (by : Grouping) (kept : List Member) (run : List Change) (key : List ℤ) (made : Option ℤ) → by.collect ≡ collect.Count → filter (has_key (length by.keys) key) run ≡ run
    → MakesCountAfter (length (under (length by.keys) key kept)) run made → MakesLater by kept run key made
counted_later by kept run key made is runs makes = λ there few.
    let w = length by.keys in
    let p : Member → Bool = λ m. key_eq (take w m.numbers) key in
    let numbers = numbers_under w (changed run kept) key in
    let long : length numbers ≡ length (filter p (staying run kept)) + length (come_in run) =
    length-map (under w key (changed run kept)) (number_in w)
    ∙ ap (λ (ms : List Member). length ms) (filter-append p (staying run kept) (come_in run) ∙ ap (λ (ms : List Member). filter p (staying run kept) ++ ms) (come_under w key run ∙ ap come_in runs))
    ∙ length-append (filter p (staying run kept)) (come_in run) in
    makes (length (filter p (staying run kept))) there numbers long few ∙ ap (λ c. made_if_any c numbers) (sym is)
