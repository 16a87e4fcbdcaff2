-- What came is taken back.
use Rattle.std.proofs.Common.{◌≡◌, ◌≢◌, ◌<◌, ◌∙◌, ◌||◌, ⊎_elim, ℕ, zero, suc, List, [], ◌∷◌, ◌++◌, Bool, true, false, cond, not, Option, None, append_assoc, get_or, length, set, refl, sym, ap, arith}
use Rattle.std.specs.Prelude.{All, Err, Ok, OnErr, OnOk, Result}
use Rattle.std.specs.List.{flat_map}
use Rattle.std.specs.FinMap as finmap
use Rattle.std.proofs.lemmas.Bool.{cases_eq}
use Rattle.std.proofs.lemmas.List.{append-nil}
use Rattle.std.proofs.lemmas.List.Elements.{All-head, All-tail}
use Rattle.std.proofs.lemmas.List.Folds.{list_any-append}
use Rattle.plan_facts.specs.declared.record.Rec.{Rec}
use Rattle.plan_rules.specs.declared.row.Part.{Part}
use Rattle.tuple_store.proofs.MapLaws.{put_other, same_rows}
use Rattle.stream_heads.specs.declared.cells.Cell.{Cell}
use Rattle.stream_heads.specs.declared.cells.Cell.TheVariants as cell
use Rattle.stream_heads.specs.Equality.{cells_decide, same_cells}
use Rattle.stream_heads.specs.Exact.{is_among}
use Rattle.stream_heads.specs.Meant.{Rows}
use Rattle.head_changes.specs.declared.changes.ClassChange.{ClassChange}
use Rattle.head_changes.specs.Changes.{IsNoChange, all_come}
use Rattle.head_changes.specs.Takers.{heads_without}
use Rattle.head_changes.specs.Turns.{Comes, TakesBack}
use Rattle.head_changes.proofs.Without.{left_at, without_none}

among_parts : (front mid more back : List (List Cell)) (row : List Cell)
    → is_among (front ++ ((mid ++ more) ++ back)) row ≡ (is_among front row || ((is_among mid row || is_among more row) || is_among back row))
among_parts front mid more back row =
    list_any-append (same_cells row) front ((mid ++ more) ++ back)
    ∙ ap (λ (b : Bool). is_among front row || b) (list_any-append (same_cells row) (mid ++ more) back ∙ ap (λ (b : Bool). b || is_among back row) (list_any-append (same_cells row) mid more))

among_without : (front mid back : List (List Cell)) (row : List Cell) → is_among (front ++ (mid ++ back)) row ≡ (is_among front row || (is_among mid row || is_among back row))
among_without front mid back row =
    list_any-append (same_cells row) front (mid ++ back) ∙ ap (λ (b : Bool). is_among front row || b) (list_any-append (same_cells row) mid back)

goes_there : {X : Type 0} (f m b : Bool) (o : Option X) → cond (not (f || ((m || (true || false)) || b))) o None ≡ None
goes_there true m b o = refl
goes_there false true b o = refl
goes_there false false b o = refl

none_there : {X : Type 0} (b : Bool) (o : Option X) → o ≡ None → cond b o None ≡ None
none_there true o none = none
none_there false o none = refl

no_more : (f m b : Bool) → (f || ((m || (false || false)) || b)) ≡ (f || (m || b))
no_more true m b = refl
no_more false true b = refl
no_more false false b = refl

-- a place more that came
pub back_one : (heads later : Rows) (place : ℕ) (row : List Part) (old new : List (List Cell)) → finmap.get heads place ≡ None → later ≡ finmap.insert heads place row
    → new ≡ old ++ (cell.Place place ∷ []) ∷ [] → TakesBack heads later old new
back_one heads later place row old new free is more front back =
    ap (λ (rs : List (List Cell)). heads_without (front ++ (rs ++ back)) later) more
    ∙ same_rows _ _ (λ p.
    let x = cell.Place place ∷ [] in
    let at = cell.Place p ∷ [] in
    ⊎_elim
    (λ (same : p ≡ place).
    let here : same_cells at x ≡ true = (cells_decide at x).1 (ap (λ (q : ℕ). cell.Place q ∷ []) same) in
    left_at (front ++ ((old ++ x ∷ []) ++ back)) later p
    ∙ ap (λ (b : Bool). cond (not b) (finmap.get later p) None) (among_parts front old (x ∷ []) back at ∙ ap (λ (b : Bool). is_among front at || ((is_among old at || (b || false)) || is_among back at)) here)
    ∙ goes_there (is_among front at) (is_among old at) (is_among back at) (finmap.get later p)
    ∙ sym (left_at (front ++ (old ++ back)) heads p ∙ none_there (not (is_among (front ++ (old ++ back)) at)) (finmap.get heads p) (ap (finmap.get heads) same ∙ free)))
    (λ (apart : p ≢ place).
    let other : same_cells at x ≡ false = elim (same_cells at x) as (λ b. same_cells at x ≡ b → b ≡ false) [
      | true ↦ λ e. absurd (apart (place_is ((cells_decide at x).0 e)))
      | false ↦ λ e. refl
    ] refl in
    left_at (front ++ ((old ++ x ∷ []) ++ back)) later p
    ∙ ap (λ (b : Bool). cond (not b) (finmap.get later p) None)
    (among_parts front old (x ∷ []) back at ∙ ap (λ (b : Bool). is_among front at || ((is_among old at || (b || false)) || is_among back at)) other
    ∙ no_more (is_among front at) (is_among old at) (is_among back at) ∙ sym (among_without front old back at))
    ∙ ap (λ (o : Option (List Part)). cond (not (is_among (front ++ (old ++ back)) at)) o None) (put_other heads later place row is p apart)
    ∙ sym (left_at (front ++ (old ++ back)) heads p))
    (cases_eq p place)) where
      place_is : {p q : ℕ} → ◌≡◌ {A = List Cell} (cell.Place p ∷ []) (cell.Place q ∷ []) → p ≡ q
      place_is e = cc

same_back : (heads later : Rows) (old new : List (List Cell)) → later ≡ heads → new ≡ old → TakesBack heads later old new
same_back heads later old new h r front back = rw (h, r) refl

-- a record came, or didn't for want of memory
pub entered_back : {A E : Type 0} (result : Result A E) (heads later : Rows) (old new : ClassChange) (rec : Rec) → OnOk result (Comes heads later old new rec)
    → OnErr result (later ≡ heads) → OnErr result (new.all.come.items ≡ old.all.come.items) → TakesBack heads later old.all.come.items new.all.come.items
entered_back (Ok a) heads later old new rec comes h r = back_one heads later comes.place _ old.all.come.items new.all.come.items comes.fresh comes.heads_are (comes.come true)
entered_back (Err e) heads later old new rec comes h r = same_back heads later old.all.come.items new.all.come.items h r

-- where a list's things are, one of them is set
record Parted (f : ClassChange → List (List Cell)) (xs : List ClassChange) (i : ℕ) (d y : ClassChange) : Type 0 where
  front : List (List Cell)
  back : List (List Cell)
  was : flat_map f xs ≡ front ++ (f (get_or xs i d) ++ back)
  is : flat_map f (set xs i y) ≡ front ++ (f y ++ back)

parted : (f : ClassChange → List (List Cell)) (xs : List ClassChange) (i : ℕ) (d y : ClassChange) → i < length xs → Parted f xs i d y
parted f [] i d y within = absurd (omega (arith, within))
parted f (z ∷ xs) zero d y within = record { front = []; back = flat_map f xs; was = refl; is = refl }
parted f (z ∷ xs) (suc i) d y within =
    let rest = parted f xs i d y (omega (arith, within)) in
    record {
      front = f z ++ rest.front;
      back = rest.back;
      was = ap (λ (rs : List (List Cell)). f z ++ rs) rest.was ∙ sym (append_assoc (f z) rest.front (f (get_or xs i d) ++ rest.back));
      is = ap (λ (rs : List (List Cell)). f z ++ rs) rest.is ∙ sym (append_assoc (f z) rest.front (f y ++ rest.back));
    }

regrouped : (front f mid b back : List (List Cell)) → front ++ ((f ++ (mid ++ b)) ++ back) ≡ (front ++ f) ++ (mid ++ (b ++ back))
regrouped front f mid b back =
    ap (λ (rs : List (List Cell)). front ++ rs) (append_assoc f (mid ++ b) back ∙ ap (λ (rs : List (List Cell)). f ++ rs) (append_assoc mid b back))
    ∙ sym (append_assoc front f (mid ++ (b ++ back)))

-- the change of one class, among those of all classes
pub class_back : (heads later : Rows) (changes : List ClassChange) (class : ℕ) (d new : ClassChange) → class < length changes
    → TakesBack heads later (get_or changes class d).all.come.items new.all.come.items → TakesBack heads later (all_come changes) (all_come (set changes class new))
class_back heads later changes class d new within taken front back =
    let p = parted (λ (change : ClassChange). change.all.come.items) changes class d new within in
    ap (λ (rs : List (List Cell)). heads_without (front ++ (rs ++ back)) later) p.is
    ∙ ap (λ (rs : List (List Cell)). heads_without rs later) (regrouped front p.front new.all.come.items p.back back)
    ∙ taken (front ++ p.front) (p.back ++ back)
    ∙ ap (λ (rs : List (List Cell)). heads_without rs heads) (sym (regrouped front p.front (get_or changes class d).all.come.items p.back back))
    ∙ ap (λ (rs : List (List Cell)). heads_without (front ++ (rs ++ back)) heads) (sym p.was)

nothing_came : (changes : List ClassChange) → All IsNoChange changes → all_come changes ≡ []
nothing_came [] none = refl
nothing_came (change ∷ changes) none =
    let here = (All-head IsNoChange change changes none).come true in
    let rest = nothing_came changes (All-tail IsNoChange change changes none) in
    ap (λ (rs : List (List Cell)). rs ++ all_come changes) here ∙ rest

-- where nothing came, nothing is taken back
pub all_back : (heads : Rows) (changes : List ClassChange) → All IsNoChange changes → heads_without (all_come changes) heads ≡ heads
all_back heads changes none = ap (λ (rs : List (List Cell)). heads_without rs heads) (nothing_came changes none) ∙ sym (without_none heads)

-- what is taken back is what was before
pub still_back : (before heads later : Rows) (old new : List (List Cell)) → TakesBack heads later old new → heads_without old heads ≡ before → heads_without new later ≡ before
still_back before heads later old new taken was =
    ap (λ (rs : List (List Cell)). heads_without rs later) (sym (append-nil new)) ∙ taken [] [] ∙ ap (λ (rs : List (List Cell)). heads_without rs heads) (append-nil old) ∙ was
