-- The records of a class that take part have ids of their own.
use Rattle.std.proofs.Common.{◌≡◌, ◌<◌, ◌≤◌, ◌+◌, ◌∙◌, ℕ, Bool, true, false, List, [], ◌∷◌, cond, filter, refl, ap, subst, arith}
use Rattle.std.specs.Prelude.{◌==◌, All, sum_by}
use Rattle.std.specs.Cmp.{unsigned_Decides}
use Rattle.std.proofs.lemmas.Bool.{false_from_ne_true}
use Rattle.std.proofs.lemmas.List.Elements.{All-contains, All-head, All-tail}
use Rattle.std.proofs.lemmas.List.Sums.{sum_by-cons}
use Rattle.plan_facts.specs.declared.record.Rec.{Rec}
use Rattle.plan_rules.specs.Order.{AreById}
use Rattle.plan_rules.specs.Rows as rows
use Rattle.plan_rules.specs.Rows.{Facts, is_placed}
use Rattle.plan_rules.proofs.Rising.{Rising, rising_from_pairs}
use Rattle.plan_rules.proofs.Sums.{sum_by-map}
use Rattle.stream_heads.specs.declared.cells.Cell.{Cell}
use Rattle.stream_heads.specs.Meant.{IsOneRecord, Rows, record_at}
use Rattle.stream_join.specs.Pairing.{first_record}
use Rattle.stream_join.specs.Tally.{HaveOwnIds}
use Rattle.stream_join.proofs.MeantLaws.{first_is}
use Rattle.stream_join.proofs.PairSums.{sum_by-on}
use Rattle.head_changes.specs.Takers.{MeanFacts, Takers}

abbrev has : ℕ → Rec → ℕ
has id rec = cond (rec.id == id) 1 0

-- records with greater ids don't have this one
none_below : (id : ℕ) (recs : List Rec) → All (λ rec. id < rec.id) recs → sum_by (has id) recs ≡ 0
none_below id [] above = refl
none_below id (rec ∷ recs) above =
    let P : Rec → Type 0 = λ r. id < r.id in
    let here : id < rec.id = All-head P rec recs above in
    let other : (rec.id == id) ≡ false = false_from_ne_true (rec.id == id) (λ is. (let same : rec.id ≡ id = (unsigned_Decides rec.id id).0 is in absurd (omega (arith, here, same)))) in
    let none : has id rec ≡ 0 = ap (λ (b : Bool). cond {A = ℕ} b 1 0) other in
    let rest = none_below id recs (All-tail P rec recs above) in
    omega (arith, none, rest, sum_by-cons (has id) rec recs)

-- of records whose ids rise at most one has an id
once : (id : ℕ) (recs : List Rec) → Rising (λ one other. one.id < other.id) recs → sum_by (has id) recs ≤ 1
once id [] up = omega arith
once id (rec ∷ recs) up = elim (rec.id == id) as (λ b. (rec.id == id) ≡ b → sum_by (has id) (rec ∷ recs) ≤ 1) [
  | true ↦ λ is.
      let same : rec.id ≡ id = (unsigned_Decides rec.id id).0 is in
      let one : has id rec ≡ 1 = ap (λ (b : Bool). cond {A = ℕ} b 1 0) is in
      let none = none_below id recs (subst (λ (n : ℕ). All (λ (r : Rec). n < r.id) recs) same up.0) in
      omega (arith, one, none, sum_by-cons (has id) rec recs)
  | false ↦ λ is.
      let none : has id rec ≡ 0 = ap (λ (b : Bool). cond {A = ℕ} b 1 0) is in
      let rest = once id recs up.1 in
      omega (arith, none, rest, sum_by-cons (has id) rec recs)
] refl

part-le-whole : (f : Rec → ℕ) (p : Rec → Bool) (recs : List Rec) → sum_by f (filter p recs) ≤ sum_by f recs
part-le-whole f p [] = omega arith
part-le-whole f p (rec ∷ recs) =
    let rest = part-le-whole f p recs in
    let whole = sum_by-cons f rec recs in
    elim (p rec) as (λ b. p rec ≡ b → sum_by f (filter p (rec ∷ recs)) ≤ sum_by f (rec ∷ recs)) [
      | true ↦ λ is.
          let passed : sum_by f (filter p (rec ∷ recs)) ≡ f rec + sum_by f (filter p recs) = ap (λ (b : Bool). sum_by f (cond b (rec ∷ filter p recs) (filter p recs))) is ∙ sum_by-cons f rec (filter p recs) in
          omega (arith, rest, whole, passed)
      | false ↦ λ is.
          let passed : sum_by f (filter p (rec ∷ recs)) ≡ sum_by f (filter p recs) = ap (λ (b : Bool). sum_by f (cond b (rec ∷ filter p recs) (filter p recs))) is in
          omega (arith, rest, whole, passed)
    ] refl

few_take : (facts : Facts) (class : ℕ) (nulls : Bool) (f : Rec → ℕ) → sum_by f (rows.takers facts class nulls) ≤ sum_by f (facts class)
few_take facts class true f = omega arith
few_take facts class false f = part-le-whole f is_placed (facts class)

-- so no two rows of them have one id
pub own_ids : (heads : Rows) (takers : Takers) (facts : Facts) → MeanFacts heads takers facts → AreById facts → (class : ℕ) (nulls : Bool) → HaveOwnIds heads (takers class nulls)
own_ids heads takers facts mean by_id class nulls id =
    let row_has : List Cell → ℕ = λ row. cond ((first_record heads row).id == id) 1 0 in
    let as_record = sum_by-on row_has (λ row. has id (record_at heads row)) (takers class nulls) (λ row there.
    let is : IsOneRecord heads row = All-contains (IsOneRecord heads) (takers class nulls) row (mean.records class nulls) there in
    ap (λ (rec : Rec). has id rec) (first_is heads row is.single)) in
    let recs = sum_by-map (has id) (record_at heads) (takers class nulls) in
    let facts_are = (mean.same class nulls).sums (has id) in
    let few = few_take facts class nulls (has id) in
    let one = once id (facts class) (rising_from_pairs (λ (a b : Rec). a.id < b.id) (facts class) (by_id class)) in
    omega (arith, as_record, recs, facts_are, few, one)
