-- What can be read off a plan after a change, and laws of the changes, for the crates above.
use Rattle.std.proofs.Common.{◌≡◌, ◌≢◌, ◌==◌, ◌<◌, ◌≤◌, ◌∙◌, ℕ, ℤ, suc, Bool, true, false, cond, Option, Some, None, option_map, IsSomeAnd, List, [], ◌∷◌, length, zip, map, set, get_or, eqb, refl, sym, ap, subst, inl, inr, arith, All}
use Rattle.std.proofs.lemmas.Bool.{cases_eq, cases_lt}
use Rattle.std.proofs.lemmas.List.{get_or-set_same, get_or-set_other, set_past, map-set}
use Rattle.plan_facts.specs.declared.record.Raw.{Raw}
use Rattle.plan_facts.specs.declared.record.Rec.{Rec}
use Rattle.plan_facts.specs.declared.record.Value.{Value}
use Rattle.plan_facts.specs.Plan.{PlanView, ClassView, no_class, class_of, fact_of, record_with_id, range_of, value_of, held_value, resolved, record_of, IsPlan, IsClassOf}
use Rattle.plan_facts.specs.PlanChanges.{raw_with_value, raw_with_field, with_class, with_record, with_value, with_field, rec_with_value}
use Rattle.plan_facts.proofs.Lists.{zip-set}
use Rattle.plan_facts.proofs.Places.{eqb_other, same_eqb}
use Rattle.plan_facts.proofs.Sound.{class_at, class_past, record_fits}
use Rattle.plan_facts.proofs.Changed.{class_there}

-- a record with one variable set, and with one field set
-- a class that was put anew
pub class_of-with_class : (plan : PlanView) (class : ℕ) (view : ClassView) → class < length plan.classes → class_of (with_class plan class view) class ≡ view
class_of-with_class plan class view within = get_or-set_same plan.classes class view no_class within

-- another class than the one that was put anew
pub class_of-with_other : (plan : PlanView) (class : ℕ) (view : ClassView) (other : ℕ) → other ≢ class → class_of (with_class plan class view) other ≡ class_of plan other
class_of-with_other plan class view other apart = get_or-set_other plan.classes class other view no_class apart

id_kept : (raw : Raw) (id : ℕ) (change : Raw → Raw) → ((r : Raw) → (change r).id ≡ r.id) → (cond (raw.id == id) (change raw) raw).id ≡ raw.id
id_kept raw id change same = elim (eqb raw.id id) as (λ b. (cond b (change raw) raw).id ≡ raw.id) [ true ↦ same raw | false ↦ refl ]

-- the record with the id that was changed
pub record_changed : (facts : List Raw) (id : ℕ) (change : Raw → Raw) → ((r : Raw) → (change r).id ≡ r.id) → record_with_id id (map (λ r. cond (r.id == id) (change r) r) facts) ≡ option_map change (record_with_id id facts)
record_changed [] id change same = refl
record_changed (raw ∷ facts) id change same =
    let rest = map (λ (r : Raw). cond (r.id == id) (change r) r) facts in
    elim (eqb raw.id id) as (λ b. eqb raw.id id ≡ b → cond (eqb (cond b (change raw) raw).id id) (Some (cond b (change raw) raw)) (record_with_id id rest) ≡ option_map change (cond b (Some raw) (record_with_id id facts))) [
      | true ↦ λ is. ap (λ (b : Bool). cond b (Some (change raw)) (record_with_id id rest)) (ap (λ (n : ℕ). eqb n id) (same raw) ∙ is)
      | false ↦ λ is. ap (λ (b : Bool). cond b (Some raw) (record_with_id id rest)) is ∙ record_changed facts id change same
    ] refl

-- a record with another id than the one that was changed
pub record_unchanged : (facts : List Raw) (id other : ℕ) (change : Raw → Raw) → ((r : Raw) → (change r).id ≡ r.id) → other ≢ id → record_with_id other (map (λ r. cond (r.id == id) (change r) r) facts) ≡ record_with_id other facts
record_unchanged [] id other change same apart = refl
record_unchanged (raw ∷ facts) id other change same apart =
    let now = cond (raw.id == id) (change raw) raw in
    let rest = map (λ (r : Raw). cond (r.id == id) (change r) r) facts in
    let tail = record_unchanged facts id other change same apart in
    elim (eqb raw.id other) as (λ b. eqb raw.id other ≡ b → cond (eqb now.id other) (Some now) (record_with_id other rest) ≡ cond b (Some raw) (record_with_id other facts)) [
      | true ↦ λ is.
          let not_it : raw.id ≡ id → ⊥ = λ e. apart (sym (same_eqb raw.id other is) ∙ e) in
          let stays : now ≡ raw = ap (λ (b : Bool). cond b (change raw) raw) (eqb_other raw.id id not_it) in
          ap (λ (r : Raw). cond (eqb r.id other) (Some r) (record_with_id other rest)) stays ∙ ap (λ (b : Bool). cond b (Some raw) (record_with_id other rest)) is
      | false ↦ λ is. ap (λ (b : Bool). cond b (Some now) (record_with_id other rest)) (ap (λ (n : ℕ). eqb n other) (id_kept raw id change same) ∙ is) ∙ tail
    ] refl

-- the fact that was changed
changed_fact : (plan : PlanView) (class id : ℕ) (change : Raw → Raw) → ((r : Raw) → (change r).id ≡ r.id) → fact_of (with_class plan class (with_record (class_of plan class) id change)) class id ≡ option_map change (fact_of plan class id)
changed_fact plan class id change same =
    let view = with_record (class_of plan class) id change in
    elim (cases_lt class (length plan.classes)) [
      | inl within ↦ ap (λ (v : ClassView). record_with_id id v.facts) (class_of-with_class plan class view within) ∙ record_changed (class_of plan class).facts id change same
      | inr past ↦
          let nothing = ap (λ (v : ClassView). record_with_id id v.facts) (class_past plan class past) in
          let stays = ap (λ (classes : List ClassView). record_with_id id (get_or classes class no_class).facts) (set_past plan.classes class view past) in
          stays ∙ nothing ∙ sym (ap (option_map change) nothing)
    ]

-- another fact than the one that was changed
unchanged_fact : (plan : PlanView) (class id : ℕ) (change : Raw → Raw) → ((r : Raw) → (change r).id ≡ r.id) → (n other : ℕ) → (n ≡ class → other ≡ id → ⊥) → fact_of (with_class plan class (with_record (class_of plan class) id change)) n other ≡ fact_of plan n other
unchanged_fact plan class id change same n other apart =
    let view = with_record (class_of plan class) id change in
    elim (cases_eq n class) [
      | inl here ↦ elim (cases_lt n (length plan.classes)) [
        | inl within ↦
            let at : class_of (with_class plan class view) n ≡ view = subst (λ (k : ℕ). class_of (with_class plan class view) k ≡ view) (sym here) (class_of-with_class plan class view (subst (λ (k : ℕ). k < length plan.classes) here within)) in
            ap (λ (v : ClassView). record_with_id other v.facts) at ∙ record_unchanged (class_of plan class).facts id other change same (λ e. apart here e) ∙ ap (λ (k : ℕ). record_with_id other (class_of plan k).facts) (sym here)
        | inr past ↦ ap (λ (classes : List ClassView). record_with_id other (get_or classes n no_class).facts) (set_past plan.classes class view (subst (λ (k : ℕ). length plan.classes ≤ k) here past))
      ]
      | inr away ↦ ap (λ (v : ClassView). record_with_id other v.facts) (class_of-with_other plan class view n away)
    ]

-- the record whose variable was set
pub fact_of-with_value_same : (plan : PlanView) (class id var : ℕ) (value : Option ℕ) → fact_of (with_value plan class id var value) class id ≡ option_map (raw_with_value var value) (fact_of plan class id)
unfolding with_value
fact_of-with_value_same plan class id var value = changed_fact plan class id (raw_with_value var value) (λ raw. refl)

-- any other record
pub fact_of-with_value_other : (plan : PlanView) (class id var : ℕ) (value : Option ℕ) (n other : ℕ) → (n ≡ class → other ≡ id → ⊥) → fact_of (with_value plan class id var value) n other ≡ fact_of plan n other
unfolding with_value
fact_of-with_value_other plan class id var value n other apart = unchanged_fact plan class id (raw_with_value var value) (λ raw. refl) n other apart

-- the record whose field was set
pub fact_of-with_field_same : (plan : PlanView) (class id field : ℕ) (number : ℤ) → fact_of (with_field plan class id field number) class id ≡ option_map (raw_with_field field number) (fact_of plan class id)
unfolding with_field
fact_of-with_field_same plan class id field number = changed_fact plan class id (raw_with_field field number) (λ raw. refl)

-- any other record
pub fact_of-with_field_other : (plan : PlanView) (class id field : ℕ) (number : ℤ) (n other : ℕ) → (n ≡ class → other ≡ id → ⊥) → fact_of (with_field plan class id field number) n other ≡ fact_of plan n other
unfolding with_field
fact_of-with_field_other plan class id field number n other apart = unchanged_fact plan class id (raw_with_field field number) (λ raw. refl) n other apart

-- the value classes stay
changed_ranges : (plan : PlanView) (class id : ℕ) (change : Raw → Raw) (n : ℕ) → (class_of (with_class plan class (with_record (class_of plan class) id change)) n).ranges ≡ (class_of plan n).ranges
changed_ranges plan class id change n =
    let view = with_record (class_of plan class) id change in
    elim (cases_eq n class) [
      | inl here ↦ elim (cases_lt n (length plan.classes)) [
        | inl within ↦
            let at : class_of (with_class plan class view) n ≡ view = subst (λ (k : ℕ). class_of (with_class plan class view) k ≡ view) (sym here) (class_of-with_class plan class view (subst (λ (k : ℕ). k < length plan.classes) here within)) in
            ap (λ (v : ClassView). v.ranges) at ∙ ap (λ (k : ℕ). (class_of plan k).ranges) (sym here)
        | inr past ↦ ap (λ (classes : List ClassView). (get_or classes n no_class).ranges) (set_past plan.classes class view (subst (λ (k : ℕ). length plan.classes ≤ k) here past))
      ]
      | inr away ↦ ap (λ (v : ClassView). v.ranges) (class_of-with_other plan class view n away)
    ]

pub ranges-with_value : (plan : PlanView) (class id var : ℕ) (value : Option ℕ) (n : ℕ) → (class_of (with_value plan class id var value) n).ranges ≡ (class_of plan n).ranges
unfolding with_value
ranges-with_value plan class id var value n = changed_ranges plan class id (raw_with_value var value) n

pub ranges-with_field : (plan : PlanView) (class id field : ℕ) (number : ℤ) (n : ℕ) → (class_of (with_field plan class id field number) n).ranges ≡ (class_of plan n).ranges
unfolding with_field
ranges-with_field plan class id field number n = changed_ranges plan class id (raw_with_field field number) n

-- two functions that agree where the first of a pair is good agree on pairs whose firsts are
map-zip_same : {A B C : Type 0} (P : A → Type 0) (f g : A × B → C) → ((x : A) (y : B) → P x → f (x, y) ≡ g (x, y)) → (xs : List A) (ys : List B) → All P xs → map f (zip xs ys) ≡ map g (zip xs ys)
map-zip_same P f g same [] ys all = refl
map-zip_same P f g same (x ∷ xs) [] all = refl
map-zip_same P f g same (x ∷ xs) (y ∷ ys) all = λ i. same x y (all 0 x (omega arith)) i ∷ map-zip_same P f g same xs ys (λ k d within. all (suc k) d (omega arith)) i

-- the value classes of a class of a plan have no variables
ranges_plain : (plan : PlanView) (n : ℕ) → IsPlan plan → All (λ range. (class_of plan range).ranges ≡ []) (class_of plan n).ranges
ranges_plain plan n sound =
    elim (cases_lt n (length plan.classes)) [
      | inl within ↦ λ k d there. ((class_at plan n sound within).ranges k d there).plain
      | inr past ↦ subst (λ (view : ClassView). All (λ range. (class_of plan range).ranges ≡ []) view.ranges) (sym (class_past plan n past)) (λ k d there. absurd (omega arith))
    ]

variables_at : (plan : PlanView) (class id var : ℕ) (found : Option Raw) → IsClassOf plan (class_of plan class) → fact_of plan class id ≡ found → IsSomeAnd found (λ raw. var < length raw.values) → (class_of plan class).ranges ≡ [] → ⊥
variables_at plan class id var None is at there plain = absurd there
variables_at plan class id var (Some raw) is at there plain =
    let same = record_fits plan (class_of plan class) id raw is at in
    let none = ap (λ (ranges : List ℕ). length ranges) plain in
    absurd (let h : var < length raw.values = there in omega arith)

-- a class with a variable that is there is no value class
has_variables : (plan : PlanView) (class id var : ℕ) → IsPlan plan → IsSomeAnd (fact_of plan class id) (λ raw. var < length raw.values) → (class_of plan class).ranges ≡ [] → ⊥
has_variables plan class id var sound there plain =
    variables_at plan class id var (fact_of plan class id) (class_at plan class sound (class_there plan class id _ there)) refl there plain

-- what a variable holds, where no fact of the value class was changed
held_same : (plan after : PlanView) (range : ℕ) (value : Option ℕ) → ((held : ℕ) → fact_of after range held ≡ fact_of plan range held) → held_value after range value ≡ held_value plan range value
held_same plan after range None same = refl
held_same plan after range (Some held) same = ap (option_map value_of) (same held)

-- what the variables of a class hold, where a record of a class with variables was changed
planned_same : (plan : PlanView) (class id var : ℕ) (value : Option ℕ) (n : ℕ) → IsPlan plan → IsSomeAnd (fact_of plan class id) (λ raw. var < length raw.values) → (values : List (Option ℕ)) → map (λ pair. held_value (with_value plan class id var value) pair.0 pair.1) (zip (class_of plan n).ranges values) ≡ map (λ pair. held_value plan pair.0 pair.1) (zip (class_of plan n).ranges values)
planned_same plan class id var value n sound there values =
    map-zip_same (λ range. (class_of plan range).ranges ≡ []) (λ pair. held_value (with_value plan class id var value) pair.0 pair.1) (λ pair. held_value plan pair.0 pair.1)
    (λ range held plain. held_same plan (with_value plan class id var value) range held (λ k. fact_of-with_value_other plan class id var value range k (λ same it. has_variables plan class id var sound there (subst (λ (c : ℕ). (class_of plan c).ranges ≡ []) same plain))))
    (class_of plan n).ranges values (ranges_plain plan n sound)

resolved_same : (plan : PlanView) (class id var : ℕ) (value : Option ℕ) (n : ℕ) → IsPlan plan → IsSomeAnd (fact_of plan class id) (λ raw. var < length raw.values) → (raw : Raw) → resolved (with_value plan class id var value) n raw ≡ resolved plan n raw
resolved_same plan class id var value n sound there raw =
    let ranges = ap (λ (rs : List ℕ). map (λ (pair : ℕ × Option ℕ). held_value (with_value plan class id var value) pair.0 pair.1) (zip rs raw.values)) (ranges-with_value plan class id var value n) in
    let planned = ranges ∙ planned_same plan class id var value n sound there raw.values in
    ap (λ (held : List (Option Value)). let r : Rec = record { class = n; id = raw.id; fields = raw.fields; planned = held } in r) planned

resolved_set : (plan : PlanView) (class id var : ℕ) (value : Option ℕ) → IsPlan plan → IsSomeAnd (fact_of plan class id) (λ raw. var < length raw.values) → (found : Option Raw) → option_map (resolved (with_value plan class id var value) class) (option_map (raw_with_value var value) found) ≡ option_map (rec_with_value var (held_value plan (range_of plan class var) value)) (option_map (resolved plan class) found)
resolved_set plan class id var value sound there None = refl
resolved_set plan class id var value sound there (Some raw) =
    let held = λ (pair : ℕ × Option ℕ). held_value plan pair.0 pair.1 in
    let ranges = (class_of plan class).ranges in
    let planned : map held (zip ranges (set raw.values var value)) ≡ set (map held (zip ranges raw.values)) var (held_value plan (range_of plan class var) value) = ap (map held) (zip-set ranges raw.values var 0 value) ∙ map-set held (zip ranges raw.values) var (get_or ranges var 0, value) in
    ap (λ (r : Rec). Some r) (resolved_same plan class id var value class sound there (raw_with_value var value raw) ∙ ap (λ (p : List (Option Value)). let r : Rec = record { class = class; id = raw.id; fields = raw.fields; planned = p } in r) planned)

-- any other resolved record stays as one variable is set
pub record_of-with_value_other : (plan : PlanView) (class id var : ℕ) (value : Option ℕ) (n other : ℕ) → IsPlan plan → IsSomeAnd (fact_of plan class id) (λ raw. var < length raw.values) → (n ≡ class → other ≡ id → ⊥) → record_of (with_value plan class id var value) n other ≡ record_of plan n other
unfolding record_of
record_of-with_value_other plan class id var value n other sound there apart =
    let after = with_value plan class id var value in
    ap (option_map (resolved after n)) (fact_of-with_value_other plan class id var value n other apart)
    ∙ ap (λ (f : Raw → Rec). option_map f (fact_of plan n other)) (λ i raw. resolved_same plan class id var value n sound there raw i)

-- the resolved record whose variable was set
pub record_of-with_value_same : (plan : PlanView) (class id var : ℕ) (value : Option ℕ) → IsPlan plan → IsSomeAnd (fact_of plan class id) (λ raw. var < length raw.values) → record_of (with_value plan class id var value) class id ≡ option_map (rec_with_value var (held_value plan (range_of plan class var) value)) (record_of plan class id)
unfolding record_of
record_of-with_value_same plan class id var value sound there =
    let after = with_value plan class id var value in
    ap (option_map (resolved after class)) (fact_of-with_value_same plan class id var value)
    ∙ resolved_set plan class id var value sound there (fact_of plan class id)
