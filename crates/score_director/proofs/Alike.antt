-- What a change of a fact leaves as it is: all records but its own and those of its holders.
use Rattle.std.proofs.Common.{◌≡◌, ◌∙◌, ◌<◌, ◌+◌, ◌==◌, ℕ, ℤ, zero, suc, Bool, true, false, cond, not, Option, None, Some, List, [], ◌∷◌, ◌++◌, All, eqb, map, filter, fold, length, get_or, set, refl, sym, ap, subst, arith, inl, inr}
use Rattle.std.specs.Prelude.{option_map}
use Rattle.std.specs.List.{enumerate_from}
use Rattle.std.proofs.lemmas.Bool.{cases_lt}
use Rattle.std.proofs.lemmas.List.{append-nil, length-set}
use Rattle.std.proofs.lemmas.List.Elements.{All-filter, All-head, All-nil, All-tail, All-weaker, filter-append}
use Rattle.std.proofs.lemmas.Slice.Zip.{AllZip-long}
use Rattle.plan_facts.specs.declared.record.Raw.{Raw}
use Rattle.plan_facts.specs.Plan.{ClassView, IsPlan, IsRecordOf, PlanView, class_of, fact_of, next_id_of, no_class, plan_with, record_with_id, value_of}
use Rattle.plan_facts.specs.PlanChanges.{class_let_go, let_go, raw_with_field, raw_with_value, record_let_go, values_let_go, with_class, with_fact, with_field, with_record, with_value, without_fact, without_record}
use Rattle.plan_facts.proofs.Added.{grown, with_fact_is}
use Rattle.plan_facts.proofs.Changed.{changed_keeps, each_class}
use Rattle.plan_facts.proofs.Places.{eqb_other, same_eqb}
use Rattle.plan_facts.proofs.PlanLaws.{fact_of-with_field_other, fact_of-with_value_other}
use Rattle.plan_facts.proofs.Removed.{emptied, taken_out, without_fact_is}
use Rattle.plan_facts.proofs.Sound.{class_at, class_past}
use Rattle.plan_changes.specs.Deeds.{is_add, is_weight}
use Rattle.plan_changes.specs.Performed.{MayPerformFact, item_number, names_after, plan_after, plan_by, with_choice, with_item}
use Rattle.plan_changes.specs.Ready.{ReadyView}
use Rattle.plan_changes.specs.declared.change.Deed.{Deed}
use Rattle.plan_changes.specs.declared.change.Deed.TheVariants as deed
use Rattle.plan_changes.specs.declared.change.Item.{Item}
use Rattle.score_director.specs.Holders.{is_held, is_holder}
use Rattle.score_director.proofs.Turned.{either_left, either_right}

-- the records of a list whose ids are kept
abbrev pub kept : (ℕ → Bool) → List Raw → List Raw
kept keep facts = filter (λ (raw : Raw). keep raw.id) facts

-- the plans differ in the record of one fact alone
record Alike (class id : ℕ) (old new : PlanView) : Type 0 where
  pub count : length new.classes ≡ length old.classes
  pub ranges : (n : ℕ) → (class_of new n).ranges ≡ (class_of old n).ranges
  pub facts : (n : ℕ) (keep : ℕ → Bool) → (n ≡ class → keep id ≡ false) → kept keep (class_of new n).facts ≡ kept keep (class_of old n).facts
  pub found : (n other : ℕ) → (n ≡ class → other ≡ id → ⊥) → fact_of new n other ≡ fact_of old n other

alike_itself : (class id : ℕ) (plan : PlanView) → Alike class id plan plan
alike_itself class id plan = record { count = refl; ranges = λ n. refl; facts = λ n keep out. refl; found = λ n other apart. refl }

alike_after : (class id : ℕ) (one two three : PlanView) → Alike class id one two → Alike class id two three → Alike class id one three
alike_after class id one two three h k =
    record {
      count = k.count ∙ h.count;
      ranges = λ n. k.ranges n ∙ h.ranges n;
      facts = λ n keep out. k.facts n keep out ∙ h.facts n keep out;
      found = λ n other apart. k.found n other apart ∙ h.found n other apart;
    }

-- where an id isn't kept, a change of its record changes nothing that is
kept_changed : (keep : ℕ → Bool) (facts : List Raw) (id : ℕ) (change : Raw → Raw) → ((r : Raw) → (change r).id ≡ r.id) → keep id ≡ false → kept keep (map (λ r. cond (r.id == id) (change r) r) facts) ≡ kept keep facts
kept_changed keep [] id change same out = refl
kept_changed keep (raw ∷ facts) id change same out =
    let put : Raw → Raw = λ r. cond (r.id == id) (change r) r in
    let rest : kept keep (map put facts) ≡ kept keep facts = kept_changed keep facts id change same out in
    (elim (eqb raw.id id) as (λ b. eqb raw.id id ≡ b → cond (keep (cond b (change raw) raw).id) (cond b (change raw) raw ∷ kept keep (map put facts)) (kept keep (map put facts)) ≡ cond (keep raw.id) (raw ∷ kept keep facts) (kept keep facts)) [
      | true ↦ λ is.
          let gone : keep raw.id ≡ false = ap keep (same_eqb raw.id id is) ∙ out in
          ap (λ (b : Bool). cond b (change raw ∷ kept keep (map put facts)) (kept keep (map put facts))) (ap keep (same raw) ∙ gone)
          ∙ rest
          ∙ sym (ap (λ (b : Bool). cond b (raw ∷ kept keep facts) (kept keep facts)) gone)
      | false ↦ λ is. ap (λ (rs : List Raw). cond (keep raw.id) (raw ∷ rs) rs) rest
    ]) refl

-- a change of one record leaves the others alike
changed_alike : (plan : PlanView) (class id : ℕ) (change : Raw → Raw) → class < length plan.classes → ((r : Raw) → (change r).id ≡ r.id)
    → ((n other : ℕ) → (n ≡ class → other ≡ id → ⊥) → fact_of (with_class plan class (with_record (class_of plan class) id change)) n other ≡ fact_of plan n other)
    → Alike class id plan (with_class plan class (with_record (class_of plan class) id change))
changed_alike plan class id change within same found =
    let view = with_record (class_of plan class) id change in
    let keeps = changed_keeps plan class id change within same in
    record {
      count = keeps.count;
      ranges = keeps.ranges;
      facts = λ n keep out. each_class (λ k v. (k ≡ class → keep id ≡ false) → kept keep v.facts ≡ kept keep (class_of plan k).facts) plan class view within
          (λ gone. kept_changed keep (class_of plan class).facts id change same (gone refl)) (λ k gone. refl) n out;
      found = found;
    }

field_alike : (plan : PlanView) (class id field : ℕ) (number : ℤ) → class < length plan.classes → Alike class id plan (with_field plan class id field number)
unfolding with_field
field_alike plan class id field number within =
    changed_alike plan class id (raw_with_field field number) within (λ raw. refl) (fact_of-with_field_other plan class id field number)

value_alike : (plan : PlanView) (class id var : ℕ) (value : Option ℕ) → class < length plan.classes → Alike class id plan (with_value plan class id var value)
unfolding with_value
value_alike plan class id var value within =
    changed_alike plan class id (raw_with_value var value) within (λ raw. refl) (fact_of-with_value_other plan class id var value)

item_alike : (names : List (List ℕ)) (class id : ℕ) (plan : PlanView) (field : ℕ) (item : Option Item) → class < length plan.classes → Alike class id plan (with_item names class id plan (field, item))
item_alike names class id plan field None within = alike_itself class id plan
item_alike names class id plan field (Some item) within = field_alike plan class id field (item_number names item) within

choice_alike : (class id : ℕ) (plan : PlanView) (var : ℕ) (value : Option (Option ℕ)) → class < length plan.classes → Alike class id plan (with_choice class id plan (var, value))
choice_alike class id plan var None within = alike_itself class id plan
choice_alike class id plan var (Some value) within = value_alike plan class id var value within

-- and so do many, one after the other
steps_alike : {A : Type 0} (class id : ℕ) (step : PlanView → A → PlanView) → ((plan : PlanView) (one : A) → class < length plan.classes → Alike class id plan (step plan one))
    → (plan : PlanView) (ones : List A) → class < length plan.classes → Alike class id plan (fold step plan ones)
steps_alike class id step each plan [] within = alike_itself class id plan
steps_alike class id step each plan (one ∷ ones) within =
    let next = step plan one in
    let first = each plan one within in
    let count = first.count in
    alike_after class id plan next (fold step next ones) first (steps_alike class id step each next ones (omega arith))

-- a record that was pushed isn't found under another id
found_pushed : (facts : List Raw) (raw : Raw) (other : ℕ) → (raw.id ≡ other → ⊥) → record_with_id other (facts ++ raw ∷ []) ≡ record_with_id other facts
found_pushed [] raw other apart = ap (λ (b : Bool). cond b (Some raw) None) (eqb_other raw.id other apart)
found_pushed (first ∷ facts) raw other apart =
    ap (λ (o : Option Raw). cond (first.id == other) (Some first) o) (found_pushed facts raw other apart)

kept_pushed : (keep : ℕ → Bool) (facts : List Raw) (raw : Raw) → keep raw.id ≡ false → kept keep (facts ++ raw ∷ []) ≡ kept keep facts
kept_pushed keep facts raw out =
    filter-append (λ (r : Raw). keep r.id) facts (raw ∷ [])
    ∙ ap (λ (b : Bool). kept keep facts ++ cond b (raw ∷ []) []) out
    ∙ append-nil (kept keep facts)

-- one more fact leaves the others alike
added_alike : (plan : PlanView) (class : ℕ) (fields : List ℤ) (values : List (Option ℕ)) → class < length plan.classes → Alike class (next_id_of plan class) plan (with_fact plan class fields values)
added_alike plan class fields values within =
    let id = next_id_of plan class in
    let view = grown plan class fields values in
    let raw : Raw = record { id = id; fields = fields; values = values; pinned = false } in
    let alike : Alike class id plan (plan_with (set plan.classes class view) (plan.made + 1)) = record {
      count = length-set plan.classes class view;
      ranges = each_class (λ n v. v.ranges ≡ (class_of plan n).ranges) plan class view within refl (λ n. refl);
      facts = λ n keep out. each_class (λ k v. (k ≡ class → keep id ≡ false) → kept keep v.facts ≡ kept keep (class_of plan k).facts) plan class view within
          (λ gone. kept_pushed keep (class_of plan class).facts raw (gone refl)) (λ k gone. refl) n out;
      found = λ n other apart. each_class (λ k v. (k ≡ class → other ≡ id → ⊥) → record_with_id other v.facts ≡ fact_of plan k other) plan class view within
          (λ away. found_pushed (class_of plan class).facts raw other (λ e. away refl (sym e))) (λ k away. refl) n apart;
    } in
    subst (λ (p : PlanView). Alike class id plan p) (sym (with_fact_is plan class fields values)) alike

-- of a class is kept neither a fact nor what holds it
pub record IsClear (class id : ℕ) (plan : PlanView) (n : ℕ) (keep : ℕ → Bool) : Type 0 where
  pub fact : n ≡ class → keep id ≡ false
  pub free : All (λ (raw : Raw). keep raw.id ≡ true → is_holder class id (class_of plan n).ranges raw.values ≡ false) (class_of plan n).facts

-- the plans differ in the records of one fact and of those that held it alone, and no other fact differs as a value
pub record KeepsOthers (class id : ℕ) (old new : PlanView) : Type 0 where
  pub ranges : (n : ℕ) → (class_of new n).ranges ≡ (class_of old n).ranges
  pub facts : (n : ℕ) (keep : ℕ → Bool) → IsClear class id old n keep → kept keep (class_of new n).facts ≡ kept keep (class_of old n).facts
  pub values : (n other : ℕ) → (n ≡ class → other ≡ id → ⊥) → option_map value_of (fact_of new n other) ≡ option_map value_of (fact_of old n other)

alike_others : (class id : ℕ) (old new : PlanView) → Alike class id old new → KeepsOthers class id old new
alike_others class id old new alike =
    record {
      ranges = alike.ranges;
      facts = λ n keep clear. alike.facts n keep clear.fact;
      values = λ n other apart. ap (option_map value_of) (alike.found n other apart);
    }

-- a member of a mapped list, where the function keeps what stands past the end
mapped_at : {X : Type 0} (f : X → X) (d : X) → f d ≡ d → (xs : List X) (k : ℕ) → get_or (map f xs) k d ≡ f (get_or xs k d)
mapped_at f d same [] k = sym same
mapped_at f d same (x ∷ xs) zero = refl
mapped_at f d same (x ∷ xs) (suc k) = mapped_at f d same xs k

-- what is so of each class once a fact is gone
each_emptied : (P : ℕ → ClassView → Type 0) (plan : PlanView) (class id : ℕ) → class < length plan.classes → P class (class_let_go class id (without_record (class_of plan class) id)) → ((n : ℕ) → P n (class_let_go class id (class_of plan n))) → (n : ℕ) → P n (class_of (emptied plan class id) n)
each_emptied P plan class id within here rest n =
    subst (P n) (sym (mapped_at (class_let_go class id) no_class refl (taken_out plan class id).classes n))
    (each_class (λ k view. P k (class_let_go class id view)) plan class (without_record (class_of plan class) id) within here rest n)

-- a variable that doesn't hold a fact stays once that is gone
value_stays : (class id range : ℕ) (value : Option ℕ) → is_held class id range value ≡ false → let_go class id range value ≡ value
value_stays class id range None is = refl
value_stays class id range (Some held) is = ap (λ (b : Bool). cond b None (Some held)) is

values_stay : (class id : ℕ) (ranges : List ℕ) (values : List (Option ℕ)) → length values ≡ length ranges → is_holder class id ranges values ≡ false → values_let_go class id ranges values ≡ values
values_stay class id [] [] long is = refl
values_stay class id [] (value ∷ values) long is = absurd (omega (arith, long))
values_stay class id (range ∷ ranges) [] long is = absurd (omega (arith, long))
values_stay class id (range ∷ ranges) (value ∷ values) long is =
    let one = value_stays class id range value (either_left (is_held class id range value) (is_holder class id ranges values) is) in
    let rest = values_stay class id ranges values (omega (arith, long)) (either_right (is_held class id range value) (is_holder class id ranges values) is) in
    λ i. one i ∷ rest i

-- a record with its values put anew
abbrev with_values : Raw → List (Option ℕ) → Raw
with_values raw values = record raw { values = values }

-- each record has a value for each variable
abbrev AreLong : List ℕ → List Raw → Type 0
AreLong ranges facts = All (λ (raw : Raw). length raw.values ≡ length ranges) facts

-- no record that is kept holds the fact
abbrev AreFree : ℕ → ℕ → List ℕ → (ℕ → Bool) → List Raw → Type 0
AreFree class id ranges keep facts = All (λ (raw : Raw). keep raw.id ≡ true → is_holder class id ranges raw.values ≡ false) facts

-- where no record that is kept holds a fact, these stay once that is gone
kept_let_go : (class id : ℕ) (ranges : List ℕ) (keep : ℕ → Bool) (facts : List Raw) → AreLong ranges facts → AreFree class id ranges keep facts → kept keep (map (record_let_go class id ranges) facts) ≡ kept keep facts
kept_let_go class id ranges keep [] long free = refl
kept_let_go class id ranges keep (raw ∷ facts) long free =
    let go : Raw → Raw = record_let_go class id ranges in
    let rest : kept keep (map go facts) ≡ kept keep facts =
    kept_let_go class id ranges keep facts (All-tail (λ (r : Raw). length r.values ≡ length ranges) raw facts long)
    (All-tail (λ (r : Raw). keep r.id ≡ true → is_holder class id ranges r.values ≡ false) raw facts free) in
    (elim (keep raw.id) as (λ b. keep raw.id ≡ b → cond b (go raw ∷ kept keep (map go facts)) (kept keep (map go facts)) ≡ cond b (raw ∷ kept keep facts) (kept keep facts)) [
      | true ↦ λ is.
          let stays : go raw ≡ raw = ap (with_values raw) (values_stay class id ranges raw.values (All-head (λ (r : Raw). length r.values ≡ length ranges) raw facts long)
          (All-head (λ (r : Raw). keep r.id ≡ true → is_holder class id ranges r.values ≡ false) raw facts free is)) in
          λ i. stays i ∷ rest i
      | false ↦ λ is. rest
    ]) refl

-- where an id isn't kept, what is kept is the same without its record
kept_without : (keep : ℕ → Bool) (facts : List Raw) (id : ℕ) → keep id ≡ false → kept keep (filter (λ raw. not (raw.id == id)) facts) ≡ kept keep facts
kept_without keep [] id out = refl
kept_without keep (raw ∷ facts) id out =
    let some : List Raw = filter (λ (r : Raw). not (r.id == id)) facts in
    let rest : kept keep some ≡ kept keep facts = kept_without keep facts id out in
    (elim (eqb raw.id id) as (λ b. eqb raw.id id ≡ b → kept keep (cond (not b) (raw ∷ some) some) ≡ cond (keep raw.id) (raw ∷ kept keep facts) (kept keep facts)) [
      | true ↦ λ is. rest ∙ sym (ap (λ (b : Bool). cond b (raw ∷ kept keep facts) (kept keep facts)) (ap keep (same_eqb raw.id id is) ∙ out))
      | false ↦ λ is. ap (λ (rs : List Raw). cond (keep raw.id) (raw ∷ rs) rs) rest
    ]) refl

-- what lets a fact go stays as a value
value_let_go : (class id : ℕ) (ranges : List ℕ) (facts : List Raw) (other : ℕ) → option_map value_of (record_with_id other (map (record_let_go class id ranges) facts)) ≡ option_map value_of (record_with_id other facts)
value_let_go class id ranges [] other = refl
value_let_go class id ranges (raw ∷ facts) other =
    let go : Raw → Raw = record_let_go class id ranges in
    elim (eqb raw.id other) as (λ b. option_map value_of (cond b (Some (go raw)) (record_with_id other (map go facts))) ≡ option_map value_of (cond b (Some raw) (record_with_id other facts))) [
      | true ↦ refl
      | false ↦ value_let_go class id ranges facts other
    ]

-- another record is found without one of them
found_without : (facts : List Raw) (id other : ℕ) → (other ≡ id → ⊥) → record_with_id other (filter (λ raw. not (raw.id == id)) facts) ≡ record_with_id other facts
found_without [] id other apart = refl
found_without (raw ∷ facts) id other apart =
    let some : List Raw = filter (λ (r : Raw). not (r.id == id)) facts in
    let rest : record_with_id other some ≡ record_with_id other facts = found_without facts id other apart in
    (elim (eqb raw.id id) as (λ b. eqb raw.id id ≡ b → record_with_id other (cond (not b) (raw ∷ some) some) ≡ cond (raw.id == other) (Some raw) (record_with_id other facts)) [
      | true ↦ λ is.
          rest ∙ sym (ap (λ (b : Bool). cond b (Some raw) (record_with_id other facts)) (eqb_other raw.id other (λ e. apart (sym e ∙ same_eqb raw.id id is))))
      | false ↦ λ is. ap (λ (o : Option Raw). cond (raw.id == other) (Some raw) o) rest
    ]) refl

-- each record of a plan has a value for each variable
values_long : (plan : PlanView) (n : ℕ) → IsPlan plan → AreLong (class_of plan n).ranges (class_of plan n).facts
values_long plan n sound =
    elim (cases_lt n (length plan.classes)) [
      | inl within ↦
          let view = class_of plan n in
          All-weaker (IsRecordOf plan view) (λ (raw : Raw). length raw.values ≡ length view.ranges) (λ raw fits. AllZip-long _ _ _ fits.values) view.facts (class_at plan n sound within).records
      | inr past ↦ subst (λ (v : ClassView). AreLong v.ranges v.facts) (sym (class_past plan n past)) (All-nil (λ (raw : Raw). length raw.values ≡ zero))
    ]

-- a fact that goes leaves all records but those that held it
removed_others : (plan : PlanView) (class id : ℕ) → class < length plan.classes → IsPlan plan → KeepsOthers class id plan (without_fact plan class id)
removed_others plan class id within sound =
    let P : Raw → Bool = λ (raw : Raw). not (raw.id == id) in
    let view = class_of plan class in
    let others : KeepsOthers class id plan (emptied plan class id) = record {
      ranges = each_emptied (λ n v. v.ranges ≡ (class_of plan n).ranges) plan class id within refl (λ n. refl);
      facts = λ n keep clear. each_emptied (λ k v. IsClear class id plan k keep → kept keep v.facts ≡ kept keep (class_of plan k).facts) plan class id within
          (λ c. kept_let_go class id view.ranges keep (filter P view.facts)
          (All-filter P (λ (raw : Raw). length raw.values ≡ length view.ranges) view.facts (values_long plan class sound))
          (All-filter P (λ (raw : Raw). keep raw.id ≡ true → is_holder class id view.ranges raw.values ≡ false) view.facts c.free)
          ∙ kept_without keep view.facts id (c.fact refl))
          (λ k c. kept_let_go class id (class_of plan k).ranges keep (class_of plan k).facts (values_long plan k sound) c.free) n clear;
      values = λ n other apart. each_emptied (λ k v. (k ≡ class → other ≡ id → ⊥) → option_map value_of (record_with_id other v.facts) ≡ option_map value_of (fact_of plan k other)) plan class id within
          (λ away. value_let_go class id view.ranges (filter P view.facts) other ∙ ap (option_map value_of) (found_without view.facts id other (away refl)))
          (λ k away. value_let_go class id (class_of plan k).ranges (class_of plan k).facts other) n apart;
    } in
    subst (λ (p : PlanView). KeepsOthers class id plan p) (sym (without_fact_is plan class id)) others

others_by : (done : Deed) (ready : ReadyView) (names : List (List ℕ)) (plan : PlanView) → IsPlan plan → MayPerformFact ready plan → ready.deed ≡ done → is_weight done ≡ false → KeepsOthers ready.class ready.id plan (plan_by done ready names plan)
others_by deed.Add ready names plan sound may is fact =
    let next : ready.id ≡ next_id_of plan ready.class = (may.next (ap is_add is)).id in
    subst (λ (n : ℕ). KeepsOthers ready.class n plan (plan_by deed.Add ready names plan)) (sym next) (alike_others ready.class (next_id_of plan ready.class) plan _ (added_alike plan ready.class _ _ may.fits.there))
others_by deed.Remove ready names plan sound may is fact = removed_others plan ready.class ready.id may.fits.there sound
others_by deed.Alter ready names plan sound may is fact =
    alike_others ready.class ready.id plan _ (steps_alike ready.class ready.id (with_item names ready.class ready.id) (λ one pair there. item_alike names ready.class ready.id one pair.0 pair.1 there) plan (enumerate_from 0 ready.fields) may.fits.there)
others_by deed.Assign ready names plan sound may is fact =
    alike_others ready.class ready.id plan _ (steps_alike ready.class ready.id (with_choice ready.class ready.id) (λ one pair there. choice_alike ready.class ready.id one pair.0 pair.1 there) plan (enumerate_from 0 ready.values) may.fits.there)
others_by deed.Weight ready names plan sound may is fact = cc

-- a change of a fact that may be made leaves all records but its own and those that held it
pub change_others : (ready : ReadyView) (names : List (List ℕ)) (plan : PlanView) → IsPlan plan → MayPerformFact ready plan → is_weight ready.deed ≡ false → KeepsOthers ready.class ready.id plan (plan_after ready names plan)
unfolding plan_after
change_others ready names plan sound may fact = others_by ready.deed ready (names_after ready names) plan sound may refl fact
