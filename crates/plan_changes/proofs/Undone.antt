-- A change of a fact that was made is taken back.
use Rattle.std.proofs.Common.{◌≡◌, ◌∙◌, ◌<◌, ◌==◌, ◌⊎◌, ℕ, ℤ, Bool, true, false, cond, IsSomeAnd, List, [], ◌∷◌, Option, None, Some, is_some, eqb, fold, inl, inr, length, map, refl, sym, ap, subst, arith}
use Rattle.std.specs.List.{enumerate_from}
use Rattle.plan_facts.specs.declared.record.Raw.{Raw}
use Rattle.plan_facts.specs.Plan.{IsPlan, IsRecordOf, PlanView, class_of, fact_of, record_with_id}
use Rattle.plan_facts.specs.PlanBack.{IsRemoved, PutsBack, RemovalView, with_raw}
use Rattle.plan_facts.specs.PlanChanges.{raw_with_field, raw_with_value, with_fact, with_field, with_value, without_fact}
use Rattle.plan_facts.proofs.Back.{newest_gone, restored_itself, restored_over}
use Rattle.plan_facts.proofs.Places.{found_holds}
use Rattle.plan_facts.proofs.PutBack.{found_id}
use Rattle.plan_facts.proofs.Sound.{KeepsIds, class_at, kept_live, kept_record}
use Rattle.plan_changes.specs.Named.{value_given}
use Rattle.plan_changes.specs.Performed.{FitsClass, item_number, names_after, number_given, plan_after, plan_by, with_choice, with_item}
use Rattle.plan_changes.specs.Ready.{ReadyView}
use Rattle.plan_changes.specs.Undo.{TakesBack}
use Rattle.plan_changes.specs.declared.change.Deed.{Deed}
use Rattle.plan_changes.specs.declared.change.Deed.TheVariants as deed
use Rattle.plan_changes.specs.declared.change.Item.{Item}
use Rattle.plan_changes.specs.declared.undo.Undo.{Undo}
use Rattle.plan_changes.specs.declared.undo.Undo.TheVariants.{Newest, Record, Removed}
use Rattle.plan_changes.proofs.Kept.{choice_keeps, item_keeps}
use Rattle.plan_changes.proofs.Schemas.{choices_keep, items_keep}

over_field : (plan : PlanView) (class id field : ℕ) (number : ℤ) (raw : Raw) → class < length plan.classes → raw.id ≡ id → with_raw (with_field plan class id field number) class raw ≡ with_raw plan class raw
unfolding with_field
over_field plan class id field number raw within own = restored_over plan class id (raw_with_field field number) raw within own (λ r. refl)

over_value : (plan : PlanView) (class id var : ℕ) (value : Option ℕ) (raw : Raw) → class < length plan.classes → raw.id ≡ id → with_raw (with_value plan class id var value) class raw ≡ with_raw plan class raw
unfolding with_value
over_value plan class id var value raw within own = restored_over plan class id (raw_with_value var value) raw within own (λ r. refl)

over_item : (names : List (List ℕ)) (plan : PlanView) (class id field : ℕ) (item : Option Item) (raw : Raw) → class < length plan.classes → raw.id ≡ id → with_raw (with_item names class id plan (field, item)) class raw ≡ with_raw plan class raw
over_item names plan class id field None raw within own = refl
over_item names plan class id field (Some item) raw within own = over_field plan class id field (item_number names item) raw within own

over_choice : (plan : PlanView) (class id var : ℕ) (value : Option (Option ℕ)) (raw : Raw) → class < length plan.classes → raw.id ≡ id → with_raw (with_choice class id plan (var, value)) class raw ≡ with_raw plan class raw
over_choice plan class id var None raw within own = refl
over_choice plan class id var (Some value) raw within own = over_value plan class id var value raw within own

-- a record that is put back counts over each step of a change, which leaves as many classes
record Step {A : Type 0} (class : ℕ) (raw : Raw) (step : PlanView → A → PlanView) : Type 0 where
  pub count : (plan : PlanView) (one : A) → class < length plan.classes → length (step plan one).classes ≡ length plan.classes
  pub over : (plan : PlanView) (one : A) → class < length plan.classes → with_raw (step plan one) class raw ≡ with_raw plan class raw

over_steps : {A : Type 0} (class : ℕ) (raw : Raw) (step : PlanView → A → PlanView) → Step class raw step → (plan : PlanView) (ones : List A) → class < length plan.classes → with_raw (fold step plan ones) class raw ≡ with_raw plan class raw
over_steps class raw step is plan [] within = refl
over_steps class raw step is plan (one ∷ ones) within =
    let next = step plan one in
    let count = is.count plan one within in
    over_steps class raw step is next ones (omega arith) ∙ is.over plan one within

-- a record that was there before steps that changed it takes them back
steps_back : {A : Type 0} (class : ℕ) (raw : Raw) (step : PlanView → A → PlanView) (plan : PlanView) (ones : List A) → Step class raw step → KeepsIds plan (fold step plan ones) → IsPlan plan → class < length plan.classes → fact_of plan class raw.id ≡ Some raw → TakesBack (Record class raw) plan (fold step plan ones)
steps_back class raw step plan ones is keeps sound within found =
    let after = fold step plan ones in
    let fits = found_holds (IsRecordOf plan (class_of plan class)) (class_of plan class).facts raw.id raw (class_at plan class sound within).records found in
    record {
      there = kept_live plan after keeps class raw.id ∙ ap (λ (o : Option Raw). is_some o) found;
      fits = kept_record plan after keeps class raw fits;
      back = over_steps class raw step is plan ones within ∙ restored_itself plan class raw within sound found;
    }

items_step : (names : List (List ℕ)) (class id : ℕ) (raw : Raw) → raw.id ≡ id → Step class raw (with_item names class id)
items_step names class id raw own = record {
  count = λ plan pair within. (item_keeps names plan class id pair.0 pair.1 within).count;
  over = λ plan pair within. over_item names plan class id pair.0 pair.1 raw within own;
}

choices_step : (class id : ℕ) (raw : Raw) → raw.id ≡ id → Step class raw (with_choice class id)
choices_step class id raw own = record {
  count = λ plan pair within. (choice_keeps plan class id pair.0 pair.1 within).count;
  over = λ plan pair within. over_choice plan class id pair.0 pair.1 raw within own;
}

-- what the record that was found takes back
record_back : (done : Deed) (ready : ReadyView) (names : List (List ℕ)) (plan : PlanView) (raw : Raw) → (done ≡ deed.Alter) ⊎ (done ≡ deed.Assign) → IsPlan plan → ready.class < length plan.classes → fact_of plan ready.class ready.id ≡ Some raw → TakesBack (Record ready.class raw) plan (plan_by done ready names plan)
record_back done ready names plan raw one sound within found =
    let own = found_id (class_of plan ready.class).facts ready.id raw found in
    let there : fact_of plan ready.class raw.id ≡ Some raw = ap (λ (n : ℕ). fact_of plan ready.class n) own ∙ found in
    elim one [
      | inl is ↦ subst (λ (d : Deed). TakesBack (Record ready.class raw) plan (plan_by d ready names plan)) (sym is)
          (steps_back ready.class raw (with_item names ready.class ready.id) plan (enumerate_from 0 ready.fields) (items_step names ready.class ready.id raw own) (items_keep names ready.class ready.id plan (enumerate_from 0 ready.fields) within) sound within there)
      | inr is ↦ subst (λ (d : Deed). TakesBack (Record ready.class raw) plan (plan_by d ready names plan)) (sym is)
          (steps_back ready.class raw (with_choice ready.class ready.id) plan (enumerate_from 0 ready.values) (choices_step ready.class ready.id raw own) (choices_keep ready.class ready.id plan (enumerate_from 0 ready.values) within) sound within there)
    ]

-- the record that was there takes back what was made of it
pub kept_back : (ready : ReadyView) (names : List (List ℕ)) (plan : PlanView) (raw : Raw) → (ready.deed ≡ deed.Alter) ⊎ (ready.deed ≡ deed.Assign) → IsPlan plan → FitsClass ready plan → fact_of plan ready.class ready.id ≡ Some raw → TakesBack (Record ready.class raw) plan (plan_after ready names plan)
unfolding plan_after
kept_back ready names plan raw one sound fits found = record_back ready.deed ready (names_after ready names) plan raw one sound fits.there found

-- a new fact is taken back
pub new_back : (ready : ReadyView) (names : List (List ℕ)) (plan : PlanView) → ready.deed ≡ deed.Add → IsPlan plan → FitsClass ready plan → TakesBack (Newest ready.class) plan (plan_after ready names plan)
unfolding plan_after
new_back ready names plan is sound fits =
    let fields = map (number_given (names_after ready names)) ready.fields in
    let values = map value_given ready.values in
    subst (λ (d : Deed). TakesBack (Newest ready.class) plan (plan_by d ready (names_after ready names) plan)) (sym is)
    (record {
      last = record { before = plan; fields = fields; values = values; sound = sound; there = fits.there; is = refl };
      back = newest_gone plan ready.class fields values fits.there;
    })

-- a fact that was removed is put back
pub removed_back : (ready : ReadyView) (names : List (List ℕ)) (plan : PlanView) (removal : RemovalView) → ready.deed ≡ deed.Remove → IsPlan plan → PutsBack removal plan ready.class ready.id → TakesBack (Removed removal) plan (plan_after ready names plan)
unfolding plan_after
removed_back ready names plan removal is sound puts =
    subst (λ (d : Deed). IsRemoved removal plan (plan_by d ready (names_after ready names) plan)) (sym is)
    (record {
      id = ready.id;
      sound = sound;
      puts = subst (λ (class : ℕ). PutsBack removal plan class ready.id) (sym puts.own) puts;
      is = ap (λ (class : ℕ). without_fact plan class ready.id) (sym puts.own);
    })
