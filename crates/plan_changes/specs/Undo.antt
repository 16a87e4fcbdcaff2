-- What takes a change of a fact back.
use Rattle.std.specs.Prelude.{◌≡◌, ℕ, IsTrue}
use Rattle.plan_facts.specs.Plan.{IsRecordOf, PlanView, class_of, is_live}
use Rattle.plan_facts.specs.PlanBack.{IsRemoved, WasMadeLast, with_raw, without_newest}
use Rattle.plan_facts.specs.declared.record.Raw.{Raw}
use Rattle.plan_changes.specs.declared.undo.Undo.{Undo}
use Rattle.plan_changes.specs.declared.undo.Undo.TheVariants.{Newest, Record, Removed}

-- the last fact that was made is one of this class; without it the plan is as before
pub record TakesNewest (class : ℕ) (before after : PlanView) : Type 0 where
  pub last : WasMadeLast after class
  pub back : without_newest after class ≡ before

-- a record fits in the place of the live one with its id; with it there the plan is as before
pub record Restores (class : ℕ) (raw : Raw) (before after : PlanView) : Type 0 where
  pub there : IsTrue (is_live after class raw.id)
  pub fits : IsRecordOf after (class_of after class) raw
  pub back : with_raw after class raw ≡ before

-- this takes a change back: of the plan after it the one before is made again
abbrev pub TakesBack : Undo → PlanView → PlanView → Type 0
TakesBack (Newest class) before after = TakesNewest class before after
TakesBack (Record class raw) before after = Restores class raw before after
TakesBack (Removed removal) before after = IsRemoved removal before after
