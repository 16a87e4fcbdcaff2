use Rattle.std.proofs.Common.{◌≡◌, fold, take}
use Rattle.plan_moves.specs.Edits.{with_new, sets_of}
use Rattle.move_selectors.proofs.pillars.put_values.Given as goal

-- the variables so far have their values
abbrev pub invariant-loop-var : goal.invariant-loop-var
invariant-loop-var l = l.into ≡ fold with_new l.initial.into (take l.var (sets_of l.class l.id l.values))
