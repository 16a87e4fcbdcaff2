use Rattle.std.proofs.Common.{◌≡◌, length}
use Rattle.construction.specs.Best.{Considers}
use Rattle.construction.proofs.Steps.{edits_up_to}
use Rattle.construction.proofs.best.+consider_all.Given as goal

abbrev pub decreases-consider_all : goal.decreases-consider_all
decreases-consider_all g l = length l.vars.now

-- the best of the edits with the first choices
abbrev pub invariant-choices : goal.invariant-choices
invariant-choices g l = record {
  best : Considers g.B.Book.meaning l.initial.director l.initial.trials l.trials (edits_up_to l.initial.director.plan l.entity l.vars l.initial.trials.sets l.place);
  same : l.director ≡ l.initial.director;
  kept : l.trials.sets ≡ l.initial.trials.sets;
}
