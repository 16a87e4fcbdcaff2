use Rattle.std.proofs.Common.{◌≡◌, None}
use Rattle.plan_changes.specs.Fits.{IsOfSchema}
use Rattle.plan_rules.specs.Range.{MayJudge, sizes_of}
use Rattle.search_rows.proofs.tests.lines.take_turns.Given as goal

-- the next line may be taken
abbrev pub invariant-loop-post : goal.invariant-loop-post
invariant-loop-post g l = record {
  judges : MayJudge l.rules.defs l.rules.caps l.director.weights (sizes_of l.director.plan);
  own : l.rules.defs ≡ l.director.rules;
  rest : l.director.base ≡ None;
  schema : IsOfSchema l.rules.schema l.director.plan;
}
