use Rattle.std.proofs.Common.{length}
use Rattle.stream_join.specs.Nodes.{is_pairs}
use Rattle.trial_bench.proofs.Handed.{head_there, head_kind, pairs_stand}
use Rattle.trial_bench.proofs.kept.pairs_in.Goals as goal

pub pairs-requires-clause-there : goal.pairs-requires-clause-there
pairs-requires-clause-there g c κs within = head_there _ c.in-Some.def.now c.in-Some.ensures.found

pub pairs-requires-clause-kind : goal.pairs-requires-clause-kind
pairs-requires-clause-kind g c κs within = head_kind is_pairs _ c.in-Some.def.now c.in-Some.ensures.found cc

pub returns : goal.returns
returns g c =
    let rules = c.args.rules.now in
    pairs_stand (length rules.schema) rules.numbers _ c.in-Some.def.now c.in_ok-pairs.field-0 c.in-Some.ensures.found c.in-Some.ensures.sound c.in_ok-pairs.ensures
