use Rattle.stream_exists.specs.Nodes.{is_exists}
use Rattle.trial_bench.proofs.Handed.{there_at, kind_at, exists_stands}
use Rattle.trial_bench.proofs.kept.exists_of.Goals as goal

pub new-requires-clause-there : goal.new-requires-clause-there
new-requires-clause-there g c κs within = there_at _ c.args.node.now c.requires.is

pub new-requires-clause-kind : goal.new-requires-clause-kind
new-requires-clause-kind g c κs within = kind_at is_exists _ c.args.node.now c.requires.is c.requires.kind

pub returns : goal.returns
returns g c =
    exists_stands c.args.rules.now.numbers _ c.args.node.now c.in_ok-new.field-0 c.requires.is c.requires.closures c.in_ok-new.ensures
