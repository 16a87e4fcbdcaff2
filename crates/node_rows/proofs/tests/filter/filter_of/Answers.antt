use Rattle.stream_join.specs.Nodes.{is_filter}
use Rattle.node_rows.proofs.Handed.{there_at, kind_at, filter_stands}
use Rattle.node_rows.proofs.tests.filter.filter_of.Goals as goal

pub new-requires-clause-there : goal.new-requires-clause-there
new-requires-clause-there g c κs = there_at _ c.args.node.now c.requires.is

pub new-requires-clause-kind : goal.new-requires-clause-kind
new-requires-clause-kind g c κs = kind_at is_filter _ c.args.node.now c.requires.is c.requires.kind

pub returns : goal.returns
returns g c =
    filter_stands c.args.rules.now.numbers _ c.args.node.now c.new.result c.requires.is c.requires.kind c.requires.closures c.new.ensures
