use Rattle.score_director.specs.Fresh.{fresh_node}
use Rattle.score_director.proofs.FreshLaws.{appended_more}
use Rattle.score_director.proofs.fresh.push_nodes.Goals as goal

pub loop-place-preserved : goal.loop-place-preserved
loop-place-preserved g c =
    appended_more fresh_node c.args.def.now.nodes c.args.nodes.now.items c.loop-place.nodes.items c.push.new.self.items c.loop-place.place c.from.result c.in-Some.node.now c.in_ok-node_without_rows.field-0
    c.from.ensures c.in-Some.ensures c.loop-place.invariant c.in_ok-node_without_rows.ensures c.in_ok-push.ensures.items
