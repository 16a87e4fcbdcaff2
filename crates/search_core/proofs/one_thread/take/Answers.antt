use Rattle.search_core.proofs.Plays.{goes_on_to, only_memory}
use Rattle.search_core.proofs.one_thread.take.Goals as goal

pub taken-requires : goal.taken-requires
taken-requires c =
    let at = c.requires.no_fault in
    only_memory c.args.core.now c.on.new.self at.terms at.events c.args.event c.on.result at.stands at.none c.on.ensures.err

pub returns : goal.returns
returns c = goes_on_to c.args.core.now c.on.new.self c.args.event c.on.result c.in_ok-reply.reply c.on.ensures.ok c.in_ok-reply.ensures
