use Rattle.std.proofs.Common.{rules}
use Rattle.change_inbox.proofs.Steps.{draws_at, looks_at}
use Rattle.change_inbox.proofs.inbox.Inbox.enter.Goals as goal

pub fetch_add-ticket-requires : goal.fetch_add-ticket-requires
fetch_add-ticket-requires g c = (search rules, search rules, draws_at _ _ _ _ _ _ _ c.requires.token.1)

pub load-requires : goal.load-requires
load-requires g c = (search rules, search rules, looks_at _ _ _ _ _ _ _ _ c.loop.invariant.waits)
