use Rattle.std.proofs.Common.{◌-◌, ◌+◌, length}
use Rattle.move_selectors.specs.Movables.{entities_in}
use Rattle.move_selectors.proofs.Exchanging.{IsExchanged}
use Rattle.move_selectors.proofs.pillars.exchange_members.Given as goal

-- the members before the nearer of the two next ones are exchanged
abbrev pub invariant-members : goal.invariant-members
invariant-members l = IsExchanged l.movables.class (entities_in l.movables) l.one l.other l.first l.second l.into

abbrev pub decreases-members : goal.decreases-members
decreases-members l =
    (length (entities_in l.movables) - l.first) + (length (entities_in l.movables) - l.second)
