use Rattle.std.proofs.Common.{rules, ◌∙◌, sym, ap}
use Rattle.change_inbox.proofs.Steps.{gathers_at}
use Rattle.change_inbox.proofs.Ends.{seat_holds, holds_more}
use Rattle.change_inbox.proofs.inbox.Inbox.gather.Goals as goal

pub join_seat-requires : goal.join_seat-requires
join_seat-requires g c =
    let rests = c.seat.invariant.rests in (
      search rules,
      ap (λ s. s.inbox.table) c.seat.view_is ∙ (ap (λ i. i.table) c.requires.own.1 ∙ sym (ap (λ i. i.table) c.self.view_is)),
      ap (λ m. m.1) rests,
      search rules,
      gathers_at _ _ _ _ _ _ _ _ _ _ _ (ap (λ m. m.0) c.requires.holds) (ap (λ m. m.0) rests) c.requires.some,
    )

pub returns-clause-holds : goal.returns-clause-holds
returns-clause-holds g c = holds_more _ _ _ _ _ _ c.requires.holds (seat_holds _ _ _ _ _ _ c.seat.view_is c.seat.invariant c.requires.own.1) c.join_seat.ensures.2
