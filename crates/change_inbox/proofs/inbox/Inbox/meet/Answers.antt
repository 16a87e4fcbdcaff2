use Rattle.std.proofs.Common.{rules, ◌∙◌, sym, ap}
use Rattle.change_inbox.proofs.Steps.{notes, informs_at, compares_at}
use Rattle.change_inbox.proofs.Calls.{was_told}
use Rattle.change_inbox.proofs.inbox.Inbox.meet.Goals as goal

pub split_seat-note-requires : goal.split_seat-note-requires
split_seat-note-requires g c =
    (ap (λ s. s.inbox.table) c.other.view_is ∙ (ap (λ i. i.table) c.requires.1 ∙ sym (ap (λ i. i.table) c.self.view_is)), search rules, notes _ _ _)

pub join_seat-requires : goal.join_seat-requires
join_seat-requires g c =
    let other = ap (λ s. s.inbox.table) c.other.view_is ∙ (ap (λ i. i.table) c.requires.1 ∙ sym (ap (λ i. i.table) c.self.view_is)) in
    let seat = ap (λ s. s.inbox.table) c.seat.view_is ∙ (ap (λ i. i.table) c.requires.0 ∙ sym (ap (λ i. i.table) c.self.view_is)) in
    (seat, c.split_seat-note.ensures.3 ∙ other, ap (λ m. m.1) c.split_seat-note.ensures.4, search rules, informs_at _ _ _ _ _ _ _ _ c.other.inside.token.me.0 (ap (λ m. m.0) c.seat.invariant.rests) (ap (λ m. m.0) c.split_seat-note.ensures.4))

pub load-requires : goal.load-requires
load-requires g c =
    let seat = ap (λ s. s.inbox.table) c.seat.view_is ∙ (ap (λ i. i.table) c.requires.0 ∙ sym (ap (λ i. i.table) c.self.view_is)) in
    (c.join_seat.ensures.0 ∙ seat, search rules, compares_at _ _ _ _ _ _ _ _ (was_told _ _ _ _ _ _ c.other.inside.token.me.0 c.join_seat.ensures.2 c.seat.invariant.rests c.split_seat-note.ensures.4))
