use Rattle.std.proofs.Common.{rules, ◌∙◌, ◌∷◌, [], sym, ap, arith}
use Rattle.change_inbox.specs.Law.{IsSettled}
use Rattle.change_inbox.proofs.Ends.{member_of, seat_holds, holds_itself, holds_parts, holds_both, settled_for, both_all}
use Rattle.change_inbox.proofs.inbox.Inbox.close_both.Given.{Over}
use Rattle.change_inbox.proofs.inbox.Inbox.close_both.Goals as goal

pub gather-requires : goal.gather-requires
gather-requires g c =
    let me = seat_holds _ _ _ _ _ _ c.last.view_is c.last.invariant c.requires.own.1 in
    let part = ap (λ m. m.0.parts) me in
    (search rules, ((ap (λ s. s.inbox.table) c.last.view_is ∙ ap (λ i. i.table) c.requires.own.1, c.requires.own.0), (holds_itself _ _ _ _ me, omega arith)))

pub journal_of-requires-clause-holds : goal.journal_of-requires-clause-holds
journal_of-requires-clause-holds g c =
    let both = holds_both _ _ _ _ _ c.args.first c.args.last _ c.last.view_is c.last.invariant c.requires.own.1 c.gather.ensures.holds in
    λ κs le. holds_parts _ _ c.args.self.limits.seats (holds_itself _ _ _ _ both) (ap (λ m. m.0.parts) both ∙ sym c.requires.two)

settled : (g : Over) (c : goal.After-journal_of g) → IsSettled c.args.self.limits (member_of c.args.first ∷ member_of c.args.last ∷ []) c.journal_of.result
settled g c =
    let both = holds_both _ _ _ _ _ c.args.first c.args.last _ c.last.view_is c.last.invariant c.requires.own.1 c.gather.ensures.holds in
    settled_for _ _ _ _ _ both c.journal_of.ensures.settled

pub returns-clause-seen : goal.returns-clause-seen
returns-clause-seen g c = ((settled g c).knows.0.begun, (settled g c).knows.1.0.begun)

pub returns-clause-own : goal.returns-clause-own
returns-clause-own g c = (sym (settled g c).knows.0.owned, sym (settled g c).knows.1.0.owned)

pub returns-clause-others : goal.returns-clause-others
returns-clause-others g c = both_all _ _ c.args.first c.args.last (settled g c)
