use Rattle.std.proofs.Common.{◌≡◌, ◌∙◌, sym, ap, subst, arith}
use Rattle.change_inbox.specs.Law.{IsSettled}
use Rattle.change_inbox.proofs.Ends.{taken}
use Rattle.change_inbox.proofs.inbox.Inbox.journal_of.Given.{Over}
use Rattle.change_inbox.proofs.inbox.Inbox.journal_of.Goals as goal

settled : (g : Over) (c : goal.After-into_journal g) → IsSettled c.self.inside.table.shared.key c.args.all.me.0.members c.take-book.result.entries × (c.take-book.result.limits ≡ c.self.inside.table.shared.key)
settled g c =
    let holds = c.requires.holds in
    let seats = ap (λ i. i.limits.seats) c.self.view_is in
    let parts = ap (λ m. m.0.parts) holds in
    let some = c.self.invariant.2 in
    taken _ _ _ _ _ _ c.close_with-closed.ensures.values.2 c.take-book.ensures.value (parts ∙ sym seats) (ap (λ m. m.0.has) holds) (omega arith)

pub returns-clause-settled : goal.returns-clause-settled
returns-clause-settled g c =
    let limits = ap (λ i. i.limits) c.self.view_is in
    rw c.into_journal.ensures.entries (subst (λ l. IsSettled l c.args.all.me.0.members c.take-book.result.entries) limits (settled g c).0)

pub returns-clause-few : goal.returns-clause-few
returns-clause-few g c =
    let limits = ap (λ l. l.posts) (settled g c).1 ∙ ap (λ i. i.limits.posts) c.self.view_is in
    let few = c.into_journal.ensures.few in
    omega arith
