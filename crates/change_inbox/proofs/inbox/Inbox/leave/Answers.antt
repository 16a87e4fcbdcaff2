use Rattle.std.proofs.Common.{rules, ◌≡◌, ◌∙◌, ap, ◌+◌, ◌%◌, ◌∷◌}
use Rattle.atomic_table.specs.Table.{rest}
use Rattle.change_inbox.proofs.Steps.{mod_suc, gives_up_at}
use Rattle.change_inbox.proofs.inbox.Inbox.leave.Goals as goal

pub store-requires : goal.store-requires
store-requires g c =
    let inside = c.requires.inside in
    let me = c.exchange-blank.ensures.3 ∙ ap (λ m. (m.0, (0, c.args.book) ∷ rest m.1)) inside.2 in
    let next : (c.args.ticket + 1) % 18446744073709551616 ≡ (inside.0 + 1) % 18446744073709551616 = ap (λ x. (x + 1) % 18446744073709551616) inside.3 ∙ mod_suc inside.0 in
    (search rules, search rules, gives_up_at _ _ _ _ _ _ _ _ _ _ me (c.self.invariant.1) c.requires.grows next)
