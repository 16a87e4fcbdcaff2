use Rattle.std.proofs.Common.{◌∙◌, ◌≤◌, ap, arith}
use Rattle.search_core.specs.ByNumber.{Held, value_at, with_value}
use Rattle.search_core.proofs.OtherNumbers.{other-with}
use Rattle.search_core.proofs.by_number.ByNumber.put.Goals as goal

pub returns-clause-ok : goal.returns-clause-ok
returns-clause-ok g c = λ n.
    let kept = c.self.inside in
    let high : 10000 ≤ c.args.number = omega arith in
    other-with kept.places.items kept.others.entries c.insert.new.self.entries c.args.number c.args.value high (λ m. c.in_ok-insert.ensures.updates.0 m) n
    ∙ ap (λ (held : Held _). with_value (value_at held) c.args.number c.args.value n) c.self.view_is
