use Rattle.std.proofs.Common.{◌≡◌, ◌∙◌, ◌-◌, ℕ, Option, None, ap, arith, length, subst, sym}
use Rattle.stream_end.specs.Ends.{EndView}
use Rattle.stream_end.specs.Found.{TakesOffWeighed}
use Rattle.stream_end.specs.Weights.{weights_at}
use Rattle.stream_end.proofs.Adding.{ones_off}
use Rattle.stream_end.proofs.rows_end.EndNode.total_without.Goals as goal

pub returns-in-Some : goal.returns-in-Some
returns-in-Some c = λ m heads. c.total_less.ensures (weights_at m heads c.args.self.now.weigher)

pub returns-in-None : goal.returns-in-None
returns-in-None c =
    let weigher : c.args.self.now.weigher ≡ None = sym (ap (λ (v : EndView). v.weigher) c.self.view_is) ∙ c.in-None.is in
    let total : c.self.inside.total ≡ c.args.self.now.total = ap (λ (v : EndView). v.total) c.self.view_is in
    let less : c.saturating_sub.result ≡ c.args.self.now.total - length c.args.gone.now = omega (arith, c.saturating_sub.ensures, total) in
    subst (λ (w : Option ℕ). TakesOffWeighed w c.args.self.now.now c.args.gone.now c.args.self.now.total c.saturating_sub.result) (sym weigher)
    (ones_off c.args.self.now.now c.args.gone.now c.args.self.now.total c.saturating_sub.result less)
