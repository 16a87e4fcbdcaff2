use Rattle.std.proofs.Common.{◌≡◌, ◌∙◌, ℕ, ◌+◌, ◌*◌, ◌/◌, ◌%◌, ◌<◌, slice_index, arith, ap, rules}
use Rattle.std.proofs.lemmas.List.FromFn.{fill_by_all}
use Rattle.plan_draws.specs.Draws.{word}
use Rattle.plan_draws.proofs.Draws.words.Goals as goal
use Rattle.plan_draws.proofs.Draws.words.Goals.{then-self-step, else-self-step+else-self-block}

pub returns-clause-words : goal.returns-clause-words
unfolding word
returns-clause-words c =
    let kept_is : (k : ℕ) → k < 16 → slice_index c.if-self-step.self-inside.kept k ≡ word c.args.self.now c.args.step (16 * (c.args.number / 2) + k) =
    elim c.if-self-step.branch [
      | then-self-step w ↦ λ k below. grind (arith, w.block_words-self-inside.ensures.words k below)
      | else-self-step+else-self-block w ↦ λ k below. grind (arith, c.self.invariant.1 (search rules) k below)
    ] in
    fill_by_all (λ k. word c.args.self.now c.args.step (8 * c.args.number + k)) c.half.result 8 0 (search rules)
    (λ k below. c.half.ensures k below ∙ kept_is (8 * (c.args.number % 2) + k) (omega arith)
    ∙ ap (word c.args.self.now c.args.step) (omega arith))
