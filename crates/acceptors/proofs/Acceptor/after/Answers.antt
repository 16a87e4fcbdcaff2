use Rattle.std.proofs.Common.{◌≡◌, ◌∙◌, ◌+◌, ◌++◌, ◌∷◌, [], Some, length, ap, sym, subst, arith, if◌then◌else◌}
use Rattle.circular_buffer.specs.Buffer.{keep_last}
use Rattle.plan_scores.specs.Best.{better_of}
use Rattle.acceptors.specs.History.{Past, step_scores}
use Rattle.acceptors.specs.Accept.{was_touched}
use Rattle.acceptors.specs.Recent.{last_touch}
use Rattle.acceptors.specs.Stands.{Kept, StandsFor}
use Rattle.acceptors.proofs.Numbered.{last_where-push}
use Rattle.acceptors.proofs.Went.{steps-went, scores-went, last-went, best-went, threshold-went, keep_last-push}
use Rattle.acceptors.proofs.Acceptor.after.Goals as goal

pub returns-clause-history : goal.returns-clause-history
returns-clause-history c = λ h was.
    let old = c.self.inside in
    let s = subst (λ (kept : Kept). StandsFor kept h) (sym c.self.view_is) was in
    let score = c.args.score in
    let touched = c.args.touched.now in
    let past : Past = record { score = score; touched = touched } in
    let next : old.steps + 1 ≡ length h.steps + 1 = ap (λ n. n + 1) s.steps in
    let number : old.steps + 1 ≡ 1 + length h.steps = omega (arith, next) in
    record {
      start = s.start;
      steps = next ∙ sym (steps-went h score touched);
      last = last-went h score touched;
      best = c.better_score-self-inside.ensures ∙ (ap (λ b. better_of (λ s. s) b score) s.best ∙ best-went h score touched);
      threshold = c.next_threshold-self-inside.ensures ∙ threshold-went old.size (old.steps + 1) h score old.threshold touched c.self.invariant.0.0 next s.threshold;
      late = λ k.
          c.keep_late.ensures.late k
          ∙ (ap (λ n. keep_last n (old.late.items ++ score ∷ [])) (c.self.invariant.1 k)
          ∙ (ap (λ scores. keep_last old.size (scores ++ score ∷ [])) (s.late k)
          ∙ (keep_last-push old.size (step_scores h) score
          ∙ ap (keep_last old.size) (sym (scores-went h score touched)))));
      touched = λ k t.
          c.in_ok-note_touched.ensures.ok k t
          ∙ (ap (λ step. if was_touched t past then Some (old.steps + 1) else step) (s.touched k t)
          ∙ (ap (λ n. if was_touched t past then Some n else last_touch t h.steps) number
          ∙ sym (last_where-push (was_touched t) 1 h.steps past)));
    }
