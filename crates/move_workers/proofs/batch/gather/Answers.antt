use Rattle.std.proofs.Common.{rules, ◌≡◌, ◌∙◌, ℕ, ◌∷◌, [], length, length-append, true, refl, sym, ap, subst, get_or, ◌<◌, arith, vec_len}
use Rattle.std.proofs.lemmas.List.Elements.{All-push}
use Rattle.move_workers.specs.Jobs.{AreBelow, IsDone}
use Rattle.move_workers.proofs.Slots.{All-front, All-last, gathers}
use Rattle.move_workers.proofs.batch.gather.Goals as goal

pub jobs-init : goal.jobs-init
jobs-init g c = record {
  workers = refl;
  room = refl;
  len = refl;
  below = c.requires.below;
  left = (λ w all. all);
  alike = (λ w ws js. ws);
  passes = (λ whole. refl);
  done = (λ b w f all. all);
  gathered = (λ whole b w f was all. was);
}

pub jobs-preserved-then-not-taken : goal.jobs-preserved-then-not-taken
jobs-preserved-then-not-taken g c =
    let inv = c.jobs.invariant in
    let items = c.in-Some.ensures.items in
    let done = c.take_share-taken.ensures in
    let back = c.push_reserved.ensures in
    record {
      workers = (let a = c.in-Some.ensures.cases in let b = back.len in let i = inv.workers in omega arith);
      room = search rules;
      len = done.len ∙ inv.len;
      below = All-front (λ j. AreBelow (vec_len c.args.slots.now) j.share.verdicts.items) _ _ (rw items at inv.below);
      left = (λ w h. All-front (λ j. j.worker ≡ w) _ _ (rw items at (inv.left w h)));
      alike = (λ w ws js. rw back.items (All-push (λ x. x ≡ w) _ _ (inv.alike w ws js) (All-last (λ j. j.worker ≡ w) _ _ (rw items at (inv.left w js)))));
      passes = (λ no. absurd (cc));
      done = (λ b w f h. All-front (IsDone b w f) _ _ (rw items at (inv.done b w f h)));
      gathered = (λ no. absurd (cc));
    }

pub jobs-preserved : goal.jobs-preserved
jobs-preserved g c =
    let inv = c.jobs.invariant in
    let items = c.in-Some.ensures.items in
    let done = c.take_share-taken.ensures in
    let back = c.push_reserved.ensures in
    let yes : c.take_share-taken.result ≡ true = search rules in
    let share = c.in-Some.job.share in
    record {
      workers = (let a = c.in-Some.ensures.cases in let b = back.len in let i = inv.workers in omega arith);
      room = search rules;
      len = done.len ∙ inv.len;
      below = All-front (λ j. AreBelow (vec_len c.args.slots.now) j.share.verdicts.items) _ _ (rw items at inv.below);
      left = (λ w h. All-front (λ j. j.worker ≡ w) _ _ (rw items at (inv.left w h)));
      alike = (λ w ws js. rw back.items (All-push (λ x. x ≡ w) _ _ (inv.alike w ws js) (All-last (λ j. j.worker ≡ w) _ _ (rw items at (inv.left w js)))));
      passes = (λ whole. let e = ap length (done.passes yes) in let a = c.in-Some.ensures.cases in let i = inv.passes whole in
          omega (arith, length-append c.jobs.passes (share.pass ∷ [])));
      done = (λ b w f h. All-front (IsDone b w f) _ _ (rw items at (inv.done b w f h)));
      gathered = (λ whole b w f was h.
          rw (done.passes yes, done.slots yes) (gathers f b c.jobs.passes c.jobs.slots.items share (inv.gathered whole b w f was h)
          (All-last (IsDone b w f) _ _ (rw items at (inv.done b w f h))).worked (done.whole yes)));
    }

pub take_share-taken-requires : goal.take_share-taken-requires
take_share-taken-requires g c =
    let inv = c.jobs.invariant in
    let all = All-last (λ j. AreBelow (vec_len c.args.slots.now) j.share.verdicts.items) _ _ (rw c.in-Some.ensures.items at inv.below) in
    record { below = λ k d lt. subst (λ (n : ℕ). (get_or c.in-Some.job.share.verdicts.items k d).place < n) (sym inv.len) (all k d lt) }
