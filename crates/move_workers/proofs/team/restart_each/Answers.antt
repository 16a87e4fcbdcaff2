use Rattle.std.proofs.Common.{◌≡◌, ◌∙◌, ◌<◌, length, ap, arith}
use Rattle.move_workers.specs.Judging.{WorkerView, with_director}
use Rattle.move_workers.proofs.Alike.{gone_next, left_next}
use Rattle.move_workers.proofs.team.restart_each.Goals as goal

pub others-init : goal.others-init
others-init g c = record {
  gone = (λ w all k d lt. absurd (omega arith));
  left = (λ w all k d le lt. all k d lt);
}

pub others-preserved : goal.others-preserved
others-preserved g c =
    let inv = c.others.invariant in
    let k = c.others.place in
    let ys = c.others.others in
    let y = c.restart_one.new.one in
    let within : k < length ys = omega arith in
    let director = c.args.director.now in
    record {
      gone = (λ w all. gone_next (λ x. x ≡ with_director w director) ys k y within
          (c.in_ok-restart_one.ensures ∙ ap (λ (x : WorkerView). with_director x director) (inv.left w all k _ (omega arith) within))
          (inv.gone w all));
      left = (λ w all. left_next (λ x. x ≡ w) ys k y (inv.left w all));
    }

pub returns : goal.returns
returns g c = λ w all k d lt. c.others.invariant.gone w all k d (omega arith)
