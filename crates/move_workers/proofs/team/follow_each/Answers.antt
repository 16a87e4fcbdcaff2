use Rattle.std.proofs.Common.{◌≡◌, ◌∙◌, ◌<◌, Some, length, ap, arith}
use Rattle.move_workers.specs.Judging.{WorkerView, played}
use Rattle.move_workers.specs.Teams.{MayMake}
use Rattle.move_workers.proofs.Alike.{gone_next, left_next}
use Rattle.move_workers.proofs.team.follow_each.Goals as goal

pub others-init : goal.others-init
others-init g c = record {
  gone = (λ w all k d lt. absurd (omega arith));
  left = (λ w all k d le lt. all k d lt);
  may = (λ k d le lt. c.requires.may k d lt);
}

pub follow_one-requires-clause-may : goal.follow_one-requires-clause-may
follow_one-requires-clause-may g c κs within = c.others.invariant.may c.others.place _ (omega arith) (omega arith)

pub others-preserved : goal.others-preserved
others-preserved g c =
    let inv = c.others.invariant in
    let k = c.others.place in
    let ys = c.others.others in
    let y = c.follow_one.new.one in
    let within : k < length ys = omega arith in
    let rules = c.args.kit.now.rules.now in
    record {
      gone = (λ w all. gone_next (λ x. x ≡ played w (Some c.args.edit.now)) ys k y within
          (c.in_ok-follow_one.ensures ∙ ap (λ (x : WorkerView). played x (Some c.args.edit.now)) (inv.left w all k _ (omega arith) within))
          (inv.gone w all));
      left = (λ w all. left_next (λ x. x ≡ w) ys k y (inv.left w all));
      may = left_next (MayMake rules.defs rules.caps c.args.edit.now) ys k y inv.may;
    }

pub returns : goal.returns
returns g c = λ w all k d lt. c.others.invariant.gone w all k d (omega arith)
