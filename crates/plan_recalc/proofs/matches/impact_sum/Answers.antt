use Rattle.std.proofs.Common.{◌∙◌, sym, subst}
use Rattle.plan_scores.specs.declared.score.Score.{Score}
use Rattle.plan_scores.specs.Sum.{add_scores, FitsScore}
use Rattle.plan_recalc.proofs.Sizes.{fits_next, impact_sum-more}
use Rattle.plan_recalc.proofs.matches.impact_sum.Goals as goal

pub add-sum-requires : goal.add-sum-requires
add-sum-requires c =
    let P : Score → Type 0 = FitsScore in
    subst P (λ i. add_scores (sym c.loop-one.invariant i) (sym c.one-item.is i).impact) (fits_next c.args.matches.now c.loop-one.one-index c.one-item.result c.loop-one-test.true c.requires)

pub loop-one-preserved : goal.loop-one-preserved
loop-one-preserved c =
    c.add-sum.ensures ∙ (λ i. add_scores (c.loop-one.invariant i) (c.one-item.is i).impact) ∙ sym (impact_sum-more c.args.matches.now c.loop-one.one-index c.one-item.result c.loop-one-test.true)
