use Rattle.std.proofs.Common.{◌≡◌, ◌∙◌, ◌*◌, length, ap, subst, sym, arith}
use Rattle.plan_scores.specs.declared.score.Score.{Score}
use Rattle.plan_scores.specs.Sum.{add_scores, FitsScore}
use Rattle.plan_rules.specs.Closures.{capped}
use Rattle.plan_rules.specs.Totals.{impact_sum}
use Rattle.plan_recalc.specs.Size.{row_size}
use Rattle.plan_recalc.proofs.Sizes.{fits_within}
use Rattle.plan_recalc.proofs.OneMore.{room_after, small_impacts}
use Rattle.plan_recalc.proofs.sum.add_rule.Goals as goal

pub impact_sum-impact-requires : goal.impact_sum-impact-requires
impact_sum-impact-requires g c =
    rw (c.as_slice.ensures) (small_impacts _ c.args.score.now c.in_ok-matches.matches c.requires.room c.in_ok-matches.ensures.size)

pub add-requires : goal.add-requires
add-requires g c =
    let ms = c.in_ok-matches.matches in
    let most = length c.args.rows.items * row_size (capped c.args.rules.now.weighs) c.args.rule.now c.args.weight in
    let room = room_after most 0 c.args.score.now ms (omega (arith, c.in_ok-matches.ensures.size)) c.requires.room in
    let sum : c.impact_sum-impact.result ≡ impact_sum ms = c.impact_sum-impact.ensures ∙ ap impact_sum c.as_slice.ensures in
    let P : Score → Type 0 = λ s. FitsScore (add_scores c.args.score.now s) in
    subst P (sym sum) (fits_within room.most (add_scores c.args.score.now (impact_sum ms)) room.within (omega (arith, room.few)))
