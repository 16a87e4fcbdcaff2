use Rattle.std.proofs.Common.{rules, ◌≡◌, ◌∙◌, ◌≤◌, ◌*◌, ℕ, SFits, w64, get_or, ap, arith}
use Rattle.std.proofs.lemmas.Int.{to_z-of_z}
use Rattle.plan_rules.specs.Totals.{signed}
use Rattle.plan_scores.specs.Sum.{score_at}
use Rattle.score_director.specs.Sums.{sum_of_totals, totaled, totaled_from}
use Rattle.score_director.proofs.Totaled.{room_left, score_is, small_at_end, sums_begin, sums_end, sums_next, too_great, totaled_end}
use Rattle.score_director.proofs.sums.score_of_totals.Goals as goal

pub loop-place-init : goal.loop-place-init
loop-place-init c = (search rules, λ few. sums_begin _ _ c.zero-score.ensures few)

pub loop-place-preserved : goal.loop-place-preserved
loop-place-preserved c =
    let weight = get_or c.args.weights.now c.loop-place.place 0 in
    let total = get_or c.args.totals.now c.loop-place.place 0 in
    let product : c.from.result * total ≡ weight * total = ap (λ (n : ℕ). n * total) c.from.ensures in
    let is : c.saturating_mul-size.result ≡ weight * total =
    omega (arith, c.saturating_mul-size.ensures, product, c.if-size-room.false, c.loop-place.invariant.0.within) in
    let rule = c.index-rules-place.result in
    let fitted : SFits w64 c.impact_of.result = search rules in (
      room_left c.args.rules.now c.args.weights.now c.args.totals.now c.loop-place.place c.loop-place.room c.saturating_mul-size.result
          c.requires.weights c.requires.totals c.loop-place-test.true is c.if-size-room.false c.loop-place.invariant.0,
      λ few.
          sums_next c.args.rules.now c.args.weights.now c.args.totals.now c.loop-place.place rule _ c.loop-place.score _ _
          c.requires.weights c.requires.totals c.loop-place-test.true c.index-rules-place.is
          (λ fits. ap (score_at rule.level) (to_z-of_z w64 c.impact_of.result fitted ∙ c.impact_of.ensures (omega (arith, is, fits)) ∙ ap (signed rule) is))
          c.add_at.ensures (c.loop-place.invariant.1 few),
    )

pub returns-then-size-room-clause-none : goal.returns-then-size-room-clause-none
returns-then-size-room-clause-none c =
    let weight = get_or c.args.weights.now c.loop-place.place 0 in
    let total = get_or c.args.totals.now c.loop-place.place 0 in
    let product : c.from.result * total ≡ weight * total = ap (λ (n : ℕ). n * total) c.from.ensures in
    let most : c.saturating_mul-size.result ≤ weight * total = omega (arith, c.saturating_mul-size.ensures, product) in
    too_great c.args.rules.now c.args.weights.now c.args.totals.now c.loop-place.place c.loop-place.room c.saturating_mul-size.result
    c.requires.weights c.requires.totals c.loop-place-test.true most c.if-size-room.true c.loop-place.invariant.0

pub returns-clause-score : goal.returns-clause-score
returns-clause-score c =
    let rules = c.args.rules.now in
    let weights = c.args.weights.now in
    let totals = c.args.totals.now in
    let ended = c.loop-place-test.false in
    let few = small_at_end rules weights totals c.loop-place.place c.loop-place.room ended c.loop-place.invariant.0 in
    score_is rules weights totals c.loop-place.score
    (sums_end (sum_of_totals (totaled rules weights totals)) c.loop-place.score (totaled_from rules weights totals c.loop-place.place)
    (totaled_end rules weights totals c.loop-place.place ended) (c.loop-place.invariant.1 few))
