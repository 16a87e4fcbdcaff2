use Rattle.std.proofs.Common.{◌∙◌, ◌++◌, ◌∷◌, [], length, sym}
use Rattle.std.proofs.lemmas.List.{length_push, map_push}
use Rattle.plan_recalc.specs.Totals.{match_of}
use Rattle.plan_recalc.proofs.Sizes.{impact_within_cap, sizes_more}
use Rattle.plan_recalc.proofs.matches.matches_of.Goals as goal

pub loop-row-preserved : goal.loop-row-preserved
loop-row-preserved g c =
    let m = g.B.Book.meaning in
    let rule = c.args.rule.now in
    let row = c.in-Some.row in
    let impact = c.impact_of-impact in
    let invariant = c.loop-row.invariant in
    record {
      matches = c.in_ok-push.ensures.ok ∙ (λ i. invariant.matches i ++ record { row = row; impact = impact.ensures.value i } ∷ []) ∙ sym (map_push (match_of m rule c.args.weight) c.loop-row.yielded row);
      size = sizes_more c.loop-row.matches c.push.new.self (record { row = row; impact = impact.result }) (length c.loop-row.yielded) _ c.args.weight _ c.in_ok-push.ensures.ok invariant.size
          (impact_within_cap m rule c.args.weight row impact.result _ impact.ensures.value impact.ensures.cap) (length_push c.loop-row.yielded row);
    }
