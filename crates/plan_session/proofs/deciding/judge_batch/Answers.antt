use Rattle.std.proofs.Common.{◌≡◌, ◌∙◌, List, Option, length, ap, arith}
use Rattle.std.proofs.lemmas.List.FromFn.{length-map-range_with_len}
use Rattle.plan_search.specs.declared.found.Found.{Found}
use Rattle.plan_session.proofs.Asking.{all-asked, all-told}
use Rattle.plan_session.proofs.deciding.judge_batch.Goals as goal

pub record_all-requires-clause-asked : goal.record_all-requires-clause-asked
record_all-requires-clause-asked g c =
    all-asked c.args.core.now c.args.step _ c.args.first c.args.count c.in_ok-all.all.items c.in_ok-all.ensures.found c.requires.at

pub record_all-requires-clause-fits : goal.record_all-requires-clause-fits
record_all-requires-clause-fits g c =
    let len : length c.in_ok-all.all.items ≡ c.args.count =
    ap (λ (l : List (Option Found)). length l) c.in_ok-all.ensures.found ∙ length-map-range_with_len _ c.args.first c.args.count in
    omega (arith, len, c.requires.fits)

pub returns-clause-stands : goal.returns-clause-stands
returns-clause-stands g c =
    all-told c.args.core.now c.record_all.new.core c.args.step _ c.args.first c.args.count c.in_ok-all.all.items c.in_ok-all.ensures.found
    c.in_ok-record_all.ensures.stands
