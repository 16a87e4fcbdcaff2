use Rattle.std.proofs.Common.{◌≡◌, ◌∙◌, ◌++◌, List, None, ap, subst, sym}
use Rattle.plan_rules.specs.declared.row.Part.{Part}
use Rattle.plan_rules.specs.Bags.{AreSame}
use Rattle.plan_rules.proofs.Sums.{same-refl}
use Rattle.tuple_store.specs.Numbers.{numbers_above}
use Rattle.stream_heads.specs.Meant.{meant}
use Rattle.stream_end.specs.Ends.{EndView}
use Rattle.stream_end.specs.Found.{rows_from}
use Rattle.stream_end.specs.Weights.{cells_of}
use Rattle.stream_end.proofs.Listing.{all_listed}
use Rattle.stream_end.proofs.rows_end.EndNode.rows.Goals as goal

pub returns : goal.returns
returns c =
    let heads = c.args.heads.now.now in
    let kept = c.self.inside.kept.now in
    let pushed : c.push_rows.new.rows ≡ rows_from heads kept (numbers_above None kept) = c.in_ok-push_rows.ensures ∙ ap (λ (rows : List (List Part)). rows ++ rows_from heads kept (numbers_above None kept)) c.new-rows.ensures in
    let meant_now : rows_from heads kept (numbers_above None kept) ≡ meant heads (cells_of c.args.self.now.now) = all_listed heads kept ∙ ap (λ (v : EndView). meant heads (cells_of v.now)) c.self.view_is in
    subst (λ (rows : List (List Part)). AreSame rows (meant heads (cells_of c.args.self.now.now))) (sym (pushed ∙ meant_now)) (same-refl _)
