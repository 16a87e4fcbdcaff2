use Rattle.std.proofs.Common.{◌≡◌, length, All}
use Rattle.std.proofs.lemmas.List.Elements.{All-weaker}
use Rattle.std.proofs.lemmas.Slice.Zip.{AllZip-long}
use Rattle.plan_facts.specs.Plan.{IsRecordOf}
use Rattle.plan_facts.proofs.plan.Plan.records.Goals as goal

pub resolved_all-requires-clause-values : goal.resolved_all-requires-clause-values
resolved_all-requires-clause-values c =
    let is = c.in-Some.ensures.table.1 in
    let table = c.in-Some.table.now in
    let all : All (λ raw. length raw.values ≡ length table.ranges) table.facts = All-weaker (IsRecordOf c.args.self.now table) (λ raw. length raw.values ≡ length table.ranges) (λ raw fits. AllZip-long _ _ _ fits.values) table.facts is.records in
    rw (c.facts.ensures, c.ranges-in-Some.ensures) all
