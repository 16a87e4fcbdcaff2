use Rattle.std.proofs.Common.{sym}
use Rattle.serde_json.specs.View.{view}
use Rattle.plan_json.specs.Seen.{domain_view}
use Rattle.plan_json.proofs.ReadLaws.{place_found}
use Rattle.plan_json.proofs.read.domain_of.Goals as goal

pub returns : goal.returns
returns g c =
    place_found (λ d. domain_view d) c.args.domains.now (view c.args.root.now) (view c.in_ok-member.field-0.now) c.in_ok-name.name.now c.as_bytes.result.now c.domain_named.result
    (sym c.in_ok-member.ensures) (sym c.in_ok-name.ensures) c.as_bytes.ensures.value c.domain_named.ensures
