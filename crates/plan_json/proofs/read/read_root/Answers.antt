use Rattle.serde_json.specs.View.{view}
use Rattle.plan_changes.specs.Fits.{IsOfSchema}
use Rattle.plan_json.specs.Accepted.{IsAccepted}
use Rattle.plan_json.specs.Seen.{domain_view}
use Rattle.plan_json.proofs.ReadLaws.{place_within, problem_of_root-content, root_reads, root_accepted}
use Rattle.plan_json.proofs.read.read_root.Goals as goal

pub returns-clause-problem : goal.returns-clause-problem
returns-clause-problem g c =
    let d = c.index-domains-place.result in
    root_reads _ (view c.args.root.now) c.in-Some.place (domain_view d) c.read_content.result
    (problem_of_root-content (λ e. domain_view e) c.args.domains.now (view c.args.root.now) c.in-Some.place d c.in_ok-format.ensures.refusal c.in-Some.ensures c.index-domains-place.is)
    c.read_content.ensures.refusal c.read_content.ensures.problem

pub returns-clause-accepted : goal.returns-clause-accepted
returns-clause-accepted g c =
    let d = c.index-domains-place.result in
    root_accepted (λ e p. IsAccepted e.rules.defs e.rules.caps p) c.args.domains.now (view c.args.root.now) c.in-Some.place d (domain_view d) c.read_content.result
    (place_within (λ e. domain_view e) c.args.domains.now (view c.args.root.now) c.in-Some.place c.in-Some.ensures) c.index-domains-place.is c.read_content.ensures.problem c.read_content.ensures.accepted

pub returns-clause-schema : goal.returns-clause-schema
returns-clause-schema g c =
    let d = c.index-domains-place.result in
    root_accepted (λ e p. IsOfSchema e.schema p.plan) c.args.domains.now (view c.args.root.now) c.in-Some.place d (domain_view d) c.read_content.result
    (place_within (λ e. domain_view e) c.args.domains.now (view c.args.root.now) c.in-Some.place c.in-Some.ensures) c.index-domains-place.is c.read_content.ensures.problem c.read_content.ensures.schema
