use Rattle.std.proofs.Common.{◌∙◌, length, ap}
use Rattle.std.proofs.lemmas.Result.{err_from_is_err_and}
use Rattle.serde_json.specs.View.{view}
use Rattle.plan_json.specs.Seen.{domain_view}
use Rattle.plan_json.proofs.ReadLaws.{content_read, few_weights, refused_as}
use Rattle.plan_json.proofs.ReadPlans.{read_fits}
use Rattle.plan_json.proofs.read.read_content.Goals as goal

pub returns-in_err-check_limits-clause-refusal : goal.returns-in_err-check_limits-clause-refusal
returns-in_err-check_limits-clause-refusal g c =
    let p = err_from_is_err_and c.from_residual-in_err-check_limits.result c.from_residual-in_err-check_limits.ensures.1 in
    let same = content_read (domain_view c.args.domain.now) (view c.args.root.now) (view c.facts_of.result.now) c.args.format _ _ c.as_slice-defs.result.now c.in_ok-weights.weights c.in_ok-records.records.plan
    c.requires c.member.ensures c.member-2.ensures c.facts_of.ensures c.as_slice-defs.ensures c.in_ok-settings.ensures.refusal c.in_ok-weights.ensures.refusal c.in_ok-records.ensures.refusal
    c.in_ok-weights.ensures.weights c.in_ok-records.ensures.plan in
    rw (p.1, p.2) (refused_as _ _ c.in_err-check_limits.field-0.0 same c.in_err-check_limits.ensures.refusal)

pub returns-clause-refusal : goal.returns-clause-refusal
returns-clause-refusal g c =
    content_read (domain_view c.args.domain.now) (view c.args.root.now) (view c.facts_of.result.now) c.args.format _ _ c.as_slice-defs.result.now c.in_ok-weights.weights c.in_ok-records.records.plan
    c.requires c.member.ensures c.member-2.ensures c.facts_of.ensures c.as_slice-defs.ensures c.in_ok-settings.ensures.refusal c.in_ok-weights.ensures.refusal c.in_ok-records.ensures.refusal
    c.in_ok-weights.ensures.weights c.in_ok-records.ensures.plan
    ∙ c.in_ok-check_limits.ensures.refusal

pub returns-clause-accepted : goal.returns-clause-accepted
returns-clause-accepted g c = record {
  plan = c.in_ok-records.ensures.sound;
  settings = c.in_ok-settings.ensures.in_range;
  judges = record {
    weights = c.in_ok-weights.ensures.each ∙ ap length c.as_slice-defs.ensures;
    few = few_weights c.args.domain.now.rules.defs _ _ _ c.as_slice-defs.result.now c.in_ok-weights.weights c.args.domain.now.rules.accepted c.as_slice-defs.ensures c.in_ok-weights.ensures.in_range;
    range = c.in_ok-check_limits.ensures.range;
  };
}

pub returns-clause-schema : goal.returns-clause-schema
returns-clause-schema g c = read_fits c.args.domain.now.schema (view c.facts_of.result.now) c.in_ok-records.records.plan c.in_ok-records.ensures.plan
