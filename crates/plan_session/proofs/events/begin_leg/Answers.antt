use Rattle.std.proofs.Common.{◌∙◌, ◌≤◌, ap, subst, sym}
use Rattle.search_core.specs.Desk.{Terms}
use Rattle.plan_session.proofs.Opened.{begun_decides, begun_quiet, begun_terms, cut_due_after, start_due_after}
use Rattle.plan_session.proofs.events.begin_leg.Goals as goal

pub cut-requires : goal.cut-requires
cut-requires c =
    let done = c.in_ok-post_all.ensures in
    cut_due_after c.post_all.new.core c.args.boundary c.args.posts done.ended
    (subst (λ (t : Terms). c.args.boundary ≤ t.settings.steps) (sym done.terms) c.requires.within)

pub take-requires-clause-no_fault : goal.take-requires-clause-no_fault
take-requires-clause-no_fault c =
    let done = c.in_ok-post_all.ensures in
    let within = subst (λ (t : Terms). c.args.boundary ≤ t.settings.steps) (sym done.terms) c.requires.within in
    start_due_after c.post_all.new.core c.args.boundary c.args.posts done.ended within c.requires.begins c.cut.new.core c.in_ok-cut.ensures c.args.score

pub returns-clause-terms : goal.returns-clause-terms
returns-clause-terms c =
    let done = c.in_ok-post_all.ensures in
    let within = subst (λ (t : Terms). c.args.boundary ≤ t.settings.steps) (sym done.terms) c.requires.within in
    begun_terms c.post_all.new.core c.args.boundary c.args.posts done.ended within c.requires.begins c.cut.new.core c.in_ok-cut.ensures
    c.args.score c.take.new.core c.in_ok-take.field-0 c.in_ok-take.ensures
    ∙ done.terms

pub returns-clause-quiet : goal.returns-clause-quiet
returns-clause-quiet c =
    let done = c.in_ok-post_all.ensures in
    let within = subst (λ (t : Terms). c.args.boundary ≤ t.settings.steps) (sym done.terms) c.requires.within in
    begun_quiet c.post_all.new.core c.args.boundary c.args.posts done.ended within c.requires.begins c.cut.new.core c.in_ok-cut.ensures
    c.args.score c.take.new.core c.in_ok-take.field-0 c.in_ok-take.ensures

pub returns-clause-decides : goal.returns-clause-decides
returns-clause-decides c =
    let done = c.in_ok-post_all.ensures in
    let within = subst (λ (t : Terms). c.args.boundary ≤ t.settings.steps) (sym done.terms) c.requires.within in
    λ posed leg settings fresh scored.
    begun_decides c.post_all.new.core c.args.boundary c.args.posts done.ended within c.requires.begins c.cut.new.core c.in_ok-cut.ensures
    c.args.score c.take.new.core c.in_ok-take.field-0 c.in_ok-take.ensures posed leg
    (ap (λ (t : Terms). t.settings) done.terms ∙ settings) fresh scored
