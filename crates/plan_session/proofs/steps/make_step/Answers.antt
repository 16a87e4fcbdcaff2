use Rattle.std.proofs.Common.{ap, map}
use Rattle.move_workers.specs.Judging.{found_in}
use Rattle.move_workers.specs.Teams.{TeamView}
use Rattle.plan_session.proofs.Stepped.{Chooses, ended_by, line_made, same_terms, step_made}
use Rattle.plan_session.proofs.steps.make_step.Goals as goal

pub returns-clause-ended : goal.returns-clause-ended
returns-clause-ended g c =
    let core = c.args.core.now in
    let makes = map (λ m. (goal.MoveMaker-dyn g (m.vtable, m.value)).made m.value) c.args.kit.now.makers.now in
    let found = found_in g.B.Book.meaning c.args.kit.now.seed c.args.kit.now.selectors.now makes c.args.step c.args.team.now.worker in
    let chooses : Chooses core c.choose.new.core c.args.step found =
    record { buffer = core.buffer_in_range.0; limit = core.settings_in_range.select_limit.least; quiet = c.requires.quiet; stands = c.in_ok-winner.ensures.stands } in
    ended_by core c.choose.new.core c.args.step found chooses c.requires.ready

pub returns-clause-terms : goal.returns-clause-terms
returns-clause-terms g c =
    let core = c.args.core.now in
    let makes = map (λ m. (goal.MoveMaker-dyn g (m.vtable, m.value)).made m.value) c.args.kit.now.makers.now in
    let found = found_in g.B.Book.meaning c.args.kit.now.seed c.args.kit.now.selectors.now makes c.args.step c.args.team.now.worker in
    let chooses : Chooses core c.choose.new.core c.args.step found =
    record { buffer = core.buffer_in_range.0; limit = core.settings_in_range.select_limit.least; quiet = c.requires.quiet; stands = c.in_ok-winner.ensures.stands } in
    same_terms core c.choose.new.core c.args.step found chooses c.requires.ready

pub returns-clause-line : goal.returns-clause-line
returns-clause-line g c =
    line_made g.B.Book.meaning c.args.kit.now.seed c.args.kit.now.selectors.now _ c.args.step c.args.core.now c.args.team.now.worker c.choose.new.team.worker c.play.new.team.worker
    c.args.best.now c.play.new.best c.in_ok-winner.winner c.in_ok-is_best.is_best c.score.result
    c.in_ok-winner.ensures.winner c.in_ok-is_best.ensures.went_on (ap (λ (t : TeamView). t.worker) c.choose.ensures.same) c.score.ensures

pub returns-clause-made : goal.returns-clause-made
returns-clause-made g c =
    let core = c.args.core.now in
    let makes = map (λ m. (goal.MoveMaker-dyn g (m.vtable, m.value)).made m.value) c.args.kit.now.makers.now in
    let found = found_in g.B.Book.meaning c.args.kit.now.seed c.args.kit.now.selectors.now makes c.args.step c.args.team.now.worker in
    let chooses : Chooses core c.choose.new.core c.args.step found =
    record { buffer = core.buffer_in_range.0; limit = core.settings_in_range.select_limit.least; quiet = c.requires.quiet; stands = c.in_ok-winner.ensures.stands } in
    step_made g.B.Book.meaning c.args.kit.now.seed c.args.kit.now.selectors.now makes c.args.step core c.args.team.now.worker c.choose.new.team.worker c.play.new.team.worker
    c.args.best.now c.play.new.best c.in_ok-winner.winner c.in_ok-is_best.is_best c.choose.new.core
    c.in_ok-winner.ensures.winner c.in_ok-is_best.ensures.went_on (ap (λ (t : TeamView). t.worker) c.choose.ensures.same) chooses
