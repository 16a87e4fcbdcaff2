use Rattle.std.proofs.Common.{◌∙◌, ap, subst, sym}
use Rattle.plan_rules.specs.Range.{MayJudge, sizes_of}
use Rattle.move_workers.specs.Judging.{WorkerView}
use Rattle.worker_rows.proofs.Played.{judges_played, rules_played}
use Rattle.worker_rows.proofs.tests.workers.play_for_all.Goals as goal

pub returns-clause-judges : goal.returns-clause-judges
returns-clause-judges g c =
    let rules = c.args.kit.now.rules.now in
    let now = sym c.in_ok-back.ensures.ok.now in
    let may = judges_played rules.defs rules.caps c.args.team.now.worker _ c.requires.judges.1 in
    (c.requires.judges.0, subst (λ (w : WorkerView). MayJudge rules.defs rules.caps w.director.weights (sizes_of w.director.plan)) now may)

pub returns-clause-own : goal.returns-clause-own
returns-clause-own g c =
    let now = sym c.in_ok-back.ensures.ok.now in
    c.requires.own ∙ sym (rules_played c.args.team.now.worker _) ∙ ap (λ (w : WorkerView). w.director.rules) now
