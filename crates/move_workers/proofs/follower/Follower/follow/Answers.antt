use Rattle.std.proofs.Common.{sym, subst}
use Rattle.plan_rules.specs.Range.{MayJudge, sizes_of}
use Rattle.move_workers.specs.Due.{stands}
use Rattle.move_workers.specs.Judging.{WorkerView}
use Rattle.move_workers.proofs.Alike.{judges_before}
use Rattle.move_workers.proofs.follower.Follower.follow.Goals as goal

pub catch_up-requires-clause-judges : goal.catch_up-requires-clause-judges
catch_up-requires-clause-judges g c κs within =
    let rules = c.args.kit.now.rules.now in
    let seen = subst (λ (w : WorkerView). MayJudge rules.defs rules.caps w.director.weights (sizes_of w.director.plan)) (sym c.self.view_is) c.requires.judges.1 in
    (c.requires.judges.0, judges_before rules.defs rules.caps (stands c.self.inside.stand) c.self.inside.late seen)
