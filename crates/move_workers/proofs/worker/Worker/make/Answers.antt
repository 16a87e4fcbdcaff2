use Rattle.std.proofs.Common.{◌∙◌, ap}
use Rattle.plan_rules.specs.Range.{sizes_of}
use Rattle.score_director.specs.View.{DirectorView}
use Rattle.score_director.proofs.Worth.{sizes_of-applied}
use Rattle.move_workers.specs.Judging.{WorkerView}
use Rattle.move_workers.proofs.worker.Worker.make.Goals as goal

pub returns-clause-sizes : goal.returns-clause-sizes
returns-clause-sizes g c =
    ap (λ (d : DirectorView). sizes_of d.plan) c.in_ok-keep_alone.ensures.ok
    ∙ sizes_of-applied c.self.inside.director.plan c.args.edit.now
    ∙ ap (λ (w : WorkerView). sizes_of w.director.plan) c.self.view_is
