-- What a follower stands with, as contracts see it.
use Rattle.std.specs.Prelude.{Bool, false, true}
use Rattle.score_director.specs.View.{at_rest}
use Rattle.move_workers.specs.declared.due.Due.{Due}
use Rattle.move_workers.specs.declared.due.Stand.{Stand}
use Rattle.move_workers.specs.declared.due.Stand.TheVariants as stand
use Rattle.move_workers.specs.Judging.{WorkerView, worker_of}

-- the worker that is made of this
abbrev pub worker_due : Due → WorkerView
worker_due due = worker_of (at_rest due.rules due.weights due.plan) due.seed

-- the worker that stands here, or that is due
abbrev pub stands : Stand WorkerView → WorkerView
stands (stand.Works worker) = worker
stands (stand.Due due) = worker_due due

-- a worker stands here
abbrev pub works : Stand WorkerView → Bool
works (stand.Works _) = true
works (stand.Due _) = false
