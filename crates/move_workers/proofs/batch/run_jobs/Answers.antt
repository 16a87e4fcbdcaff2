use Rattle.std.proofs.Common.{rules, ◌≡◌, length, drop, sym}
use Rattle.std.proofs.lemmas.List.{take_at}
use Rattle.move_workers.specs.Judging.{found_in}
use Rattle.move_workers.proofs.Alike.{done_alike}
use Rattle.move_workers.proofs.batch.run_jobs.Goals as goal

pub returns-clause-done : goal.returns-clause-done
returns-clause-done g c =
    let batch = c.args.batch.now in
    let kit = batch.kit.now in
    let old = c.as_mut_slice.result.now in
    let new = c.run_each.new.jobs in
    let same : length new ≡ length old = search rules in
    let n : c.args.jobs.now.len ≡ length new = search rules in
    let back = take_at new (drop (length new) c.args.jobs.now.items) c.args.jobs.now.len (sym n) in
    let was = sym c.as_mut_slice.ensures.value in
    λ w all. rw back (done_alike (found_in g.B.Book.meaning kit.seed kit.selectors.now _ batch.step) batch.board.now batch.first old new same c.run_each.ensures.done w (rw was at all))
