use Rattle.std.proofs.Common.{rules, ◌+◌, ◌<◌, ◌∙◌, map, ap}
use Rattle.std.proofs.lemmas.List.Elements.{All-push}
use Rattle.move_workers.specs.Jobs.{found_from}
use Rattle.move_workers.specs.Judging.{WorkerView, found_in}
use Rattle.move_workers.proofs.Slots.{verdict_next}
use Rattle.move_workers.proofs.job.work.Goals as goal

pub draws-preserved : goal.draws-preserved
draws-preserved g c =
    let kit = c.args.kit.now in
    let makes = map (λ m. (goal.MoveMaker-dyn g (m.vtable, m.value)).made m.value) kit.makers.now in
    let find = found_in g.B.Book.meaning kit.seed kit.selectors.now makes c.args.step in
    let inv = c.draws.invariant in
    let place = c.in-Some.place in
    let items = c.push_reserved.ensures.items in
    let answer = c.in-Ok.ensures.found ∙ ap (λ (w : WorkerView). find w (c.args.first + place)) inv.worker in
    record {
      worker = c.in-Ok.ensures.same ∙ inv.worker;
      board = search rules;
      whole = search rules;
      below = rw (items, c.reserve.ensures.items) (All-push (λ v. v.place < c.args.board.now.limit) _ _ inv.below (search rules));
      verdicts = rw (items, c.reserve.ensures.items, c.in-Some.ensures.drawn)
          (verdict_next (found_from (find c.args.worker.now) c.args.first) c.draws.share.verdicts.items c.draws.share.pass.draws place c.in-Ok.found inv.verdicts answer);
    }
