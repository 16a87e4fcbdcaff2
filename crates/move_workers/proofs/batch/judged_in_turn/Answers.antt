use Rattle.std.proofs.Common.{◌∙◌, ◌+◌, map, ap, refl, sym}
use Rattle.std.proofs.lemmas.List.FromFn.{map-range_with_len_more}
use Rattle.move_workers.specs.Judging.{WorkerView, found_in}
use Rattle.move_workers.proofs.batch.judged_in_turn.Goals as goal

pub numbers-preserved : goal.numbers-preserved
numbers-preserved g c =
    let kit = c.args.kit.now in
    let makes = map (λ m. (goal.MoveMaker-dyn g (m.vtable, m.value)).made m.value) kit.makers.now in
    let find = found_in g.B.Book.meaning kit.seed kit.selectors.now makes c.args.step in
    let inv = c.numbers.invariant in
    let number = c.args.first + c.numbers.n in
    let answer = c.in_ok-found.ensures.found ∙ ap (λ (w : WorkerView). find w number) inv.worker in
    record {
      worker = c.in_ok-found.ensures.same ∙ inv.worker;
      found = rw (c.in_ok-push.ensures.items, inv.found, answer)
          (sym (map-range_with_len_more (find c.args.worker.now) c.args.first c.numbers.n number refl));
    }
