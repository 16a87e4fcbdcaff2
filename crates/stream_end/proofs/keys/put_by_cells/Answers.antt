use Rattle.std.proofs.Common.{◌∙◌, ℤ, List, Some, ap, pos, sym}
use Rattle.stream_index.specs.View.{standing}
use Rattle.tuple_store.proofs.MapLaws.{put_there}
use Rattle.stream_end.proofs.Placing.{taken_out}
use Rattle.stream_end.proofs.keys.put_by_cells.Goals as goal

pub kill-requires-clause-there : goal.kill-requires-clause-there
kill-requires-clause-there c =
    put_there _ _ _ _ c.in_ok-put.ensures.ok
    ∙ ap (λ (k : List ℤ). Some (standing k (pos 0))) (c.numbers.ensures ∙ sym c.numbers-in-Err.ensures)

pub returns-in-Err-clause-first_err : goal.returns-in-Err-clause-first_err
returns-in-Err-clause-first_err c =
    let p = c.in_ok-put.ensures in
    let k = c.kill.ensures in
    taken_out c.args.firsts.now c.put.new.self c.kill.new.self c.args.place _ c.requires.first p.ok p.base p.is_open k.now k.base k.is_open
