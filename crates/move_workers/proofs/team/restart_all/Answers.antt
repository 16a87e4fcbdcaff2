use Rattle.std.proofs.Common.{rules, ◌≡◌, length, drop, sym}
use Rattle.std.proofs.lemmas.List.{take_at}
use Rattle.move_workers.proofs.team.restart_all.Goals as goal

pub returns-clause-restarted : goal.returns-clause-restarted
returns-clause-restarted g c =
    let old = c.as_mut_slice.result.now in
    let new = c.restart_each.new.others in
    let same : length new ≡ length old = search rules in
    let n : c.args.others.now.len ≡ length new = search rules in
    let back = take_at new (drop (length new) c.args.others.now.items) c.args.others.now.len (sym n) in
    let was = sym c.as_mut_slice.ensures.value in
    λ w all. rw back (c.restart_each.ensures w (rw was at all))
