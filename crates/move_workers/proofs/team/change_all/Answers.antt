use Rattle.std.proofs.Common.{◌∙◌, ℕ, List, length, take, ap, arith}
use Rattle.plan_changes.specs.Performed.{names_after, texts_of}
use Rattle.plan_changes.proofs.Numbered.{numbered_front, numbered_le}
use Rattle.plan_ports.proofs.Edges.{OnErr-all}
use Rattle.move_workers.proofs.team.change_all.Goals as goal

pub cut-requires : goal.cut-requires
cut-requires g c =
    let long = numbered_le c.args.names.now (texts_of c.args.ready.now) in
    let e = ap (λ (ns : List (List ℕ)). length ns) c.in_ok-change.ensures.names in
    let count = c.count-count.ensures.count in
    omega arith

pub returns-then-is_err-clause-names_stay : goal.returns-then-is_err-clause-names_stay
returns-then-is_err-clause-names_stay g c =
    let names = c.args.names.now in
    let ready = c.args.ready.now in
    let same = c.cut.ensures ∙ ap (take c.count-count.result) c.in_ok-change.ensures.names
    ∙ ap (λ (n : ℕ). take n (names_after ready names)) c.count-count.ensures.count ∙ numbered_front names (texts_of ready) in
    OnErr-all _ same c.restart_all-restarted.result
