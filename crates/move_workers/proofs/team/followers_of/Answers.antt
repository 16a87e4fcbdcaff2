use Rattle.std.proofs.Common.{◌≡◌, [], ◌∷◌, length, length-append, refl, ap, arith}
use Rattle.std.proofs.lemmas.List.Elements.{All-push}
use Rattle.move_workers.specs.Judging.{worker_of}
use Rattle.move_workers.proofs.team.followers_of.Goals as goal

pub copies-preserved : goal.copies-preserved
copies-preserved g c =
    let w = worker_of c.args.director.now c.args.kit.now.seed in
    let inv = c.copies.invariant in
    let items = c.in_ok-add_follower.ensures in
    record {
      alike = rw items (All-push (λ x. x ≡ w) _ _ inv.alike refl);
      count = (let e = ap length items in let i = inv.count in omega (arith, length-append c.copies.all.items (w ∷ [])));
    }
