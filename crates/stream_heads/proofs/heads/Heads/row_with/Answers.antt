use Rattle.std.proofs.Common.{◌≡◌, ap, sym, arith, length}
use Rattle.stream_heads.proofs.HeadLaws.{one_part}
use Rattle.stream_heads.proofs.heads.Heads.row_with.Goals as goal

pub joined-requires : goal.joined-requires
joined-requires c =
    let one : length c.in-Some.head.now ≡ 1 = one_part c.self.inside.rows.now c.self.invariant.now c.in-Place.place c.in-Some.head.now (sym c.in-Some.ensures) in
    omega (arith, one, ap length c.row.ensures, c.requires)
