use Rattle.std.proofs.Common.{◌≡◌, List, ap, refl, subst, sym}
use Rattle.std.specs.FinMap as map
use Rattle.std.specs.List.{Contains}
use Rattle.stream_heads.specs.declared.member.Member.{Member}
use Rattle.stream_heads.specs.MemberEquality.{member_decides, same_member}
use Rattle.stream_heads.specs.Sides.{numbered}
use Rattle.stream_heads.proofs.Found.{counted_there}
use Rattle.stream_end.specs.Ends.{EndView}
use Rattle.stream_end.proofs.rows_end.EndNode.without_one.Goals as goal

pub returns-in-None : goal.returns-in-None
returns-in-None c = λ weights all part.
    let kept : map.values c.self.inside.kept.now ≡ c.args.self.now.now = ap (λ (v : EndView). v.now) c.self.view_is in
    let there = subst (λ (ms : List Member). Contains ms (numbered weights c.args.cells.now)) (sym kept) (counted_there same_member member_decides (numbered weights c.args.cells.now) c.args.self.now.now part) in
    absurd (c.in-None.ensures (numbered weights c.args.cells.now) there refl)
