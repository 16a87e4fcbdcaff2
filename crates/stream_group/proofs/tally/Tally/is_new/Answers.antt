use Rattle.std.proofs.Common.{List, ℤ, ap, subst, to_z, of_z, SFits, w64, rules}
use Rattle.std.proofs.lemmas.Int.{to_z-of_z}
use Rattle.std.proofs.lemmas.Result.{IfOk-weaker}
use Rattle.stream_group.specs.Collected.{counts_different}
use Rattle.stream_group.specs.declared.tally.Tally.{Tally}
use Rattle.stream_group.specs.Noted.{Knows, KnowsMore}
use Rattle.stream_group.specs.Tally.{Sees, SeesMore}
use Rattle.stream_group.proofs.Seen.{seen_more}
use Rattle.stream_group.proofs.tally.Tally.is_new.Goals as goal

pub returns-in-CountDistinct-clause-seen : goal.returns-in-CountDistinct-clause-seen
returns-in-CountDistinct-clause-seen c =
    let old = c.args.self.now in
    let noted = c.note.new.self in
    let new : Tally = record { collect = old.collect; made = old.made; noted = noted } in
    let fits : SFits w64 c.args.number = search rules in
    let handed = to_z w64 (of_z w64 c.args.number) in
    let is = to_z-of_z w64 c.args.number fits in
    IfOk-weaker c.note.result (λ is_new. (numbers : List ℤ) → Knows old.noted numbers → KnowsMore noted numbers handed is_new)
    (λ is_new. (numbers : List ℤ) → Sees old numbers → SeesMore new numbers c.args.number is_new)
    (λ is_new known numbers sees.
    let more = known numbers (sees (ap counts_different c.in-CountDistinct.is)) in
    seen_more new numbers c.args.number is_new (subst (λ (n : ℤ). KnowsMore noted numbers n is_new) is more))
    c.note.ensures.knows
