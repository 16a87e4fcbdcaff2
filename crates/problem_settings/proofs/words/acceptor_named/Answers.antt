use Rattle.std.proofs.Common.{◌≡◌, codes, length, arith, rules, refl}
use Rattle.std.proofs.lemmas.Slice.Eq.{HasBytesAt, text_from_reads}
use Rattle.problem_settings.proofs.words.acceptor_named.Goals as goal

pub returns-in-115 : goal.returns-in-115
returns-in-115 c =
    let long : length c.args.word.now ≡ 10 = omega arith in
    let bytes : HasBytesAt c.args.word.now 0 (codes "step_count") = search rules in
    rw (text_from_reads c.args.word.now (codes "step_count") long bytes) refl
