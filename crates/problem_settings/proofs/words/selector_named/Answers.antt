use Rattle.std.proofs.Common.{◌≡◌, codes, length, arith, rules, refl}
use Rattle.std.proofs.lemmas.Slice.Eq.{HasBytesAt, text_from_reads}
use Rattle.problem_settings.proofs.words.selector_named.Goals as goal

pub returns-in-112 : goal.returns-in-112
returns-in-112 c =
    let long : length c.args.word.now ≡ 13 = omega arith in
    let bytes : HasBytesAt c.args.word.now 0 (codes "pillar_change") = search rules in
    rw (text_from_reads c.args.word.now (codes "pillar_change") long bytes) refl

pub returns-in-112-2 : goal.returns-in-112-2
returns-in-112-2 c =
    let long : length c.args.word.now ≡ 11 = omega arith in
    let bytes : HasBytesAt c.args.word.now 0 (codes "pillar_swap") = search rules in
    rw (text_from_reads c.args.word.now (codes "pillar_swap") long bytes) refl

pub returns-in-change : goal.returns-in-change
returns-in-change c =
    let long : length c.args.word.now ≡ 6 = omega arith in
    let bytes : HasBytesAt c.args.word.now 0 (codes "change") = search rules in
    rw (text_from_reads c.args.word.now (codes "change") long bytes) refl
