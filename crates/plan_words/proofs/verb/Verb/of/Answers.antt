use Rattle.std.proofs.Common.{◌≡◌, codes, length, arith, rules, refl}
use Rattle.std.proofs.lemmas.Slice.Eq.{HasBytesAt, text_from_reads}
use Rattle.plan_words.proofs.verb.Verb.of.Goals as goal

pub returns-in-replay : goal.returns-in-replay
returns-in-replay c =
    let long : length c.args.word.now ≡ 6 = omega arith in
    let bytes : HasBytesAt c.args.word.now 0 (codes "replay") = search rules in
    rw (text_from_reads c.args.word.now (codes "replay") long bytes) refl

pub returns-in-explain : goal.returns-in-explain
returns-in-explain c =
    let long : length c.args.word.now ≡ 7 = omega arith in
    let bytes : HasBytesAt c.args.word.now 0 (codes "explain") = search rules in
    rw (text_from_reads c.args.word.now (codes "explain") long bytes) refl
