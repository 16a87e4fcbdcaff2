use Rattle.std.proofs.Common.{◌∙◌, SFits, of_z, rules, to_z, w64}
use Rattle.std.proofs.lemmas.Int.{to_z-of_z}
use Rattle.stream_group.proofs.Takes.{takes_small}
use Rattle.stream_group.proofs.words.word_more.Goals as goal

pub returns : goal.returns
returns c =
    let fits : SFits w64 c.args.number = search rules in
    let made_fits : SFits w64 c.different_more.result = search rules in
    takes_small c.args.word c.args.number (to_z w64 (of_z w64 c.args.number)) _ (to_z-of_z w64 c.args.number fits) c.requires (to_z-of_z w64 c.different_more.result made_fits ∙ c.different_more.ensures)
