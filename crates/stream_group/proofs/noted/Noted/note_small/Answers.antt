use Rattle.std.proofs.Common.{SFits, of_z, rules, to_z, w64}
use Rattle.std.proofs.lemmas.Int.{to_z-of_z}
use Rattle.stream_group.proofs.Noting.{small_noted}
use Rattle.stream_group.proofs.noted.Noted.note_small.Goals as goal

pub returns : goal.returns
returns c = record {
  knows = λ numbers was.
      let fits : SFits w64 c.args.number = search rules in
      small_noted c.args.self.now numbers c.args.number (to_z w64 (of_z w64 c.args.number)) (to_z-of_z w64 c.args.number fits) c.requires was;
}
