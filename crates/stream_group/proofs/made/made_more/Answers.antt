use Rattle.std.proofs.Common.{◌∙◌, ℤ, Some, SFits, ap, rules, true, w64}
use Rattle.std.proofs.lemmas.Int.{to_z-of_z}
use Rattle.stream_group.specs.Collected.{with_more}
use Rattle.stream_group.proofs.Tallied.{each_more}
use Rattle.stream_group.proofs.made.made_more.Goals as goal

pub returns : goal.returns
returns c = λ numbers was few.
    let fits : SFits w64 c.with_more.result = search rules in
    let number_fits : SFits w64 c.args.number = search rules in
    ap Some (to_z-of_z w64 c.with_more.result fits ∙ c.with_more.ensures ∙ ap (λ (n : ℤ). with_more c.args.collect c.args.made n true) (to_z-of_z w64 c.args.number number_fits))
    ∙ each_more c.args.collect c.args.made c.args.number c.requires numbers was few
