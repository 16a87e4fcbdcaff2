use Rattle.std.proofs.lemmas.Slice.Eq.{slice_eq-Decides}
use Rattle.std.proofs.lemmas.Bool.Decides.{Decides-int_eq}
use Rattle.plan_facts.proofs.record.same_numbers.Goals as goal

pub returns : goal.returns
returns c =
    slice_eq-Decides Decides-int_eq c.args.one.now c.args.other.now c.eq.result (rw (c.as_slice.ensures, c.as_slice-2.ensures) at c.eq.ensures)
