use Rattle.std.proofs.Common.{◌≡◌, get_or, inl, inr, sym, ◌∙◌, arith}
use Rattle.std.proofs.lemmas.Bool.{cases_lt}
use Rattle.std.proofs.lemmas.List.{get_or_default}
use Rattle.std.proofs.lemmas.List.Sorted.{searched}
use Rattle.plan_facts.proofs.Places.{increasing_never_falls}
use Rattle.plan_facts.proofs.table.place_of.Goals as goal

pub returns-in-Err : goal.returns-in-Err
returns-in-Err c =
    let ids = c.args.ids.now in
    let apart = rw c.in-Err.is at (searched ids c.args.id c.binary_search.result c.binary_search.ensures.position (increasing_never_falls ids c.requires)) in
    λ k d within here.
    let at : get_or ids k 0 ≡ c.args.id = sym (get_or_default ids k d 0 within) ∙ here in
    elim (cases_lt k c.in-Err.field-0) [ inl below ↦ let h = apart.1 k below in omega arith | inr above ↦ let h = apart.2 k above within in omega arith ]
