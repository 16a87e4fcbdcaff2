use Rattle.plan_search.proofs.Chosen.{is_combination, length-combinations, slice_get-combinations, takes_one_of_each}
use Rattle.plan_search.proofs.laws.combinations_are_all.Goals as goal

pub returns : goal.returns
returns c = record {
  counted = length-combinations;
  one_of_each = λ lists sets. (takes_one_of_each lists sets, is_combination lists sets);
  in_order = slice_get-combinations;
}
