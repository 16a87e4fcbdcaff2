use Rattle.plan_search.proofs.HarderFirst.{harder_comes_first, harder_first_apart, harder_first_total}
use Rattle.plan_search.proofs.InOrderLaws.{IsPermutation-in_order, IsSorted-in_order, sorted-in_order}
use Rattle.plan_search.specs.Todo.{harder_first}
use Rattle.plan_search.proofs.laws.harder_entities_come_first.Goals as goal

pub returns : goal.returns
returns c = record {
  harder = harder_comes_first;
  all = λ difficulty. IsPermutation-in_order (harder_first difficulty);
  sorted = λ difficulty. IsSorted-in_order (harder_first difficulty) (harder_first_total difficulty);
  only = λ difficulty. sorted-in_order (harder_first difficulty) (harder_first_total difficulty) (harder_first_apart difficulty);
}
