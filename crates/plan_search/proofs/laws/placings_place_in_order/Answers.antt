use Rattle.plan_search.proofs.Placings.{no_choice, no_edit, placing_of-append, placing_of-best, placing_of-in_order, placing_of-leaves, placing_of-stuck}
use Rattle.plan_search.proofs.laws.placings_place_in_order.Goals as goal

pub returns : goal.returns
returns c = record {
  in_order = placing_of-in_order;
  stuck = placing_of-stuck;
  no_edit = λ score plan entity. (no_choice score plan entity, no_edit score plan entity);
  by_the_best = placing_of-best;
  leaves = placing_of-leaves;
  join = placing_of-append;
}
