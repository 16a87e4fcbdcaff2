use Rattle.std.proofs.Common.{◌∙◌, arith}
use Rattle.std.specs.Cmp.{int_cmp_total}
use Rattle.std.proofs.lemmas.Map.Views.{btree_set_len-from_list, btree_set_len-le_from_list}
use Rattle.plan_recalc.proofs.collect.count_different.Goals as goal

pub returns-clause-count : goal.returns-clause-count
returns-clause-count c = c.len.ensures.len ∙ btree_set_len-from_list int_cmp_total c.args.numbers.now c.in_ok-different.different c.in_ok-different.ensures

pub returns-clause-few : goal.returns-clause-few
returns-clause-few c = let few = btree_set_len-le_from_list int_cmp_total c.args.numbers.now c.in_ok-different.different c.in_ok-different.ensures in omega arith
