use Rattle.std.proofs.Common.{sym, arith}
use Rattle.plan_facts.proofs.NamesLaws.{with_name-there}
use Rattle.plan_changes.proofs.Numbered.{new_longer}
use Rattle.plan_changes.proofs.perform.number_text.Goals as goal

pub number-requires : goal.number-requires
number-requires c = let longer = new_longer c.args.names.now c.args.text.now (sym c.in-None.ensures.place) in omega arith

pub returns-in-Some-clause-ok : goal.returns-in-Some-clause-ok
returns-in-Some-clause-ok c = sym (with_name-there c.args.names.now c.args.text.now c.in-Some.field-0 (sym c.in-Some.ensures.place))
