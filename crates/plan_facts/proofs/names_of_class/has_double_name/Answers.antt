use Rattle.std.proofs.Common.{arith}
use Rattle.std.proofs.lemmas.Grind.{common_steps}
use Rattle.plan_facts.specs.Schema.{member_names}
use Rattle.plan_facts.proofs.Lists.{drop-member}
use Rattle.plan_facts.proofs.names_of_class.has_double_name.Goals as goal

pub returns-then-stands_from : goal.returns-then-stands_from
returns-then-stands_from c = grind (arith, common_steps, drop-member (member_names c.args.class.now) c.loop-place.place c.member_name.result.now c.member_name.ensures)

pub loop-place-preserved : goal.loop-place-preserved
loop-place-preserved c = grind (arith, common_steps, drop-member (member_names c.args.class.now) c.loop-place.place c.member_name.result.now c.member_name.ensures)
