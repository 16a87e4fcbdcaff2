use Rattle.std.proofs.Common.{rules}
use Rattle.fact_rows.proofs.tests.plan.add_and_take_back.Goals as goal

pub take_back_newest-requires : goal.take_back_newest-requires
take_back_newest-requires c = record {
  before = c.args.plan.now;
  fields = _;
  values = _;
  sound = c.classes.ensures.sound;
  there = search rules;
  is = c.in_ok-add.ensures.now;
}
