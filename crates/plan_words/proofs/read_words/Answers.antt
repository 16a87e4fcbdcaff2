use Rattle.std.proofs.Common.{rules}
use Rattle.plan_words.proofs.Sizes.{sized}
use Rattle.plan_words.proofs.read_words.Goals as goal

pub returns-in_ok-read-in-Some-clause-sized : goal.returns-in_ok-read-in-Some-clause-sized
returns-in_ok-read-in-Some-clause-sized c = sized c.args.words.now c.in_ok-read-in-Some.field-0 (search rules)
