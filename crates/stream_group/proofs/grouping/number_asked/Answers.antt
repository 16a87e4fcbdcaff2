use Rattle.std.proofs.Common.{arith}
use Rattle.plan_rules.specs.Named.{key_named}
use Rattle.stream_group.proofs.grouping.number_asked.Goals as goal

pub key_of-requires-clause-there : goal.key_of-requires-clause-there
key_of-requires-clause-there g c κs within = let there = rw c.in-CountDistinct.is at c.requires.there in there 0 (key_named c.in-CountDistinct.key) (omega arith)

pub key_of-requires-in-Sum-clause-there : goal.key_of-requires-in-Sum-clause-there
key_of-requires-in-Sum-clause-there g c κs within = let there = rw c.in-Sum.is at c.requires.there in there 0 (key_named c.in-Sum.key) (omega arith)

pub key_of-requires-in-Min-clause-there : goal.key_of-requires-in-Min-clause-there
key_of-requires-in-Min-clause-there g c κs within = let there = rw c.in-Min.is at c.requires.there in there 0 (key_named c.in-Min.key) (omega arith)

pub key_of-requires-in-Max-clause-there : goal.key_of-requires-in-Max-clause-there
key_of-requires-in-Max-clause-there g c κs within = let there = rw c.in-Max.is at c.requires.there in there 0 (key_named c.in-Max.key) (omega arith)
