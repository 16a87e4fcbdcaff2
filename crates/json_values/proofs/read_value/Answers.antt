use Rattle.std.proofs.Common.{◌≡◌, true}
use Rattle.json_values.proofs.Reading.{value_of-read, value_of-none}
use Rattle.json_values.proofs.read_value.Goals as goal

pub returns-in-Ok-clause-ok : goal.returns-in-Ok-clause-ok
returns-in-Ok-clause-ok c = value_of-read c.args.bytes.now _ c.in-Ok.ensures.ok.0 c.in-Ok.ensures.ok.1

pub returns-else-is_memory-clause-json : goal.returns-else-is_memory-clause-json
returns-else-is_memory-clause-json c e =
    value_of-none c.args.bytes.now (c.in-Err.ensures.err (λ memory. let yes : c.is_memory.result ≡ true = c.is_memory.ensures.1 memory in cc c.if-is_memory.false))
