use Rattle.std.proofs.Common.{ap, inr, Err, None}
use Rattle.plan_json.proofs.ReadLaws.{problem_of-long, problem_of-value, bytes_read}
use Rattle.plan_json.proofs.read.read_problem.Goals as goal

pub returns-then-bytes-gt-BYTE_LIMIT-clause-problem : goal.returns-then-bytes-gt-BYTE_LIMIT-clause-problem
returns-then-bytes-gt-BYTE_LIMIT-clause-problem g c = inr (problem_of-long _ c.args.bytes.now c.if-bytes-gt-BYTE_LIMIT.true)

pub returns-in-Ok-clause-problem : goal.returns-in-Ok-clause-problem
returns-in-Ok-clause-problem g c =
    bytes_read _ c.args.bytes.now _ c.read_root.result c.if-bytes-gt-BYTE_LIMIT.false c.in-Ok.ensures.ok c.read_root.ensures.problem

pub returns-in-Err-Json-clause-problem : goal.returns-in-Err-Json-clause-problem
returns-in-Err-Json-clause-problem g c =
    inr (problem_of-value _ c.args.bytes.now None c.if-bytes-gt-BYTE_LIMIT.false (c.in-Err-Json.ensures.json (ap (λ fault. Err fault) c.in-Err-Json.field-0-is)))
