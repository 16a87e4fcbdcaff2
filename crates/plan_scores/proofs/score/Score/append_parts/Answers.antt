use Rattle.std.proofs.Common.{rules, append_assoc}
use Rattle.plan_scores.proofs.score.Score.append_parts.Goals as goal

pub returns-clause-ok : goal.returns-clause-ok
returns-clause-ok c = search (rules, append_assoc)
