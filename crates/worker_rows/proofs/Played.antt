-- A worker after a candidate was played judges by the same rules as before.
use Rattle.std.proofs.Common.{◌≡◌, ℕ, List, Option, Some, None, refl, subst, sym}
use Rattle.plan_moves.specs.declared.edit.Set.{Set}
use Rattle.plan_rules.specs.declared.rule.RuleDef.{RuleDef}
use Rattle.plan_rules.specs.Range.{MayJudge, sizes_of}
use Rattle.score_director.proofs.Worth.{sizes_of-applied}
use Rattle.move_workers.specs.Judging.{WorkerView, played}

-- what rules may judge they may judge once a candidate is played
pub judges_played : (rules : List RuleDef) (caps : List ℕ) (worker : WorkerView) (candidate : Option (List Set))
    → MayJudge rules caps worker.director.weights (sizes_of worker.director.plan)
    → MayJudge rules caps (played worker candidate).director.weights (sizes_of (played worker candidate).director.plan)
judges_played rules caps worker None may = may
judges_played rules caps worker (Some sets) may =
    subst (MayJudge rules caps worker.director.weights) (sym (sizes_of-applied worker.director.plan sets)) may

-- the rules stay
pub rules_played : (worker : WorkerView) (candidate : Option (List Set)) → (played worker candidate).director.rules ≡ worker.director.rules
rules_played worker None = refl
rules_played worker (Some sets) = refl
