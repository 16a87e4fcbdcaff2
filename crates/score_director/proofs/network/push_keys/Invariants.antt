use Rattle.std.proofs.Common.{◌≡◌, ◌++◌, map, take}
use Rattle.plan_facts.specs.Plan.{ids_of}
use Rattle.score_director.proofs.network.push_keys.Given as goal

-- the keys of the ids so far were appended
abbrev pub invariant-loop-id : goal.invariant-loop-id
invariant-loop-id l = l.keys.items ≡ l.initial.keys.items ++ map (λ id. record { class = l.class; id = id }) (take l.id-index (ids_of l.plan l.class))
