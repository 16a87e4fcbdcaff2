-- What moves that a domain makes consist of: facts that words pick, and sets that give one fact what another one holds.
use Rattle.std.specs.Prelude.{ℕ, Option, slice_get}
use Rattle.std.specs.Option.{option_flatten}
use Rattle.plan_facts.specs.declared.record.Raw.{Raw}
use Rattle.plan_facts.specs.Plan.{PlanView, class_of}
use Rattle.plan_draws.specs.Picks.{picked}
use Rattle.plan_moves.specs.declared.edit.Set.{Set}

-- the fact of a class that a word picks, of all in the order of their ids; none where there is none
abbrev pub fact_picked : PlanView → ℕ → ℕ → Option Raw
fact_picked plan class word = picked word (class_of plan class).facts

-- what a variable of a fact holds: the id of a value, or null
abbrev pub held : Raw → ℕ → Option ℕ
held raw var = option_flatten (slice_get raw.values var)

-- the set that gives a variable of one fact what the same variable of another one holds
abbrev pub gives : ℕ → ℕ → Raw → Raw → Set
gives class var to from = record { class = class; id = to.id; var = var; value = held from var }
