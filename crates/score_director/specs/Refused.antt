-- What a director refuses a change for.
use Rattle.std.specs.Prelude.{ℕ, ◌+◌, ◌||◌, Bool, List, Option, None, map, option_map, slice_set, if◌then◌else◌}
use Rattle.std.specs.Option.{option_or}
use Rattle.plan_facts.specs.declared.record.ClassDef.{ClassDef}
use Rattle.plan_rules.specs.declared.rule.RuleDef.{RuleDef}
use Rattle.plan_rules.specs.declared.fault.RangeFault.{RangeFault}
use Rattle.plan_rules.specs.declared.fault.RangeFault.TheVariants as range
use Rattle.plan_rules.specs.Range.{range_fault_of, size_of, sizes_of}
use Rattle.plan_changes.specs.Change.{ChangeView}
use Rattle.plan_changes.specs.Deeds.{is_add, is_weight}
use Rattle.plan_changes.specs.Ready.{ReadyView, ready_of}
use Rattle.plan_changes.specs.Refused.{change_fault}
use Rattle.plan_changes.specs.declared.change.Deed.{Deed}
use Rattle.plan_changes.specs.declared.fault.ChangeFault.{ChangeFault}
use Rattle.plan_changes.specs.declared.fault.ChangeFault.TheVariants.{RowsBound, ScoreRange}
use Rattle.score_director.specs.Changed.{changed}
use Rattle.score_director.specs.View.{DirectorView}

-- the names of rules
abbrev pub names_of : List RuleDef → List (List ℕ)
names_of rules = map (λ rule. rule.name) rules

-- a fault of the range of rows and score
abbrev pub of_range : RangeFault → ChangeFault
of_range (range.RowsBound rule) = RowsBound rule
of_range range.ScoreRange = ScoreRange

-- what rules are refused for under these weights, caps and sizes of classes: too many rows, or too great a score
abbrev pub range_refusal : List ℕ → List RuleDef → List ℕ → List ℕ → Option ChangeFault
range_refusal sizes rules weights caps = option_map of_range (range_fault_of sizes rules weights caps)

-- the sizes of classes once a fact is added to one of them
abbrev pub sizes_with_one : List ℕ → ℕ → List ℕ
sizes_with_one sizes class = slice_set sizes class (size_of sizes class + 1)

-- the deed may lead to more rows or to a greater score: it makes a fact or gives a rule another weight
abbrev pub may_widen : Deed → Bool
may_widen deed = is_add deed || is_weight deed

-- what a director is refused for, where the match weights of its rules have these caps
abbrev pub refusal_seen : List ℕ → DirectorView → Option ChangeFault
refusal_seen caps seen = range_refusal (sizes_of seen.plan) seen.rules seen.weights caps

-- what a change is refused for that may lead to more rows or to a greater score: too many rows, or too great a score
abbrev pub widening_fault : List ℕ → DirectorView → List (List ℕ) → ReadyView → Option ChangeFault
widening_fault caps seen names ready =
    if may_widen ready.deed then refusal_seen caps (changed seen ready names) else None

-- what a change comes to that isn't refused
abbrev pub ready_for : List ClassDef → DirectorView → ChangeView → ReadyView
ready_for classes seen change = ready_of classes seen.plan (names_of seen.rules) change

-- what a change is refused for, the first that applies
abbrev pub ready_fault : List ClassDef → List ℕ → DirectorView → List (List ℕ) → ChangeView → Option ChangeFault
ready_fault classes caps seen names change =
    option_or (change_fault classes seen.plan (names_of seen.rules) change)
    (widening_fault caps seen names (ready_for classes seen change))
