-- Which matches indict which facts.
use Rattle.std.specs.Prelude.{◌==◌, ◌&&◌, ℕ, Bool, false, Option, Some, None, option_and_then, List, filter, map, flat_map, length, slice_get}
use Rattle.std.specs.Option.{option_map_or}
use Rattle.std.specs.List.{list_any, range_with_len}
use Rattle.plan_facts.specs.declared.record.Raw.{Raw}
use Rattle.plan_facts.specs.Plan.{PlanView, class_of}
use Rattle.plan_rules.specs.declared.row.Part.{Part}
use Rattle.plan_rules.specs.declared.row.Part.TheVariants.{Fact, Num}
use Rattle.plan_rules.specs.declared.row.Match.{Match}

-- whether a part of a row is this fact of a class
abbrev pub is_fact : ℕ → ℕ → Part → Bool
is_fact class id (Fact rec) = (class == rec.class) && (id == rec.id)
is_fact class id (Num n) = false

-- whether the part at a place of a row is this fact of a class
abbrev pub is_fact_at : List Part → ℕ → ℕ → ℕ → Bool
is_fact_at row n class id = option_map_or (is_fact class id) (slice_get row n) false

-- the class and the id of a part that is a fact
abbrev pub fact_in : Part → Option (ℕ × ℕ)
fact_in (Fact rec) = Some (rec.class, rec.id)
fact_in (Num n) = None

-- the class and the id of the fact at a place of a row
abbrev pub fact_at : List Part → ℕ → Option (ℕ × ℕ)
fact_at row n = option_and_then fact_in (slice_get row n)

-- whether a fact is a part of a match
abbrev pub is_part : ℕ → ℕ → Match → Bool
is_part class id one = list_any (is_fact class id) one.row

-- the matches of which a fact is a part, each once
abbrev pub matches_with : ℕ → ℕ → List Match → List Match
matches_with class id matches = filter (is_part class id) matches

-- the matches of all rules, those of one rule after those of the other
abbrev pub all_of : List (List Match) → List Match
all_of matches = flat_map (λ of_rule. of_rule) matches

-- a fact, by its class and id
pub record Named : Type 0 where
  pub class : ℕ
  pub id : ℕ

-- a record of a class as a fact
abbrev pub named : ℕ → Raw → Named
named class raw = record { class = class; id = raw.id }

-- the facts of a class, the ids increasing
abbrev pub facts_in : PlanView → ℕ → List Named
facts_in plan class = map (named class) (class_of plan class).facts

-- all facts of a plan: their classes in the schema's order, in each the ids increasing
abbrev pub facts_of : PlanView → List Named
facts_of plan = flat_map (facts_in plan) (range_with_len 0 (length plan.classes))

-- whether a fact is a part of some match
abbrev pub is_indicted : List Match → Named → Bool
is_indicted matches fact = list_any (is_part fact.class fact.id) matches

-- the facts of a plan that are parts of matches
abbrev pub indicted_of : List Match → PlanView → List Named
indicted_of matches plan = filter (is_indicted matches) (facts_of plan)
