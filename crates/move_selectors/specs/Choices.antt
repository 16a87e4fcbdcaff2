-- What two words choose of a class: a variable, and what it is set to.
use Rattle.std.specs.Prelude.{ℕ, Option, length, option_map}
use Rattle.std.specs.Option.{option_and_then}
use Rattle.plan_facts.specs.Plan.{PlanView, class_of}
use Rattle.plan_draws.specs.Picks.{picked, picked_place}
use Rattle.plan_moves.specs.Entities.{choices_of}
use Rattle.move_selectors.specs.declared.values.Choice.{Choice}

-- a variable of a class that one word picks, and the choice for it that another picks
unfoldable pub choice_of : PlanView → ℕ → ℕ → ℕ → Option Choice
choice_of plan class var_word value_word =
    option_and_then
    (λ var. option_map (λ value. record { var = var; value = value }) (picked value_word (choices_of plan class var)))
    (picked_place var_word (length (class_of plan class).ranges))
