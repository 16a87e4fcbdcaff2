-- What a change leads to.
use Rattle.std.specs.Prelude.{ℕ, List}
use Rattle.plan_changes.specs.Performed.{plan_after, weights_after}
use Rattle.plan_changes.specs.Ready.{ReadyView}
use Rattle.score_director.specs.View.{DirectorView, at_rest}

-- the director once a change was made
abbrev pub changed : DirectorView → ReadyView → List (List ℕ) → DirectorView
changed seen ready names =
    at_rest seen.rules (weights_after ready seen.weights) (plan_after ready names seen.plan)
