-- Lists within others, whatever their order.
use Rattle.std.specs.Prelude.{◌≤◌, ◌++◌, ℕ, List, sum_by}
use Rattle.plan_rules.specs.Bags.{AreSame}

-- each member of one list stands as often in the other: whatever each weighs, the one weighs no more
pub record IsPartOf {X : Type 0} (part whole : List X) : Type 0 where
  pub sums : (weight : X → ℕ) → sum_by weight part ≤ sum_by weight whole

-- a list gained these, in some order
abbrev pub Gains : {X : Type 0} → List X → List X → List X → Type 0
Gains before after more = AreSame after (before ++ more)
