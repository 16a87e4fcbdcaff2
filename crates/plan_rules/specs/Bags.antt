-- Rows without their order.
use Rattle.std.specs.Prelude.{◌≡◌, ◌≢◌, ℕ, List, ◌++◌, AllPairs, sum_by}

-- both lists have the same members, each as often: whatever each member weighs, the lists weigh as much
pub record AreSame {X : Type 0} (xs ys : List X) : Type 0 where
  pub sums : (weight : X → ℕ) → sum_by weight xs ≡ sum_by weight ys

-- the old rows with those that came are the new rows with those that went
abbrev pub Leads : {X : Type 0} → List X → List X → List X → List X → Type 0
Leads old gone come new = AreSame (old ++ come) (new ++ gone)

-- what is made of old members, and of those that went and came, leads to what is made of the new members
abbrev pub LeadsThrough : {X Y : Type 0} → (List X → List Y) → List X → List X → List X → List X → Type 0
LeadsThrough make old gone come new = Leads (make old) (make gone) (make come) (make new)

-- none stands twice
abbrev pub AreDifferent : {X : Type 0} → List X → Type 0
AreDifferent xs = AllPairs (λ one other. one ≢ other) xs
