-- The closures that a node of a rule asks were handed in, and how it stands without rows.
use Rattle.std.specs.Option.{option_map}
use Rattle.std.proofs.Common.{◌≡◌, ◌∙◌, ◌<◌, ℕ, zero, suc, List, [], ◌∷◌, Bool, Option, Some, IfSome, IsSome, Result, Ok, Err, OnOk, All, false, true, length, get_or, slice_get, refl, subst, sym, arith}
use Rattle.plan_rules.specs.declared.places.Numbers.{Numbers}
use Rattle.plan_rules.specs.declared.rule.Head.{Head}
use Rattle.plan_rules.specs.declared.rule.Node.{Node}
use Rattle.plan_rules.specs.declared.rule.Node.TheVariants as node
use Rattle.plan_rules.specs.declared.rule.RuleDef.{RuleDef}
use Rattle.plan_rules.specs.Named.{node_closures, node_joiners}
use Rattle.plan_rules.specs.Sound.{IsHandedIn, IsSound, IsSoundNode}
use Rattle.join_keys.specs.Keys as keys
use Rattle.stream_join.specs.Join.{JoinView}
use Rattle.stream_join.specs.Nodes.{empty_join, empty_pairs}
use Rattle.stream_exists.specs.Views.{ExistsView, KeepsExists}
use Rattle.stream_exists.specs.Nodes.{empty_exists}
use Rattle.stream_group.specs.Group.{GroupView}
use Rattle.stream_group.specs.Grouped as grouped
use Rattle.stream_group.specs.Nodes.{empty_group, grouping_in}
use Rattle.trial_bench.specs.Stands.{JoinStands, ExistsStands, GroupStands}

-- what holds of all holds of the one at a place
at_place : {X : Type 0} (P : X → Type 0) (xs : List X) (k : ℕ) (x : X) → ((j : ℕ) (d : X) → j < length xs → P (get_or xs j d)) → slice_get xs k ≡ Some x → P x
at_place P [] k x all is = absurd cc
at_place P (y ∷ ys) zero x all is = let here : y ≡ x = cc in subst P here (all 0 x (omega arith))
at_place P (y ∷ ys) (suc k) x all is = at_place P ys k x (λ j d within. all (suc j) d (omega arith)) is

-- the closures of a node of a sound rule
pub closures_at : (classes : ℕ) (numbers : Numbers) (def : RuleDef) (place : ℕ) (n : Node) → IsSound classes numbers def → Some n ≡ slice_get def.nodes place → All (IsHandedIn numbers) (node_closures n)
closures_at classes numbers def place n sound at =
    let here : IsSoundNode classes numbers n = at_place (IsSoundNode classes numbers) def.nodes place n sound.nodes (sym at) in
    here.closures

-- a node that is there
pub there_at : (found : Option Node) (n : Node) → Some n ≡ found → IsSome found
there_at found n is = subst (λ (o : Option Node). IsSome o) is refl

-- a node of a kind
pub kind_at : (kind : Node → Bool) (found : Option Node) (n : Node) → Some n ≡ found → kind n ≡ true → IfSome found (λ m. kind m ≡ true)
kind_at kind found n is holds = subst (λ (o : Option Node). IfSome o (λ m. kind m ≡ true)) is holds

-- what holds of a node without rows holds of the one that is made of the rule's node
made_at : {V : Type 0} (P : V → Type 0) (empty : Node → V) (found : Option Node) (n : Node) (made : V) → Some n ≡ found → IfSome found (λ m. made ≡ empty m) → P (empty n) → P made
made_at P empty found n made is made_is holds =
    let same : made ≡ empty n = subst (λ (o : Option Node). IfSome o (λ m. made ≡ empty m)) (sym is) made_is in
    subst P (sym same) holds

-- those of its joiners
joiners_handed : (numbers : Numbers) (n : Node) → All (IsHandedIn numbers) (node_closures n) → keys.AreHandedIn numbers (node_joiners n)
joiners_handed numbers (node.Filter test) all = λ k d within. absurd (omega arith)
joiners_handed numbers (node.Join class nulls joiners) all = all
joiners_handed numbers (node.IfExists class nulls joiners) all = all
joiners_handed numbers (node.IfNotExists class nulls joiners) all = all
joiners_handed numbers (node.GroupBy by collect) all = λ k d within. absurd (omega arith)

-- those of its grouping
grouping_handed : (numbers : Numbers) (n : Node) → All (IsHandedIn numbers) (node_closures n) → grouped.AreHandedIn numbers (grouping_in n)
grouping_handed numbers (node.Filter test) all = λ k d within. absurd (omega arith)
grouping_handed numbers (node.Join class nulls joiners) all = λ k d within. absurd (omega arith)
grouping_handed numbers (node.IfExists class nulls joiners) all = λ k d within. absurd (omega arith)
grouping_handed numbers (node.IfNotExists class nulls joiners) all = λ k d within. absurd (omega arith)
grouping_handed numbers (node.GroupBy by collect) all = all

-- a join that was just made
pub join_stands : (numbers : Numbers) (found : Option Node) (n : Node) (made : JoinView) → Some n ≡ found → All (IsHandedIn numbers) (node_closures n) → IfSome found (λ m. made ≡ empty_join m) → JoinStands numbers made
join_stands numbers found n made is all made_is =
    made_at (JoinStands numbers) empty_join found n made is made_is (joiners_handed numbers n all, refl, refl)

-- an exists node that was just made
pub exists_stands : (numbers : Numbers) (found : Option Node) (n : Node) (made : ExistsView) → Some n ≡ found → All (IsHandedIn numbers) (node_closures n) → IfSome found (λ m. made ≡ empty_exists m) → ExistsStands false numbers made
exists_stands numbers found n made is all made_is =
    made_at (ExistsStands false numbers) empty_exists found n made is made_is (joiners_handed numbers n all, refl, refl)

-- an exists node that was led on
pub exists_led : {A E : Type 0} (numbers : Numbers) (old new : ExistsView) (result : Result A E) → ExistsStands true numbers old → KeepsExists old new → OnOk result (new.is_torn ≡ false) → OnOk result (ExistsStands true numbers new)
exists_led numbers old new (Ok done) stands kept whole =
    (subst (keys.AreHandedIn numbers) (sym kept.joiners) stands.0, kept.lefts.opened ∙ stands.1, whole)
exists_led numbers old new (Err fault) stands kept whole = tt

-- a group node that was just made
pub group_stands : (numbers : Numbers) (found : Option Node) (n : Node) (made : GroupView) → Some n ≡ found → All (IsHandedIn numbers) (node_closures n) → IfSome found (λ m. made ≡ empty_group (grouping_in m)) → GroupStands numbers made
group_stands numbers found n made is all made_is =
    made_at (GroupStands numbers) (λ (m : Node). empty_group (grouping_in m)) found n made is made_is (grouping_handed numbers n all, refl, refl)

-- the head of a rule that is there
pub head_there : (found : Option RuleDef) (def : RuleDef) → Some def ≡ found → IsSome (option_map (λ (d : RuleDef). d.head) found)
head_there found def is = subst (λ (o : Option RuleDef). IsSome (option_map (λ (d : RuleDef). d.head) o)) is refl

-- the head of a kind
pub head_kind : (kind : Head → Bool) (found : Option RuleDef) (def : RuleDef) → Some def ≡ found → kind def.head ≡ true → IfSome (option_map (λ (d : RuleDef). d.head) found) (λ h. kind h ≡ true)
head_kind kind found def is holds =
    subst (λ (o : Option RuleDef). IfSome (option_map (λ (d : RuleDef). d.head) o) (λ h. kind h ≡ true)) is holds

-- a join of pairs that was just made
pub pairs_stand : (classes : ℕ) (numbers : Numbers) (found : Option RuleDef) (def : RuleDef) (made : JoinView) → Some def ≡ found → IsSound classes numbers def → IfSome (option_map (λ (d : RuleDef). d.head) found) (λ h. made ≡ empty_pairs h) → JoinStands numbers made
pairs_stand classes numbers found def made is sound made_is =
    let same : made ≡ empty_pairs def.head = subst (λ (o : Option RuleDef). IfSome (option_map (λ (d : RuleDef). d.head) o) (λ h. made ≡ empty_pairs h)) (sym is) made_is in
    subst (JoinStands numbers) (sym same) (sound.head.closures, refl, refl)
