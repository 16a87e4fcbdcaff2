-- What always holds of a network holds after each call.
use Rattle.std.proofs.Common.{◌≡◌, ◌<◌, ◌∙◌, ℕ, Vec, Bool, true, false, List, [], ◌∷◌, All, get_or, length, map, refl, sym, ap, subst}
use Rattle.std.specs.List.{AllZip}
use Rattle.std.proofs.lemmas.List.{length-map, with_items_is}
use Rattle.std.proofs.lemmas.Slice.Zip.{AllZip-long}
use Rattle.std.specs.Vec.{with_items}
use Rattle.std.proofs.lemmas.List.Elements.{All-cons, All-head, All-nil, All-tail}
use Rattle.plan_rules.specs.declared.row.Part.{Part}
use Rattle.plan_rules.specs.declared.rule.RuleDef.{RuleDef}
use Rattle.tuple_store.specs.View.{StoreView}
use Rattle.head_changes.specs.declared.changes.ClassChange.{ClassChange}
use Rattle.score_director.specs.declared.node.Kind.{Kind}
use Rattle.score_director.specs.declared.node.Kind.TheVariants as kind
use Rattle.score_director.specs.declared.node.NetNode.{NetNode}
use Rattle.score_director.specs.declared.rule.RuleAhead.{RuleAhead}
use Rattle.score_director.specs.declared.rule.RuleNet.{RuleNet}
use Rattle.score_director.specs.Chain.{KnowsClass}
use Rattle.score_director.specs.Net.{AreNetsOf}
use Rattle.score_director.specs.NetState.{IsNet}
use Rattle.score_director.specs.Nodes.{begun, committed, is_open, is_torn, kind_begun, kind_committed, kind_open, kind_rolled_back, kind_torn, rolled_back}
use Rattle.score_director.specs.Rule.{HasBegun, HasCommitted, HasPlaces, HasRolledBack, IsNetOf, IsRuleIdle, IsRuleOpen, IsRuleWhole, KeepsRuleBase, KnowsClasses}
use Rattle.score_director.proofs.RuleLaws.{length_rolled_back, same_stations}

-- what is so of members is so of those that are paired with them
pub zip_all : {X Y : Type 0} (R : X → Y → Type 0) (P : X → Type 0) (Q : Y → Type 0) → ((x : X) (y : Y) → R x y → P x → Q y) → (xs : List X) (ys : List Y) → AllZip R xs ys → All P xs → All Q ys
zip_all R P Q step [] [] paired all = All-nil Q
zip_all R P Q step [] (y ∷ ys) paired all = absurd paired
zip_all R P Q step (x ∷ xs) [] paired all = absurd paired
zip_all R P Q step (x ∷ xs) (y ∷ ys) paired all = All-cons Q y ys (step x y paired.0 (All-head P x xs all)) (zip_all R P Q step xs ys paired.1 (All-tail P x xs all))

pub zip_zip : {X Y Z : Type 0} (R : X → Y → Type 0) (S : X → Z → Type 0) (T : Y → Z → Type 0) → ((x : X) (y : Y) (z : Z) → R x y → S x z → T y z) → (xs : List X) (ys : List Y) (zs : List Z) → AllZip R xs ys → AllZip S xs zs → AllZip T ys zs
zip_zip R S T step [] [] [] paired other = tt
zip_zip R S T step [] (y ∷ ys) zs paired other = absurd paired
zip_zip R S T step [] [] (z ∷ zs) paired other = absurd other
zip_zip R S T step (x ∷ xs) [] zs paired other = absurd paired
zip_zip R S T step (x ∷ xs) (y ∷ ys) [] paired other = absurd other
zip_zip R S T step (x ∷ xs) (y ∷ ys) (z ∷ zs) paired other = (step x y z paired.0 other.0, zip_zip R S T step xs ys zs paired.1 other.1)

pub zip_behind : {X Y Z : Type 0} (R : X → Y → Type 0) (S : Z → X → Type 0) (T : Z → Y → Type 0) → ((x : X) (y : Y) (z : Z) → R x y → S z x → T z y) → (xs : List X) (ys : List Y) (zs : List Z) → AllZip R xs ys → AllZip S zs xs → AllZip T zs ys
zip_behind R S T step [] [] [] paired other = tt
zip_behind R S T step [] (y ∷ ys) zs paired other = absurd paired
zip_behind R S T step [] [] (z ∷ zs) paired other = absurd other
zip_behind R S T step (x ∷ xs) [] zs paired other = absurd paired
zip_behind R S T step (x ∷ xs) (y ∷ ys) [] paired other = absurd other
zip_behind R S T step (x ∷ xs) (y ∷ ys) (z ∷ zs) paired other = (step x y z paired.0 other.0, zip_behind R S T step xs ys zs paired.1 other.1)

-- what is so of each member's image is so of the images
all_mapped : {X Y : Type 0} (P : X → Type 0) (Q : Y → Type 0) (f : X → Y) → ((x : X) → P x → Q (f x)) → (xs : List X) → All P xs → All Q (map f xs)
all_mapped P Q f step [] all = All-nil Q
all_mapped P Q f step (x ∷ xs) all = All-cons Q (f x) (map f xs) (step x (All-head P x xs all)) (all_mapped P Q f step xs (All-tail P x xs all))

each_mapped : {X Y : Type 0} (Q : Y → Type 0) (f : X → Y) → ((x : X) → Q (f x)) → (xs : List X) → All Q (map f xs)
each_mapped Q f step [] = All-nil Q
each_mapped Q f step (x ∷ xs) = All-cons Q (f x) (map f xs) (step x) (each_mapped Q f step xs)

all_unmapped : {X Y : Type 0} (Q : Y → Type 0) (f : X → Y) (xs : List X) → All Q (map f xs) → All (λ x. Q (f x)) xs
all_unmapped Q f [] all = All-nil (λ x. Q (f x))
all_unmapped Q f (x ∷ xs) all = All-cons (λ x. Q (f x)) x xs (All-head Q (f x) (map f xs) all) (all_unmapped Q f xs (All-tail Q (f x) (map f xs) all))

-- nodes whose trial began are open, and torn as before
begun_open : (k : Kind) → kind_open (kind_begun k) ≡ true
begun_open (kind.Filter v) = refl
begun_open (kind.Join v) = refl
begun_open (kind.Exists v) = refl
begun_open (kind.Group v) = refl

begun_torn : (k : Kind) → kind_torn (kind_begun k) ≡ kind_torn k
begun_torn (kind.Filter v) = refl
begun_torn (kind.Join v) = refl
begun_torn (kind.Exists v) = refl
begun_torn (kind.Group v) = refl

-- nodes whose trial was taken back are closed, and whole
back_closed : (k : Kind) → kind_open (kind_rolled_back k) ≡ false
back_closed (kind.Filter v) = refl
back_closed (kind.Join v) = refl
back_closed (kind.Exists v) = refl
back_closed (kind.Group v) = refl

back_whole : (k : Kind) → kind_torn (kind_rolled_back k) ≡ false
back_whole (kind.Filter v) = refl
back_whole (kind.Join v) = refl
back_whole (kind.Exists v) = refl
back_whole (kind.Group v) = refl

-- nodes whose trial was kept are closed, and torn as before
kept_closed : (k : Kind) → kind_open (kind_committed k) ≡ false
kept_closed (kind.Filter v) = refl
kept_closed (kind.Join v) = refl
kept_closed (kind.Exists v) = refl
kept_closed (kind.Group v) = refl

kept_torn : (k : Kind) → kind_torn (kind_committed k) ≡ kind_torn k
kept_torn (kind.Filter v) = refl
kept_torn (kind.Join v) = refl
kept_torn (kind.Exists v) = refl
kept_torn (kind.Group v) = refl

module _ (changes : List ClassChange) where
  abbrev Knows : RuleNet → Type 0
  Knows = KnowsClasses changes changes

  begun_rule_knows : (old new : RuleNet) → HasBegun old new → Knows old → Knows new
  begun_rule_knows old new is knows = record {
    head = subst (λ (class : ℕ). class < length changes) (sym is.class) knows.head;
    nodes = subst (All (KnowsClass changes)) (sym is.nodes) (all_mapped (KnowsClass changes) (KnowsClass changes) begun (λ n k. k) old.nodes.items knows.nodes);
  }

  back_rule_knows : (old new : RuleNet) → HasRolledBack old new → Knows old → Knows new
  back_rule_knows old new is knows = record {
    head = subst (λ (class : ℕ). class < length changes) (sym is.class) knows.head;
    nodes = subst (All (KnowsClass changes)) (sym is.nodes) (all_mapped (KnowsClass changes) (KnowsClass changes) rolled_back (λ n k. k) old.nodes.items knows.nodes);
  }

  kept_rule_knows : (old new : RuleNet) → HasCommitted old new → Knows old → Knows new
  kept_rule_knows old new is knows = record {
    head = subst (λ (class : ℕ). class < length changes) (sym is.class) knows.head;
    nodes = subst (All (KnowsClass changes)) (sym is.nodes) (all_mapped (KnowsClass changes) (KnowsClass changes) committed (λ n k. k) old.nodes.items knows.nodes);
  }

  stored_rule_knows : (old new : RuleNet) → KeepsRuleBase old new → Knows old → Knows new
  stored_rule_knows old new is knows = record {
    head = subst (λ (class : ℕ). class < length changes) (sym is.class) knows.head;
    nodes =
        all_unmapped (KnowsClass changes) rolled_back new.nodes.items
        (subst (All (KnowsClass changes)) (sym is.nodes) (all_mapped (KnowsClass changes) (KnowsClass changes) rolled_back (λ n k. k) old.nodes.items knows.nodes));
  }

begun_rule_opens : (old new : RuleNet) → HasBegun old new → IsRuleIdle old → IsRuleOpen new
begun_rule_opens old new is idle = record {
  nodes = subst (All (λ n. is_open n ≡ true)) (sym is.nodes) (each_mapped (λ n. is_open n ≡ true) begun (λ n. begun_open n.kind) old.nodes.items);
  end = ap (λ v. v.is_open) is.end;
}

begun_rule_whole : (old new : RuleNet) → HasBegun old new → IsRuleWhole old → IsRuleWhole new
begun_rule_whole old new is whole = record {
  nodes = subst (All (λ n. is_torn n ≡ false)) (sym is.nodes) (all_mapped (λ n. is_torn n ≡ false) (λ n. is_torn n ≡ false) begun (λ n t. begun_torn n.kind ∙ t) old.nodes.items whole.nodes);
  end = ap (λ v. v.is_torn) is.end ∙ whole.end;
}

back_rule_closed : (old new : RuleNet) → HasRolledBack old new → IsRuleOpen old → IsRuleIdle new
back_rule_closed old new is opened = record {
  nodes = subst (All (λ n. is_open n ≡ false)) (sym is.nodes) (each_mapped (λ n. is_open n ≡ false) rolled_back (λ n. back_closed n.kind) old.nodes.items);
  end = ap (λ v. v.is_open) is.end;
}

back_rule_whole : (old new : RuleNet) → HasRolledBack old new → IsRuleOpen old → IsRuleWhole new
back_rule_whole old new is opened = record {
  nodes = subst (All (λ n. is_torn n ≡ false)) (sym is.nodes) (each_mapped (λ n. is_torn n ≡ false) rolled_back (λ n. back_whole n.kind) old.nodes.items);
  end = ap (λ v. v.is_torn) is.end;
}

kept_rule_closed : (old new : RuleNet) → HasCommitted old new → IsRuleOpen old → IsRuleIdle new
kept_rule_closed old new is opened = record {
  nodes = subst (All (λ n. is_open n ≡ false)) (sym is.nodes) (each_mapped (λ n. is_open n ≡ false) committed (λ n. kept_closed n.kind) old.nodes.items);
  end = ap (λ v. v.is_open) is.end;
}

kept_rule_whole : (old new : RuleNet) → HasCommitted old new → IsRuleWhole old → IsRuleWhole new
kept_rule_whole old new is whole = record {
  nodes = subst (All (λ n. is_torn n ≡ false)) (sym is.nodes) (all_mapped (λ n. is_torn n ≡ false) (λ n. is_torn n ≡ false) committed (λ n t. kept_torn n.kind ∙ t) old.nodes.items whole.nodes);
  end = ap (λ v. v.is_torn) is.end ∙ whole.end;
}

-- there are as many places as before
begun_places : (old new : RuleNet) (found : RuleAhead) → HasBegun old new → HasPlaces old found → HasPlaces new found
begun_places old new found is places = places ∙ sym (length-map old.nodes.items begun) ∙ ap (λ (ns : List NetNode). length ns) (sym is.nodes)

back_places : (old new : RuleNet) (found : RuleAhead) → HasRolledBack old new → HasPlaces old found → HasPlaces new found
back_places old new found is places = places ∙ sym (length-map old.nodes.items rolled_back) ∙ ap (λ (ns : List NetNode). length ns) (sym is.nodes)

kept_places : (old new : RuleNet) (found : RuleAhead) → HasCommitted old new → HasPlaces old found → HasPlaces new found
kept_places old new found is places = places ∙ sym (length-map old.nodes.items committed) ∙ ap (λ (ns : List NetNode). length ns) (sym is.nodes)

stored_places : (old new : RuleNet) (found : RuleAhead) → KeepsRuleBase old new → HasPlaces old found → HasPlaces new found
stored_places old new found is places = places ∙ sym (length_rolled_back new.nodes.items old.nodes.items is.nodes)

-- a rule that stored is the same rule
stored_is : (old new : RuleNet) (def : RuleDef) → KeepsRuleBase old new → IsNetOf def old → IsNetOf def new
stored_is old new def keeps is = record {
  class = keeps.class ∙ is.class;
  nulls = keeps.nulls ∙ is.nulls;
  stations = same_stations new.nodes.items old.nodes.items keeps.nodes ∙ is.stations;
  weigher = ap (λ v. v.weigher) keeps.end ∙ is.weigher;
}

pub stored_nets : (old new : List RuleNet) (defs : List RuleDef) → AllZip KeepsRuleBase old new → AreNetsOf defs old → AreNetsOf defs new
stored_nets old new defs keeps are = zip_behind KeepsRuleBase IsNetOf IsNetOf (λ x y z. stored_is x y z) old new defs keeps are

pub torn_whole : true ≡ false → ⊥
torn_whole e = cc

no_open : true ≡ false → ⊥
no_open e = cc

no_closed : false ≡ true → ⊥
no_closed e = cc

module _ (heads later : StoreView (List Part)) (old new : List RuleNet) (changes : List ClassChange) (found : List RuleAhead) (torn : Bool) where
  pub net_begun : heads.is_open ≡ false → later.is_open ≡ true → AllZip HasBegun old new → IsNet heads old changes found torn → IsNet later new changes found torn
  net_begun closed opened began is = record {
    places = zip_zip HasBegun HasPlaces HasPlaces begun_places old new found began is.places;
    known = zip_all HasBegun (KnowsClasses changes changes) (KnowsClasses changes changes) (begun_rule_knows changes) old new began is.known;
    opened = λ e. zip_all HasBegun IsRuleIdle IsRuleOpen begun_rule_opens old new began (is.idle closed);
    idle = λ e. absurd (no_open (sym opened ∙ e));
    whole = λ e. zip_all HasBegun IsRuleWhole IsRuleWhole begun_rule_whole old new began (is.whole (is.calm closed));
    calm = λ e. is.calm closed;
  }

  pub net_back : heads.is_open ≡ true → later.is_open ≡ false → AllZip HasRolledBack old new → IsNet heads old changes found torn → IsNet later new changes found false
  net_back opened closed back is = record {
    places = zip_zip HasRolledBack HasPlaces HasPlaces back_places old new found back is.places;
    known = zip_all HasRolledBack (KnowsClasses changes changes) (KnowsClasses changes changes) (back_rule_knows changes) old new back is.known;
    opened = λ e. absurd (no_closed (sym closed ∙ e));
    idle = λ e. zip_all HasRolledBack IsRuleOpen IsRuleIdle back_rule_closed old new back (is.opened opened);
    whole = λ e. zip_all HasRolledBack IsRuleOpen IsRuleWhole back_rule_whole old new back (is.opened opened);
    calm = λ e. refl;
  }

  pub net_kept : heads.is_open ≡ true → later.is_open ≡ false → torn ≡ false → AllZip HasCommitted old new → IsNet heads old changes found torn → IsNet later new changes found torn
  net_kept opened closed sound kept is = record {
    places = zip_zip HasCommitted HasPlaces HasPlaces kept_places old new found kept is.places;
    known = zip_all HasCommitted (KnowsClasses changes changes) (KnowsClasses changes changes) (kept_rule_knows changes) old new kept is.known;
    opened = λ e. absurd (no_closed (sym closed ∙ e));
    idle = λ e. zip_all HasCommitted IsRuleOpen IsRuleIdle kept_rule_closed old new kept (is.opened opened);
    whole = λ e. zip_all HasCommitted IsRuleWhole IsRuleWhole kept_rule_whole old new kept (is.whole sound);
    calm = λ e. sound;
  }

-- what is known of changes is known of others of as many classes
pub knows_same : (changes others : List ClassChange) (nets : List RuleNet) → length others ≡ length changes → All (KnowsClasses changes changes) nets → All (KnowsClasses others others) nets
knows_same changes others nets same know = λ k d within. (let is = know k d within in record {
  head = subst (λ (n : ℕ). (get_or nets k d).class < n) (sym same) is.head;
  nodes = λ j e there. subst (λ (n : ℕ). (get_or (get_or nets k d).nodes.items j e).class < n) (sym same) (is.nodes j e there);
})

-- a network that stored, whole or torn
pub net_stored : (heads later : StoreView (List Part)) (old new : List RuleNet) (changes others : List ClassChange) (found looked : List RuleAhead) (before torn : Bool)
    → heads.is_open ≡ true → later.is_open ≡ true → length others ≡ length changes → AllZip KeepsRuleBase old new → AllZip HasPlaces old looked
    → All IsRuleOpen new → (torn ≡ false → All IsRuleWhole new) → IsNet heads old changes found before → IsNet later new others looked torn
net_stored heads later old new changes others found looked before torn opened still same keeps places opens whole is = record {
  places = zip_zip KeepsRuleBase HasPlaces HasPlaces stored_places old new looked keeps places;
  known = zip_all KeepsRuleBase (KnowsClasses others others) (KnowsClasses others others) (stored_rule_knows others) old new keeps (knows_same changes others old same is.known);
  opened = λ e. opens;
  idle = λ e. absurd (no_open (sym still ∙ e));
  whole = whole;
  calm = λ e. absurd (no_open (sym still ∙ e));
}

-- lists that are paired with those of a vector are as long, so that they may be put in their place
pub kept_items : {X Z : Type 0} (R : X → X → Type 0) (vec : Vec X Z) (new : List X) → AllZip R vec.items new → (with_items vec new).items ≡ new
kept_items R vec new paired = with_items_is vec new (AllZip-long R vec.items new paired ∙ sym vec.ok.0)
