-- A director's network from call to call.
use Rattle.std.proofs.Common.{◌≡◌, ◌∙◌, ◌<◌, ◌≤◌, ℕ, zero, suc, true, false, cond, List, [], ◌∷◌, Option, None, Some, All, length, refl, sym, ap, subst, arith}
use Rattle.std.specs.Prelude.{IfSome, option_map, slice_get}
use Rattle.std.proofs.lemmas.Slice.Zip.{AllZip-long}
use Rattle.std.proofs.lemmas.List.{length-map}
use Rattle.std.proofs.lemmas.List.Elements.{All-cons, All-nil}
use Rattle.plan_changes.specs.Deeds.{is_weight}
use Rattle.plan_changes.specs.Performed.{MayPerform, plan_after}
use Rattle.plan_changes.specs.Ready.{ReadyView}
use Rattle.plan_facts.specs.declared.record.ClassDef.{ClassDef}
use Rattle.plan_facts.specs.Plan.{ClassView, IsPlan, PlanView, records_of}
use Rattle.plan_moves.specs.declared.edit.Set.{Set}
use Rattle.plan_moves.specs.declared.edit.Touch.{Touch}
use Rattle.plan_moves.specs.Edits.{AreTouchesInOrder, applied, entity_of, is_first_touched, is_legal, is_legal_set, touched_by}
use Rattle.plan_moves.proofs.Shape.{both_left, both_right, legal_class}
use Rattle.plan_rules.specs.declared.places.Numbers.{Numbers}
use Rattle.plan_rules.specs.declared.rule.Harder.{Harder}
use Rattle.plan_rules.specs.declared.rule.RuleDef.{RuleDef}
use Rattle.plan_rules.specs.Faults.{rules_fault}
use Rattle.plan_rules.specs.Meaning.{Meaning}
use Rattle.plan_rules.specs.Range.{MayJudge, sizes_of}
use Rattle.plan_rules.proofs.Accepted.{sound_rules}
use Rattle.plan_rules.proofs.Lengths.{few_rows_in_range}
use Rattle.plan_rules.specs.declared.row.Part.{Part}
use Rattle.plan_rules.specs.Rows.{rule_rows}
use Rattle.plan_rules.proofs.Sums.{same-trans}
use Rattle.stream_heads.specs.Meant.{Rows}
use Rattle.score_director.specs.declared.rule.RuleNet.{RuleNet}
use Rattle.score_director.specs.Fresh.{IsFreshNet, no_facts}
use Rattle.score_director.specs.Net.{AreNetsOf, NetView, StandsForFacts, weights_of}
use Rattle.score_director.specs.NetState.{IsPlanInRange, IsSameNet, KeepsNet, NetBegan, NetCommitted, NetRolledBack, Turns}
use Rattle.score_director.specs.Rule.{IsNetOf}
use Rattle.score_director.specs.Standing.{AreRowsKept, HasRoomBeside, StoodBefore, rows_kept, totals_of}
use Rattle.score_director.proofs.FreshLaws.{fresh_nets_stand}
use Rattle.score_director.proofs.Standing.{back_own, back_stands, begun_own, begun_stands, kept_own, kept_stands, stands_keep, stands_weigh}
use Rattle.score_director.specs.Holders.{key_at, keys_about}
use Rattle.score_director.specs.Keys.{all_keys}
use Rattle.score_director.specs.Ordered.{BecomeRuleRows}
use Rattle.score_director.specs.Worth.{HasTurned, IsNetFor}
use Rattle.score_director.proofs.About.{about_known, about_turns}
use Rattle.score_director.proofs.Alike.{KeepsOthers, change_others}
use Rattle.score_director.proofs.AsMany.{as_many_classes}
use Rattle.score_director.proofs.AllKeys.{all_turn, keys_known}
use Rattle.plan_rules.proofs.Within.{plan_within}
use Rattle.score_director.proofs.Turned.{applied_sound}
use Rattle.score_director.proofs.Turning.{edit_turns_facts, plans_are_facts}
use Rattle.score_director.proofs.Worth.{sizes_of-applied}

-- what isn't there after a map wasn't there before
pub none_before : {X Y : Type 0} (f : X → Y) (x : Option X) → option_map f x ≡ None → x ≡ None
none_before f None is = refl
none_before f (Some x) is = absurd (let e : Some (f x) ≡ None = is in cc)

module _ (schema : List ClassDef) (numbers : Numbers) (rules : List RuleDef) (harders : List Harder) (accepted : rules_fault schema numbers rules harders ≡ None) where
  -- there is room beside rows in accepted rules
  pub rooms : All HasRoomBeside rules
  rooms = λ k d within. (sound_rules schema numbers rules harders accepted k d within).room

  -- and a plan that they may judge is in range
  pub in_range : (caps weights : List ℕ) (plan : PlanView) → MayJudge rules caps weights (sizes_of plan) → IsPlanInRange (sizes_of plan) rules plan
  in_range caps weights plan may = record {
    within = plan_within plan;
    rules = λ k d within. record {
      few = few_rows_in_range (sizes_of plan) rules weights caps may.range k d within;
      room = (sound_rules schema numbers rules harders accepted k d within).room;
    };
  }

-- an edit changes neither how many classes there are nor how many facts they have
pub classes_stay : (plan : PlanView) (sets : List Set) → length (applied plan sets).classes ≡ length plan.classes
classes_stay plan sets =
    let f : ClassView → ℕ = λ class. length class.facts in
    sym (length-map (applied plan sets).classes f) ∙ ap (λ (ns : List ℕ). length ns) (sizes_of-applied plan sets) ∙ length-map plan.classes f

-- the entities that a legal edit touches are of classes that there are
touched_known : (plan : PlanView) (sets : List Set) (count : ℕ) → is_legal plan sets ≡ true → length plan.classes ≤ count → All (λ (key : Touch). key.class < count) (touched_by sets)
touched_known plan [] count legal le = All-nil (λ (key : Touch). key.class < count)
touched_known plan (set ∷ rest) count legal le =
    let others = touched_by rest in
    let P : Touch → Type 0 = λ key. key.class < count in
    let class = legal_class plan set (both_left _ _ legal) in
    let all = touched_known plan rest count (both_right (is_legal_set plan set) _ legal) le in
    elim (is_first_touched (entity_of set) others) as (λ b. All P (cond b others (entity_of set ∷ others))) [
      | true ↦ all
      | false ↦ All-cons P (entity_of set) others (omega (arith, class, le)) all
    ]

module _ (m : Meaning) (rules : List RuleDef) where
  -- where a trial of the network begins, it is still the network for the plan
  pub begun_for : (plan : PlanView) (old new : NetView) → NetBegan old new → IsNetFor m rules plan old → IsNetFor m rules plan new
  begun_for plan old new began is = record {
    sound = is.sound;
    own = begun_own rules old new began is.own;
    room = is.room;
    classes = subst (λ (n : ℕ). length plan.classes ≤ n) (sym began.classes) is.classes;
    whole = began.torn;
    stands = begun_stands m rules old new (records_of plan) began is.stands;
  }

  pub kept_for : (plan : PlanView) (old new : NetView) → NetCommitted old new → IsNetFor m rules plan old → IsNetFor m rules plan new
  kept_for plan old new kept is = record {
    sound = is.sound;
    own = kept_own rules old new kept is.own;
    room = is.room;
    classes = subst (λ (n : ℕ). length plan.classes ≤ n) (sym kept.classes) is.classes;
    whole = kept.torn;
    stands = kept_stands m rules old new (records_of plan) kept is.stands;
  }

  -- a rollback brings back the network for the plan that was
  pub back_for : (plan : PlanView) (old new : NetView) → NetRolledBack old new → IsPlan plan → AreNetsOf rules old.rules → All HasRoomBeside rules
      → length plan.classes ≤ old.classes → StoodBefore m rules old (records_of plan) → IsNetFor m rules plan new
  back_for plan old new back sound own room classes stood = record {
    sound = sound;
    own = back_own rules old new back own;
    room = room;
    classes = subst (λ (n : ℕ). length plan.classes ≤ n) (sym back.classes) classes;
    whole = back.torn;
    stands = back_stands m rules old new (records_of plan) back stood;
  }

  -- after a look it is the network for the plan
  pub same_for : (plan : PlanView) (old new : NetView) → IsSameNet old new → IsNetFor m rules plan old → IsNetFor m rules plan new
  same_for plan old new same is = record {
    sound = is.sound;
    own = subst (AreNetsOf rules) (sym same.rules) is.own;
    room = is.room;
    classes = subst (λ (n : ℕ). length plan.classes ≤ n) (sym same.classes) is.classes;
    whole = same.torn ∙ is.whole;
    stands =
        subst (λ (heads : Rows). StandsForFacts m rules heads new.rules (records_of plan)) (sym same.now)
        (subst (λ (nets : List RuleNet). StandsForFacts m rules old.heads.now nets (records_of plan)) (sym same.rules) is.stands);
  }

  -- an edit turns the plan that the network stands for
  pub edit_turns : (plan after : PlanView) (net : NetView) (sets : List Set) (touches keys : List Touch) → IsNetFor m rules plan net → is_legal plan sets ≡ true
      → touches ≡ touched_by sets → AreTouchesInOrder touches → keys ≡ touches → after ≡ applied plan sets → HasTurned m rules net keys after
  edit_turns plan after net sets touches keys is legal touched order same done =
      let T : List Touch → Type 0 = λ ks. HasTurned m rules net ks after in
      let A : PlanView → Type 0 = λ p. HasTurned m rules net (touched_by sets) p in
      subst T (sym (same ∙ touched))
      (subst A (sym done) (record {
        sound = applied_sound plan sets is.sound legal;
        own = is.own;
        classes = subst (λ (n : ℕ). n ≤ net.classes) (sym (classes_stay plan sets)) is.classes;
        known = touched_known plan sets net.classes legal is.classes;
        facts = records_of plan;
        stands = is.stands;
        turn = edit_turns_facts plan sets is.sound legal (subst AreTouchesInOrder touched order);
      }))

  -- where a trial of the network begins, what has turned since it stood still has
  pub begun_turned : (plan : PlanView) (keys : List Touch) (old new : NetView) → NetBegan old new → HasTurned m rules old keys plan → HasTurned m rules new keys plan
  begun_turned plan keys old new began has = record {
    sound = has.sound;
    own = begun_own rules old new began has.own;
    classes = subst (λ (n : ℕ). length plan.classes ≤ n) (sym began.classes) has.classes;
    known = subst (λ (n : ℕ). All (λ (key : Touch). key.class < n) keys) (sym began.classes) has.known;
    facts = has.facts;
    stands = begun_stands m rules old new has.facts began has.stands;
    turn = has.turn;
  }

  -- a change of a fact turns what the network stands for at the keys about the fact
  pub change_turns : (plan after : PlanView) (net : NetView) (keys : List Touch) (ready : ReadyView) (names : List (List ℕ)) (count : ℕ) → IsNetFor m rules plan net → IsPlan after → MayPerform ready plan count → is_weight ready.deed ≡ false
      → after ≡ plan_after ready names plan → keys ≡ keys_about plan (key_at ready.class ready.id) → HasTurned m rules net keys after
  change_turns plan after net keys ready names count is sound may fact done about =
      let made = may.fact fact in
      let there = made.fits.there in
      let many : length after.classes ≡ length plan.classes = ap (λ (p : PlanView). length p.classes) done ∙ as_many_classes ready names plan count may in
      let le = is.classes in
      let others = subst (KeepsOthers ready.class ready.id plan) (sym done) (change_others ready names plan is.sound made fact) in
      subst (λ (ks : List Touch). HasTurned m rules net ks after) (sym about) (record {
        sound = sound;
        own = is.own;
        classes = omega (arith, le, many);
        known = about_known plan (key_at ready.class ready.id) net.classes (omega (arith, there, le)) le;
        facts = records_of plan;
        stands = is.stands;
        turn = about_turns plan after (key_at ready.class ready.id) is.sound sound others;
      })

  -- where a network stood for facts that turned, and turned with them, it is the network for the plan
  pub turned_for : (plan : PlanView) (keys : List Touch) (old new : NetView) → HasTurned m rules old keys plan → IsPlanInRange (sizes_of plan) rules plan → All HasRoomBeside rules
      → KeepsNet old new → AreNetsOf rules new.rules → new.is_torn ≡ false → Turns m rules old new keys plan → IsNetFor m rules plan new
  turned_for plan keys old new has range room keeps own whole turns = record {
    sound = has.sound;
    own = own;
    room = room;
    classes = subst (λ (n : ℕ). length plan.classes ≤ n) (sym keeps.classes) has.classes;
    whole = whole;
    stands = turns has.facts (sizes_of plan) has.stands has.turn range;
  }

  -- nothing turns into the records of a plan, and the network without records stands for nothing
  pub fresh_turns : (plan : PlanView) (net begun : NetView) (count : ℕ) (keys : List Touch) → IsPlan plan → length plan.classes ≤ count → IsFreshNet count rules net → NetBegan net begun
      → keys ≡ all_keys plan → HasTurned m rules begun keys plan
  fresh_turns plan net begun count keys sound le fresh began are =
      let stand = fresh_nets_stand m count rules net fresh in
      subst (λ (ks : List Touch). HasTurned m rules begun ks plan) (sym are) (record {
        sound = sound;
        own = begun_own rules net begun began stand.0;
        classes = subst (λ (n : ℕ). length plan.classes ≤ n) (sym (began.classes ∙ fresh.classes)) le;
        known = keys_known plan begun.classes (subst (λ (n : ℕ). length plan.classes ≤ n) (sym (began.classes ∙ fresh.classes)) le);
        facts = no_facts;
        stands = begun_stands m rules net begun no_facts began stand.1;
        turn = all_turn plan sound;
      })

  -- the totals of a plan's network are what the matches of each rule weigh together
  pub totals_are : (plan : PlanView) (net : NetView) → IsNetFor m rules plan net → totals_of net.rules ≡ weights_of m (records_of plan) rules
  totals_are plan net is = stands_weigh m rules net (records_of plan) is.own is.room (plans_are_facts plan is.sound).by_id is.stands

-- where there is a place, something stands there
some_at : {X : Type 0} (xs : List X) (k : ℕ) → k < length xs → (x : X) × (slice_get xs k ≡ Some x)
some_at [] k within = absurd (omega (arith, within))
some_at (x ∷ xs) zero within = (x, refl)
some_at (x ∷ xs) (suc k) within = some_at xs k (omega (arith, within))

module _ (m : Meaning) (rules : List RuleDef) (plan : PlanView) (net : NetView) (is : IsNetFor m rules plan net) where
  -- each rule has its nodes
  pub as_many : length net.rules ≡ length rules
  as_many = AllZip-long IsNetOf rules net.rules is.own

  -- the rows that are kept at a rule's end are those of the rule, once they are in order
  pub rows_are : (rule : ℕ) (rows sorted : List (List Part)) → rule < length rules → IfSome (slice_get net.rules rule) (λ nodes. AreRowsKept net.heads.now nodes rows)
      → BecomeRuleRows rows sorted → Some sorted ≡ option_map (rule_rows m (records_of plan)) (slice_get rules rule)
  rows_are rule rows sorted within kept becomes =
      let def = some_at rules rule within in
      let nodes = some_at net.rules rule (subst (λ (n : ℕ). rule < n) (sym as_many) within) in
      let by_id = (plans_are_facts plan is.sound).by_id in
      let here : AreRowsKept net.heads.now nodes.0 rows = subst (λ (o : Option RuleNet). IfSome o (λ r. AreRowsKept net.heads.now r rows)) nodes.1 kept in
      let are = stands_keep m rules net (records_of plan) is.own is.room by_id is.stands rule def.0 nodes.0 def.1 nodes.1 in
      ap (λ (rs : List (List Part)). Some rs) (becomes m (records_of plan) def.0 by_id (same-trans rows (rows_kept net.heads.now nodes.0) (rule_rows m (records_of plan) def.0) here are))
      ∙ sym (ap (option_map (rule_rows m (records_of plan))) def.1)
