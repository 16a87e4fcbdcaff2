-- A desk goes with the one-thread search, event by event.
use Rattle.std.proofs.Common.{◌≡◌, ◌∙◌, ℕ, suc, ◌+◌, ◌<◌, ◌≤◌, ◌==◌, ◌&&◌, ◌||◌, ◌⊎◌, inl, inr, if◌then◌else◌, Bool, true, false, not, nat_lt, nat_le, List, [], ◌∷◌, ◌++◌, length, map, fold, slice_get, option_to_list, Option, Some, None, refl, sym, ap, subst, arith, append-nil, get_or}
use Rattle.std.specs.Option.{option_and_then, option_map}
use Rattle.std.proofs.lemmas.List.{length_push}
use Rattle.std.proofs.lemmas.Option.{slice_get_cases}
use Rattle.plan_scores.specs.declared.plan_score.PlanScore.{PlanScore}
use Rattle.acceptors.specs.History.{History, begun}
use Rattle.plan_search.specs.declared.found.Found.{Found}
use Rattle.plan_search.specs.Game.{Game, found_at}
use Rattle.plan_search.specs.Leg.{Leg as TheLeg, Stepped, best_of, history_of, leg_from, next_step, past_of, state_of}
use Rattle.plan_search.specs.Run.{cut_at, run_to_cut, run_to_step, state_in, step_newest, winners}
use Rattle.search_core.specs.declared.machine.Phase.{Phase}
use Rattle.search_core.specs.declared.machine.Phase.TheVariants.{Idle, Waits, Open}
use Rattle.search_core.specs.declared.event.Event.{Event}
use Rattle.search_core.specs.declared.event.Event.TheVariants.{Post, Cut, Start, Claim, Judge, Choose}
use Rattle.search_core.specs.declared.event.Reply.TheVariants.{Noted, Leg, More, Chosen}
use Rattle.search_core.specs.declared.event.CoreFault.{CoreFault}
use Rattle.search_core.specs.declared.event.CoreFault.TheVariants.{BadBoundary, NoLeg, BadStep, Unjudged}
use Rattle.search_core.specs.ByNumber.{AreSame, nothing, with_value}
use Rattle.search_core.specs.Desk.{Desk, Terms, after_found, after_step, begins_leg, choice_on, cut_reply, desk, fault_of, fault_or, found_of_winner, is_decided, is_open, is_waiting, more_count, next_desk, phase_after, reply_to, step_fault, unjudged, with_more}
use Rattle.search_core.specs.OneThread.{winner_number}
use Rattle.search_core.specs.Truth.{AreTrue, IsTaken, choices, chosen_by, cuts_in, legs_by, pending, post_count}
use Rattle.search_core.proofs.Decided.{AreTold, choice-told, winner-told}
use Rattle.search_core.proofs.Steps.{next-history, next-winner, winners-step}

module _ {State Line : Type 0} where
  -- a history is that of the newest leg
  abbrev pub HistoryIs : Game State Line → History → List (TheLeg State Line) → Type 0
  HistoryIs g h [] = Unit {0}
  HistoryIs g h (leg ∷ older) = h ≡ history_of g leg

  -- the newest leg has no step yet
  abbrev pub IsNew : List (TheLeg State Line) → Type 0
  IsNew [] = ⊥
  IsNew (leg ∷ older) = leg.steps ≡ []

  -- there is a leg
  abbrev pub IsThere : List (TheLeg State Line) → Type 0
  IsThere [] = ⊥
  IsThere (leg ∷ older) = Unit {0}

  -- the step after the newest Cut is chosen, or there was no Cut
  pub record AtIdle (g : Game State Line) (t : Terms) (n : ℕ) (legs : List (TheLeg State Line)) (made : List (Option ℕ)) (chosen : ℕ) (h : History) (verdicts : ℕ → Option (Option Found)) : Type 0 where
    pub count : chosen ≡ n
    pub made_is : made ≡ winners (step_newest g t.settings n legs)
    pub history : HistoryIs g h (step_newest g t.settings n legs)
    pub none : AreSame verdicts nothing

  -- a leg waits, or the last Cut was made
  pub record AtCut (n : ℕ) (legs : List (TheLeg State Line)) (made : List (Option ℕ)) (chosen : ℕ) (verdicts : ℕ → Option (Option Found)) : Type 0 where
    pub count : chosen + 1 ≡ n
    pub made_is : made ≡ winners legs
    pub some : IsThere legs
    pub none : AreSame verdicts nothing

  -- a step is in course
  pub record AtOpen (g : Game State Line) (n : ℕ) (legs : List (TheLeg State Line)) (made : List (Option ℕ)) (chosen : ℕ) (h : History) (verdicts : ℕ → Option (Option Found)) : Type 0 where
    pub count : chosen + 1 ≡ n
    pub made_is : made ≡ winners legs
    pub some : IsThere legs
    pub history : HistoryIs g h legs
    pub told : AreTold (found_at g n (state_in g legs)) verdicts

  abbrev pub AtPhase : Game State Line → Terms → ℕ → List (TheLeg State Line) → List (Option ℕ) → ℕ → History → (ℕ → Option (Option Found)) → Phase → Type 0
  AtPhase g t n legs made chosen h verdicts Idle = AtIdle g t n legs made chosen h verdicts ⊎ (AtCut n legs made chosen verdicts × (t.settings.steps < n))
  AtPhase g t n legs made chosen h verdicts Waits = AtCut n legs made chosen verdicts × IsNew legs
  AtPhase g t n legs made chosen h verdicts Open = AtOpen g n legs made chosen h verdicts

  -- a desk goes with the search whose Cuts took these lines, where these are posted since, and these winners were chosen
  pub record Agrees (g : Game State Line) (t : Terms) (cuts : List (List Line)) (since : List Line) (made : List (Option ℕ)) (d : Desk) : Type 0 where
    pub cut_count : d.cuts ≡ length cuts
    pub post_count : d.posts ≡ length since
    pub made_count : d.chosen ≡ length made
    pub few : d.asked ≤ t.settings.select_limit
    pub at : AtPhase g t (length cuts) (run_to_cut g t.settings cuts) made d.chosen d.history d.verdicts d.phase

-- the tests of a fault that doesn't apply
pub no-fault : (b : Bool) (f : CoreFault) (rest : Option CoreFault) → (if b then Some f else rest) ≡ None → (b ≡ false) × (rest ≡ None)
no-fault true f rest e = cc
no-fault false f rest e = (refl, e)

pub no-fault-or : (o rest : Option CoreFault) → fault_or o rest ≡ None → (o ≡ None) × (rest ≡ None)
no-fault-or None rest e = (refl, e)
no-fault-or (Some f) rest e = cc

both : (a b : Bool) (f : CoreFault) → (if a && b then None else Some f) ≡ None → (a ≡ true) × (b ≡ true)
both true true f e = (refl, refl)
both true false f e = cc
both false b f e = cc

pub step-open : (d : Desk) (step : ℕ) → step_fault d step ≡ None → (is_open d.phase ≡ true) × (step ≡ d.chosen + 1)
step-open d step e =
    let rest = (no-fault (d.cuts == 0 || is_waiting d.phase) NoLeg _ e).1 in
    let parts = both (is_open d.phase) (step == d.chosen + 1) (BadStep (d.chosen + 1)) rest in
    let same : (step == d.chosen + 1) ≡ true = parts.1 in
    (parts.0, grind arith)

pub open-is : (p : Phase) → is_open p ≡ true → p ≡ Open
open-is Idle e = cc
open-is Waits e = cc
open-is Open e = refl

pub waits-is : (p : Phase) → (if is_waiting p then None else Some NoLeg) ≡ None → p ≡ Waits
waits-is Idle e = cc
waits-is Waits e = refl
waits-is Open e = cc

none-told : (found : ℕ → Option Found) (verdicts : ℕ → Option (Option Found)) → AreSame verdicts nothing → AreTold found verdicts
none-told found verdicts none n o is = let gone : verdicts n ≡ None = none n in cc

told-with : (found : ℕ → Option Found) (verdicts : ℕ → Option (Option Found)) (number : ℕ) (v : Option Found) → AreTold found verdicts → v ≡ found number
    → AreTold found (with_value verdicts number v)
told-with found verdicts number v told is n o =
    elim (number == n) as (λ (b : Bool). (b ≡ (number == n)) → (if b then Some v else verdicts n) ≡ Some o → o ≡ found n) [
      | true ↦ λ e k. let same : number ≡ n = grind arith in let this : o ≡ v = cc in this ∙ (is ∙ ap found same)
      | false ↦ λ e k. told n o k
    ] refl

none-legs : {A : Type 0} {x : A} {xs : List A} → x ∷ xs ≡ [] → ⊥
none-legs e = cc

module _ {State Line : Type 0} (g : Game State Line) (t : Terms) where
  -- no reply that tells no winner
  pub quiet : (cuts : List (List Line)) (since : List Line) (made told : List (Option ℕ)) (d : Desk) → told ≡ [] → Agrees g t cuts since made d
      → Agrees g t cuts since (made ++ told) d
  quiet cuts since made told d none a =
      subst (λ (xs : List (Option ℕ)). Agrees g t cuts since xs d) (sym (ap (λ (xs : List (Option ℕ)). made ++ xs) none ∙ append-nil made)) a

  pub post-agrees : (cuts : List (List Line)) (since : List Line) (made : List (Option ℕ)) (d : Desk) (seat number : ℕ) (line : Line)
      → Agrees g t cuts since made d → Agrees g t cuts (since ++ line ∷ []) made (next_desk t d (Post seat number))
  post-agrees cuts since made d seat number line a = record {
    cut_count = a.cut_count;
    post_count = ap (λ (n : ℕ). n + 1) a.post_count ∙ sym (length_push since line);
    made_count = a.made_count;
    few = a.few;
    at = a.at;
  }

  pub claim-agrees : (cuts : List (List Line)) (since : List Line) (made : List (Option ℕ)) (d : Desk) (worker step number : ℕ)
      → Agrees g t cuts since made d → Agrees g t cuts since made (next_desk t d (Claim worker step number))
  claim-agrees cuts since made d worker step number a = record {
    cut_count = a.cut_count;
    post_count = a.post_count;
    made_count = a.made_count;
    few = a.few;
    at = a.at;
  }

  pub judge-agrees : (cuts : List (List Line)) (since : List Line) (made : List (Option ℕ)) (d : Desk) (worker step number : ℕ) (v : Option Found)
      → Agrees g t cuts since made d → fault_of t d (Judge worker step number v) ≡ None
      → v ≡ found_at g step (state_in g (run_to_cut g t.settings cuts)) number
      → Agrees g t cuts since made (next_desk t d (Judge worker step number v))
  judge-agrees cuts since made d worker step number v a taken is =
      let legs = run_to_cut g t.settings cuts in
      let n = length cuts in
      let course = step-open d step (no-fault-or (step_fault d step) _ taken).0 in
      let phase : d.phase ≡ Open = open-is d.phase course.0 in
      let here : AtOpen g n legs made d.chosen d.history d.verdicts =
      subst (λ (p : Phase). AtPhase g t n legs made d.chosen d.history d.verdicts p) phase a.at in
      let same : step ≡ n = course.1 ∙ here.count in
      record {
        cut_count = a.cut_count;
        post_count = a.post_count;
        made_count = a.made_count;
        few = a.few;
        at = subst (λ (p : Phase). AtPhase g t n legs made d.chosen d.history (with_value d.verdicts number v) p) (sym phase) (record {
          count = here.count;
          made_is = here.made_is;
          some = here.some;
          history = here.history;
          told = told-with (found_at g n (state_in g legs)) d.verdicts number v here.told (is ∙ ap (λ (k : ℕ). found_at g k (state_in g legs) number) same);
        });
      }

  -- a step comes in course, or the step limit is reached
  opened-at : (n cuts : ℕ) (legs : List (TheLeg State Line)) (made : List (Option ℕ)) (chosen : ℕ) (h : History) (verdicts : ℕ → Option (Option Found))
      → AtCut n legs made chosen verdicts → HistoryIs g h legs → cuts ≡ n → AtPhase g t n legs made chosen h verdicts (phase_after t cuts)
  opened-at n cuts legs made chosen h verdicts at history same =
      elim (nat_le cuts t.settings.steps) as (λ (b : Bool). (b ≡ nat_le cuts t.settings.steps) → AtPhase g t n legs made chosen h verdicts (if b then Open else Idle)) [
        | true ↦ λ e. record {
          count = at.count;
          made_is = at.made_is;
          some = at.some;
          history = history;
          told = none-told (found_at g n (state_in g legs)) verdicts at.none;
        }
        | false ↦ λ e. inr (at, grind arith)
      ] refl

  new-history : (score : PlanScore) (legs : List (TheLeg State Line)) → IsNew legs → score ≡ g.score (state_in g legs) → HistoryIs g (begun score) legs
  new-history score [] new is = tt
  new-history score (leg ∷ older) new is =
      subst (λ (steps : List (Stepped State)). score ≡ g.score (fold (λ before step. step.after) leg.start steps) → begun score ≡ record { start = g.score leg.start; steps = map (past_of g) steps }) (sym new) (λ q. ap begun q) is

  pub start-agrees : (cuts : List (List Line)) (since : List Line) (made : List (Option ℕ)) (d : Desk) (score : PlanScore)
      → Agrees g t cuts since made d → fault_of t d (Start score) ≡ None → score ≡ g.score (state_in g (run_to_cut g t.settings cuts))
      → Agrees g t cuts since made (next_desk t d (Start score))
  start-agrees cuts since made d score a taken is =
      let legs = run_to_cut g t.settings cuts in
      let n = length cuts in
      let phase : d.phase ≡ Waits = waits-is d.phase taken in
      let here : AtCut n legs made d.chosen d.verdicts × IsNew legs =
      subst (λ (p : Phase). AtPhase g t n legs made d.chosen d.history d.verdicts p) phase a.at in
      record {
        cut_count = a.cut_count;
        post_count = a.post_count;
        made_count = a.made_count;
        few = a.few;
        at = opened-at n d.cuts legs made d.chosen (begun score) d.verdicts here.0 (new-history score legs here.1 is) a.cut_count;
      }

  -- what a Cut leaves: a leg that waits, or the newest leg going on
  after-cut : (n cuts boundary posts : ℕ) (legs : List (TheLeg State Line)) (since : List Line) (made : List (Option ℕ)) (chosen : ℕ) (h : History) (verdicts : ℕ → Option (Option Found))
      → chosen ≡ n → made ≡ winners legs → HistoryIs g h legs → AreSame verdicts nothing → boundary ≡ n → posts ≡ length since → cuts ≡ suc n
      → (legs ≡ [] → n ≡ 0) → (n ≡ 0 → legs ≡ [])
      → AtPhase g t (suc n) (cut_at g n since legs) made chosen h verdicts (if begins_leg boundary posts then Waits else phase_after t cuts)
  after-cut n cuts boundary posts [] since made chosen h verdicts c m his v e p f none some =
      let first : n ≡ 0 = none refl in
      let begins : begins_leg boundary posts ≡ true = grind arith in
      subst (λ (b : Bool). AtPhase g t (suc n) (leg_from g n since g.origin ∷ []) made chosen h verdicts (if b then Waits else phase_after t cuts)) (sym begins)
      (record { count = omega arith; made_is = m; some = tt; none = v }, refl)
  after-cut n cuts boundary posts (leg ∷ older) [] made chosen h verdicts c m his v e p f none some =
      let later : n ≡ 0 → ⊥ = λ q. none-legs (some q) in
      let goes : begins_leg boundary posts ≡ false = grind arith in
      subst (λ (b : Bool). AtPhase g t (suc n) (leg ∷ older) made chosen h verdicts (if b then Waits else phase_after t cuts)) (sym goes)
      (opened-at (suc n) cuts (leg ∷ older) made chosen h verdicts (record { count = omega arith; made_is = m; some = tt; none = v }) his f)
  after-cut n cuts boundary posts (leg ∷ older) (line ∷ lines) made chosen h verdicts c m his v e p f none some =
      let many : posts ≡ suc (length lines) = p in
      let begins : begins_leg boundary posts ≡ true = grind arith in
      subst (λ (b : Bool). AtPhase g t (suc n) (leg_from g n (line ∷ lines) (best_of g leg) ∷ leg ∷ older) made chosen h verdicts (if b then Waits else phase_after t cuts)) (sym begins)
      (record { count = omega arith; made_is = m ∙ sym (append-nil (winners (leg ∷ older))); some = tt; none = v }, refl)

  idle-of : (n : ℕ) (legs : List (TheLeg State Line)) (made : List (Option ℕ)) (chosen : ℕ) (h : History) (verdicts : ℕ → Option (Option Found)) (p : Phase)
      → is_waiting p ≡ false → is_open p ≡ false → n ≤ t.settings.steps → AtPhase g t n legs made chosen h verdicts p → AtIdle g t n legs made chosen h verdicts
  idle-of n legs made chosen h verdicts Idle w o le (inl x) = x
  idle-of n legs made chosen h verdicts Idle w o le (inr x) = absurd (omega (arith, x.1))
  idle-of n legs made chosen h verdicts Waits w o le x = absurd cc
  idle-of n legs made chosen h verdicts Open w o le x = absurd cc

  cut-there : (n : ℕ) (lines : List Line) (legs : List (TheLeg State Line)) → cut_at g n lines legs ≡ [] → ⊥
  cut-there n lines [] e = cc
  cut-there n [] (leg ∷ older) e = cc
  cut-there n (line ∷ lines) (leg ∷ older) e = cc

  step-there : (n : ℕ) (legs : List (TheLeg State Line)) → step_newest g t.settings n legs ≡ [] → legs ≡ []
  step-there n [] e = refl
  step-there n (leg ∷ older) e = cc

  legs-none : (cuts : List (List Line)) → run_to_step g t.settings cuts ≡ [] → length cuts ≡ 0
  legs-none [] e = refl
  legs-none (lines ∷ older) e = absurd (cut-there (length older) lines (run_to_step g t.settings older) (step-there (suc (length older)) (cut_at g (length older) lines (run_to_step g t.settings older)) e))

  none-run : (cuts : List (List Line)) → length cuts ≡ 0 → run_to_step g t.settings cuts ≡ []
  none-run [] e = refl
  none-run (lines ∷ older) e = absurd (omega arith)

  pub cut-agrees : (cuts : List (List Line)) (since : List Line) (made : List (Option ℕ)) (d : Desk) (boundary : ℕ)
      → Agrees g t cuts since made d → fault_of t d (Cut boundary) ≡ None → Agrees g t (since ∷ cuts) [] made (next_desk t d (Cut boundary))
  cut-agrees cuts since made d boundary a taken =
      let one = no-fault (not (boundary == d.cuts) || nat_lt t.settings.steps d.cuts) (BadBoundary d.cuts) _ taken in
      let two = no-fault (is_waiting d.phase) NoLeg _ one.1 in
      let three = no-fault (is_open d.phase) (BadStep d.cuts) _ two.1 in
      let bound : (not (boundary == d.cuts) || nat_lt t.settings.steps d.cuts) ≡ false = one.0 in
      let same : boundary ≡ d.cuts = grind arith in
      let low : d.cuts ≤ t.settings.steps = grind arith in
      let count : d.cuts ≡ length cuts = a.cut_count in
      let idle = idle-of (length cuts) (run_to_cut g t.settings cuts) made d.chosen d.history d.verdicts d.phase two.0 three.0 (omega arith) a.at in
      record {
        cut_count = omega arith;
        post_count = refl;
        made_count = a.made_count;
        few = a.few;
        at = after-cut (length cuts) (d.cuts + 1) boundary d.posts (run_to_step g t.settings cuts) since made d.chosen d.history d.verdicts idle.count idle.made_is idle.history idle.none
            (omega arith) a.post_count (omega arith) (legs-none cuts) (none-run cuts);
      }

  -- a chosen step
  chosen-at : (n : ℕ) (legs : List (TheLeg State Line)) (made : List (Option ℕ)) (d : Desk) → AtOpen g n legs made d.chosen d.history d.verdicts
      → unjudged d ≡ None → d.asked ≤ t.settings.select_limit → is_decided t d ≡ true
      → AtIdle g t n legs (made ++ choice_on t d ∷ []) (d.chosen + 1) (after_found d.history (found_of_winner d (choice_on t d))) nothing
  chosen-at n [] made d at none few decided = absurd at.some
  chosen-at n (leg ∷ older) made d at none few decided =
      let found = found_at g n (state_of leg) in
      let same : d.history ≡ history_of g leg = at.history in
      let choice : choice_on t d ≡ winner_number t (history_of g leg) found =
      choice-told t d found at.told none few decided ∙ ap (λ (h : History). winner_number t h found) same in
      let won : found_of_winner d (choice_on t d) ≡ option_and_then found (winner_number t (history_of g leg) found) =
      winner-told t d found at.told few decided ∙ ap (option_and_then found) choice in
      record {
        count = at.count;
        made_is = ap (λ (xs : List (Option ℕ)). xs ++ choice_on t d ∷ []) at.made_is
            ∙ (ap (λ (w : Option ℕ). winners (leg ∷ older) ++ w ∷ []) (choice ∙ sym (next-winner g t n leg))
            ∙ sym (winners-step leg older (next_step g t.settings n leg)));
        history = ap (λ (h : History). after_found h (found_of_winner d (choice_on t d))) same
            ∙ (ap (after_found (history_of g leg)) won ∙ next-history g t n leg);
        none = λ m. refl;
      }

  pub choose-agrees : (cuts : List (List Line)) (since : List Line) (made : List (Option ℕ)) (d : Desk) (step : ℕ)
      → Agrees g t cuts since made d → fault_of t d (Choose step) ≡ None
      → Agrees g t cuts since (made ++ chosen_by (reply_to t d (Choose step))) (next_desk t d (Choose step))
  choose-agrees cuts since made d step a taken =
      let n = length cuts in
      let legs = run_to_cut g t.settings cuts in
      let parts = no-fault-or (step_fault d step) _ taken in
      let course = step-open d step parts.0 in
      let none : unjudged d ≡ None = unjudged-of (unjudged d) parts.1 in
      let phase : d.phase ≡ Open = open-is d.phase course.0 in
      let here : AtOpen g n legs made d.chosen d.history d.verdicts =
      subst (λ (p : Phase). AtPhase g t n legs made d.chosen d.history d.verdicts p) phase a.at in
      elim (is_decided t d) as (λ (b : Bool). (b ≡ is_decided t d) → Agrees g t cuts since
      (made ++ chosen_by (if b then Chosen (choice_on t d) else More d.asked (more_count t d)))
      (if b then after_step t d (choice_on t d) else with_more t d)) [
        | true ↦ λ e. record {
          cut_count = a.cut_count;
          post_count = a.post_count;
          made_count = ap (λ (m : ℕ). m + 1) a.made_count ∙ sym (length_push made (choice_on t d));
          few = omega arith;
          at = inl (chosen-at n legs made d here none a.few (sym e));
        }
        | false ↦ λ e. quiet cuts since made [] (with_more t d) refl (record {
          cut_count = a.cut_count;
          post_count = a.post_count;
          made_count = a.made_count;
          few = let few : d.asked ≤ t.settings.select_limit = a.few in omega arith;
          at = a.at;
        })
      ] refl
    where
      unjudged-of : (o : Option ℕ) → option_map Unjudged o ≡ None → o ≡ None
      unjudged-of None e = refl
      unjudged-of (Some m) e = cc

  quiet-cut : (d : Desk) (boundary : ℕ) → chosen_by (cut_reply d boundary) ≡ []
  quiet-cut d boundary = elim (begins_leg boundary d.posts) as (λ (b : Bool). chosen_by (if b then Leg d.posts else Noted) ≡ []) [ true ↦ refl | false ↦ refl ]

  posted : (lines : List Line) (n : ℕ) → n < length lines → (line : Line) × (slice_get lines n ≡ Some line)
  posted lines n lt =
      elim (slice_get_cases lines n).1 as (λ (c : ((x : Line) × (n < length lines) × (slice_get lines n ≡ Some x) × (get_or lines n x ≡ x)) ⊎ ((length lines ≤ n) × (slice_get lines n ≡ None))). (line : Line) × (slice_get lines n ≡ Some line)) [
        | inl here ↦ (here.0, here.2)
        | inr past ↦ absurd (omega (arith, past.0))
      ]

  -- the whole list
  pub agrees : (lines : List Line) (events : List Event) → IsTaken t events → AreTrue g t lines events
      → Agrees g t (cuts_in lines events) (pending lines events) (choices t events) (desk t events)
  agrees lines [] taken holds = record {
    cut_count = refl;
    post_count = refl;
    made_count = refl;
    few = omega arith;
    at = inl (record { count = refl; made_is = refl; history = tt; none = λ n. refl });
  }
  agrees lines (Post seat number ∷ older) taken holds =
      let d = desk t older in
      let line = posted lines (post_count older) holds.1 in
      quiet (cuts_in lines older) (pending lines older ++ option_to_list (slice_get lines (post_count older))) (choices t older) [] (next_desk t d (Post seat number)) refl
      (subst (λ (o : Option Line). Agrees g t (cuts_in lines older) (pending lines older ++ option_to_list o) (choices t older) (next_desk t d (Post seat number))) (sym line.1)
      (post-agrees (cuts_in lines older) (pending lines older) (choices t older) d seat number line.0 (agrees lines older taken.0 holds.0)))
  agrees lines (Cut boundary ∷ older) taken holds =
      let d = desk t older in
      quiet (pending lines older ∷ cuts_in lines older) [] (choices t older) (chosen_by (cut_reply d boundary)) (next_desk t d (Cut boundary)) (quiet-cut d boundary)
      (cut-agrees (cuts_in lines older) (pending lines older) (choices t older) d boundary (agrees lines older taken.0 holds.0) taken.1)
  agrees lines (Start score ∷ older) taken holds =
      let d = desk t older in
      quiet (cuts_in lines older) (pending lines older) (choices t older) [] (next_desk t d (Start score)) refl
      (start-agrees (cuts_in lines older) (pending lines older) (choices t older) d score (agrees lines older taken.0 holds.0) taken.1 holds.1)
  agrees lines (Claim worker step number ∷ older) taken holds =
      let d = desk t older in
      quiet (cuts_in lines older) (pending lines older) (choices t older) [] (next_desk t d (Claim worker step number)) refl
      (claim-agrees (cuts_in lines older) (pending lines older) (choices t older) d worker step number (agrees lines older taken.0 holds.0))
  agrees lines (Judge worker step number v ∷ older) taken holds =
      let d = desk t older in
      quiet (cuts_in lines older) (pending lines older) (choices t older) [] (next_desk t d (Judge worker step number v)) refl
      (judge-agrees (cuts_in lines older) (pending lines older) (choices t older) d worker step number v (agrees lines older taken.0 holds.0) taken.1 holds.1)
  agrees lines (Choose step ∷ older) taken holds =
      choose-agrees (cuts_in lines older) (pending lines older) (choices t older) (desk t older) step (agrees lines older taken.0 holds.0) taken.1

  cut-winners : (cuts : List (List Line)) (made : List (Option ℕ)) (chosen : ℕ) (verdicts : ℕ → Option (Option Found)) → chosen ≡ length made
      → AtCut (length cuts) (run_to_cut g t.settings cuts) made chosen verdicts
      → made ≡ winners (if length made == length cuts then run_to_step g t.settings cuts else run_to_cut g t.settings cuts)
  cut-winners cuts made chosen verdicts c at =
      let n : chosen + 1 ≡ length cuts = at.count in
      let less : (length made == length cuts) ≡ false = grind arith in
      subst (λ (b : Bool). made ≡ winners (if b then run_to_step g t.settings cuts else run_to_cut g t.settings cuts)) (sym less) at.made_is

  winners-by : (cuts : List (List Line)) (made : List (Option ℕ)) (chosen : ℕ) (h : History) (verdicts : ℕ → Option (Option Found)) (p : Phase) → chosen ≡ length made
      → AtPhase g t (length cuts) (run_to_cut g t.settings cuts) made chosen h verdicts p
      → made ≡ winners (if length made == length cuts then run_to_step g t.settings cuts else run_to_cut g t.settings cuts)
  winners-by cuts made chosen h verdicts Idle c (inl at) =
      let n : chosen ≡ length cuts = at.count in
      let all : (length made == length cuts) ≡ true = grind arith in
      subst (λ (b : Bool). made ≡ winners (if b then run_to_step g t.settings cuts else run_to_cut g t.settings cuts)) (sym all) at.made_is
  winners-by cuts made chosen h verdicts Idle c (inr at) = cut-winners cuts made chosen verdicts c at.0
  winners-by cuts made chosen h verdicts Waits c at = cut-winners cuts made chosen verdicts c at.0
  winners-by cuts made chosen h verdicts Open c at =
      cut-winners cuts made chosen nothing c (record { count = at.count; made_is = at.made_is; some = at.some; none = λ m. refl })

  -- the choices are the winners of the one-thread search
  pub choices-are : (lines : List Line) (events : List Event) → IsTaken t events → AreTrue g t lines events
      → choices t events ≡ winners (legs_by g t lines events)
  choices-are lines events taken holds =
      let a = agrees lines events taken holds in
      let d = desk t events in
      winners-by (cuts_in lines events) (choices t events) d.chosen d.history d.verdicts d.phase a.made_count a.at
