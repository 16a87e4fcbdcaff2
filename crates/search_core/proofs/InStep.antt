-- A step in course, where worker 0 claims and judges the numbers in order.
use Rattle.std.proofs.Common.{◌≡◌, ◌∙◌, ℕ, zero, suc, ◌+◌, ◌<◌, ◌≤◌, ◌==◌, ◌&&◌, ◌||◌, if◌then◌else◌, Bool, true, false, is_none, is_some, List, ◌∷◌, Option, Some, None, refl, sym, ap, subst, arith, find, ◌⊎◌, inl, inr}
use Rattle.std.proofs.lemmas.Bool.{cases_lt}
use Rattle.std.specs.List.{range_with_len}
use Rattle.std.specs.Option.{option_and_then, option_map, option_map_or}
use Rattle.acceptors.specs.History.{History}
use Rattle.plan_search.specs.declared.found.Found.{Found}
use Rattle.search_core.specs.declared.machine.Phase.{Phase}
use Rattle.search_core.specs.declared.machine.Phase.TheVariants.{Open}
use Rattle.search_core.specs.declared.event.Event.{Event}
use Rattle.search_core.specs.declared.event.Event.TheVariants.{Claim, Judge, Choose}
use Rattle.search_core.specs.declared.event.Reply.TheVariants.{Chosen, More}
use Rattle.search_core.specs.declared.event.CoreFault.{CoreFault}
use Rattle.search_core.specs.declared.event.CoreFault.TheVariants.{NoLeg, BadStep, Taken, NotClaimed, Unjudged}
use Rattle.search_core.specs.ByNumber.{with_value}
use Rattle.search_core.specs.Desk.{Desk, Terms, after_found, after_step, choice_on, desk, first_asked, fault_of, fault_or, found_of_winner, is_decided, is_open, is_waiting, may_judge, more_count, next_desk, step_fault, unjudged}
use Rattle.search_core.specs.OneThread.{BeginsStep, EndsStep, InStep, after_reply, batch_events, judge_events, step_events, winner_number, won_history}
use Rattle.search_core.specs.Truth.{IsTaken}
use Rattle.search_core.proofs.Entries.{find-none}
use Rattle.search_core.proofs.Decided.{AreTold, choice-told, winner-told}

-- where a step begins, none of its numbers is judged
pub begins-in : (t : Terms) (d : Desk) (k : ℕ) (h : History) (found : ℕ → Option Found) (asked : ℕ) → BeginsStep t d k h → d.asked ≡ asked
    → InStep d k h found asked d.posts 0
begins-in t d k h found asked b is = record {
  phase = b.phase;
  cuts = b.cuts;
  chosen = b.chosen;
  history = b.history;
  asked = is;
  posts = refl;
  unclaimed = λ n le. b.fresh.claims n;
  judged = λ n lt. absurd (omega arith);
  unjudged = λ n le. b.fresh.verdicts n;
}

-- an event of the step in course has no fault but its own
pub step_fault-none : (d : Desk) (k : ℕ) → d.phase ≡ Open → d.cuts ≡ k → d.chosen + 1 ≡ k → step_fault d k ≡ None
step_fault-none d k phase cuts chosen =
    let begun : (d.cuts == 0) ≡ false = grind arith in
    let same : (k == d.chosen + 1) ≡ true = grind arith in
    ap (λ (x : Bool). if x || is_waiting d.phase then Some NoLeg else (if is_open d.phase && (k == d.chosen + 1) then None else Some (BadStep (d.chosen + 1)))) begun
    ∙ (ap (λ (p : Phase). if is_waiting p then Some NoLeg else (if is_open p && (k == d.chosen + 1) then None else Some (BadStep (d.chosen + 1)))) phase
    ∙ ap (λ (x : Bool). if x then None else Some (BadStep (d.chosen + 1))) same)

module _ (d : Desk) (k : ℕ) (h : History) (found : ℕ → Option Found) (asked posts : ℕ) where
  -- the desk after the Claim of a number, and after its Judge
  abbrev pub claimed_desk : ℕ → Desk
  claimed_desk n = record d { claims = with_value d.claims n 0 }

  abbrev pub judged_desk : ℕ → Desk
  judged_desk n = record d { claims = with_value d.claims n 0; verdicts = with_value d.verdicts n (found n) }

  -- the next number may be claimed
  pub claim-taken : (t : Terms) (n : ℕ) → InStep d k h found asked posts n → fault_of t d (Claim 0 k n) ≡ None
  claim-taken t n i =
      ap (λ (o : Option CoreFault). fault_or o (if is_some (d.claims n) then Some (Taken n) else None)) (step_fault-none d k i.phase i.cuts i.chosen)
      ∙ ap (λ (o : Option ℕ). if is_some o then Some (Taken n) else None) (i.unclaimed n (omega arith))

  -- and then be judged
  pub judge-taken : (t : Terms) (n : ℕ) → InStep d k h found asked posts n → fault_of t (claimed_desk n) (Judge 0 k n (found n)) ≡ None
  judge-taken t n i =
      let same : (n == n) ≡ true = grind arith in
      ap (λ (o : Option CoreFault). fault_or o (if may_judge (claimed_desk n) 0 n then None else Some (NotClaimed n))) (step_fault-none (claimed_desk n) k i.phase i.cuts i.chosen)
      ∙ (ap (λ (b : Bool). if option_map_or (λ (claimer : ℕ). claimer == 0) (if b then Some 0 else d.claims n) false && is_none (d.verdicts n) then None else Some (NotClaimed n)) same
      ∙ ap (λ (o : Option (Option Found)). if is_none o then None else Some (NotClaimed n)) (i.unjudged n (omega arith)))

  -- then one number more is judged
  pub judged-in : (n : ℕ) → InStep d k h found asked posts n → InStep (judged_desk n) k h found asked posts (n + 1)
  judged-in n i = record {
    phase = i.phase;
    cuts = i.cuts;
    chosen = i.chosen;
    history = i.history;
    asked = i.asked;
    posts = i.posts;
    unclaimed = λ m le.
        let other : (n == m) ≡ false = grind arith in
        ap (λ (b : Bool). if b then Some 0 else d.claims m) other ∙ i.unclaimed m (omega arith);
    judged = λ m lt.
        elim (n == m) as (λ (b : Bool). (b ≡ (n == m)) → (if b then Some (found n) else d.verdicts m) ≡ Some (found m)) [
          | true ↦ λ e. let same : n ≡ m = grind arith in ap (λ (x : ℕ). Some (found x)) same
          | false ↦ λ e. i.judged m (grind arith)
        ] refl;
    unjudged = λ m le.
        let other : (n == m) ≡ false = grind arith in
        ap (λ (b : Bool). if b then Some (found n) else d.verdicts m) other ∙ i.unjudged m (omega arith);
  }

  -- where all asked numbers are judged, none is the lowest that isn't
  pub unjudged-none : InStep d k h found asked posts asked → unjudged d ≡ None
  unjudged-none i =
      ap (λ (m : ℕ). find (λ (n : ℕ). is_none (d.verdicts n)) (range_with_len 0 m)) i.asked
      ∙ find-none (λ (n : ℕ). is_none (d.verdicts n)) 0 asked (λ n low high. ap is_none (i.judged n (omega arith)))

  -- and the step may be decided
  pub choose-taken : (t : Terms) → InStep d k h found asked posts asked → fault_of t d (Choose k) ≡ None
  choose-taken t i =
      ap (λ (o : Option CoreFault). fault_or o (option_map Unjudged (unjudged d))) (step_fault-none d k i.phase i.cuts i.chosen)
      ∙ ap (option_map Unjudged) (unjudged-none i)

  -- the verdicts tell what is found
  pub in-told : (first : ℕ) → InStep d k h found asked posts first → AreTold found d.verdicts
  in-told first i n o is =
      elim (cases_lt n first) as (λ (c : (n < first) ⊎ (first ≤ n)). o ≡ found n) [
        | inl lt ↦ let told : d.verdicts n ≡ Some (found n) = i.judged n lt in cc
        | inr le ↦ let told : d.verdicts n ≡ None = i.unjudged n le in cc
      ]

  -- where the asked numbers decide the step, the choice is its winner
  pub chosen-is : (t : Terms) → InStep d k h found asked posts asked → asked ≤ t.settings.select_limit → is_decided t d ≡ true
      → choice_on t d ≡ winner_number t h found
  chosen-is t i within decided =
      let few : d.asked ≤ t.settings.select_limit = subst (λ (n : ℕ). n ≤ t.settings.select_limit) (sym i.asked) within in
      choice-told t d found (in-told asked i) (unjudged-none i) few decided
      ∙ ap (λ (x : History). winner_number t x found) i.history

  -- where the asked numbers decide the step, it ends with its winner
  pub chosen-ends : (t : Terms) → InStep d k h found asked posts asked → asked ≤ t.settings.select_limit → is_decided t d ≡ true
      → EndsStep t (next_desk t d (Choose k)) k posts (won_history t h found)
  chosen-ends t i within decided =
      let few : d.asked ≤ t.settings.select_limit = subst (λ (n : ℕ). n ≤ t.settings.select_limit) (sym i.asked) within in
      let history : after_found d.history (found_of_winner d (choice_on t d)) ≡ won_history t h found =
      ap (λ (x : History). after_found x (found_of_winner d (choice_on t d))) i.history
      ∙ ap (after_found h) (winner-told t d found (in-told asked i) few decided ∙ ap (option_and_then found) (chosen-is t i within decided)) in
      let is : next_desk t d (Choose k) ≡ after_step t d (choice_on t d) =
      ap (λ (b : Bool). if b then after_step t d (choice_on t d) else record d { asked = d.asked + more_count t d }) decided in
      subst (λ (x : Desk). EndsStep t x k posts (won_history t h found)) (sym is) (record {
        phase = refl;
        cuts = i.cuts;
        chosen = i.chosen;
        posts = i.posts;
        history = history;
        fresh = record { asked = refl; claims = λ n. refl; verdicts = λ n. refl };
      })

  -- else more numbers are asked
  pub more-in : (t : Terms) → InStep d k h found asked posts asked → is_decided t d ≡ false
      → InStep (next_desk t d (Choose k)) k h found (d.asked + more_count t d) posts d.asked
  more-in t i undecided =
      let is : next_desk t d (Choose k) ≡ record d { asked = d.asked + more_count t d } =
      ap (λ (b : Bool). if b then after_step t d (choice_on t d) else record d { asked = d.asked + more_count t d }) undecided in
      subst (λ (x : Desk). InStep x k h found (d.asked + more_count t d) posts d.asked) (sym is) (record {
        phase = i.phase;
        cuts = i.cuts;
        chosen = i.chosen;
        history = i.history;
        asked = refl;
        posts = i.posts;
        unclaimed = λ n le. i.unclaimed n (subst (λ (m : ℕ). m ≤ n) i.asked le);
        judged = λ n lt. i.judged n (subst (λ (m : ℕ). n < m) i.asked lt);
        unjudged = λ n le. i.unjudged n (subst (λ (m : ℕ). m ≤ n) i.asked le);
      })

-- a batch that worker 0 judges leaves the step in course, with its numbers judged
pub judge_events-in : (t : Terms) (k : ℕ) (h : History) (found : ℕ → Option Found) (asked posts first count : ℕ) (events : List Event)
    → InStep (desk t events) k h found asked posts first
    → InStep (desk t (judge_events k found first count events)) k h found asked posts (first + count)
judge_events-in t k h found asked posts first zero events i =
    let e : first ≡ first + 0 = omega arith in
    subst (λ (n : ℕ). InStep (desk t events) k h found asked posts n) e i
judge_events-in t k h found asked posts first (suc count) events i =
    let before = judge_events-in t k h found asked posts first count events i in
    let d : Desk = desk t (judge_events k found first count events) in
    let n : ℕ = first + count in
    let e : n + 1 ≡ first + suc count = omega arith in
    subst (λ (m : ℕ). InStep (judged_desk d k h found asked posts n) k h found asked posts m) e (judged-in d k h found asked posts n before)

-- and it is taken
pub judge_events-taken : (t : Terms) (k : ℕ) (h : History) (found : ℕ → Option Found) (asked posts first count : ℕ) (events : List Event)
    → IsTaken t events → InStep (desk t events) k h found asked posts first → IsTaken t (judge_events k found first count events)
judge_events-taken t k h found asked posts first zero events taken i = taken
judge_events-taken t k h found asked posts first (suc count) events taken i =
    let before = judge_events-in t k h found asked posts first count events i in
    let d : Desk = desk t (judge_events k found first count events) in
    let n : ℕ = first + count in
    ((judge_events-taken t k h found asked posts first count events taken i, claim-taken d k h found asked posts t n before), judge-taken d k h found asked posts t n before)

-- a step's events are taken, and it ends with its winner
pub record IsDone (t : Terms) (k : ℕ) (h : History) (found : ℕ → Option Found) (posts : ℕ) (events : List Event) : Type 0 where
  pub taken : IsTaken t events
  pub ends : EndsStep t (desk t events) k posts (won_history t h found)

-- where one of two tests fails
pub undecided_below : (a b : Bool) → (a || b) ≡ false → b ≡ false
undecided_below true b e = cc
undecided_below false b e = e

pub batch_events-done : (t : Terms) (k : ℕ) (h : History) (found : ℕ → Option Found) (posts left first count : ℕ) (events : List Event)
    → 1 ≤ t.buffer → IsTaken t events → InStep (desk t events) k h found (first + count) posts first
    → 1 ≤ count → first + count ≤ t.settings.select_limit → t.settings.select_limit ≤ first + left
    → IsDone t k h found posts (batch_events t k found left first count events)
batch_events-done t k h found posts zero first count events some taken i more within enough = absurd (omega arith)
batch_events-done t k h found posts (suc left) first count events some taken i more within enough =
    let judged : List Event = judge_events k found first count events in
    let j = judge_events-in t k h found (first + count) posts first count events i in
    let d : Desk = desk t judged in
    let asked : d.asked ≡ first + count = j.asked in
    let chosen : IsTaken t (Choose k ∷ judged) =
    (judge_events-taken t k h found (first + count) posts first count events taken i, choose-taken d k h found (first + count) posts t j) in
    elim (is_decided t d) as (λ (b : Bool). (b ≡ is_decided t d)
    → IsDone t k h found posts (after_reply (λ next count. batch_events t k found left next count (Choose k ∷ judged)) (Choose k ∷ judged) (if b then Chosen (choice_on t d) else More d.asked (more_count t d)))) [
      | true ↦ λ e. record { taken = chosen; ends = chosen-ends d k h found (first + count) posts t j within (sym e) }
      | false ↦ λ e.
          let below : (d.asked == t.settings.select_limit) ≡ false = undecided_below _ (d.asked == t.settings.select_limit) (sym e) in
          let other : d.asked < t.settings.select_limit = grind arith in
          batch_events-done t k h found posts left d.asked (more_count t d) (Choose k ∷ judged) some chosen
          (more-in d k h found (first + count) posts t j (sym e)) (omega arith) (omega arith) (omega arith)
    ] refl

-- a step that begins is done by its events
pub step_events-done : (t : Terms) (k : ℕ) (h : History) (found : ℕ → Option Found) (events : List Event)
    → 1 ≤ t.buffer → 1 ≤ t.settings.select_limit → IsTaken t events → BeginsStep t (desk t events) k h
    → IsDone t k h found (desk t events).posts (step_events t k found events)
step_events-done t k h found events some all taken b =
    let asked : (desk t events).asked ≡ 0 + first_asked t = b.fresh.asked ∙ omega arith in
    batch_events-done t k h found (desk t events).posts t.settings.select_limit 0 (first_asked t) events some taken
    (begins-in t (desk t events) k h found (0 + first_asked t) b asked) (omega arith) (omega arith) (omega arith)
