-- A step that a team judges: what its asked numbers allow, and what their verdicts leave.
use Rattle.std.proofs.Common.{◌≡◌, ◌∙◌, ℕ, suc, ◌+◌, ◌-◌, ◌<◌, ◌≤◌, List, [], ◌∷◌, ◌++◌, length, map, get_or, length-append, Option, None, refl, sym, ap, subst, arith, Result, Ok, Err, IfOk, ◌⊎◌, inl, inr}
use Rattle.std.specs.Result.{OnOk}
use Rattle.std.specs.List.{range_with_len}
use Rattle.std.proofs.lemmas.List.FromFn.{get_or-map-range_with_len, length-map-range_with_len}
use Rattle.std.proofs.Math.Seq.{get_or-append_seam}
use Rattle.acceptors.specs.History.{History}
use Rattle.plan_search.specs.declared.found.Found.{Found}
use Rattle.search_core.specs.declared.event.Event.{Event}
use Rattle.search_core.specs.declared.event.Event.TheVariants.{Claim, Judge, Choose}
use Rattle.search_core.specs.declared.event.Reply.{Reply}
use Rattle.search_core.specs.declared.event.Reply.TheVariants.{Noted, Leg, More, Chosen}
use Rattle.search_core.specs.declared.machine.Core.{Core}
use Rattle.search_core.specs.Desk.{Desk, Terms, choose_reply, desk}
use Rattle.search_core.specs.Keeps.{StandsFor}
use Rattle.search_core.specs.OneThread.{BeginsAt, DecidesAt, JudgesAt, StandsWithFound, judge_events, step_events, winner_number}
use Rattle.search_core.proofs.InStep.{judge_events-in}
use Rattle.search_core.proofs.Plays.{Goes, goes-chosen, goes-more, never-leg, never-noted}
use Rattle.plan_session.specs.Asking.{AsksAt, HasAsked}

-- where so many of the asked numbers are judged, the next one is to be judged
abbrev pub asks-judges : (start core : Core) (k : ℕ) (found : ℕ → Option Found) (first count n : ℕ) (at : AsksAt start k found first count)
    → StandsFor at.terms core (judge_events k found first n at.events) → JudgesAt core k (first + n)
asks-judges start core k found first count n at stands = record {
  terms = at.terms;
  events = judge_events k found first n at.events;
  history = at.history;
  found = found;
  asked = first + count;
  since = at.since;
  stands = stands;
  inside = judge_events-in at.terms k at.history found (first + count) at.since first n at.events at.inside;
}

-- where all of them are judged, the step may be decided
abbrev pub asks-decides : (start core : Core) (k : ℕ) (found : ℕ → Option Found) (first count : ℕ) (at : AsksAt start k found first count)
    → StandsFor at.terms core (judge_events k found first count at.events) → DecidesAt core k
asks-decides start core k found first count at stands = record {
  terms = at.terms;
  events = judge_events k found first count at.events;
  history = at.history;
  found = found;
  asked = first + count;
  since = at.since;
  stands = stands;
  inside = judge_events-in at.terms k at.history found (first + count) at.since first count at.events at.inside;
}

-- what the judging of a number leaves
abbrev pub JudgesOn : Core → ℕ → (ℕ → Option Found) → ℕ → Core → Type 0
JudgesOn core k found number new =
    (at : JudgesAt core k number) → StandsFor at.terms new (Judge 0 k number (found number) ∷ Claim 0 k number ∷ at.events)

-- so many of the numbers that are asked are judged
abbrev pub JudgedSoFar : (start core : Core) (k first : ℕ) (all : List (Option Found)) → ℕ → Type 0
JudgedSoFar start core k first all n =
    (asked : HasAsked start k first all) → StandsFor asked.at.terms core (judge_events k asked.found first n asked.at.events)

-- what is found of the number at a place
pub found_here : (found : ℕ → Option Found) (first : ℕ) (front rest all : List (Option Found)) (one : Option Found) → all ≡ front ++ one ∷ rest
    → all ≡ map found (range_with_len first (length all)) → one ≡ found (first + length front)
found_here found first front rest all one split is =
    let within : length front < length all = rw split (omega (arith, length-append front (one ∷ rest))) in
    sym (get_or-append_seam front one rest None)
    ∙ ap (λ (l : List (Option Found)). get_or l (length front) None) (sym split ∙ is)
    ∙ get_or-map-range_with_len found first (length all) (length front) (first + length front) None within refl

-- one number more is judged
pub judged-next : (start core new : Core) (k first number : ℕ) (front rest all : List (Option Found)) (one : Option Found) → all ≡ front ++ one ∷ rest
    → number ≡ first + length front → JudgedSoFar start core k first all (length front) → StandsWithFound core k number one new
    → JudgedSoFar start new k first all (length (front ++ one ∷ []))
judged-next start core new k first number front rest all one split is judged goes asked =
    let one_is : one ≡ asked.found number =
    found_here asked.found first front rest all one split asked.all_is ∙ ap asked.found (sym is) in
    let more : length (front ++ one ∷ []) ≡ suc (length front) = omega (arith, length-append front (one ∷ [])) in
    let here : StandsWithFound core k (first + length front) (asked.found (first + length front)) new =
    subst (λ (n : ℕ). StandsWithFound core k n (asked.found n) new) is (subst (λ o. StandsWithFound core k number o new) one_is goes) in
    subst (λ (n : ℕ). StandsFor asked.at.terms new (judge_events k asked.found first n asked.at.events)) (sym more)
    (here (asks-judges start core k asked.found first (length all) (length front) asked.at (judged asked)))

-- what is found of all numbers that are asked, as a team gives it
abbrev pub all-asked : (core : Core) (k : ℕ) (found : ℕ → Option Found) (first count : ℕ) (all : List (Option Found)) → all ≡ map found (range_with_len first count)
    → AsksAt core k found first count → HasAsked core k first all
all-asked core k found first count all is at =
    let len : length all ≡ count = ap (λ (l : List (Option Found)). length l) is ∙ length-map-range_with_len found first count in
    record {
      found = found;
      at = subst (λ (n : ℕ). AsksAt core k found first n) (sym len) at;
      all_is = subst (λ (n : ℕ). all ≡ map found (range_with_len first n)) (sym len) is;
    }

-- where all numbers of what a team gave are told, the core stands for the events of as many as were asked
pub all-told : (core new : Core) (k : ℕ) (found : ℕ → Option Found) (first count : ℕ) (all : List (Option Found)) → all ≡ map found (range_with_len first count)
    → JudgedSoFar core new k first all (length all) → (at : AsksAt core k found first count) → StandsFor at.terms new (judge_events k found first count at.events)
all-told core new k found first count all is told =
    let len : length all ≡ count = ap (λ (l : List (Option Found)). length l) is ∙ length-map-range_with_len found first count in
    subst
    (λ (n : ℕ). all ≡ map found (range_with_len first n) → (at : AsksAt core k found first n) → StandsFor at.terms new (judge_events k found first n at.events))
    len (λ same at. told (record { found = found; at = at; all_is = same })) is

-- what a batch leaves: the core decides, and goes on with the events
pub record PlaysOn (core : Core) (k : ℕ) (found : ℕ → Option Found) (first count : ℕ) (reply : Reply) (new : Core) : Type 0 where
  pub replied : (at : AsksAt core k found first count) → reply ≡ choose_reply at.terms (desk at.terms (judge_events k found first count at.events))
  pub stands : (at : AsksAt core k found first count) → StandsFor at.terms new (Choose k ∷ judge_events k found first count at.events)

-- how the core decides where all asked numbers are judged
pub decides-replied : {E : Type 0} (result : Result Reply E) (start core : Core) (k : ℕ) (found : ℕ → Option Found) (first count : ℕ)
    → ((at : AsksAt start k found first count) → StandsFor at.terms core (judge_events k found first count at.events))
    → IfOk result (λ reply. (at : DecidesAt core k) → reply ≡ choose_reply at.terms (desk at.terms at.events))
    → IfOk result (λ reply. (at : AsksAt start k found first count) → reply ≡ choose_reply at.terms (desk at.terms (judge_events k found first count at.events)))
decides-replied (Ok reply) start core k found first count judged replied =
    λ at. replied (asks-decides start core k found first count at (judged at))
decides-replied (Err e) start core k found first count judged replied = tt

-- and for what it then stands
pub decides-stands : {E : Type 0} (result : Result Reply E) (start core new : Core) (k : ℕ) (found : ℕ → Option Found) (first count : ℕ)
    → ((at : AsksAt start k found first count) → StandsFor at.terms core (judge_events k found first count at.events))
    → OnOk result ((at : DecidesAt core k) → StandsFor at.terms new (Choose k ∷ at.events))
    → OnOk result ((at : AsksAt start k found first count) → StandsFor at.terms new (Choose k ∷ judge_events k found first count at.events))
decides-stands (Ok reply) start core new k found first count judged stands =
    λ at. stands (asks-decides start core k found first count at (judged at))
decides-stands (Err e) start core new k found first count judged stands = tt

-- a step that goes on asks its numbers
abbrev pub goes-asks : (t : Terms) (h : History) (core : Core) (k : ℕ) (found : ℕ → Option Found) (first count : ℕ) (all : List Event)
    → Goes t h core k found first count all → AsksAt core k found first count
goes-asks t h core k found first count all goes = record {
  terms = t;
  events = goes.events;
  history = h;
  since = goes.since;
  stands = goes.stands;
  inside = goes.inside;
}

-- a step that began goes on with so many numbers from the next one on
abbrev pub GoesFrom : Core → Core → ℕ → (ℕ → Option Found) → ℕ → ℕ → Type 0
GoesFrom start core k found first count =
    (at : BeginsAt start k) → Goes at.terms at.history core k found first count (step_events at.terms k found at.events)

-- a step in course asks its numbers, by what a worker finds that is as before
pub asks-now : {W : Type 0} (f : W → ℕ → Option Found) (worker now : W) (start core : Core) (k first count : ℕ) → now ≡ worker
    → GoesFrom start core k (f worker) first count → BeginsAt start k → AsksAt core k (f now) first count
asks-now f worker now start core k first count same from at =
    subst (λ w. AsksAt core k (f w) first count) (sym same) (goes-asks at.terms at.history core k (f worker) first count _ (from at))

-- its numbers are within the limit
pub asks-within : (start core : Core) (k : ℕ) (found : ℕ → Option Found) (first count : ℕ) → GoesFrom start core k found first count
    → BeginsAt start k → first + count ≤ start.settings.select_limit
asks-within start core k found first count from at =
    let limit : start.settings.select_limit ≡ at.terms.settings.select_limit = ap (λ (t : Terms). t.settings.select_limit) at.stands.terms in
    let within : first + count ≤ at.terms.settings.select_limit = (from at).within in
    omega arith

module _ {W : Type 0} (f : W → ℕ → Option Found) (worker now : W) (start core new : Core) (k first count : ℕ) (reply : Reply) (same : now ≡ worker)
    (from : GoesFrom start core k (f worker) first count) (plays : PlaysOn core k (f now) first count reply new) where
  -- what the batch leaves, by what the worker found at the start
  plays-on : PlaysOn core k (f worker) first count reply new
  plays-on = subst (λ w. PlaysOn core k (f w) first count reply new) same plays

  -- the batch's reply where the step goes on so
  replied-at : (at : BeginsAt start k)
      → reply ≡ choose_reply at.terms (desk at.terms (judge_events k (f worker) first count (from at).events))
  replied-at at = plays-on.replied (goes-asks at.terms at.history core k (f worker) first count _ (from at))

  stands-at : (at : BeginsAt start k) → StandsFor at.terms new (Choose k ∷ judge_events k (f worker) first count (from at).events)
  stands-at at = plays-on.stands (goes-asks at.terms at.history core k (f worker) first count _ (from at))

  -- where the step is chosen, the winner is the search's
  pub chosen-winner : (w : Option ℕ) → reply ≡ Chosen w → (at : BeginsAt start k) → w ≡ winner_number at.terms at.history (f worker)
  chosen-winner w is at =
      (goes-chosen at.terms at.history core new k (f worker) first count _ (from at) w (sym (replied-at at) ∙ is)).1

  -- and the core stands for the whole step
  pub chosen-stands : (w : Option ℕ) → reply ≡ Chosen w → (at : BeginsAt start k) → StandsFor at.terms new (step_events at.terms k (f worker) at.events)
  chosen-stands w is at =
      subst (λ events. StandsFor at.terms new events)
      (goes-chosen at.terms at.history core new k (f worker) first count _ (from at) w (sym (replied-at at) ∙ is)).0
      (stands-at at)

  -- where more numbers are asked, the step goes on with them
  pub asked-more : (n m : ℕ) → reply ≡ More n m → GoesFrom start new k (f worker) n m
  asked-more n m is at =
      (goes-more at.terms at.history core new k (f worker) first count _ (from at) n m (sym (replied-at at) ∙ is) (stands-at at)).2

  -- and they are later ones
  pub asked-later : (n m : ℕ) → reply ≡ More n m → BeginsAt start k → start.settings.select_limit - n < start.settings.select_limit - first
  asked-later n m is at =
      let more = goes-more at.terms at.history core new k (f worker) first count _ (from at) n m (sym (replied-at at) ∙ is) (stands-at at) in
      let limit : start.settings.select_limit ≡ at.terms.settings.select_limit = ap (λ (t : Terms). t.settings.select_limit) at.stands.terms in
      let past : first < n = more.0 in
      let within : n < at.terms.settings.select_limit = more.1 in
      omega arith

  -- there is no other reply
  pub no-other-reply : (reply ≡ Noted) ⊎ ((n : ℕ) × (reply ≡ Leg n)) → BeginsAt start k → ⊥
  no-other-reply other at =
      let d : Desk = desk at.terms (judge_events k (f worker) first count (from at).events) in
      elim other as (λ (o : (reply ≡ Noted) ⊎ ((n : ℕ) × (reply ≡ Leg n))). ⊥) [
        | inl is ↦ never-noted at.terms d (sym (replied-at at) ∙ is)
        | inr is ↦ never-leg at.terms d is.0 (sym (replied-at at) ∙ is.1)
      ]
