-- How a core goes on while worker 0 judges a step's candidates.
use Rattle.std.proofs.Common.{◌≡◌, ◌∙◌, ℕ, suc, ◌+◌, ◌-◌, ◌<◌, ◌≤◌, ◌==◌, Bool, true, false, if◌then◌else◌, List, ◌∷◌, Option, Some, None, Result, Ok, Err, IfOk, IfErr, ◌⊎◌, inl, inr, refl, sym, ap, subst, arith}
use Rattle.acceptors.specs.History.{History}
use Rattle.plan_search.specs.declared.found.Found.{Found}
use Rattle.search_core.specs.declared.event.Event.{Event}
use Rattle.search_core.specs.declared.event.Event.TheVariants.{Claim, Judge, Choose}
use Rattle.search_core.specs.declared.event.Reply.{Reply}
use Rattle.search_core.specs.declared.event.Reply.TheVariants.{Noted, Leg, More, Chosen}
use Rattle.search_core.specs.declared.event.CoreFault.{CoreFault}
use Rattle.search_core.specs.declared.event.CoreFault.TheVariants.{Memory}
use Rattle.search_core.specs.declared.machine.Core.{Core}
use Rattle.search_core.specs.Desk.{Desk, Terms, choice_on, choose_reply, desk, fault_of, first_asked, is_decided, more_count}
use Rattle.search_core.specs.Keeps.{GoesOn, StandsFor, Stays, terms_of}
use Rattle.search_core.specs.OneThread.{BeginsAt, DecidesAt, InStep, JudgesAt, after_reply, batch_events, judge_events, step_events, winner_number}
use Rattle.search_core.proofs.InStep.{begins-in, chosen-is, judge_events-in, more-in, undecided_below}

-- an event without a fault is refused for want of memory alone
pub only_memory : (old new : Core) (t : Terms) (events : List Event) (event : Event) (result : Result Reply CoreFault) → StandsFor t old events
    → fault_of t (desk t events) event ≡ None → IfErr result (λ fault. Stays old event fault new)
    → (e : CoreFault) → result ≡ Err e → e ≡ Memory
only_memory old new t events event (Ok reply) stands none stays e is = cc
only_memory old new t events event (Err fault) stands none stays e is =
    elim (stays t events stands).refused as (λ (r : (fault ≡ Memory) ⊎ (fault_of t (desk t events) event ≡ Some fault)). e ≡ Memory) [
      | inl m ↦ cc
      | inr s ↦ cc
    ]

-- an event that is taken is one that the core goes on with
pub goes_on_to : (old new : Core) (event : Event) (result : Result Reply CoreFault) (reply : Reply)
    → IfOk result (λ reply. GoesOn old event reply new) → result ≡ Ok reply → GoesOn old event reply new
goes_on_to old new event (Err fault) reply goes is = absurd cc
goes_on_to old new event (Ok other) reply goes is =
    let same : other ≡ reply = cc in
    subst (λ (r : Reply). GoesOn old event r new) same goes

-- one number more is judged
pub judge_events-next : (k : ℕ) (found : ℕ → Option Found) (first number : ℕ) (events : List Event) → first ≤ number
    → judge_events k found first (number + 1 - first) events
    ≡ Judge 0 k number (found number) ∷ Claim 0 k number ∷ judge_events k found first (number - first) events
judge_events-next k found first number events le =
    let more : number + 1 - first ≡ suc (number - first) = omega arith in
    let past : first + (number - first) ≡ number = omega arith in
    ap (λ (m : ℕ). judge_events k found first m events) more
    ∙ ap (λ (n : ℕ). Judge 0 k n (found n) ∷ Claim 0 k n ∷ judge_events k found first (number - first) events) past

-- a step goes on: so many numbers are asked from the next one on, and what is to come makes all its events
pub record Goes (t : Terms) (h : History) (core : Core) (k : ℕ) (found : ℕ → Option Found) (first count : ℕ) (all : List Event) : Type 0 where
  pub events : List Event
  pub left : ℕ
  pub since : ℕ
  pub stands : StandsFor t core events
  pub inside : InStep (desk t events) k h found (first + count) since first
  pub buffer : 1 ≤ t.buffer
  pub some : 1 ≤ count
  pub within : first + count ≤ t.settings.select_limit
  pub enough : t.settings.select_limit ≤ first + left
  pub same : batch_events t k found left first count events ≡ all

-- where some of the asked numbers are judged, the next one is to be judged
abbrev pub goes-judges : (t : Terms) (h : History) (start core : Core) (k : ℕ) (found : ℕ → Option Found) (first count number : ℕ) (all : List Event)
    (goes : Goes t h start k found first count all) → first ≤ number
    → StandsFor t core (judge_events k found first (number - first) goes.events) → JudgesAt core k number
goes-judges t h start core k found first count number all goes le stands =
    let past : first + (number - first) ≡ number = omega arith in
    record {
      terms = t;
      events = judge_events k found first (number - first) goes.events;
      history = h;
      found = found;
      asked = first + count;
      since = goes.since;
      stands = stands;
      inside = subst (λ (n : ℕ). InStep (desk t (judge_events k found first (number - first) goes.events)) k h found (first + count) goes.since n) past
          (judge_events-in t k h found (first + count) goes.since first (number - first) goes.events goes.inside);
    }

-- where all are judged, the step may be decided
abbrev pub goes-decides : (t : Terms) (h : History) (start core : Core) (k : ℕ) (found : ℕ → Option Found) (first count : ℕ) (all : List Event)
    (goes : Goes t h start k found first count all) → StandsFor t core (judge_events k found first count goes.events) → DecidesAt core k
goes-decides t h start core k found first count all goes stands = record {
  terms = t;
  events = judge_events k found first count goes.events;
  history = h;
  found = found;
  asked = first + count;
  since = goes.since;
  stands = stands;
  inside = judge_events-in t k h found (first + count) goes.since first count goes.events goes.inside;
}

-- it goes on so from its beginning
pub goes-first : (core : Core) (k : ℕ) (found : ℕ → Option Found) (count : ℕ) (at : BeginsAt core k) → count ≡ first_asked (terms_of core)
    → 1 ≤ core.buffer → 1 ≤ core.settings.select_limit
    → Goes at.terms at.history core k found 0 count (step_events at.terms k found at.events)
goes-first core k found count at is some all =
    let t = at.terms in
    let d : Desk = desk t at.events in
    let buffer : core.buffer ≡ t.buffer = ap (λ (x : Terms). x.buffer) at.stands.terms in
    let limit : core.settings.select_limit ≡ t.settings.select_limit = ap (λ (x : Terms). x.settings.select_limit) at.stands.terms in
    let first : count ≡ first_asked t = is ∙ ap first_asked at.stands.terms in
    let asked : d.asked ≡ 0 + count = at.begins.fresh.asked ∙ omega arith in
    record {
      events = at.events;
      left = t.settings.select_limit;
      since = d.posts;
      stands = at.stands;
      inside = begins-in t d k at.history found (0 + count) at.begins asked;
      buffer = omega arith;
      some = omega arith;
      within = omega arith;
      enough = omega arith;
      same = ap (λ (n : ℕ). batch_events t k found t.settings.select_limit 0 n at.events) first;
    }

-- what is left isn't none
pub one-left : (t : Terms) (left first count : ℕ) → 1 ≤ count → first + count ≤ t.settings.select_limit → t.settings.select_limit ≤ first + left
    → left ≡ suc (left - 1)
one-left t left first count some within enough = omega arith

pub decided-reply : (t : Terms) (d : Desk) (w : Option ℕ) → choose_reply t d ≡ Chosen w → (is_decided t d ≡ true) × (w ≡ choice_on t d)
decided-reply t d w is =
    elim (is_decided t d) as (λ (b : Bool). (if b then Chosen (choice_on t d) else More d.asked (more_count t d)) ≡ Chosen w → (b ≡ true) × (w ≡ choice_on t d)) [
      | true ↦ λ e. (refl, cc)
      | false ↦ λ e. cc
    ] is

pub undecided-reply : (t : Terms) (d : Desk) (n m : ℕ) → choose_reply t d ≡ More n m → (is_decided t d ≡ false) × (n ≡ d.asked) × (m ≡ more_count t d)
undecided-reply t d n m is =
    elim (is_decided t d) as (λ (b : Bool). (if b then Chosen (choice_on t d) else More d.asked (more_count t d)) ≡ More n m → (b ≡ false) × (n ≡ d.asked) × (m ≡ more_count t d)) [
      | true ↦ λ e. cc
      | false ↦ λ e. (refl, cc, cc)
    ] is

pub never-noted : (t : Terms) (d : Desk) → choose_reply t d ≡ Noted → ⊥
never-noted t d is =
    elim (is_decided t d) as (λ (b : Bool). (if b then Chosen (choice_on t d) else More d.asked (more_count t d)) ≡ Noted → ⊥) [ true ↦ λ e. cc | false ↦ λ e. cc ] is

pub never-leg : (t : Terms) (d : Desk) (n : ℕ) → choose_reply t d ≡ Leg n → ⊥
never-leg t d n is =
    elim (is_decided t d) as (λ (b : Bool). (if b then Chosen (choice_on t d) else More d.asked (more_count t d)) ≡ Leg n → ⊥) [ true ↦ λ e. cc | false ↦ λ e. cc ] is

module _ (t : Terms) (h : History) (core new : Core) (k : ℕ) (found : ℕ → Option Found) (first count : ℕ) (all : List Event) where
  abbrev pub judged : Goes t h core k found first count all → List Event
  judged goes = judge_events k found first count goes.events

  pub judged-inside : (goes : Goes t h core k found first count all)
      → InStep (desk t (judged goes)) k h found (first + count) goes.since (first + count)
  judged-inside goes = judge_events-in t k h found (first + count) goes.since first count goes.events goes.inside

  after-batch : (goes : Goes t h core k found first count all) (reply : Reply) → choose_reply t (desk t (judged goes)) ≡ reply
      → after_reply (λ next more. batch_events t k found (goes.left - 1) next more (Choose k ∷ judged goes)) (Choose k ∷ judged goes) reply ≡ all
  after-batch goes reply is =
      let one : goes.left ≡ suc (goes.left - 1) = one-left t goes.left first count goes.some goes.within goes.enough in
      ap (after_reply (λ next more. batch_events t k found (goes.left - 1) next more (Choose k ∷ judged goes)) (Choose k ∷ judged goes)) (sym is)
      ∙ (ap (λ (n : ℕ). batch_events t k found n first count goes.events) (sym one) ∙ goes.same)

  -- where the step is chosen these were all its events
  pub goes-chosen : (goes : Goes t h core k found first count all) (w : Option ℕ) → choose_reply t (desk t (judged goes)) ≡ Chosen w
      → (Choose k ∷ judged goes ≡ all) × (w ≡ winner_number t h found)
  goes-chosen goes w is =
      let d : Desk = desk t (judged goes) in
      let decided = decided-reply t d w is in (
        after-batch goes (Chosen w) is,
        decided.1 ∙ chosen-is d k h found (first + count) goes.since t (judged-inside goes) goes.within decided.0,
      )

  -- else it goes on with more
  pub goes-more : (goes : Goes t h core k found first count all) (n m : ℕ) → choose_reply t (desk t (judged goes)) ≡ More n m
      → StandsFor t new (Choose k ∷ judged goes) → (first < n) × (n < t.settings.select_limit) × Goes t h new k found n m all
  goes-more goes n m is stands =
      let d : Desk = desk t (judged goes) in
      let u = undecided-reply t d n m is in
      let inside = judged-inside goes in
      let asked : d.asked ≡ first + count = inside.asked in
      let below : (d.asked == t.settings.select_limit) ≡ false = undecided_below _ (d.asked == t.settings.select_limit) u.0 in
      let other : d.asked < t.settings.select_limit = grind arith in
      let next : n ≡ d.asked = u.1 in
      let more : m ≡ more_count t d = u.2 in
      let within : first + count ≤ t.settings.select_limit = goes.within in
      let some : 1 ≤ count = goes.some in
      let enough : t.settings.select_limit ≤ first + goes.left = goes.enough in
      let buffer : 1 ≤ t.buffer = goes.buffer in (
        omega arith,
        omega arith,
        record {
          events = Choose k ∷ judged goes;
          left = goes.left - 1;
          since = goes.since;
          stands = stands;
          inside = subst (λ (x : ℕ). InStep (desk t (Choose k ∷ judged goes)) k h found (x + m) goes.since x) (sym next)
              (subst (λ (y : ℕ). InStep (desk t (Choose k ∷ judged goes)) k h found (d.asked + y) goes.since d.asked) (sym more)
              (more-in d k h found (first + count) goes.since t inside u.0));
          buffer = goes.buffer;
          some = omega arith;
          within = omega arith;
          enough = omega arith;
          same = after-batch goes (More n m) is;
        },
      )
