-- How a desk goes on between steps: Posts, a Cut, a Start.
use Rattle.std.proofs.Common.{◌≡◌, ◌∙◌, ℕ, ◌+◌, ◌≤◌, ◌==◌, ◌||◌, if◌then◌else◌, Bool, true, false, not, nat_lt, nat_le, Some, None, refl, ap, arith}
use Rattle.plan_scores.specs.declared.plan_score.PlanScore.{PlanScore}
use Rattle.acceptors.specs.History.{History, begun}
use Rattle.search_core.specs.declared.machine.Phase.{Phase}
use Rattle.search_core.specs.declared.machine.Phase.TheVariants.{Idle, Waits, Open}
use Rattle.search_core.specs.declared.event.Event.TheVariants.{Post, Cut, Start}
use Rattle.search_core.specs.declared.event.Reply.TheVariants.{Noted, Leg}
use Rattle.search_core.specs.declared.event.CoreFault.TheVariants.{BadBoundary, BadStep, NoLeg}
use Rattle.search_core.specs.Desk.{Desk, Terms, begins_leg, empty_desk, fault_of, is_open, is_waiting, next_desk, no_score, phase_after, reply_to}
use Rattle.search_core.specs.OneThread.{BeginsStep, EndsStep, WaitsAt}

-- before any event boundary 0 is to be cut
pub empty-ends : (t : Terms) → EndsStep t (empty_desk t) 0 0 (begun no_score)
empty-ends t = record {
  phase = refl;
  cuts = refl;
  chosen = refl;
  posts = refl;
  history = refl;
  fresh = record { asked = refl; claims = λ n. refl; verdicts = λ n. refl };
}

module _ (t : Terms) (d : Desk) (k : ℕ) where
  -- a Post changes the number of Posts alone
  pub post-ends : (since : ℕ) (h : History) (seat number : ℕ) → EndsStep t d k since h → EndsStep t (next_desk t d (Post seat number)) k (since + 1) h
  post-ends since h seat number e = record {
    phase = e.phase;
    cuts = e.cuts;
    chosen = e.chosen;
    posts = ap (λ (n : ℕ). n + 1) e.posts;
    history = e.history;
    fresh = record { asked = e.fresh.asked; claims = e.fresh.claims; verdicts = e.fresh.verdicts };
  }

  -- the next boundary may be cut, up to the step limit
  pub cut-taken : (since : ℕ) (h : History) → EndsStep t d k since h → k ≤ t.settings.steps → fault_of t d (Cut k) ≡ None
  cut-taken since h e within =
      let cuts : d.cuts ≡ k = e.cuts in
      let right : (not (k == d.cuts) || nat_lt t.settings.steps d.cuts) ≡ false = grind arith in
      ap (λ (b : Bool). if b then Some (BadBoundary d.cuts) else (if is_waiting d.phase then Some NoLeg else (if is_open d.phase then Some (BadStep d.cuts) else None))) right
      ∙ ap (λ (p : Phase). if is_waiting p then Some NoLeg else (if is_open p then Some (BadStep d.cuts) else None)) e.phase

  -- where the Cut begins a leg that waits
  pub cut-waits : (since : ℕ) (h : History) → EndsStep t d k since h → begins_leg k since ≡ true
      → (reply_to t d (Cut k) ≡ Leg since) × WaitsAt t (next_desk t d (Cut k)) k
  cut-waits since h e begins =
      let does : begins_leg k d.posts ≡ true = ap (begins_leg k) e.posts ∙ begins in (
        ap (λ (b : Bool). if b then Leg d.posts else Noted) does ∙ ap (λ (n : ℕ). Leg n) e.posts,
        record {
          phase = ap (λ (b : Bool). if b then Waits else phase_after t (d.cuts + 1)) does;
          cuts = ap (λ (n : ℕ). n + 1) e.cuts;
          chosen = e.chosen;
          posts = refl;
          fresh = record { asked = e.fresh.asked; claims = e.fresh.claims; verdicts = e.fresh.verdicts };
        },
      )

  -- else the next step begins, up to the step limit
  pub cut-begins : (since : ℕ) (h : History) → EndsStep t d k since h → begins_leg k since ≡ false → k + 1 ≤ t.settings.steps
      → (reply_to t d (Cut k) ≡ Noted) × BeginsStep t (next_desk t d (Cut k)) (k + 1) h
  cut-begins since h e goes within =
      let does : begins_leg k d.posts ≡ false = ap (begins_leg k) e.posts ∙ goes in
      let cuts : d.cuts ≡ k = e.cuts in
      let comes : nat_le (d.cuts + 1) t.settings.steps ≡ true = grind arith in (
        ap (λ (b : Bool). if b then Leg d.posts else Noted) does,
        record {
          phase = ap (λ (b : Bool). if b then Waits else phase_after t (d.cuts + 1)) does ∙ ap (λ (b : Bool). if b then Open else Idle) comes;
          cuts = ap (λ (n : ℕ). n + 1) e.cuts;
          chosen = ap (λ (n : ℕ). n + 1) e.chosen;
          history = e.history;
          fresh = record { asked = e.fresh.asked; claims = e.fresh.claims; verdicts = e.fresh.verdicts };
        },
      )

  -- a leg that waits may start
  pub start-taken : (score : PlanScore) → WaitsAt t d k → fault_of t d (Start score) ≡ None
  start-taken score w = ap (λ (p : Phase). if is_waiting p then None else Some NoLeg) w.phase

  -- and then its first step begins, up to the step limit
  pub start-begins : (score : PlanScore) → WaitsAt t d k → k + 1 ≤ t.settings.steps
      → BeginsStep t (next_desk t d (Start score)) (k + 1) (begun score)
  start-begins score w within =
      let cuts : d.cuts ≡ k + 1 = w.cuts in
      let comes : nat_le d.cuts t.settings.steps ≡ true = grind arith in
      record {
        phase = ap (λ (b : Bool). if b then Open else Idle) comes;
        cuts = w.cuts;
        chosen = ap (λ (n : ℕ). n + 1) w.chosen;
        history = refl;
        fresh = record { asked = w.fresh.asked; claims = w.fresh.claims; verdicts = w.fresh.verdicts };
      }
