-- The events that one thread makes are taken.
use Rattle.std.proofs.Common.{◌≡◌, ℕ, suc, ◌+◌, ◌<◌, ◌≤◌, if◌then◌else◌, Bool, true, false, nat_le, List, [], ◌∷◌, length, refl, sym, subst, arith}
use Rattle.acceptors.specs.History.{History, begun}
use Rattle.plan_search.specs.Game.{Game, found_at}
use Rattle.search_core.specs.declared.event.Event.{Event}
use Rattle.search_core.specs.declared.event.Event.TheVariants.{Post, Cut, Start}
use Rattle.search_core.specs.Desk.{Desk, Terms, begins_leg, desk, next_desk, no_score}
use Rattle.search_core.specs.OneThread.{BeginsStep, EndsStep, step_events, won_history}
use Rattle.search_core.specs.EventsOf.{cut_events, events_to_cut, post_events, state_after, step_on}
use Rattle.search_core.specs.Truth.{IsTaken, post_count}
use Rattle.search_core.proofs.Boundaries.{cut-begins, cut-taken, cut-waits, empty-ends, post-ends, start-begins, start-taken}
use Rattle.search_core.proofs.InStep.{step_events-done}

-- Posts are taken
posts-taken : {Line : Type 0} (t : Terms) (k since : ℕ) (h : History) (lines : List Line) (events : List Event) → IsTaken t events → EndsStep t (desk t events) k since h
    → IsTaken t (post_events lines events) × EndsStep t (desk t (post_events lines events)) k (since + length lines) h
posts-taken t k since h [] events taken ends =
    let e : since ≡ since + 0 = omega arith in
    (taken, subst (λ (n : ℕ). EndsStep t (desk t events) k n h) e ends)
posts-taken t k since h (line ∷ lines) events taken ends =
    let post = Post 0 (post_count events) in
    let later = posts-taken t k (since + 1) h lines (post ∷ events) (taken, refl) (post-ends t (desk t events) k since h 0 (post_count events) ends) in
    let e : (since + 1) + length lines ≡ since + suc (length lines) = omega arith in
    (later.0, subst (λ (n : ℕ). EndsStep t (desk t (post_events lines (post ∷ events))) k n h) e later.1)

-- up to the step limit the next step begins
pub record CutMade (t : Terms) (k : ℕ) (events : List Event) : Type 0 where
  pub taken : IsTaken t events
  pub posts : (desk t events).posts ≡ 0
  pub begins : k ≤ t.settings.steps → (h : History) × BeginsStep t (desk t events) k h

-- and then ends
pub record StepMade (t : Terms) (k : ℕ) (events : List Event) : Type 0 where
  pub taken : IsTaken t events
  pub ends : k ≤ t.settings.steps → (h : History) × EndsStep t (desk t events) k 0 h

module _ {State Line : Type 0} (g : Game State Line) (t : Terms) where
  cut-made : (older : List (List Line)) (lines : List Line) (events : List Event) → length older ≤ t.settings.steps → StepMade t (length older) events
      → CutMade t (length older + 1) (cut_events g t older lines events)
  cut-made older lines events within made =
      let k = length older in
      let ended = made.ends within in
      let h : History = ended.0 in
      let posts = posts-taken t k 0 h lines events made.taken ended.1 in
      let before = post_events lines events in
      let d : Desk = desk t before in
      let many : 0 + length lines ≡ length lines = omega arith in
      let ends : EndsStep t d k (length lines) h = subst (λ (n : ℕ). EndsStep t d k n h) many posts.1 in
      let cut : IsTaken t (Cut k ∷ before) = (posts.0, cut-taken t d k (length lines) h ends within) in
      let score = g.score (state_after g t (lines ∷ older)) in
      elim (begins_leg k (length lines)) as (λ (b : Bool). (b ≡ begins_leg k (length lines)) → CutMade t (k + 1) (if b then Start score ∷ Cut k ∷ before else Cut k ∷ before)) [
        | true ↦ λ e.
            let waits = (cut-waits t d k (length lines) h ends (sym e)).1 in
            record {
              taken = (cut, start-taken t (next_desk t d (Cut k)) k score waits);
              posts = refl;
              begins = λ le. (begun score, start-begins t (next_desk t d (Cut k)) k score waits le);
            }
        | false ↦ λ e. record {
          taken = cut;
          posts = refl;
          begins = λ le. (h, (cut-begins t d k (length lines) h ends (sym e) le).1);
        }
      ] refl

  step-made : (older : List (List Line)) (lines : List Line) (events : List Event) → 1 ≤ t.buffer → 1 ≤ t.settings.select_limit
      → CutMade t (length older + 1) events → StepMade t (suc (length older)) (step_on g t (lines ∷ older) events)
  step-made older lines events some all made =
      let k = length older + 1 in
      let same : k ≡ suc (length older) = omega arith in
      let found = found_at g k (state_after g t (lines ∷ older)) in
      elim (nat_le k t.settings.steps) as (λ (b : Bool). (b ≡ nat_le k t.settings.steps) → StepMade t (suc (length older)) (if b then step_events t k found events else events)) [
        | true ↦ λ e.
            let within : k ≤ t.settings.steps = grind arith in
            let begun = made.begins within in
            let done = step_events-done t k begun.0 found events some all made.taken begun.1 in
            record {
              taken = done.taken;
              ends = λ le. (
                won_history t begun.0 found,
                subst (λ (n : ℕ). EndsStep t (desk t (step_events t k found events)) n 0 (won_history t begun.0 found)) same
                    (subst (λ (n : ℕ). EndsStep t (desk t (step_events t k found events)) k n (won_history t begun.0 found)) made.posts done.ends),
              );
            }
        | false ↦ λ e. record {
          taken = made.taken;
          ends = λ le. absurd (let past : t.settings.steps < k = grind arith in omega arith);
        }
      ] refl

  -- the events of a run with the step after its newest cut
  pub events_of-taken : (cuts : List (List Line)) → 1 ≤ t.buffer → 1 ≤ t.settings.select_limit → length cuts ≤ t.settings.steps + 1
      → StepMade t (length cuts) (step_on g t cuts (events_to_cut g t cuts))
  events_of-taken [] some all within = record { taken = tt; ends = λ le. (begun no_score, empty-ends t) }
  events_of-taken (lines ∷ older) some all within =
      step-made older lines (events_to_cut g t (lines ∷ older)) some all
      (cut-made older lines (step_on g t older (events_to_cut g t older)) (omega arith) (events_of-taken older some all (omega arith)))

  -- those up to its newest cut
  pub to_cut-taken : (cuts : List (List Line)) → 1 ≤ t.buffer → 1 ≤ t.settings.select_limit → length cuts ≤ t.settings.steps + 1 → IsTaken t (events_to_cut g t cuts)
  to_cut-taken [] some all within = tt
  to_cut-taken (lines ∷ older) some all within =
      (cut-made older lines (step_on g t older (events_to_cut g t older)) (omega arith) (events_of-taken older some all (omega arith))).taken
