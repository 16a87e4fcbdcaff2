-- How a core begins a leg at a boundary: lines were posted, the boundary is cut, and the leg starts.
use Rattle.std.proofs.Common.{◌≡◌, ◌∙◌, ◌≤◌, ◌+◌, ℕ, suc, true, List, [], ◌∷◌, map, refl, sym, ap, subst, arith}
use Rattle.plan_scores.specs.declared.plan_score.PlanScore.{PlanScore}
use Rattle.plan_settings.specs.declared.settings.Settings.{Settings}
use Rattle.acceptors.specs.History.{History, begun}
use Rattle.plan_search.specs.Posed.{Posed, state_score}
use Rattle.plan_search.specs.Leg.{past_of}
use Rattle.plan_search.specs.Quiet.{game}
use Rattle.search_core.specs.declared.event.Event.{Event}
use Rattle.search_core.specs.declared.event.Event.TheVariants.{Cut, Post, Start}
use Rattle.search_core.specs.declared.event.Reply.{Reply}
use Rattle.search_core.specs.declared.machine.Core.{Core}
use Rattle.search_core.specs.Desk.{Terms, begins_leg, desk, no_score}
use Rattle.search_core.specs.Keeps.{GoesOn, HasNoFault, StandsFor, terms_of}
use Rattle.search_core.specs.OneThread.{BeginsStep, WaitsAt}
use Rattle.search_core.specs.Truth.{IsTaken}
use Rattle.search_core.proofs.Boundaries.{cut-taken, cut-waits, empty-ends, post-ends, start-begins, start-taken}
use Rattle.plan_session.specs.Course.{BareLeg, IsDecider, IsEnded, IsEndedAfter, IsQuiet, TakesEvent, history_in, terms}

-- on a core that stands for no events boundary 0 is to be cut
pub new_ended : (t : Terms) (core : Core) → StandsFor t core [] → IsEnded core 0
new_ended t core stands = record {
  terms = t;
  events = [];
  history = begun no_score;
  stands = stands;
  taken = tt;
  ends = empty-ends t;
}

module _ (core : Core) (k posts : ℕ) (ended : IsEndedAfter core k posts) where
  -- so many lines were posted
  pub posts_are : core.posts ≡ posts
  posts_are = ended.stands.keeps.posts ∙ ended.ends.posts

  -- a post is taken
  pub post_is_due : (number : ℕ) → HasNoFault core (Post 0 number)
  post_is_due number = record { terms = ended.terms; events = ended.events; stands = ended.stands; none = refl }

  -- and is one more
  pub posted_one : (new : Core) (number : ℕ) (reply : Reply) → GoesOn core (Post 0 number) reply new → IsEndedAfter new k (posts + 1)
  posted_one new number reply goes =
      let went = goes ended.terms ended.events ended.stands in
      record {
        terms = ended.terms;
        events = Post 0 number ∷ ended.events;
        history = ended.history;
        stands = went.stands;
        taken = (ended.taken, went.taken);
        ends = post-ends ended.terms (desk ended.terms ended.events) k posts ended.history 0 number ended.ends;
      }

  pub same_after : (new : Core) (number : ℕ) (reply : Reply) → GoesOn core (Post 0 number) reply new → terms_of new ≡ terms_of core
  same_after new number reply goes =
      (goes ended.terms ended.events ended.stands).stands.terms ∙ sym ended.stands.terms

  -- the boundary may be cut, up to the step limit
  pub cut_due_after : k ≤ (terms_of core).settings.steps → HasNoFault core (Cut k)
  cut_due_after within = record {
    terms = ended.terms;
    events = ended.events;
    stands = ended.stands;
    none = cut-taken ended.terms (desk ended.terms ended.events) k posts ended.history ended.ends
        (subst (λ (t : Terms). k ≤ t.settings.steps) ended.stands.terms within);
  }

  module _ (within : k ≤ (terms_of core).settings.steps) (begins : begins_leg k posts ≡ true) (cut : Core)
      (takes : TakesEvent core (Cut k) cut) where
    -- behind the cut a leg waits to start
    waits : WaitsAt ended.terms (desk ended.terms (Cut k ∷ ended.events)) k
    waits = (cut-waits ended.terms (desk ended.terms ended.events) k posts ended.history ended.ends begins).1

    cut_stands : StandsFor ended.terms cut (Cut k ∷ ended.events)
    cut_stands = takes ended.terms ended.events ended.stands

    -- so its start is due
    pub start_due_after : (score : PlanScore) → HasNoFault cut (Start score)
    start_due_after score = record {
      terms = ended.terms;
      events = Cut k ∷ ended.events;
      stands = cut_stands;
      none = start-taken ended.terms (desk ended.terms (Cut k ∷ ended.events)) k score waits;
    }

    module _ (score : PlanScore) (new : Core) (reply : Reply) (goes : GoesOn cut (Start score) reply new) where
      abbrev events : List Event
      events = Start score ∷ Cut k ∷ ended.events

      stands : StandsFor ended.terms new events
      stands = (goes ended.terms (Cut k ∷ ended.events) cut_stands).stands

      taken : IsTaken ended.terms events
      unfolding cut_due_after start_due_after
      taken = (
        (ended.taken, (cut_due_after within).none),
        (start_due_after score).none,
      )

      -- the terms stay
      pub begun_terms : terms_of new ≡ terms_of core
      begun_terms = stands.terms ∙ sym ended.stands.terms

      -- nothing was posted since
      pub begun_quiet : IsQuiet new
      begun_quiet = stands.keeps.posts ∙ waits.posts

      -- the first step begins, up to the step limit
      begins_next : suc k ≤ ended.terms.settings.steps → BeginsStep ended.terms (desk ended.terms events) (suc k) (begun score)
      begins_next more =
          let next : k + 1 ≡ suc k = omega arith in
          subst (λ (n : ℕ). BeginsStep ended.terms (desk ended.terms events) n (begun score)) next
          (start-begins ended.terms (desk ended.terms (Cut k ∷ ended.events)) k score waits (omega (arith, more)))

      -- and the core decides the first step of the leg
      begun_decides_by : (posed : Posed) (leg : BareLeg) → ended.terms.settings ≡ posed.settings → begun score ≡ history_in posed leg
          → IsDecider posed (suc k) leg new
      begun_decides_by posed leg settings history =
          let same : ended.terms ≡ terms posed ended.terms.buffer =
          λ i. record { settings = settings i; buffer = ended.terms.buffer } in
          record {
            buffer = ended.terms.buffer;
            events = events;
            stands = subst (λ (t : Terms). StandsFor t new events) same stands;
            taken = subst (λ (t : Terms). IsTaken t events) same taken;
            begins = λ more.
                subst (λ (h : History). BeginsStep (terms posed ended.terms.buffer) (desk (terms posed ended.terms.buffer) events) (suc k) h) history
                (subst (λ (t : Terms). BeginsStep t (desk t events) (suc k) (begun score)) same
                (begins_next (subst (λ (s : Settings). suc k ≤ s.steps) (sym settings) more)));
          }

      pub begun_decides : (posed : Posed) (leg : BareLeg) → (terms_of core).settings ≡ posed.settings → leg.steps ≡ []
          → score ≡ state_score posed leg.start → IsDecider posed (suc k) leg new
      begun_decides posed leg settings fresh scored =
          begun_decides_by posed leg (ap (λ (t : Terms). t.settings) (sym ended.stands.terms) ∙ settings)
          (λ i. record { start = scored i; steps = ap (map (past_of (game posed))) (sym fresh) i })
