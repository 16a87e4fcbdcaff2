-- The events that one thread makes are true of the search, and take the lines that they should.
use Rattle.std.proofs.Common.{◌≡◌, ◌∙◌, ℕ, zero, suc, ◌+◌, ◌<◌, if◌then◌else◌, Bool, true, false, nat_le, List, [], ◌∷◌, ◌++◌, length, slice_get, option_to_list, Option, Some, refl, sym, ap, subst, arith, append-nil, append_assoc, length-append}
use Rattle.std.proofs.lemmas.List.{length_push}
use Rattle.plan_search.specs.declared.found.Found.{Found}
use Rattle.plan_search.specs.Game.{Game, found_at}
use Rattle.plan_search.specs.Run.{run_to_cut, state_in}
use Rattle.search_core.specs.declared.event.Event.{Event}
use Rattle.search_core.specs.declared.event.Event.TheVariants.{Post, Cut, Start, Choose}
use Rattle.search_core.specs.declared.event.Reply.{Reply}
use Rattle.search_core.specs.declared.event.Reply.TheVariants.{Noted, Leg, More, Chosen}
use Rattle.search_core.specs.Desk.{Terms, begins_leg, choose_reply, desk, first_asked}
use Rattle.search_core.specs.OneThread.{after_reply, batch_events, judge_events}
use Rattle.search_core.specs.EventsOf.{cut_events, events_to_cut, post_events, posted, state_after, step_on}
use Rattle.search_core.specs.Truth.{AreTrue, cuts_in, pending, post_count, state_at}

-- no line is posted and no cut made between
pub record SameCuts {Line : Type 0} (all : List Line) (older newer : List Event) : Type 0 where
  pub count : post_count newer ≡ post_count older
  pub since : pending all newer ≡ pending all older
  pub cuts : cuts_in all newer ≡ cuts_in all older

slice_get-seam : {A : Type 0} (front : List A) (x : A) (rest : List A) → slice_get (front ++ x ∷ rest) (length front) ≡ Some x
slice_get-seam [] x rest = refl
slice_get-seam (y ∷ front) x rest = slice_get-seam front x rest

module _ {State Line : Type 0} (g : Game State Line) (t : Terms) (all : List Line) where
  -- what is found tells what holds after some events
  abbrev pub Tells : ℕ → (ℕ → Option Found) → List Event → Type 0
  Tells k found events = (n : ℕ) → found n ≡ found_at g k (state_at g t all events) n

  tells-same : (k : ℕ) (found : ℕ → Option Found) (older newer : List Event) → SameCuts all older newer → Tells k found older → Tells k found newer
  tells-same k found older newer same tells n =
      tells n ∙ ap (λ (cuts : List (List Line)). found_at g k (state_in g (run_to_cut g t.settings cuts)) n) (sym same.cuts)

  judge_events-same : (k : ℕ) (found : ℕ → Option Found) (first count : ℕ) (events : List Event) → SameCuts all events (judge_events k found first count events)
  judge_events-same k found first zero events = record { count = refl; since = refl; cuts = refl }
  judge_events-same k found first (suc count) events =
      let before = judge_events-same k found first count events in
      record { count = before.count; since = before.since; cuts = before.cuts }

  judge_events-true : (k : ℕ) (found : ℕ → Option Found) (first count : ℕ) (events : List Event) → AreTrue g t all events → Tells k found events
      → AreTrue g t all (judge_events k found first count events)
  judge_events-true k found first zero events holds tells = holds
  judge_events-true k found first (suc count) events holds tells =
      let before = judge_events k found first count events in (
        (judge_events-true k found first count events holds tells, tt),
        tells-same k found events before (judge_events-same k found first count events) tells (first + count),
      )

  -- the events of a step are true, and take no line
  pub record StepTold (older newer : List Event) : Type 0 where
    pub holds : AreTrue g t all newer
    pub same : SameCuts all older newer

  batch_events-told : (k : ℕ) (found : ℕ → Option Found) (left first count : ℕ) (events : List Event) → AreTrue g t all events → Tells k found events
      → StepTold events (batch_events t k found left first count events)
  batch_events-told k found zero first count events holds tells = record { holds = holds; same = record { count = refl; since = refl; cuts = refl } }
  batch_events-told k found (suc left) first count events holds tells =
      let judged = judge_events k found first count events in
      let same : SameCuts all events judged = judge_events-same k found first count events in
      let here : AreTrue g t all (Choose k ∷ judged) = (judge_events-true k found first count events holds tells, tt) in
      let chosen : StepTold events (Choose k ∷ judged) = record { holds = here; same = record { count = same.count; since = same.since; cuts = same.cuts } } in
      elim (choose_reply t (desk t judged)) as (λ (r : Reply). StepTold events (after_reply (λ next more. batch_events t k found left next more (Choose k ∷ judged)) (Choose k ∷ judged) r)) [
        | More next more ↦
            let rest = batch_events-told k found left next more (Choose k ∷ judged) here (tells-same k found events (Choose k ∷ judged) chosen.same tells) in
            record {
              holds = rest.holds;
              same = record { count = rest.same.count ∙ same.count; since = rest.same.since ∙ same.since; cuts = rest.same.cuts ∙ same.cuts };
            }
        | Chosen winner ↦ chosen
        | Leg posts ↦ chosen
        | Noted ↦ chosen
      ]

  -- events that stand after some cuts: they are true, and the cuts took these lines
  pub record IsTold (cuts : List (List Line)) (events : List Event) : Type 0 where
    pub holds : AreTrue g t all events
    pub count : post_count events ≡ length (posted cuts)
    pub since : pending all events ≡ []
    pub taken : cuts_in all events ≡ cuts

  step-told : (cuts : List (List Line)) (events : List Event) → IsTold cuts events → IsTold cuts (step_on g t cuts events)
  step-told [] events told = told
  step-told (lines ∷ older) events told =
      let k = length older + 1 in
      let found = found_at g k (state_after g t (lines ∷ older)) in
      elim (nat_le k t.settings.steps) as (λ (b : Bool). IsTold (lines ∷ older) (if b then batch_events t k found t.settings.select_limit 0 (first_asked t) events else events)) [
        | true ↦
            let step = batch_events-told k found t.settings.select_limit 0 (first_asked t) events told.holds
            (λ n. ap (λ (cuts : List (List Line)). found_at g k (state_in g (run_to_cut g t.settings cuts)) n) (sym told.taken)) in
            record {
              holds = step.holds;
              count = step.same.count ∙ told.count;
              since = step.same.since ∙ told.since;
              taken = step.same.cuts ∙ told.taken;
            }
        | false ↦ told
      ]

  -- the Posts of some lines, after those of others
  pub record PostsTold (front lines : List Line) (older newer : List Event) : Type 0 where
    pub holds : AreTrue g t all newer
    pub count : post_count newer ≡ length (front ++ lines)
    pub since : pending all newer ≡ pending all older ++ lines
    pub cuts : cuts_in all newer ≡ cuts_in all older

  posts-told : (front lines rest : List Line) (events : List Event) → all ≡ front ++ (lines ++ rest) → post_count events ≡ length front → AreTrue g t all events
      → PostsTold front lines events (post_events lines events)
  posts-told front [] rest events is count holds = record {
    holds = holds;
    count = count ∙ ap (λ (xs : List Line). length xs) (sym (append-nil front));
    since = sym (append-nil (pending all events));
    cuts = refl;
  }
  posts-told front (line ∷ lines) rest events is count holds =
      let there : slice_get all (post_count events) ≡ Some line =
      ap (λ (n : ℕ). slice_get all n) count
      ∙ (ap (λ (xs : List Line). slice_get xs (length front)) is ∙ slice_get-seam front line (lines ++ rest)) in
      let whole : length all ≡ length front + length (line ∷ (lines ++ rest)) = ap (λ (xs : List Line). length xs) is ∙ length-append front (line ∷ (lines ++ rest)) in
      let many : length (line ∷ (lines ++ rest)) ≡ suc (length (lines ++ rest)) = refl in
      let some : post_count events < length all = omega arith in
      let next : all ≡ (front ++ line ∷ []) ++ (lines ++ rest) = is ∙ sym (append_assoc front (line ∷ []) (lines ++ rest)) in
      let more : post_count events + 1 ≡ length (front ++ line ∷ []) = ap (λ (n : ℕ). n + 1) count ∙ sym (length_push front line) in
      let later = posts-told (front ++ line ∷ []) lines rest (Post 0 (post_count events) ∷ events) next more (holds, some) in
      record {
        holds = later.holds;
        count = later.count ∙ ap (λ (xs : List Line). length xs) (append_assoc front (line ∷ []) lines);
        since = later.since
            ∙ (ap (λ (o : Option Line). (pending all events ++ option_to_list o) ++ lines) there
            ∙ append_assoc (pending all events) (line ∷ []) lines);
        cuts = later.cuts;
      }

  cut-told : (older : List (List Line)) (lines rest : List Line) (events : List Event) → all ≡ posted older ++ (lines ++ rest) → IsTold older events
      → IsTold (lines ∷ older) (cut_events g t older lines events)
  cut-told older lines rest events is told =
      let posts = posts-told (posted older) lines rest events is told.count told.holds in
      let before = post_events lines events in
      let took : pending all before ≡ lines = posts.since ∙ ap (λ (xs : List Line). xs ++ lines) told.since in
      let cuts : pending all before ∷ cuts_in all before ≡ lines ∷ older =
      ap (λ (xs : List Line). xs ∷ cuts_in all before) took ∙ ap (λ (xs : List (List Line)). lines ∷ xs) (posts.cuts ∙ told.taken) in
      elim (begins_leg (length older) (length lines)) as (λ (b : Bool). IsTold (lines ∷ older) (if b then Start (g.score (state_after g t (lines ∷ older))) ∷ Cut (length older) ∷ before else Cut (length older) ∷ before)) [
        | true ↦ record {
          holds = ((posts.holds, tt), ap (λ (xs : List (List Line)). g.score (state_in g (run_to_cut g t.settings xs))) (sym cuts));
          count = posts.count;
          since = refl;
          taken = cuts;
        }
        | false ↦ record { holds = (posts.holds, tt); count = posts.count; since = refl; taken = cuts }
      ]

-- the events of a run up to its newest cut are told, whatever lines come later
pub to_cut-told : {State Line : Type 0} (g : Game State Line) (t : Terms) (cuts : List (List Line)) (rest : List Line)
    → IsTold g t (posted cuts ++ rest) cuts (events_to_cut g t cuts)
to_cut-told g t [] rest = record { holds = tt; count = refl; since = refl; taken = refl }
to_cut-told g t (lines ∷ older) rest =
    let all = posted older ++ (lines ++ rest) in
    subst (λ all. IsTold g t all (lines ∷ older) (events_to_cut g t (lines ∷ older))) (sym (append_assoc (posted older) lines rest))
    (cut-told g t all older lines rest (step_on g t older (events_to_cut g t older)) refl
    (step-told g t all older (events_to_cut g t older) (to_cut-told g t older (lines ++ rest))))

-- and so are those with the step after it
pub events_of-told : {State Line : Type 0} (g : Game State Line) (t : Terms) (cuts : List (List Line)) (rest : List Line)
    → IsTold g t (posted cuts ++ rest) cuts (step_on g t cuts (events_to_cut g t cuts))
events_of-told g t cuts rest = step-told g t (posted cuts ++ rest) cuts (events_to_cut g t cuts) (to_cut-told g t cuts rest)
