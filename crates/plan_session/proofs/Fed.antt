-- Runs whose boundaries take lines of a feed.
use Rattle.std.proofs.Common.{◌≡◌, ◌∙◌, ℕ, zero, suc, List, [], ◌∷◌, ◌++◌, length, map, refl, sym, ap}
use Rattle.std.proofs.lemmas.List.{append_assoc, map-append}
use Rattle.plan_reports.specs.declared.line.Line.{Line}
use Rattle.plan_reports.specs.declared.line.Line.TheVariants as line
use Rattle.plan_search.specs.Leg.{Leg, best_of, leg_from, next_step, stepped}
use Rattle.plan_search.specs.Posed.{Posed, State, game_of}
use Rattle.plan_search.specs.Quiet.{leg_after, lines_after}
use Rattle.plan_search.specs.Run.{cut_at, step_newest}
use Rattle.plan_search.specs.RunLines.{Feed, legs_lines, no_feed, opening_lines, step_line}
use Rattle.plan_session.specs.Course.{gone_on, line_in}
use Rattle.plan_session.specs.Fed.{bare, cuts_to, legs_past, legs_to, lines_so_far, unfed_leg}

module _ {Change : Type 0} (feed : Feed Change) (posed : Posed) where
  -- a leg goes on by a step as it does without its lines
  pub goes_on_bare : (k : ℕ) (leg : Leg State Change) → bare (stepped (game_of feed.handle posed) posed.settings k leg) ≡ gone_on posed k (bare leg)
  goes_on_bare k leg = refl

  -- the step that it makes is the same
  pub same_step : (k : ℕ) (leg : Leg State Change) → step_line posed (next_step (game_of feed.handle posed) posed.settings k leg) ≡ line_in posed k (bare leg)
  same_step k leg = refl

  -- one step more of the newest leg is one line more
  pub lines-step : (k : ℕ) (leg : Leg State Change) (older : List (Leg State Change))
      → lines_so_far feed posed (stepped (game_of feed.handle posed) posed.settings k leg ∷ older)
      ≡ lines_so_far feed posed (leg ∷ older) ++ line_in posed k (bare leg) ∷ []
  lines-step k leg older =
      let next = next_step (game_of feed.handle posed) posed.settings k leg in
      let first : Line = line.Run posed.name in
      let opening = opening_lines feed posed leg in
      let before = legs_lines feed posed older in
      let steps = map (step_line posed) leg.steps in
      let one = step_line posed next ∷ [] in
      ap (λ (lines : List Line). first ∷ (before ++ (opening ++ lines))) (map-append (step_line posed) leg.steps (next ∷ []))
      ∙ ap (λ (lines : List Line). first ∷ (before ++ lines)) (sym (append_assoc opening steps one))
      ∙ ap (λ (lines : List Line). first ∷ lines) (sym (append_assoc before (opening ++ steps) one))

  module _ (takes : ℕ → List Change) where
    -- how many boundaries were cut
    pub cut_count : (n : ℕ) → length (cuts_to takes n) ≡ suc n
    cut_count zero = refl
    cut_count (suc n) = ap (λ (k : ℕ). suc k) (cut_count n)

    -- the next boundary's cut, where the step before it was made
    pub legs-next : (n : ℕ) → legs_to feed posed takes (suc n) ≡ cut_at (game_of feed.handle posed) (suc n) (takes (suc n)) (legs_past feed posed takes n)
    legs-next n =
        ap (λ (k : ℕ). cut_at (game_of feed.handle posed) k (takes (suc n))
        (step_newest (game_of feed.handle posed) posed.settings k (legs_to feed posed takes n))) (cut_count n)

    -- a boundary that takes nothing leaves the legs as the step made them
    pub legs-quiet : (n : ℕ) (leg : Leg State Change) (older : List (Leg State Change)) → takes (suc n) ≡ []
        → legs_to feed posed takes n ≡ leg ∷ older
        → legs_to feed posed takes (suc n) ≡ stepped (game_of feed.handle posed) posed.settings (suc n) leg ∷ older
    legs-quiet n leg older none was =
        legs-next n
        ∙ ap (λ (lines : List Change). cut_at (game_of feed.handle posed) (suc n) lines (legs_past feed posed takes n)) none
        ∙ ap (λ (legs : List (Leg State Change)). cut_at (game_of feed.handle posed) (suc n) [] (step_newest (game_of feed.handle posed) posed.settings (suc n) legs)) was

    -- at one that takes lines a leg begins with the best state of the leg before
    pub legs-begin : (n : ℕ) (leg : Leg State Change) (older : List (Leg State Change)) (first : Change) (lines : List Change) → takes (suc n) ≡ first ∷ lines
        → legs_to feed posed takes n ≡ leg ∷ older
        → let g = game_of feed.handle posed in
        let done = stepped g posed.settings (suc n) leg in
        legs_to feed posed takes (suc n) ≡ leg_from g (suc n) (first ∷ lines) (best_of g done) ∷ done ∷ older
    legs-begin n leg older first lines some was =
        legs-next n
        ∙ ap (λ (taken : List Change). cut_at (game_of feed.handle posed) (suc n) taken (legs_past feed posed takes n)) some
        ∙ ap (λ (legs : List (Leg State Change)). cut_at (game_of feed.handle posed) (suc n) (first ∷ lines) (step_newest (game_of feed.handle posed) posed.settings (suc n) legs)) was

    -- where no boundary takes anything there is one leg
    pub unfed-legs : ((n : ℕ) → takes n ≡ []) → (n : ℕ) → legs_to feed posed takes n ≡ unfed_leg feed posed n ∷ []
    unfed-legs none zero = ap (λ (lines : List Change). cut_at (game_of feed.handle posed) 0 lines []) (none 0)
    unfed-legs none (suc n) = legs-quiet n (unfed_leg feed posed n) [] (none (suc n)) (unfed-legs none n)

  -- it is that of a run without a feed
  pub unfed-bare : (n : ℕ) → bare (unfed_leg feed posed n) ≡ leg_after posed n
  unfed-bare zero = refl
  unfed-bare (suc n) = ap (gone_on posed (suc n)) (unfed-bare n)

  unfed-opening : (n : ℕ) → opening_lines feed posed (unfed_leg feed posed n) ≡ opening_lines no_feed posed (leg_after posed n)
  unfed-opening zero = refl
  unfed-opening (suc n) = unfed-opening n

  -- and prints the same lines
  pub unfed-lines : (n : ℕ) → lines_so_far feed posed (unfed_leg feed posed n ∷ []) ≡ lines_after posed n
  unfed-lines n =
      let first : Line = line.Run posed.name in
      λ i. first ∷ (unfed-opening n i ++ map (step_line posed) (unfed-bare n i).steps)
