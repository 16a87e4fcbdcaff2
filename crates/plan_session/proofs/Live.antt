-- Runs whose boundaries take lines of a feed, leg by leg: the legs and the text so far, by what each boundary takes.
use Rattle.std.proofs.Common.{◌≡◌, ◌∙◌, ◌≤◌, ◌+◌, ◌-◌, ℕ, zero, suc, List, [], ◌∷◌, ◌++◌, length, refl, sym, ap, subst, arith}
use Rattle.std.proofs.lemmas.List.{append-nil, append_assoc}
use Rattle.std.proofs.lemmas.Grind.{flat_map-append}
use Rattle.plan_reports.specs.declared.line.Line.{Line}
use Rattle.plan_reports.specs.declared.line.Line.TheVariants as line
use Rattle.plan_reports.specs.Lines.{line_text}
use Rattle.plan_search.specs.Leg.{Leg, stepped}
use Rattle.plan_search.specs.Posed.{Posed, State, game_of}
use Rattle.plan_search.specs.Run.{cut_at, step_newest}
use Rattle.plan_search.specs.RunLines.{Feed, best_lines_of, opening_lines, run_lines, text_of}
use Rattle.plan_session.specs.Course.{BareLeg, best_in, gone_on, line_in, step_text}
use Rattle.plan_session.specs.Fed.{bare, fed_text, legs_to, lines_so_far, newest}
use Rattle.plan_session.specs.Live.{leg_begun, leg_behind, lines_behind, next_leg, next_lines, next_text, opening_text, text_behind, text_to}
use Rattle.plan_session.proofs.Fed.{legs-next, lines-step}

-- the text of lines behind others
pub text-append : (posed : Posed) (one other : List Line) → text_of posed (one ++ other) ≡ text_of posed one ++ text_of posed other
text-append posed one other = flat_map-append (line_text posed.classes posed.rules) one other

module _ {Change : Type 0} (feed : Feed Change) (posed : Posed) where
  -- behind a boundary's cut the newest leg is the one behind the boundary
  behind_cut : (k : ℕ) (lines : List Change) (leg : Leg State Change) (older : List (Leg State Change))
      → newest posed (cut_at (game_of feed.handle posed) k lines (leg ∷ older)) ≡ leg_behind feed posed k lines (bare leg)
  behind_cut k [] leg older = refl
  behind_cut k (first ∷ lines) leg older = refl

  -- and its opening is printed, if it has just begun
  lines_behind_cut : (k : ℕ) (lines : List Change) (leg : Leg State Change) (older : List (Leg State Change))
      → lines_so_far feed posed (cut_at (game_of feed.handle posed) k lines (leg ∷ older))
      ≡ lines_so_far feed posed (leg ∷ older) ++ lines_behind feed posed k lines (bare leg)
  lines_behind_cut k [] leg older = sym (append-nil (lines_so_far feed posed (leg ∷ older)))
  lines_behind_cut k (first ∷ lines) leg older =
      let opening = lines_behind feed posed k (first ∷ lines) (bare leg) in
      ap (λ (more : List Line). lines_so_far feed posed (leg ∷ older) ++ more) (append-nil opening)

  -- some legs with the newest one
  pub record HasNewest (legs : List (Leg State Change)) : Type 0 where
    pub leg : Leg State Change
    pub older : List (Leg State Change)
    pub is : legs ≡ leg ∷ older

  cut_has_newest : (k : ℕ) (lines : List Change) (leg : Leg State Change) (older : List (Leg State Change))
      → HasNewest (cut_at (game_of feed.handle posed) k lines (leg ∷ older))
  cut_has_newest k [] leg older = record { leg = leg; older = older; is = refl }
  cut_has_newest k (first ∷ lines) leg older = record { leg = _; older = leg ∷ older; is = refl }

  -- what a whole run prints is what was printed of its legs, and then its best plan
  pub whole_text : (legs : List (Leg State Change)) → HasNewest legs
      → text_of posed (run_lines feed posed legs)
      ≡ text_of posed (lines_so_far feed posed legs) ++ text_of posed (best_lines_of posed (best_in posed (newest posed legs)))
  whole_text legs some =
      subst (λ (those : List (Leg State Change)). text_of posed (run_lines feed posed those)
      ≡ text_of posed (lines_so_far feed posed those) ++ text_of posed (best_lines_of posed (best_in posed (newest posed those)))) (sym some.is)
      (text-append posed (lines_so_far feed posed (some.leg ∷ some.older)) (best_lines_of posed (best_in posed (bare some.leg))))

  -- at a boundary that takes lines a leg begins
  pub begins_behind : (k : ℕ) (lines : List Change) (leg : BareLeg) → 1 ≤ length lines
      → leg_behind feed posed k lines leg ≡ bare (leg_begun feed posed k lines (best_in posed leg))
  begins_behind k [] leg some = absurd (omega (arith, some))
  begins_behind k (first ∷ lines) leg some = refl

  pub opens_behind : (k : ℕ) (lines : List Change) (leg : BareLeg) → 1 ≤ length lines
      → text_behind feed posed k lines leg ≡ opening_text feed posed k lines (best_in posed leg)
  opens_behind k [] leg some = absurd (omega (arith, some))
  opens_behind k (first ∷ lines) leg some = refl

  -- at one that takes none the leg stays
  pub stays_behind : (k : ℕ) (lines : List Change) (leg : BareLeg) → length lines ≡ 0 → leg_behind feed posed k lines leg ≡ leg
  stays_behind k [] leg none = refl
  stays_behind k (first ∷ lines) leg none = absurd (omega (arith, none))

  pub nothing_behind : (k : ℕ) (lines : List Change) (leg : BareLeg) → length lines ≡ 0 → text_behind feed posed k lines leg ≡ []
  nothing_behind k [] leg none = refl
  nothing_behind k (first ∷ lines) leg none = absurd (omega (arith, none))

  -- what a step and the boundary behind it print
  pub next_parts : (k : ℕ) (lines : List Change) (leg : BareLeg)
      → step_text posed k leg ++ text_behind feed posed k lines (gone_on posed k leg) ≡ next_text feed posed k lines leg
  next_parts k lines leg = sym (text-append posed (line_in posed k leg ∷ []) (lines_behind feed posed k lines (gone_on posed k leg)))

  module _ (takes : ℕ → List Change) where
    -- the next legs, from the newest one
    legs_by : (n : ℕ) (some : HasNewest (legs_to feed posed takes n))
        → legs_to feed posed takes (suc n)
        ≡ cut_at (game_of feed.handle posed) (suc n) (takes (suc n))
        (stepped (game_of feed.handle posed) posed.settings (suc n) some.leg ∷ some.older)
    legs_by n some =
        legs-next feed posed takes n
        ∙ ap (λ (legs : List (Leg State Change)). cut_at (game_of feed.handle posed) (suc n) (takes (suc n))
        (step_newest (game_of feed.handle posed) posed.settings (suc n) legs)) some.is

    -- a run always has a newest leg
    pub has_newest : (n : ℕ) → HasNewest (legs_to feed posed takes n)
    has_newest zero = record { leg = _; older = []; is = refl }
    has_newest (suc n) =
        let some = has_newest n in
        subst HasNewest (sym (legs_by n some))
        (cut_has_newest (suc n) (takes (suc n)) (stepped (game_of feed.handle posed) posed.settings (suc n) some.leg) some.older)

    -- a step and the boundary behind it lead to the next leg
    pub newest-next : (n : ℕ) → newest posed (legs_to feed posed takes (suc n))
        ≡ next_leg feed posed (suc n) (takes (suc n)) (newest posed (legs_to feed posed takes n))
    newest-next n =
        let some = has_newest n in
        ap (newest posed) (legs_by n some)
        ∙ behind_cut (suc n) (takes (suc n)) (stepped (game_of feed.handle posed) posed.settings (suc n) some.leg) some.older
        ∙ ap (λ (legs : List (Leg State Change)). next_leg feed posed (suc n) (takes (suc n)) (newest posed legs)) (sym some.is)

    -- and are printed
    lines-next : (n : ℕ) → lines_so_far feed posed (legs_to feed posed takes (suc n))
        ≡ lines_so_far feed posed (legs_to feed posed takes n)
        ++ next_lines feed posed (suc n) (takes (suc n)) (newest posed (legs_to feed posed takes n))
    lines-next n =
        let some = has_newest n in
        let made = stepped (game_of feed.handle posed) posed.settings (suc n) some.leg in
        let one = line_in posed (suc n) (bare some.leg) in
        let more = lines_behind feed posed (suc n) (takes (suc n)) (bare made) in
        ap (lines_so_far feed posed) (legs_by n some)
        ∙ lines_behind_cut (suc n) (takes (suc n)) made some.older
        ∙ ap (λ (lines : List Line). lines ++ more) (lines-step feed posed (suc n) some.leg some.older)
        ∙ append_assoc (lines_so_far feed posed (some.leg ∷ some.older)) (one ∷ []) more
        ∙ ap (λ (legs : List (Leg State Change)). lines_so_far feed posed legs
        ++ next_lines feed posed (suc n) (takes (suc n)) (newest posed legs)) (sym some.is)

    -- the text of a run up to a boundary grows by that of a step and the boundary behind it
    pub text-next : (n : ℕ)
        → text_to feed posed takes (suc n) ≡ text_to feed posed takes n ++ next_text feed posed (suc n) (takes (suc n)) (newest posed (legs_to feed posed takes n))
    text-next n =
        ap (text_of posed) (lines-next n)
        ∙ text-append posed (lines_so_far feed posed (legs_to feed posed takes n))
        (next_lines feed posed (suc n) (takes (suc n)) (newest posed (legs_to feed posed takes n)))

    -- begins with that of the first leg's opening
    pub text-first : text_of posed (line.Run posed.name ∷ opening_lines feed posed (leg_begun feed posed 0 (takes 0) posed.origin)) ≡ text_to feed posed takes 0
    text-first =
        let opening = opening_lines feed posed (leg_begun feed posed 0 (takes 0) posed.origin) in
        ap (λ (lines : List Line). text_of posed (line.Run posed.name ∷ lines)) (sym (append-nil opening))

    -- and is a front of what the whole run prints
    pub record IsFrontOf (front whole : List ℕ) : Type 0 where
      pub rest : List ℕ
      pub is : front ++ rest ≡ whole

    -- so many boundaries further
    abbrev past : ℕ → ℕ → ℕ
    past zero n = n
    past (suc more) n = suc (past more n)

    past_is : (more n : ℕ) → past more n ≡ more + n
    past_is zero n = omega arith
    past_is (suc more) n = let is = past_is more n in omega (arith, is)

    further : (n more : ℕ) → IsFrontOf (text_to feed posed takes n) (text_to feed posed takes (past more n))
    further n zero = record { rest = []; is = append-nil (text_to feed posed takes n) }
    further n (suc more) =
        let front = further n more in
        let k = past more n in
        let next = next_text feed posed (suc k) (takes (suc k)) (newest posed (legs_to feed posed takes k)) in
        record {
          rest = front.rest ++ next;
          is = sym (append_assoc (text_to feed posed takes n) front.rest next) ∙ ap (λ (text : List ℕ). text ++ next) front.is ∙ sym (text-next k);
        }

    pub fed_by : fed_text feed posed takes
        ≡ text_to feed posed takes posed.settings.steps
        ++ text_of posed (best_lines_of posed (best_in posed (newest posed (legs_to feed posed takes posed.settings.steps))))
    unfolding fed_text
    fed_by = whole_text (legs_to feed posed takes posed.settings.steps) (has_newest posed.settings.steps)

    pub front_of_all : (n : ℕ) → n ≤ posed.settings.steps → IsFrontOf (text_to feed posed takes n) (fed_text feed posed takes)
    front_of_all n within =
        let steps = posed.settings.steps in
        let far : past (steps - n) n ≡ steps = past_is (steps - n) n ∙ omega (arith, within) in
        let front = subst (λ (m : ℕ). IsFrontOf (text_to feed posed takes n) (text_to feed posed takes m)) far (further n (steps - n)) in
        let best = text_of posed (best_lines_of posed (best_in posed (newest posed (legs_to feed posed takes steps)))) in
        record {
          rest = front.rest ++ best;
          is = sym (append_assoc (text_to feed posed takes n) front.rest best) ∙ ap (λ (text : List ℕ). text ++ best) front.is ∙ sym fed_by;
        }
