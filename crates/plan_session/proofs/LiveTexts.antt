-- What a live run prints, step by step and boundary by boundary.
use Rattle.std.proofs.Common.{◌≡◌, ◌∙◌, ◌≤◌, ◌-◌, ℕ, suc, List, [], ◌∷◌, ◌++◌, sym, ap, subst, arith}
use Rattle.std.proofs.lemmas.List.{append_assoc}
use Rattle.plan_reports.specs.declared.line.Line.TheVariants as line
use Rattle.plan_search.specs.Posed.{Posed}
use Rattle.plan_search.specs.RunLines.{Feed, best_lines_of, opening_lines, text_of}
use Rattle.plan_session.specs.Course.{best_in, gone_on, step_text}
use Rattle.plan_session.specs.Fed.{fed_text, legs_to, newest}
use Rattle.plan_session.specs.Live.{leg_begun, leg_behind, made_leg, opening_text, text_behind, text_made, text_to}
use Rattle.plan_session.proofs.Live.{fed_by, front_of_all, newest-next, next_parts, text-append, text-first, text-next}

module _ {Change : Type 0} (feed : Feed Change) (posed : Posed) (takes : ℕ → List Change) where
  -- the run's first line, and then the opening of its first leg
  pub named_then_opened : text_of posed (line.Run posed.name ∷ []) ++ opening_text feed posed 0 (takes 0) posed.origin ≡ text_to feed posed takes 0
  named_then_opened =
      sym (text-append posed (line.Run posed.name ∷ []) (opening_lines feed posed (leg_begun feed posed 0 (takes 0) posed.origin)))
      ∙ text-first feed posed takes

  -- a number from 1 on
  one_behind : (k : ℕ) → 1 ≤ k → suc (k - 1) ≡ k
  one_behind k some = omega (arith, some)

  -- a step that was made, by its number
  pub made_at : (k : ℕ) → 1 ≤ k → gone_on posed k (newest posed (legs_to feed posed takes (k - 1))) ≡ made_leg feed posed takes (k - 1)
  made_at k some = ap (λ (j : ℕ). gone_on posed j (newest posed (legs_to feed posed takes (k - 1)))) (sym (one_behind k some))

  pub step_at : (k : ℕ) → 1 ≤ k
      → text_to feed posed takes (k - 1) ++ step_text posed k (newest posed (legs_to feed posed takes (k - 1))) ≡ text_made feed posed takes (k - 1)
  step_at k some =
      ap (λ (j : ℕ). text_to feed posed takes (k - 1) ++ step_text posed j (newest posed (legs_to feed posed takes (k - 1)))) (sym (one_behind k some))

  -- the boundary behind it
  cut_behind : (n : ℕ) → text_made feed posed takes n ++ text_behind feed posed (suc n) (takes (suc n)) (made_leg feed posed takes n) ≡ text_to feed posed takes (suc n)
  cut_behind n =
      let leg = newest posed (legs_to feed posed takes n) in
      append_assoc (text_to feed posed takes n) (step_text posed (suc n) leg) (text_behind feed posed (suc n) (takes (suc n)) (made_leg feed posed takes n))
      ∙ ap (λ (text : List ℕ). text_to feed posed takes n ++ text) (next_parts feed posed (suc n) (takes (suc n)) leg)
      ∙ sym (text-next feed posed takes n)

  pub made_then_cut : (k : ℕ) → 1 ≤ k
      → text_made feed posed takes (k - 1) ++ text_behind feed posed k (takes k) (made_leg feed posed takes (k - 1)) ≡ text_to feed posed takes k
  made_then_cut k some =
      subst (λ (j : ℕ). text_made feed posed takes (k - 1) ++ text_behind feed posed j (takes j) (made_leg feed posed takes (k - 1)) ≡ text_to feed posed takes j)
      (one_behind k some) (cut_behind (k - 1))

  pub leg_then_cut : (k : ℕ) → 1 ≤ k → leg_behind feed posed k (takes k) (made_leg feed posed takes (k - 1)) ≡ newest posed (legs_to feed posed takes k)
  leg_then_cut k some =
      subst (λ (j : ℕ). leg_behind feed posed j (takes j) (made_leg feed posed takes (k - 1)) ≡ newest posed (legs_to feed posed takes j))
      (one_behind k some) (sym (newest-next feed posed takes (k - 1)))

  -- all of them are fronts of the whole text
  pub front_to : (k : ℕ) → k ≤ posed.settings.steps → (rest : List ℕ) × (text_to feed posed takes k ++ rest ≡ fed_text feed posed takes)
  front_to k within = let front = front_of_all feed posed takes k within in (front.rest, front.is)

  pub front_cut : (k : ℕ) → 1 ≤ k → k ≤ posed.settings.steps
      → (rest : List ℕ) × (text_made feed posed takes (k - 1) ++ (text_behind feed posed k (takes k) (made_leg feed posed takes (k - 1)) ++ rest)
      ≡ fed_text feed posed takes)
  front_cut k some within =
      let front = front_to k within in
      let made = text_made feed posed takes (k - 1) in
      let behind = text_behind feed posed k (takes k) (made_leg feed posed takes (k - 1)) in (
        front.0,
        sym (append_assoc made behind front.0) ∙ ap (λ (text : List ℕ). text ++ front.0) (made_then_cut k some) ∙ front.1,
      )

  pub front_step : (k : ℕ) → 1 ≤ k → k ≤ posed.settings.steps
      → (rest : List ℕ) × (text_to feed posed takes (k - 1) ++ (step_text posed k (newest posed (legs_to feed posed takes (k - 1))) ++ rest)
      ≡ fed_text feed posed takes)
  front_step k some within =
      let front = front_cut k some within in
      let to = text_to feed posed takes (k - 1) in
      let one = step_text posed k (newest posed (legs_to feed posed takes (k - 1))) in
      let behind = text_behind feed posed k (takes k) (made_leg feed posed takes (k - 1)) in (
        behind ++ front.0,
        sym (append_assoc to one (behind ++ front.0)) ∙ ap (λ (text : List ℕ). text ++ (behind ++ front.0)) (step_at k some) ∙ front.1,
      )

  -- behind the last boundary the best plan ends it
  pub whole_at : (k : ℕ) → k ≡ posed.settings.steps
      → text_to feed posed takes k ++ text_of posed (best_lines_of posed (best_in posed (newest posed (legs_to feed posed takes k)))) ≡ fed_text feed posed takes
  whole_at k all =
      subst (λ (n : ℕ). text_to feed posed takes n ++ text_of posed (best_lines_of posed (best_in posed (newest posed (legs_to feed posed takes n))))
      ≡ fed_text feed posed takes) (sym all) (sym (fed_by feed posed takes))
