-- Runs without a feed.
use Rattle.std.proofs.Common.{◌≡◌, ◌∙◌, ◌+◌, ◌-◌, ℕ, zero, suc, List, [], ◌∷◌, ◌++◌, length, map, replicate, refl, sym, ap, subst, arith}
use Rattle.std.proofs.lemmas.List.{append-nil, append_assoc, length-replicate, map-append}
use Rattle.plan_reports.specs.declared.line.Line.{Line}
use Rattle.plan_reports.specs.declared.line.Line.TheVariants as line
use Rattle.plan_search.specs.Leg.{next_step, stepped}
use Rattle.plan_search.specs.Posed.{Posed}
use Rattle.plan_search.specs.Quiet.{HasOneLeg, GrowsByALine, IsFront, LaterLinesGoOn, SolvePrints, game, leg_after, lines_after, next_line}
use Rattle.plan_search.specs.Run.{cut_at, step_newest}
use Rattle.plan_search.specs.RunLines.{no_feed, opening_lines, run_lines, solve_text, step_line, text_of}

pub one_leg : HasOneLeg
one_leg posed zero = refl
one_leg posed (suc n) =
    let g = game posed in
    let nothing : List (List ⊥) = replicate (suc n) [] in
    ap (λ legs. cut_at g (length nothing) [] (step_newest g posed.settings (length nothing) legs)) (one_leg posed n)
    ∙ ap (λ k. stepped g posed.settings k (leg_after posed n) ∷ []) (length-replicate {A = List ⊥} (suc n) [])

pub grows_by_a_line : GrowsByALine
grows_by_a_line posed n =
    let leg = leg_after posed n in
    let next = next_step (game posed) posed.settings (suc n) leg in
    let front = line.Run posed.name ∷ opening_lines no_feed posed leg in
    ap (λ lines. front ++ lines) (map-append (step_line posed) leg.steps (next ∷ []))
    ∙ sym (append_assoc front (map (step_line posed) leg.steps) (step_line posed next ∷ []))

-- a front of a front is a front
front_more : (posed : Posed) (front : List Line) (n : ℕ) → IsFront posed front n → IsFront posed front (suc n)
front_more posed front n h = record {
  rest = h.rest ++ next_line posed n ∷ [];
  is = sym (append_assoc front h.rest (next_line posed n ∷ []))
      ∙ ap (λ lines. lines ++ next_line posed n ∷ []) h.is
      ∙ sym (grows_by_a_line posed n);
}

go_on : (posed : Posed) (n d : ℕ) → IsFront posed (lines_after posed n) (d + n)
go_on posed n zero =
    let here : n ≡ 0 + n = omega arith in
    subst (λ k. IsFront posed (lines_after posed n) k) here (record { rest = []; is = append-nil (lines_after posed n) })
go_on posed n (suc d) =
    let next : suc (d + n) ≡ suc d + n = omega arith in
    subst (λ k. IsFront posed (lines_after posed n) k) next (front_more posed (lines_after posed n) (d + n) (go_on posed n d))

pub later_lines_go_on : LaterLinesGoOn
later_lines_go_on posed n m h =
    let at : (m - n) + n ≡ m = omega (arith, h) in
    subst (λ k. IsFront posed (lines_after posed n) k) at (go_on posed n (m - n))

pub solve_prints : SolvePrints
unfolding solve_text
solve_prints posed =
    ap (λ legs. text_of posed (run_lines no_feed posed legs)) (one_leg posed posed.settings.steps)
