-- The change lines among those that a run prints.
use Rattle.std.proofs.Common.{◌≡◌, ◌∙◌, ◌+◌, ◌++◌, ℕ, zero, suc, List, [], ◌∷◌, Option, Some, None, All, get_or, length, map, refl, sym, ap, arith}
use Rattle.std.specs.Prelude.{IsTrue}
use Rattle.std.specs.List.{cons_option, enumerate_from, flat_map, range_with_len}
use Rattle.std.proofs.lemmas.Grind.{flat_map-append}
use Rattle.std.proofs.lemmas.List.{append-nil, append_assoc}
use Rattle.std.proofs.lemmas.List.Elements.{All-append, All-cons, All-map, All-nil, filter_map-append}
use Rattle.plan_facts.specs.Schema.{is_name}
use Rattle.plan_moves.specs.declared.edit.Touch.{Touch}
use Rattle.plan_moves.specs.Entities.{entities_of}
use Rattle.plan_reports.specs.declared.line.Line.{Line}
use Rattle.plan_reports.specs.declared.line.Line.TheVariants as line
use Rattle.plan_rules.specs.declared.row.Match.{Match}
use Rattle.plan_search.specs.Leg.{Leg}
use Rattle.plan_search.specs.Posed.{Posed, State, game_of, placing_from, state_score}
use Rattle.plan_search.specs.Run.{best_in, cut_at, step_newest}
use Rattle.plan_search.specs.RunLines.{Feed, best_lines_of, entity_line, entity_lines, handled_in, handled_lines, leg_lines, legs_lines, match_line, matches_in, matches_lines, opening_lines, place_line, placing_lines, rule_line, rule_lines, run_lines, step_line, stuck_lines}
use Rattle.plan_search.specs.declared.placed.Placed.{Placed}
use Rattle.plan_session.specs.Fed.{cuts_to, legs_to}
use Rattle.text_journal.specs.Laws.{IsNamed}
use Rattle.text_journal.specs.Marks.{change_mark, change_marks}

marks-append : (one other : List Line) → change_marks (one ++ other) ≡ change_marks one ++ change_marks other
marks-append one other = filter_map-append change_mark one other

-- lines that are no change lines
unmarked_map : {X : Type 0} (of : X → Line) → ((x : X) → change_mark (of x) ≡ None) → (xs : List X) → change_marks (map of xs) ≡ []
unmarked_map of none [] = refl
unmarked_map of none (x ∷ xs) = ap (λ mark. cons_option mark (change_marks (map of xs))) (none x) ∙ unmarked_map of none xs

unmarked_parts : {X : Type 0} (of : X → List Line) → ((x : X) → change_marks (of x) ≡ []) → (xs : List X) → change_marks (flat_map of xs) ≡ []
unmarked_parts of none [] = refl
unmarked_parts of none (x ∷ xs) =
    marks-append (of x) (flat_map of xs)
    ∙ ap (λ marks. marks ++ change_marks (flat_map of xs)) (none x)
    ∙ unmarked_parts of none xs

unmarked_stuck : (stuck : Option Touch) → change_marks (stuck_lines stuck) ≡ []
unmarked_stuck None = refl
unmarked_stuck (Some entity) = refl

unmarked_placing : (placed : List Placed) (stuck : Option Touch) → change_marks (placing_lines placed stuck) ≡ []
unmarked_placing placed stuck =
    marks-append (map place_line placed) (stuck_lines stuck)
    ∙ ap (λ marks. marks ++ change_marks (stuck_lines stuck)) (unmarked_map place_line (λ one. refl) placed)
    ∙ unmarked_stuck stuck

unmarked_rule : (rule : ℕ) (matches : List Match) → change_marks (rule_lines rule matches) ≡ []
unmarked_rule rule matches = unmarked_map match_line (λ one. refl) matches

unmarked_best : (posed : Posed) (state : State) → change_marks (best_lines_of posed state) ≡ []
unmarked_best posed state =
    let entities = entity_lines state.plan in
    let matches = matches_lines (matches_in posed state) in
    marks-append (entities ++ matches) (line.End ∷ [])
    ∙ ap (λ marks. marks ++ [])
    (marks-append entities matches
    ∙ ap (λ marks. marks ++ change_marks matches) (unmarked_map (entity_line state.plan) (λ one. refl) (entities_of state.plan))
    ∙ unmarked_parts (λ (pair : ℕ × List Match). rule_lines pair.0 pair.1) (λ pair. unmarked_rule pair.0 pair.1) (enumerate_from 0 (matches_in posed state)))

-- no other line than the first names a domain
named_map : {X : Type 0} (of : X → Line) → ((x : X) → IsNamed (of x)) → (xs : List X) → All IsNamed (map of xs)
named_map of each xs = All-map IsNamed of xs (λ k d within. each (get_or xs k d))

named_parts : {X : Type 0} (of : X → List Line) → ((x : X) → All IsNamed (of x)) → (xs : List X) → All IsNamed (flat_map of xs)
named_parts of each [] = All-nil IsNamed
named_parts of each (x ∷ xs) = All-append IsNamed (of x) (flat_map of xs) (each x) (named_parts of each xs)

named_stuck : (stuck : Option Touch) → All IsNamed (stuck_lines stuck)
named_stuck None = All-nil IsNamed
named_stuck (Some entity) = All-cons IsNamed (line.Stuck entity.class entity.id) [] tt (All-nil IsNamed)

named_placing : (placed : List Placed) (stuck : Option Touch) → All IsNamed (placing_lines placed stuck)
named_placing placed stuck =
    All-append IsNamed (map place_line placed) (stuck_lines stuck) (named_map place_line (λ one. tt) placed) (named_stuck stuck)

named_rule : (rule : ℕ) (matches : List Match) → All IsNamed (rule_lines rule matches)
named_rule rule matches = All-cons IsNamed (rule_line rule matches) (map match_line matches) tt (named_map match_line (λ one. tt) matches)

named_best : (posed : Posed) (state : State) → All IsNamed (best_lines_of posed state)
named_best posed state =
    let entities = entity_lines state.plan in
    let matches = matches_lines (matches_in posed state) in
    All-cons IsNamed (line.Best (state_score posed state)) ((entities ++ matches) ++ line.End ∷ []) tt
    (All-append IsNamed (entities ++ matches) (line.End ∷ [])
    (All-append IsNamed entities matches
    (named_map (entity_line state.plan) (λ one. tt) (entities_of state.plan))
    (named_parts (λ (pair : ℕ × List Match). rule_lines pair.0 pair.1) (λ pair. named_rule pair.0 pair.1) (enumerate_from 0 (matches_in posed state))))
    (All-cons IsNamed line.End [] tt (All-nil IsNamed)))

-- what a number of boundaries take, one after another
takes-next : {Change : Type 0} (takes : ℕ → List Change) (a n : ℕ)
    → flat_map takes (range_with_len a (suc n)) ≡ flat_map takes (range_with_len a n) ++ takes (a + n)
takes-next takes a zero = append-nil (takes a) ∙ ap takes (omega arith)
takes-next takes a (suc n) =
    ap (λ lines. takes a ++ lines) (takes-next takes (a + 1) n)
    ∙ sym (append_assoc (takes a) (flat_map takes (range_with_len (a + 1) n)) (takes (a + 1 + n)))
    ∙ ap (λ k. (takes a ++ flat_map takes (range_with_len (a + 1) n)) ++ takes k) (omega arith)

module _ {Change : Type 0} (feed : Feed Change) (posed : Posed) (marks : Change → List (ℕ × ℕ))
    (told : (state : State) (change : Change) → change_marks (feed.tells state change) ≡ marks change) where
  handled_marks : (state : State) (lines : List Change) → change_marks (handled_lines feed state lines) ≡ flat_map marks lines
  handled_marks state [] = refl
  handled_marks state (change ∷ lines) =
      marks-append (feed.tells state change) (handled_lines feed (feed.handle state change) lines)
      ∙ ap (λ first. first ++ change_marks (handled_lines feed (feed.handle state change) lines)) (told state change)
      ∙ ap (λ rest. marks change ++ rest) (handled_marks (feed.handle state change) lines)

  opening_marks : (leg : Leg State Change) → change_marks (opening_lines feed posed leg) ≡ flat_map marks leg.lines
  opening_marks leg =
      let placing = placing_from posed (handled_in feed leg) in
      let handled = handled_lines feed leg.origin leg.lines in
      let placed = placing_lines placing.placed placing.stuck in
      let start = line.Start (state_score posed leg.start) ∷ [] in
      marks-append (handled ++ placed) start
      ∙ ap (λ more. more ++ [])
      (marks-append handled placed ∙ ap (λ more. change_marks handled ++ more) (unmarked_placing placing.placed placing.stuck))
      ∙ append-nil (change_marks handled ++ [])
      ∙ append-nil (change_marks handled)
      ∙ handled_marks leg.origin leg.lines

  leg_marks : (leg : Leg State Change) → change_marks (leg_lines feed posed leg) ≡ flat_map marks leg.lines
  leg_marks leg =
      marks-append (opening_lines feed posed leg) (map (step_line posed) leg.steps)
      ∙ ap (λ more. change_marks (opening_lines feed posed leg) ++ more) (unmarked_map (step_line posed) (λ step. refl) leg.steps)
      ∙ append-nil (change_marks (opening_lines feed posed leg))
      ∙ opening_marks leg

  -- the lines that some legs took, the newest first, in order
  abbrev taken_in : List (Leg State Change) → List Change
  taken_in [] = []
  taken_in (leg ∷ older) = taken_in older ++ leg.lines

  legs_marks : (legs : List (Leg State Change)) → change_marks (legs_lines feed posed legs) ≡ flat_map marks (taken_in legs)
  legs_marks [] = refl
  legs_marks (leg ∷ older) =
      marks-append (legs_lines feed posed older) (leg_lines feed posed leg)
      ∙ ap (λ first. first ++ change_marks (leg_lines feed posed leg)) (legs_marks older)
      ∙ ap (λ more. flat_map marks (taken_in older) ++ more) (leg_marks leg)
      ∙ sym (flat_map-append marks (taken_in older) leg.lines)

  run_marks : (legs : List (Leg State Change)) → change_marks (run_lines feed posed legs) ≡ flat_map marks (taken_in legs)
  run_marks legs =
      let best = best_lines_of posed (best_in (game_of feed.handle posed) legs) in
      marks-append (legs_lines feed posed legs) best
      ∙ ap (λ more. change_marks (legs_lines feed posed legs) ++ more) (unmarked_best posed (best_in (game_of feed.handle posed) legs))
      ∙ append-nil (change_marks (legs_lines feed posed legs))
      ∙ legs_marks legs

  -- a step takes no lines
  taken-step : (k : ℕ) (legs : List (Leg State Change)) → taken_in (step_newest (game_of feed.handle posed) posed.settings k legs) ≡ taken_in legs
  taken-step k [] = refl
  taken-step k (leg ∷ older) = refl

  -- a cut takes its own
  taken-cut : (k : ℕ) (lines : List Change) (legs : List (Leg State Change)) → taken_in (cut_at (game_of feed.handle posed) k lines legs) ≡ taken_in legs ++ lines
  taken-cut k lines [] = refl
  taken-cut k [] (leg ∷ older) = sym (append-nil (taken_in (leg ∷ older)))
  taken-cut k (first ∷ lines) (leg ∷ older) = refl

  taken-run : (takes : ℕ → List Change) (n : ℕ) → taken_in (legs_to feed posed takes n) ≡ flat_map takes (range_with_len 0 (suc n))
  taken-run takes zero = taken-cut 0 (takes 0) [] ∙ sym (append-nil (takes 0))
  taken-run takes (suc n) =
      let cuts = cuts_to takes n in
      taken-cut (length cuts) (takes (suc n)) (step_newest (game_of feed.handle posed) posed.settings (length cuts) (legs_to feed posed takes n))
      ∙ ap (λ before. before ++ takes (suc n)) (taken-step (length cuts) (legs_to feed posed takes n) ∙ taken-run takes n)
      ∙ ap (λ k. flat_map takes (range_with_len 0 (suc n)) ++ takes k) (omega arith)
      ∙ sym (takes-next takes 0 (suc n))

  -- a run tells, in order, what became of the lines that its boundaries take
  pub marks_of_run : (takes : ℕ → List Change) (n : ℕ)
      → change_marks (run_lines feed posed (legs_to feed posed takes n)) ≡ flat_map marks (flat_map takes (range_with_len 0 (suc n)))
  marks_of_run takes n = run_marks (legs_to feed posed takes n) ∙ ap (flat_map marks) (taken-run takes n)

module _ {Change : Type 0} (feed : Feed Change) (posed : Posed)
    (told : (state : State) (change : Change) → All IsNamed (feed.tells state change)) where
  named_handled : (state : State) (lines : List Change) → All IsNamed (handled_lines feed state lines)
  named_handled state [] = All-nil IsNamed
  named_handled state (change ∷ lines) =
      All-append IsNamed (feed.tells state change) (handled_lines feed (feed.handle state change) lines)
      (told state change) (named_handled (feed.handle state change) lines)

  named_opening : (leg : Leg State Change) → All IsNamed (opening_lines feed posed leg)
  named_opening leg =
      let placing = placing_from posed (handled_in feed leg) in
      let handled = handled_lines feed leg.origin leg.lines in
      let placed = placing_lines placing.placed placing.stuck in
      let start = line.Start (state_score posed leg.start) in
      All-cons IsNamed (line.Leg leg.boundary) ((handled ++ placed) ++ start ∷ []) tt
      (All-append IsNamed (handled ++ placed) (start ∷ [])
      (All-append IsNamed handled placed (named_handled leg.origin leg.lines) (named_placing placing.placed placing.stuck))
      (All-cons IsNamed start [] tt (All-nil IsNamed)))

  named_legs : (legs : List (Leg State Change)) → All IsNamed (legs_lines feed posed legs)
  named_legs [] = All-nil IsNamed
  named_legs (leg ∷ older) =
      All-append IsNamed (legs_lines feed posed older) (leg_lines feed posed leg) (named_legs older)
      (All-append IsNamed (opening_lines feed posed leg) (map (step_line posed) leg.steps)
      (named_opening leg) (named_map (step_line posed) (λ step. tt) leg.steps))

  -- the first line of a run names its domain, and no other
  pub named_run : IsTrue (is_name posed.name) → (legs : List (Leg State Change)) → All IsNamed (run_lines feed posed legs)
  named_run named legs =
      let best = best_lines_of posed (best_in (game_of feed.handle posed) legs) in
      All-cons IsNamed (line.Run posed.name) (legs_lines feed posed legs ++ best) named
      (All-append IsNamed (legs_lines feed posed legs) best (named_legs legs) (named_best posed (best_in (game_of feed.handle posed) legs)))
