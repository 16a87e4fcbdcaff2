-- How a search begins, and what is printed until it ends.
use Rattle.std.proofs.Common.{◌≡◌, ◌∙◌, ◌≤◌, ◌<◌, ℕ, Bool, true, false, nat_lt, nat_le, if◌then◌else◌, List, [], ◌∷◌, ◌++◌, Some, None, Result, Ok, Err, IsErrAnd, refl, sym, ap, subst, arith}
use Rattle.std.proofs.lemmas.List.{append-nil, append_assoc}
use Rattle.std.proofs.lemmas.Grind.{flat_map-append}
use Rattle.plan_scores.specs.declared.plan_score.PlanScore.{PlanScore}
use Rattle.plan_scores.specs.Order.{is_better_plan}
use Rattle.plan_facts.specs.declared.record.ClassDef.{ClassDef}
use Rattle.plan_facts.specs.Plan.{PlanView, records_of}
use Rattle.plan_settings.specs.declared.setting.Selector.{Selector}
use Rattle.plan_settings.specs.declared.settings.Settings.{Settings}
use Rattle.plan_rules.specs.declared.row.Match.{Match}
use Rattle.plan_rules.specs.declared.rule.RuleDef.{RuleDef}
use Rattle.plan_rules.specs.Meaning.{Meaning}
use Rattle.plan_rules.specs.Totals.{all_matches, whole_score}
use Rattle.move_selectors.specs.Candidates.{Made}
use Rattle.acceptors.specs.History.{begun}
use Rattle.plan_json.specs.Domains.{DomainView}
use Rattle.plan_reports.specs.declared.line.Line.TheVariants as line
use Rattle.plan_reports.specs.Lines.{line_text, lines_text}
use Rattle.plan_ports.specs.Outside.{SinkState}
use Rattle.score_director.specs.View.{DirectorView, at_rest, score_seen}
use Rattle.plan_search.specs.Leg.{state_of}
use Rattle.plan_search.specs.Placing.{placing_of}
use Rattle.plan_search.specs.Posed.{Posed, State, is_decreasing, placing_from, plan_score, state_score, todo_of}
use Rattle.plan_search.specs.Quiet.{best_lines_after, leg_after, lines_after}
use Rattle.plan_search.specs.RunLines.{best_lines, no_feed, opening_lines, placing_lines, solve_text, text_of}
use Rattle.plan_search.specs.Todo.{todo_by}
use Rattle.plan_search.proofs.Quiet.{later_lines_go_on, solve_prints}
use Rattle.construction.specs.declared.next.Course.{Course}
use Rattle.construction.specs.Placed.{course_of}
use Rattle.move_workers.specs.Judging.{WorkerView}
use Rattle.search_core.specs.declared.machine.Phase.TheVariants.{Idle, Open}
use Rattle.search_core.specs.declared.event.Event.TheVariants.{Cut, Start}
use Rattle.search_core.specs.declared.event.CoreFault.TheVariants.{BadBoundary}
use Rattle.search_core.specs.declared.machine.Core.{Core}
use Rattle.search_core.specs.Desk.{Terms, desk}
use Rattle.search_core.specs.Keeps.{HasNoFault, StandsFor}
use Rattle.search_core.specs.OneThread.{BeginsStep}
use Rattle.search_core.specs.Truth.{IsTaken}
use Rattle.plan_session.specs.declared.best.BestSoFar.{BestSoFar}
use Rattle.plan_session.specs.declared.fault.PrintFault.{PrintFault}
use Rattle.plan_session.specs.declared.fault.PrintFault.TheVariants.{Memory, Write}
use Rattle.plan_session.specs.declared.report.Report.{Report}
use Rattle.plan_session.specs.Begun.{BeginsLeg, IsBegun, IsOrigin, IsPosedBy, best_text}
use Rattle.plan_session.specs.Course.{BareLeg, HasPrinted, IsAfter, IsAt, IsDecider, IsReady, Plays, best_in, terms}
use Rattle.plan_session.specs.Printing.{Prints}
use Rattle.plan_session.specs.WayBack.{IsWayBack}
use Rattle.plan_session.specs.Writes.{IsReportOf}
use Rattle.plan_session.proofs.Played.{not_better_than_itself}
use Rattle.plan_session.proofs.Printed.{prints_front, prints_more, prints_nothing}

-- the first cut is taken
first_cut_is_taken : (t : Terms) → IsTaken t (Cut 0 ∷ [])
first_cut_is_taken t =
    let right : nat_lt t.settings.steps 0 ≡ false = grind arith in
    (tt, ap (λ (b : Bool). if b then Some (BadBoundary 0) else None) right)

-- and so is the start of a leg
leg_is_taken : (t : Terms) (score : PlanScore) → IsTaken t (Start score ∷ Cut 0 ∷ [])
leg_is_taken t score = (first_cut_is_taken t, refl)

-- behind the first cut the start of a leg is due
pub start_is_due : (t : Terms) (core : Core) (score : PlanScore) → StandsFor t core (Cut 0 ∷ []) → HasNoFault core (Start score)
start_is_due t core score stands = record { terms = t; events = Cut 0 ∷ []; stands = stands; none = refl }

-- the first step begins behind them, if there is one
leg_begins : (t : Terms) (score : PlanScore) → 0 < t.settings.steps
    → BeginsStep t (desk t (Start score ∷ Cut 0 ∷ [])) 1 (begun score)
leg_begins t score some =
    let comes : nat_le 1 t.settings.steps ≡ true = grind arith in
    record {
      phase = ap (λ (b : Bool). if b then Open else Idle) comes;
      cuts = refl;
      chosen = refl;
      history = refl;
      fresh = record { asked = refl; claims = λ n. refl; verdicts = λ n. refl };
    }

-- a core on which a leg begins with the score of the placed plan decides the first step
pub leg_decides : (posed : Posed) (buffer : ℕ) (core : Core) (score : PlanScore) → score ≡ state_score posed (state_of (leg_after posed 0))
    → BeginsLeg posed.settings buffer score core → IsDecider posed 1 (leg_after posed 0) core
leg_decides posed buffer core score is begins = record {
  buffer = buffer;
  events = Start score ∷ Cut 0 ∷ [];
  stands = begins;
  taken = leg_is_taken (terms posed buffer) score;
  begins = λ some.
      subst (λ s. BeginsStep (terms posed buffer) (desk (terms posed buffer) (Start score ∷ Cut 0 ∷ [])) 1 (begun s)) is
      (leg_begins (terms posed buffer) score (omega (arith, some)));
}

-- a core that decides the first step is ready for it
pub decider_ready : (posed : Posed) (core : Core) → IsDecider posed 1 (leg_after posed 0) core → 0 < posed.settings.steps → IsReady core 1
decider_ready posed core d some = record {
  begins = record { terms = terms posed d.buffer; events = d.events; history = _; stands = d.stands; begins = d.begins (omega (arith, some)) };
  taken = d.taken;
}

module _ (m : Meaning) (makers : List Made) (domain : DomainView) (settings : Settings) (posed : Posed)
    (by : IsPosedBy m makers domain settings posed) where
  -- a placing of the plan of a state is that of the posed problem
  pub placing_at : (state : State) (plan : PlanView) (weights : List ℕ) (course : Course) (placed : PlanView)
      → plan ≡ state.plan → weights ≡ state.weights
      → course_of course placed
      ≡ placing_of (whole_score m domain.rules weights) plan (todo_by m domain.harder (is_decreasing settings.construction) plan)
      → course_of course placed ≡ placing_from posed state
  unfolding plan_score todo_of
  placing_at state plan weights course placed plan_is weights_are is =
      is
      ∙ (λ i. placing_of (whole_score (by.means i) (by.rules i) (weights_are i)) (plan_is i)
      (todo_by (by.means i) (by.harder i) (is_decreasing (by.settings_are i).construction) (plan_is i)))

  -- that of the plan as read too
  pub placing_is : (plan : PlanView) (weights : List ℕ) (course : Course) (placed : PlanView) → IsOrigin plan weights posed
      → course_of course placed
      ≡ placing_of (whole_score m domain.rules weights) plan (todo_by m domain.harder (is_decreasing settings.construction) plan)
      → course_of course placed ≡ placing_from posed posed.origin
  placing_is plan weights course placed origin is =
      placing_at posed.origin plan weights course placed origin.plan_is origin.weights_are is

  -- the score of a director at rest is that of the state
  pub score_is : (weights : List ℕ) (plan : PlanView) → weights ≡ posed.origin.weights → plan ≡ (state_of (leg_after posed 0)).plan
      → whole_score m domain.rules weights plan ≡ state_score posed (state_of (leg_after posed 0))
  unfolding plan_score
  score_is weights plan are is = λ i. whole_score (by.means i) (by.rules i) (are i) (is i)

  -- the director of a placed plan and a core on which a leg begins with its score are where the search begins
  pub begins : (plan : PlanView) (weights : List ℕ) (buffer : ℕ) (course : Course) (director : DirectorView) (core : Core) (score : PlanScore)
      → IsOrigin plan weights posed
      → course_of course director.plan
      ≡ placing_of (whole_score m domain.rules weights) plan (todo_by m domain.harder (is_decreasing settings.construction) plan)
      → director ≡ at_rest domain.rules weights director.plan
      → score ≡ score_seen m director → BeginsLeg settings buffer score core
      → IsBegun posed director core
  begins plan weights buffer course director core score origin placing rest scored leg =
      let placed : director.plan ≡ (state_of (leg_after posed 0)).plan =
      ap (λ p. p.plan) (placing_is plan weights course director.plan origin placing) in
      record {
        stands = rest ∙ (λ i. at_rest (by.rules i) (origin.weights_are i) (placed i));
        decides = leg_decides posed buffer core score
            (scored ∙ ap (score_seen m) rest ∙ score_is weights director.plan origin.weights_are placed)
            (subst (λ s. BeginsLeg s buffer score core) by.settings_are leg);
        quiet = leg.keeps.posts;
      }

  -- the run's line comes first, and then the opening
  pub run_line_first : (classes : List ClassDef) (rules : List RuleDef) (name : List ℕ)
      → classes ≡ domain.classes → rules ≡ domain.rules → name ≡ domain.name
      → lines_text classes rules (line.Run name ∷ []) ++ text_of posed (opening_lines no_feed posed (leg_after posed 0))
      ≡ text_of posed (lines_after posed 0)
  run_line_first classes rules name classes_are rules_are name_is =
      let opening = opening_lines no_feed posed (leg_after posed 0) in
      (λ i. lines_text ((classes_are ∙ by.classes) i) ((rules_are ∙ by.rules) i) (line.Run ((name_is ∙ by.name) i) ∷ [])
      ++ text_of posed opening)
      ∙ sym (flat_map-append (line_text posed.classes posed.rules) (line.Run posed.name ∷ []) opening)
      ∙ ap (λ lines. text_of posed (line.Run posed.name ∷ lines)) (sym (append-nil opening))

  -- the opening is written
  pub opening_is : (classes : List ClassDef) (rules : List RuleDef) (plan : PlanView) (weights : List ℕ) (course : Course)
      (placed : PlanView) (score : PlanScore) → classes ≡ domain.classes → rules ≡ domain.rules → IsOrigin plan weights posed
      → course_of course placed
      ≡ placing_of (whole_score m domain.rules weights) plan (todo_by m domain.harder (is_decreasing settings.construction) plan)
      → score ≡ whole_score m domain.rules weights placed
      → lines_text classes rules (line.Leg 0 ∷ placing_lines course.placed course.stuck ++ line.Start score ∷ [])
      ≡ text_of posed (opening_lines no_feed posed (leg_after posed 0))
  opening_is classes rules plan weights course placed score classes_are rules_are origin is scored =
      let placing = placing_is plan weights course placed origin is in
      let score_at : score ≡ state_score posed (state_of (leg_after posed 0)) =
      scored ∙ score_is weights placed origin.weights_are (ap (λ p. p.plan) placing) in
      λ i. lines_text ((classes_are ∙ by.classes) i) ((rules_are ∙ by.rules) i)
      (line.Leg 0 ∷ placing_lines (placing i).placed (placing i).stuck ++ line.Start (score_at i) ∷ [])

  -- a worker on the director, and the way back that begins, are where the search begins
  pub starts_at : (director : DirectorView) (core : Core) (worker : WorkerView) (best : BestSoFar) (score : PlanScore)
      → IsBegun posed director core → worker ≡ record { director = director; seed = settings.seed }
      → score ≡ score_seen m director → best.score ≡ score → best.back.items ≡ [] → best.wins ≡ 0
      → IsAfter core worker best posed 0
  unfolding plan_score
  starts_at director core worker best score begun worker_is scored best_is none unwon =
      let scored_at : best.score ≡ state_score posed (state_of (leg_after posed 0)) =
      best_is ∙ scored ∙ (λ i. score_seen (by.means i) (begun.stands i)) in
      record {
        decides = begun.decides;
        at = record {
          stands = worker_is ∙ (λ i. record { director = begun.stands i; seed = (by.settings_are i).seed });
          score = scored_at;
          greatest = ap (is_better_plan (state_score posed (state_of (leg_after posed 0)))) scored_at
              ∙ not_better_than_itself (state_score posed (state_of (leg_after posed 0)));
          back = subst (λ items. IsWayBack (best_in posed (leg_after posed 0)).plan items (state_of (leg_after posed 0)).plan) (sym none) refl;
          wins = unwon;
        };
        few = omega arith;
      }

-- the same is printed whatever the call answers beside it
pub prints_too : {A B : Type 0} (a : A) (b : B) (text : List ℕ) (s0 s1 : SinkState)
    → Prints {A = A} (Ok a) text s0 s1 → Prints {A = B} (Ok b) text s0 s1
prints_too a b text s0 s1 prints =
    record { whole = prints.whole; front = prints.front; failed = λ is. cc; later = prints.later }

-- a fault that is handed on
pub failed : {A B : Type 0} (result : Result B PrintFault) (fault : PrintFault) (text : List ℕ) (s0 s1 : SinkState)
    → IsErrAnd result (λ other. other ≡ fault) → Prints {A = A} (Err fault) text s0 s1 → Prints result text s0 s1
failed (Ok value) fault text s0 s1 is prints = absurd is
failed (Err other) fault text s0 s1 is prints = record {
  whole = prints.whole;
  front = prints.front;
  failed = λ write. let same : fault ≡ Write = cc in prints.failed (ap (λ (f : PrintFault). Err f) same);
  later = prints.later;
}

-- memory was wanting before anything was printed
pub wanted : {A : Type 0} (result : Result A PrintFault) (text : List ℕ) (sink : SinkState) → IsErrAnd result (λ fault. fault ≡ Memory)
    → Prints result text sink sink
wanted {A} result text sink is = failed {A = A} result Memory text sink sink is (prints_nothing {A = A} text sink)

-- memory was wanting behind a first text
pub wanted_then : {A B : Type 0} (a : A) (result : Result B PrintFault) (first rest all : List ℕ) (s0 s1 : SinkState)
    → first ++ rest ≡ all → Prints {A = A} (Ok a) first s0 s1 → IsErrAnd result (λ fault. fault ≡ Memory) → Prints result all s0 s1
wanted_then a result first rest all s0 s1 is one wants =
    subst (λ text. Prints result text s0 s1) is
    (prints_more result first rest s0 s1 s1 one.whole one.later (wanted result rest s1 wants))

-- a call failed at a first text
pub failed_first : {A B : Type 0} (result : Result B PrintFault) (fault : PrintFault) (first rest all : List ℕ) (s0 s1 : SinkState)
    → first ++ rest ≡ all → IsErrAnd result (λ other. other ≡ fault) → Prints {A = A} (Err fault) first s0 s1
    → Prints result all s0 s1
failed_first {A} {B} result fault first rest all s0 s1 whole is one =
    subst (λ text. Prints result text s0 s1) whole
    (failed {A = A} result fault (first ++ rest) s0 s1 is (prints_front {A = A} fault first rest s0 s1 one))

-- a text was printed, and then the rest
pub prints_then : {A B C : Type 0} (a : A) (b : B) (c : C) (first rest all : List ℕ) (s0 s1 s2 : SinkState) → first ++ rest ≡ all
    → Prints {A = A} (Ok a) first s0 s1 → Prints {A = B} (Ok b) rest s1 s2 → Prints {A = C} (Ok c) all s0 s2
prints_then {A} {B} {C} a b c first rest all s0 s1 s2 is one two =
    subst (λ text. Prints {A = C} (Ok c) text s0 s2) is
    (prints_more {A = C} (Ok c) first rest s0 s1 s2 one.whole one.later (prints_too {A = B} {B = C} b c rest s1 s2 two))

-- a text was printed, and a call failed at the rest
pub failed_then : {A B C : Type 0} (a : A) (result : Result C PrintFault) (fault : PrintFault) (first rest all : List ℕ) (s0 s1 s2 : SinkState)
    → first ++ rest ≡ all → IsErrAnd result (λ other. other ≡ fault)
    → Prints {A = A} (Ok a) first s0 s1 → Prints {A = B} (Err fault) rest s1 s2 → Prints result all s0 s2
failed_then {A} {B} {C} a result fault first rest all s0 s1 s2 whole is one two =
    subst (λ text. Prints result text s0 s2) whole
    (prints_more result first rest s0 s1 s2 one.whole one.later (failed {A = B} result fault rest s1 s2 is two))

-- memory was wanting before the steps, behind the opening
pub wanted_before_steps : {A : Type 0} (posed : Posed) (n : ℕ) (result : Result A PrintFault) (start sink : SinkState)
    → HasPrinted posed 0 start sink → IsErrAnd result (λ fault. fault ≡ Memory)
    → Prints result (text_of posed (lines_after posed n)) start sink
wanted_before_steps posed n result start sink printed wants =
    let more = later_lines_go_on posed 0 n (omega arith) in
    let first = text_of posed (lines_after posed 0) in
    let rest = text_of posed more.rest in
    let whole : first ++ rest ≡ text_of posed (lines_after posed n) =
    sym (flat_map-append (line_text posed.classes posed.rules) (lines_after posed 0) more.rest) ∙ ap (text_of posed) more.is in
    subst (λ text. Prints result text start sink) whole
    (prints_more result first rest start sink sink printed.wrote printed.later (wanted result rest sink wants))

-- the text of a run is that of its steps and that of its best plan
pub run_text : (posed : Posed) (n : ℕ) → n ≡ posed.settings.steps
    → text_of posed (lines_after posed n) ++ text_of posed (best_lines_after posed n) ≡ solve_text posed
run_text posed n is =
    sym (flat_map-append (line_text posed.classes posed.rules) (lines_after posed n) (best_lines_after posed n))
    ∙ ap (λ k. text_of posed (lines_after posed k ++ best_lines_after posed k)) is
    ∙ sym (solve_prints posed)

-- the lines before the first step, and the rest of a run's text
pub record RestOfRun (posed : Posed) (n : ℕ) : Type 0 where
  pub rest : List ℕ
  pub is : text_of posed (lines_after posed n) ++ rest ≡ solve_text posed

pub rest_of_run : (posed : Posed) (n : ℕ) → n ≤ posed.settings.steps → RestOfRun posed n
rest_of_run posed n within =
    let steps = posed.settings.steps in
    let more = later_lines_go_on posed n steps within in
    let best = text_of posed (best_lines_after posed steps) in
    record {
      rest = text_of posed more.rest ++ best;
      is = sym (append_assoc (text_of posed (lines_after posed n)) (text_of posed more.rest) best)
          ∙ ap (λ text. text ++ best) (sym (flat_map-append (line_text posed.classes posed.rules) (lines_after posed n) more.rest)
          ∙ ap (text_of posed) more.is)
          ∙ run_text posed steps refl;
    }

module _ (m : Meaning) (makers : List Made) (domain : DomainView) (settings : Settings) (posed : Posed)
    (by : IsPosedBy m makers domain settings posed) where
  -- the run's line and the buffer are the text before the first step
  pub begun_text : (classes : List ClassDef) (rules : List RuleDef) (name : List ℕ) (plan : PlanView) (weights : List ℕ)
      (course : Course) (director : DirectorView) (score : PlanScore) (old items : List ℕ)
      → classes ≡ domain.classes → rules ≡ domain.rules → name ≡ domain.name → IsOrigin plan weights posed
      → course_of course director.plan
      ≡ placing_of (whole_score m domain.rules weights) plan (todo_by m domain.harder (is_decreasing settings.construction) plan)
      → director ≡ at_rest domain.rules weights director.plan → score ≡ score_seen m director → old ≡ []
      → items ≡ old ++ lines_text classes rules (line.Leg 0 ∷ placing_lines course.placed course.stuck ++ line.Start score ∷ [])
      → lines_text classes rules (line.Run name ∷ []) ++ items ≡ text_of posed (lines_after posed 0)
  begun_text classes rules name plan weights course director score old items classes_are rules_are name_is origin is rest scored none wrote =
      let opening = lines_text classes rules (line.Leg 0 ∷ placing_lines course.placed course.stuck ++ line.Start score ∷ []) in
      ap (λ text. lines_text classes rules (line.Run name ∷ []) ++ text)
      (wrote ∙ ap (λ text. text ++ opening) none
      ∙ opening_is m makers domain settings posed by classes rules plan weights course director.plan score classes_are rules_are origin is
      (scored ∙ ap (score_seen m) rest))
      ∙ run_line_first m makers domain settings posed by classes rules name classes_are rules_are name_is

  -- the steps are played as the posed problem says
  pub plays_by : (seed : ℕ) (selectors : List Selector) (made : List Made) → seed ≡ settings.seed
      → selectors ≡ settings.selectors → made ≡ makers → Plays m seed selectors made posed
  plays_by seed selectors made seed_is selectors_are made_is = record {
    means = by.means;
    seed_is = seed_is ∙ ap (λ s. s.seed) by.settings_are;
    selectors_are = selectors_are ∙ ap (λ s. s.selectors) by.settings_are;
    makers_are = made_is ∙ by.makers_are;
  }

  -- a report under the domain's names is one of the posed problem
  pub reports_by : (report : Report) → report.schema.now ≡ domain.classes → report.rules.now ≡ domain.rules → IsReportOf posed report
  reports_by report classes_are rules_are = record { classes = classes_are ∙ by.classes; rules = rules_are ∙ by.rules }

-- the way back leads from the worker's plan
pub way_from : (posed : Posed) (leg : BareLeg) (worker : WorkerView) (best : BestSoFar) (plan : PlanView) → IsAt posed leg worker best
    → plan ≡ worker.director.plan → IsWayBack (best_in posed leg).plan best.back.items plan
way_from posed leg worker best plan at is =
    subst (λ p. IsWayBack (best_in posed leg).plan best.back.items p)
    (sym (is ∙ ap (λ (w : WorkerView). w.director.plan) at.stands)) at.back

-- the best plan is written into an empty buffer
pub best_written : (m : Meaning) (domain : DomainView) (plan : PlanView) (weights : List ℕ) (rules : List RuleDef)
    (score : PlanScore) (matches : List (List Match)) (old items : List ℕ)
    → rules ≡ domain.rules → score ≡ whole_score m domain.rules weights plan
    → matches ≡ all_matches m (records_of plan) domain.rules weights → old ≡ []
    → items ≡ old ++ lines_text domain.classes rules (best_lines score plan matches) → items ≡ best_text m domain plan weights
best_written m domain plan weights rules score matches old items rules_are score_at matches_at none wrote =
    wrote ∙ (λ i. none i ++ lines_text domain.classes (rules_are i) (best_lines (score_at i) plan (matches_at i)))
