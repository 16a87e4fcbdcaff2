-- A step of a search is done: where the core stands then, and what line is printed.
use Rattle.std.proofs.Common.{◌≡◌, ◌∙◌, ◌+◌, ◌<◌, ◌≤◌, ℕ, suc, Bool, false, Option, Some, None, List, [], ◌∷◌, ◌++◌, length, Result, Ok, Err, OnOk, refl, sym, ap, subst, arith}
use Rattle.std.proofs.lemmas.Grind.{flat_map-append}
use Rattle.std.proofs.lemmas.List.{length-append}
use Rattle.std.specs.Option.{option_map_or}
use Rattle.std.specs.Result.{IsErrAnd}
use Rattle.acceptors.specs.History.{History}
use Rattle.foragers.specs.declared.Seen.{Seen}
use Rattle.plan_scores.specs.declared.plan_score.PlanScore.{PlanScore}
use Rattle.plan_settings.specs.declared.setting.Selector.{Selector}
use Rattle.move_selectors.specs.Candidates.{Made}
use Rattle.plan_facts.specs.declared.record.ClassDef.{ClassDef}
use Rattle.plan_rules.specs.declared.rule.RuleDef.{RuleDef}
use Rattle.plan_rules.specs.Meaning.{Meaning}
use Rattle.plan_reports.specs.declared.line.Line.{Line}
use Rattle.plan_reports.specs.declared.line.Line.TheVariants as line
use Rattle.plan_reports.specs.Lines.{line_text, lines_text}
use Rattle.score_director.specs.View.{score_seen}
use Rattle.plan_search.specs.declared.found.Found.{Found}
use Rattle.plan_search.specs.Game.{Game, Move, found_at}
use Rattle.plan_search.specs.Leg.{history_of, idle_step, state_of, step_won_by, won_step}
use Rattle.plan_search.specs.Posed.{Posed, candidate_by, plan_score, state_score}
use Rattle.plan_search.specs.Quiet.{game, leg_after, lines_after, next_line}
use Rattle.plan_search.specs.RunLines.{no_feed, text_of}
use Rattle.plan_search.proofs.Legs.{state_of-step}
use Rattle.plan_search.proofs.Quiet.{grows_by_a_line, later_lines_go_on}
use Rattle.plan_ports.specs.Outside.{SinkState, Wrote}
use Rattle.move_workers.specs.Judging.{WorkerView, found_by, found_in}
use Rattle.move_workers.specs.Laws.{worker_on}
use Rattle.move_workers.proofs.InGame.{found_in_game}
use Rattle.search_core.specs.declared.machine.Core.{Core}
use Rattle.search_core.specs.declared.event.Event.{Event}
use Rattle.search_core.specs.declared.event.Event.TheVariants.{Cut}
use Rattle.search_core.specs.Desk.{Terms, begins_leg, desk}
use Rattle.search_core.specs.Keeps.{HasNoFault, StandsFor, terms_of}
use Rattle.search_core.specs.OneThread.{BeginsAt, BeginsStep, EndsStep, step_events, winner_number, won_history}
use Rattle.search_core.specs.Truth.{IsTaken}
use Rattle.search_core.proofs.Boundaries.{cut-begins, cut-taken}
use Rattle.search_core.proofs.InStep.{step_events-done}
use Rattle.search_core.proofs.Steps.{next-history, next-winner}
use Rattle.plan_session.specs.declared.best.BestSoFar.{BestSoFar}
use Rattle.plan_session.specs.declared.report.Report.{Report}
use Rattle.plan_session.specs.Course.{BareLeg, HasPrinted, IsAfter, IsAt, IsDecider, IsEnded, IsInCourse, IsMade, IsQuiet, IsReady, HasEnded, Plays, SameTerms, TakesEvent, WentOn, found_in_step, gone_on, history_in, line_in, step_in, step_text, terms, winner_in}
use Rattle.plan_session.specs.declared.fault.PrintFault.{PrintFault}
use Rattle.plan_session.specs.declared.fault.PrintFault.TheVariants.{Memory}
use Rattle.plan_session.specs.Printing.{Prints}
use Rattle.plan_session.specs.Writes.{IsReportOf}
use Rattle.plan_session.proofs.Printed.{prints_front, prints_more, prints_nothing}

-- a step that begins where nothing was posted
record IsToDo (t : Terms) (k : ℕ) (h : History) (events : List Event) : Type 0 where
  buffer : 1 ≤ t.buffer
  limit : 1 ≤ t.settings.select_limit
  quiet : (desk t events).posts ≡ 0
  taken : IsTaken t events
  begins : BeginsStep t (desk t events) k h

module _ (t : Terms) (k : ℕ) (h : History) (found : ℕ → Option Found) (events : List Event) where
  -- its events are taken
  step_events-taken : IsToDo t k h events → IsTaken t (step_events t k found events)
  step_events-taken todo = (step_events-done t k h found events todo.buffer todo.limit todo.taken todo.begins).taken

  -- and end it
  step_events-ends : IsToDo t k h events → EndsStep t (desk t (step_events t k found events)) k 0 (won_history t h found)
  step_events-ends todo =
      subst (λ (posts : ℕ). EndsStep t (desk t (step_events t k found events)) k posts (won_history t h found)) todo.quiet
      (step_events-done t k h found events todo.buffer todo.limit todo.taken todo.begins).ends

-- the choice of a step's winner made this of a core
pub record Chooses (old new : Core) (k : ℕ) (found : ℕ → Option Found) : Type 0 where
  pub buffer : 1 ≤ old.buffer
  pub limit : 1 ≤ old.settings.select_limit
  pub quiet : IsQuiet old
  pub stands : (at : BeginsAt old k) → StandsFor at.terms new (step_events at.terms k found at.events)

to_do : (old new : Core) (k : ℕ) (found : ℕ → Option Found) → Chooses old new k found → (at : BeginsAt old k) → IsTaken at.terms at.events
    → IsToDo at.terms k at.history at.events
to_do old new k found chooses at taken =
    let same = at.stands.terms in record {
      buffer = subst (λ (t : Terms). 1 ≤ t.buffer) same chooses.buffer;
      limit = subst (λ (t : Terms). 1 ≤ t.settings.select_limit) same chooses.limit;
      quiet = sym at.stands.keeps.posts ∙ chooses.quiet;
      taken = taken;
      begins = at.begins;
    }

-- the boundary behind the step is to be cut then
pub ended_by : (old new : Core) (k : ℕ) (found : ℕ → Option Found) → Chooses old new k found → IsReady old k → IsEnded new k
ended_by old new k found chooses ready =
    let at = ready.begins in
    let todo = to_do old new k found chooses at ready.taken in
    record {
      terms = at.terms;
      events = step_events at.terms k found at.events;
      history = won_history at.terms at.history found;
      stands = chooses.stands at;
      taken = step_events-taken at.terms k at.history found at.events todo;
      ends = step_events-ends at.terms k at.history found at.events todo;
    }

-- under the same terms
pub same_terms : (old new : Core) (k : ℕ) (found : ℕ → Option Found) → Chooses old new k found → IsReady old k → terms_of new ≡ terms_of old
same_terms old new k found chooses ready = (chooses.stands ready.begins).terms ∙ sym ready.begins.stands.terms

-- behind a step at whose end nothing was posted no leg begins
goes_on : (k : ℕ) → 1 ≤ k → begins_leg k 0 ≡ false
goes_on k some = grind arith

module _ (core : Core) (k : ℕ) (ended : IsEnded core k) where
  within_terms : k ≤ (terms_of core).settings.steps → k ≤ ended.terms.settings.steps
  within_terms within = subst (λ (t : Terms). k ≤ t.settings.steps) ended.stands.terms within

  -- a boundary that is to be cut may be, up to the step limit
  pub cut_is_due : k ≤ (terms_of core).settings.steps → HasNoFault core (Cut k)
  cut_is_due within = record {
    terms = ended.terms;
    events = ended.events;
    stands = ended.stands;
    none = cut-taken ended.terms (desk ended.terms ended.events) k 0 ended.history ended.ends (within_terms within);
  }

  module _ (new : Core) (takes : TakesEvent core (Cut k) new) where
    -- then the next step begins, if there is one
    pub ready_next : 1 ≤ k → k < (terms_of core).settings.steps → IsReady new (k + 1)
    ready_next some more = record {
      begins = record {
        terms = ended.terms;
        events = Cut k ∷ ended.events;
        history = ended.history;
        stands = takes ended.terms ended.events ended.stands;
        begins = (cut-begins ended.terms (desk ended.terms ended.events) k 0 ended.history ended.ends (goes_on k some)
            (subst (λ (t : Terms). k + 1 ≤ t.settings.steps) ended.stands.terms (omega (arith, more)))).1;
      };
      taken = (ended.taken, cut-taken ended.terms (desk ended.terms ended.events) k 0 ended.history ended.ends (within_terms (omega (arith, more))));
    }

    -- under the same terms
    pub terms_stay : terms_of new ≡ terms_of core
    terms_stay = (takes ended.terms ended.events ended.stands).terms ∙ sym ended.stands.terms

    -- and nothing is posted
    pub still_quiet : IsQuiet new
    still_quiet = (takes ended.terms ended.events ended.stands).keeps.posts

-- a search whose step was made is in course before the next one then
pub passes : (core new : Core) (k : ℕ) → 1 ≤ k → TakesEvent core (Cut k) new
    → (posed : Posed) (leg : BareLeg) (worker : WorkerView) (best : BestSoFar) → k ≤ posed.settings.steps
    → IsMade core worker best posed k leg → IsInCourse new worker best posed (suc k) leg
passes core new k some takes posed leg worker best within made =
    let ended = made.ended in
    let t = terms posed ended.buffer in
    let h = history_in posed leg in
    let next : k + 1 ≡ suc k = omega arith in
    record {
      decides = record {
        buffer = ended.buffer;
        events = Cut k ∷ ended.events;
        stands = takes t ended.events ended.stands;
        taken = (ended.taken, cut-taken t (desk t ended.events) k 0 h ended.ends within);
        begins = λ further.
            subst (λ (j : ℕ). BeginsStep t (desk t (Cut k ∷ ended.events)) j h) next
            (cut-begins t (desk t ended.events) k 0 h ended.ends (goes_on k some) (omega (arith, further))).1;
      };
      at = made.at;
      few = omega (arith, made.few);
    }

-- the core stands before the step
abbrev pub begins_at : (posed : Posed) (k : ℕ) (leg : BareLeg) (core : Core) → k ≤ posed.settings.steps → IsDecider posed k leg core → BeginsAt core k
begins_at posed k leg core within decides = record {
  terms = terms posed decides.buffer;
  events = decides.events;
  history = history_in posed leg;
  stands = decides.stands;
  begins = decides.begins within;
}

-- a worker finds what the search does
found_is : (m : Meaning) (seed : ℕ) (selectors : List Selector) (makers : List Made) (posed : Posed) (k : ℕ) (leg : BareLeg) (worker : WorkerView) (best : BestSoFar)
    → Plays m seed selectors makers posed → IsAt posed leg worker best → found_in m seed selectors makers k worker ≡ found_in_step posed k leg
found_is m seed selectors makers posed k leg worker best plays at =
    let s = state_of leg in
    let worker_is : worker ≡ worker_on posed s = at.stands in
    let same : (number : ℕ) → found_in m seed selectors makers k worker number ≡ found_at (game posed) k s number =
    λ number.
    (λ i. found_by (plays.means i) (worker_is i).director (candidate_by (plays.seed_is i) (plays.selectors_are i) (plays.makers_are i) k number (worker_is i).director.plan))
    ∙ sym (found_in_game no_feed.handle posed s k number) in
    λ i number. same number i

-- the number that is chosen is the winner's
pub chosen_wins : (m : Meaning) (seed : ℕ) (selectors : List Selector) (makers : List Made) (posed : Posed) (k : ℕ) (leg : BareLeg) (core : Core) (worker : WorkerView) (best : BestSoFar)
    (winner : Option ℕ) → k ≤ posed.settings.steps → Plays m seed selectors makers posed → IsDecider posed k leg core → IsAt posed leg worker best
    → ((at : BeginsAt core k) → winner ≡ winner_number at.terms at.history (found_in m seed selectors makers k worker))
    → winner ≡ winner_in posed k leg
chosen_wins m seed selectors makers posed k leg core worker best winner within plays decides at chosen =
    chosen (begins_at posed k leg core within decides)
    ∙ ap (winner_number (terms posed decides.buffer) (history_in posed leg)) (found_is m seed selectors makers posed k leg worker best plays at)

-- the boundary behind the leg's step is to be cut
pub has_ended : (m : Meaning) (seed : ℕ) (selectors : List Selector) (makers : List Made) (posed : Posed) (k : ℕ) (leg : BareLeg) (old new : Core) (worker : WorkerView) (best : BestSoFar)
    → k ≤ posed.settings.steps → Plays m seed selectors makers posed → IsDecider posed k leg old → IsAt posed leg worker best
    → Chooses old new k (found_in m seed selectors makers k worker) → HasEnded posed k (gone_on posed k leg) new
has_ended m seed selectors makers posed k leg old new worker best within plays decides at chooses =
    let found = found_in m seed selectors makers k worker in
    let t = terms posed decides.buffer in
    let h = history_in posed leg in
    let begins = begins_at posed k leg old within decides in
    let todo = to_do old new k found chooses begins decides.taken in
    let history : won_history t h found ≡ history_in posed (gone_on posed k leg) =
    ap (won_history t h) (found_is m seed selectors makers posed k leg worker best plays at) ∙ next-history (game posed) t k leg in
    let events = step_events t k found decides.events in
    record {
      buffer = decides.buffer;
      events = events;
      stands = chooses.stands begins;
      taken = step_events-taken t k h found decides.events todo;
      ends = subst (λ (x : History). EndsStep t (desk t events) k 0 x) history (step_events-ends t k h found decides.events todo);
    }

-- the number of a step is that under which it was made
module _ {S Line : Type 0} (g : Game S Line) (k : ℕ) (h : History) (before : S) where
  number_made : (number : ℕ) (made : Option (Move S)) → (option_map_or (won_step g k h number) made (idle_step k before)).step ≡ k
  number_made number None = refl
  number_made number (Some move) = refl

  number_won : (winner : Option Seen) → (step_won_by g k h before winner).step ≡ k
  number_won None = refl
  number_won (Some seen) = number_made seen.number (g.candidate k seen.number before)

-- what is told of a step is its line
pub step_line_is : (m : Meaning) (posed : Posed) (k : ℕ) (leg : BareLeg) (winner : Option ℕ) (score : PlanScore) (is_best : Bool) (worker : WorkerView) (best : BestSoFar)
    → m ≡ posed.meaning → winner ≡ winner_in posed k leg → score ≡ score_seen m worker.director → WentOn posed k leg worker best is_best
    → line.Step k winner score is_best ≡ line_in posed k leg
unfolding plan_score
step_line_is m posed k leg winner score is_best worker best means wins scored went =
    let g = game posed in
    let next = step_in posed k leg in
    let number : k ≡ next.step = sym (number_won g k (history_of g leg) (state_of leg) _) in
    let won : winner ≡ next.winner = wins ∙ sym (next-winner g (terms posed 0) k leg) in
    let there : score ≡ state_score posed (state_of (gone_on posed k leg)) = scored ∙ (λ i. score_seen (means i) (went.at.stands i).director) in
    let worth : score ≡ state_score posed next.after = there ∙ ap (state_score posed) (state_of-step leg next) in
    λ i. line.Step (number i) (won i) (worth i) (went.tells i)

-- and the line's text is the step's
pub step_text_is : (posed : Posed) (k : ℕ) (leg : BareLeg) (report : Report) (one : Line) → IsReportOf posed report → one ≡ line_in posed k leg
    → lines_text report.schema.now report.rules.now (one ∷ []) ≡ step_text posed k leg
step_text_is posed k leg report one of is i = lines_text (of.classes i) (of.rules i) (is i ∷ [])

-- a step's line is printed under the problem's names
pub prints_named : {A : Type 0} (result : Result A PrintFault) (posed : Posed) (k : ℕ) (leg : BareLeg) (classes : List ClassDef) (rules : List RuleDef)
    (one : Line) (before after : SinkState) → classes ≡ posed.classes → rules ≡ posed.rules → one ≡ line_in posed k leg
    → Prints result (lines_text classes rules (one ∷ [])) before after → Prints result (step_text posed k leg) before after
prints_named result posed k leg classes rules one before after classes_are rules_are is prints =
    subst (λ (text : List ℕ). Prints result text before after) (λ i. lines_text (classes_are i) (rules_are i) (is i ∷ [])) prints

-- a step's line is printed
pub prints_line : {A : Type 0} (result : Result A PrintFault) (posed : Posed) (k : ℕ) (leg : BareLeg) (report : Report) (one : Line) (before after : SinkState)
    → IsReportOf posed report → one ≡ line_in posed k leg → Prints result (lines_text report.schema.now report.rules.now (one ∷ [])) before after
    → Prints result (step_text posed k leg) before after
prints_line result posed k leg report one before after of is prints =
    subst (λ (text : List ℕ). Prints result text before after) (step_text_is posed k leg report one of is) prints

-- the text of the step after so many of a run without a feed
abbrev pub next_text : Posed → ℕ → List ℕ
next_text posed n = step_text posed (suc n) (leg_after posed n)

-- the text of one step more
text_more : (posed : Posed) (n : ℕ) → text_of posed (lines_after posed (suc n)) ≡ text_of posed (lines_after posed n) ++ next_text posed n
text_more posed n =
    ap (text_of posed) (grows_by_a_line posed n)
    ∙ flat_map-append (line_text posed.classes posed.rules) (lines_after posed n) (next_line posed n ∷ [])

-- one step more is printed
pub printed_next : {A : Type 0} (value : A) (posed : Posed) (n : ℕ) (start old new : SinkState) → HasPrinted posed n start old
    → Prints {A = A} (Ok value) (next_text posed n) old new → HasPrinted posed (suc n) start new
printed_next value posed n start old new has prints =
    let more = prints_more (Ok value) (text_of posed (lines_after posed n)) (next_text posed n) start old new has.wrote has.later prints in
    record { wrote = subst (λ (text : List ℕ). Wrote text start new) (sym (text_more posed n)) more.whole; later = more.later }

-- where printing a step fails a front of all steps was printed
pub printed_front : {A : Type 0} (fault : PrintFault) (posed : Posed) (n all : ℕ) (start old new : SinkState) → n < all → HasPrinted posed n start old
    → Prints {A = A} (Err fault) (next_text posed n) old new → Prints {A = A} (Err fault) (text_of posed (lines_after posed all)) start new
printed_front {A} fault posed n all start old new within has prints =
    let before = text_of posed (lines_after posed n) in
    let more = prints_more (Err fault) before (next_text posed n) start old new has.wrote has.later prints in
    let front = later_lines_go_on posed (suc n) all (omega arith) in
    let rest = text_of posed front.rest in
    let whole : (before ++ next_text posed n) ++ rest ≡ text_of posed (lines_after posed all) =
    ap (λ (text : List ℕ). text ++ rest) (sym (text_more posed n))
    ∙ sym (flat_map-append (line_text posed.classes posed.rules) (lines_after posed (suc n)) front.rest)
    ∙ ap (text_of posed) front.is in
    subst (λ (text : List ℕ). Prints {A = A} (Err fault) text start new) whole (prints_front fault (before ++ next_text posed n) rest start new more)

-- what was printed when all steps are done
pub printed_all : {A : Type 0} (value : A) (posed : Posed) (n : ℕ) (start now : SinkState) → HasPrinted posed n start now
    → Prints {A = A} (Ok value) (text_of posed (lines_after posed n)) start now
printed_all value posed n start now has = record { whole = has.wrote; front = tt; failed = λ is. cc; later = has.later }

-- a worker stays under its terms
pub same_stays : (worker : WorkerView) → SameTerms worker worker
same_stays worker = record { rules = refl; weights = refl; seed = refl; sizes = refl }

pub same_goes_on : (first old new : WorkerView) → SameTerms first old → SameTerms old new → SameTerms first new
same_goes_on first old new one two = record {
  rules = two.rules ∙ one.rules;
  weights = two.weights ∙ one.weights;
  seed = two.seed ∙ one.seed;
  sizes = two.sizes ∙ one.sizes;
}

-- what holds anyway holds where a call succeeds
pub on_ok : {A E : Type 0} (result : Result A E) (P : Type 0) → P → OnOk result P
on_ok (Ok value) P p = p
on_ok (Err fault) P p = tt

-- where memory was wanting nothing was printed
pub nothing_printed : {A : Type 0} (result : Result A PrintFault) (text : List ℕ) (sink : SinkState) → IsErrAnd result (λ fault. fault ≡ Memory)
    → Prints result text sink sink
nothing_printed (Ok value) text sink is = absurd is
nothing_printed {A} (Err fault) text sink is =
    subst (λ (f : PrintFault). Prints {A = A} (Err f) text sink sink) (sym is) (prints_nothing text sink)

module _ (m : Meaning) (seed : ℕ) (selectors : List Selector) (makers : List Made) (step : ℕ) (old : Core) (worker chosen : WorkerView) (played : WorkerView)
    (best best_now : BestSoFar) (winner : Option ℕ) (is_best : Bool) where
  -- the number was chosen
  abbrev pub IsChosen : Type 0
  IsChosen = (at : BeginsAt old step) → winner ≡ winner_number at.terms at.history (found_in m seed selectors makers step worker)

  -- and played
  abbrev pub IsPlayed : Type 0
  IsPlayed = (posed : Posed) (leg : BareLeg) → length leg.steps < step → Plays m seed selectors makers posed → IsAt posed leg chosen best
      → winner ≡ winner_in posed step leg → WentOn posed step leg played best_now is_best

  went_by : IsChosen → IsPlayed → chosen ≡ worker → (posed : Posed) (leg : BareLeg) → step ≤ posed.settings.steps
      → Plays m seed selectors makers posed → IsInCourse old worker best posed step leg
      → (winner ≡ winner_in posed step leg) × WentOn posed step leg played best_now is_best
  went_by is_chosen is_played same posed leg within plays course =
      let wins = chosen_wins m seed selectors makers posed step leg old worker best winner within plays course.decides course.at is_chosen in
      (wins, is_played posed leg course.few plays (subst (λ (w : WorkerView). IsAt posed leg w best) (sym same) course.at) wins)

  -- so the step is made
  pub step_made : (new : Core) → IsChosen → IsPlayed → chosen ≡ worker → Chooses old new step (found_in m seed selectors makers step worker)
      → (posed : Posed) (leg : BareLeg) → step ≤ posed.settings.steps
      → Plays m seed selectors makers posed → IsInCourse old worker best posed step leg → IsMade new played best_now posed step (gone_on posed step leg)
  step_made new is_chosen is_played same chooses posed leg within plays course =
      let one_more : length (gone_on posed step leg).steps ≡ length leg.steps + 1 = length-append leg.steps (step_in posed step leg ∷ []) in
      record {
        ended = has_ended m seed selectors makers posed step leg old new worker best within plays course.decides course.at chooses;
        at = (went_by is_chosen is_played same posed leg within plays course).1.at;
        few = omega (arith, one_more, course.few);
      }

  -- and this is its line
  pub line_made : (score : PlanScore) → IsChosen → IsPlayed → chosen ≡ worker → score ≡ score_seen m played.director
      → (posed : Posed) (leg : BareLeg) → step ≤ posed.settings.steps
      → Plays m seed selectors makers posed → IsInCourse old worker best posed step leg → line.Step step winner score is_best ≡ line_in posed step leg
  line_made score is_chosen is_played same scored posed leg within plays course =
      let went = went_by is_chosen is_played same posed leg within plays course in
      step_line_is m posed step leg winner score is_best played best_now plays.means went.0 scored went.1

-- a call that fails by a fault answers this
err_is : {A : Type 0} (result : Result A PrintFault) (fault : PrintFault) → IsErrAnd result (λ other. other ≡ fault) → Err fault ≡ result
err_is (Ok value) fault is = absurd is
err_is {A} (Err other) fault is = let err : PrintFault → Result A PrintFault = λ f. Err f in ap err (sym is)

-- where a search is in course before its first step, it is in course after so many
abbrev pub CourseAt : Meaning → ℕ → List Selector → List Made → ℕ → Core → WorkerView → BestSoFar → ℕ → Core → WorkerView → BestSoFar → Type 0
CourseAt m seed selectors makers steps core worker best n core_now worker_now best_now =
    (posed : Posed) → steps ≡ posed.settings.steps → Plays m seed selectors makers posed
    → IsAfter core worker best posed 0 → IsAfter core_now worker_now best_now posed n

-- and these steps are printed
abbrev pub PrintedAt : Meaning → ℕ → List Selector → List Made → ℕ → Core → WorkerView → BestSoFar → SinkState → Report → ℕ → SinkState → Type 0
PrintedAt m seed selectors makers steps core worker best out report n out_now =
    (posed : Posed) (start : SinkState) → steps ≡ posed.settings.steps → IsReportOf posed report → Plays m seed selectors makers posed
    → IsAfter core worker best posed 0 → HasPrinted posed 0 start out → HasPrinted posed n start out_now

module _ (m : Meaning) (seed : ℕ) (selectors : List Selector) (makers : List Made) (steps : ℕ) (core : Core) (worker : WorkerView) (best : BestSoFar)
    (n : ℕ) (old : Core) (worker_old : WorkerView) (best_old : BestSoFar) where
  -- what a step makes of a search in course
  abbrev pub StepGoes : Core → WorkerView → BestSoFar → Type 0
  StepGoes new worker_new best_new = (posed : Posed) (leg : BareLeg) → n + 1 ≤ posed.settings.steps → Plays m seed selectors makers posed
      → IsInCourse old worker_old best_old posed (n + 1) leg → IsInCourse new worker_new best_new posed (suc (n + 1)) (gone_on posed (n + 1) leg)

  -- and prints
  abbrev pub StepPrints : {A : Type 0} → Result A PrintFault → Report → SinkState → SinkState → Type 0
  StepPrints result report before after = (posed : Posed) (leg : BareLeg) → n + 1 ≤ posed.settings.steps → IsReportOf posed report
      → Plays m seed selectors makers posed → IsInCourse old worker_old best_old posed (n + 1) leg → Prints result (step_text posed (n + 1) leg) before after

  -- the step after so many has the next number
  next_is : n + 1 ≡ suc n
  next_is = omega arith

  -- a step that goes on and prints, under that number
  goes_next : (new : Core) (worker_new : WorkerView) (best_new : BestSoFar) → StepGoes new worker_new best_new → (posed : Posed)
      → suc n ≤ posed.settings.steps → Plays m seed selectors makers posed → IsAfter old worker_old best_old posed n → IsAfter new worker_new best_new posed (suc n)
  goes_next new worker_new best_new goes posed =
      subst (λ (k : ℕ). k ≤ posed.settings.steps → Plays m seed selectors makers posed → IsInCourse old worker_old best_old posed k (leg_after posed n)
      → IsInCourse new worker_new best_new posed (suc k) (gone_on posed k (leg_after posed n))) next_is (goes posed (leg_after posed n))

  prints_next : {A : Type 0} (result : Result A PrintFault) (report : Report) (before after : SinkState) → StepPrints result report before after → (posed : Posed)
      → suc n ≤ posed.settings.steps → IsReportOf posed report → Plays m seed selectors makers posed → IsAfter old worker_old best_old posed n
      → Prints result (next_text posed n) before after
  prints_next result report before after prints posed =
      subst (λ (k : ℕ). k ≤ posed.settings.steps → IsReportOf posed report → Plays m seed selectors makers posed
      → IsInCourse old worker_old best_old posed k (leg_after posed n) → Prints result (step_text posed k (leg_after posed n)) before after) next_is
      (prints posed (leg_after posed n))

  -- one step more
  pub course_next : (new : Core) (worker_new : WorkerView) (best_new : BestSoFar) → n < steps
      → CourseAt m seed selectors makers steps core worker best n old worker_old best_old → StepGoes new worker_new best_new
      → CourseAt m seed selectors makers steps core worker best (n + 1) new worker_new best_new
  course_next new worker_new best_new within course goes posed all plays begun =
      subst (λ (k : ℕ). IsAfter new worker_new best_new posed k) (sym next_is)
      (goes_next new worker_new best_new goes posed (omega (arith, within, all)) plays (course posed all plays begun))

  -- and it is printed
  pub printed_step : {A : Type 0} (value : A) (report : Report) (out before after : SinkState) → n < steps
      → CourseAt m seed selectors makers steps core worker best n old worker_old best_old
      → PrintedAt m seed selectors makers steps core worker best out report n before
      → StepPrints {A = A} (Ok value) report before after
      → PrintedAt m seed selectors makers steps core worker best out report (n + 1) after
  printed_step value report out before after within course printed prints posed start all of plays begun was =
      subst (λ (k : ℕ). HasPrinted posed k start after) (sym next_is)
      (printed_next value posed n start before after (printed posed start all of plays begun was)
      (prints_next (Ok value) report before after prints posed (omega (arith, within, all)) of plays (course posed all plays begun)))

  -- where it fails a front of all steps was printed
  pub printed_till : {A : Type 0} (result : Result A PrintFault) (fault : PrintFault) (report : Report) (out before after : SinkState)
      → IsErrAnd result (λ other. other ≡ fault) → n < steps
      → CourseAt m seed selectors makers steps core worker best n old worker_old best_old
      → PrintedAt m seed selectors makers steps core worker best out report n before
      → StepPrints {A = A} (Err fault) report before after
      → (posed : Posed) (start : SinkState) → steps ≡ posed.settings.steps → IsReportOf posed report → Plays m seed selectors makers posed
      → IsAfter core worker best posed 0 → HasPrinted posed 0 start out
      → Prints result (text_of posed (lines_after posed steps)) start after
  printed_till {A} result fault report out before after is within course printed prints posed start all of plays begun was =
      subst (λ (r : Result A PrintFault). Prints r (text_of posed (lines_after posed steps)) start after) (err_is result fault is)
      (printed_front fault posed n steps start before after within (printed posed start all of plays begun was)
      (prints_next {A = A} (Err fault) report before after prints posed (omega (arith, within, all)) of plays (course posed all plays begun)))
