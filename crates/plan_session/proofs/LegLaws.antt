-- Where a leg stands that was begun on a state that took lines of a feed.
use Rattle.std.proofs.Common.{◌≡◌, ◌∙◌, ◌≤◌, ◌==◌, ℕ, suc, Bool, true, false, List, [], ◌∷◌, ◌++◌, fold, length, map, refl, sym, ap, subst, arith}
use Rattle.plan_scores.specs.declared.plan_score.PlanScore.{PlanScore}
use Rattle.plan_scores.specs.Order.{is_better_plan}
use Rattle.plan_facts.specs.Plan.{PlanView}
use Rattle.plan_settings.specs.declared.settings.Settings.{Settings}
use Rattle.plan_facts.specs.declared.record.ClassDef.{ClassDef}
use Rattle.plan_rules.specs.declared.rule.RuleDef.{RuleDef}
use Rattle.plan_rules.specs.Meaning.{Meaning}
use Rattle.plan_rules.specs.Totals.{whole_score}
use Rattle.plan_changes.specs.Fits.{IsOfSchema, shape_of}
use Rattle.move_selectors.specs.Candidates.{Made}
use Rattle.live_lines.specs.Taking.{searched, taken_at}
use Rattle.plan_changes.specs.declared.line.Post.{Post}
use Rattle.plan_json.specs.Domains.{DomainView}
use Rattle.plan_reports.specs.declared.line.Line.{Line}
use Rattle.plan_reports.specs.declared.line.Line.TheVariants as line
use Rattle.plan_reports.specs.Lines.{lines_text}
use Rattle.score_director.specs.View.{DirectorView, at_rest, score_seen}
use Rattle.plan_search.specs.Placing.{placing_of}
use Rattle.plan_search.specs.Posed.{Posed, State, is_decreasing, placing_from, plan_score, state_score, todo_of}
use Rattle.plan_search.specs.RunLines.{Feed, handled_lines, placing_lines, text_of}
use Rattle.plan_search.specs.Todo.{todo_by}
use Rattle.construction.specs.declared.next.Course.{Course}
use Rattle.construction.specs.Placed.{course_of}
use Rattle.move_workers.specs.Judging.{WorkerView}
use Rattle.search_core.specs.declared.machine.Core.{Core}
use Rattle.plan_session.specs.declared.best.BestSoFar.{BestSoFar}
use Rattle.plan_session.specs.Begun.{IsPosedBy, opening_of, run_line_of}
use Rattle.search_core.specs.Desk.{Terms, begins_leg}
use Rattle.search_core.specs.Keeps.{terms_of}
use Rattle.plan_session.specs.Course.{BareLeg, HasEnded, IsAt, IsDecider, IsEnded, IsMade, IsReady, best_in, gone_on, history_in, terms}
use Rattle.plan_session.specs.Fed.{bare}
use Rattle.plan_session.specs.Live.{Frame, IsFramed, IsLive, IsLiveMade, IsOpened, leg_begun, opening_text}
use Rattle.plan_session.specs.WayBack.{IsWayBack}
use Rattle.plan_session.proofs.Begun.{placing_at}
use Rattle.plan_session.proofs.Frames.{goes_on_in_frame, shapes, shapes_placed}
use Rattle.plan_session.proofs.Live.{text-append}
use Rattle.plan_session.proofs.Played.{not_better_than_itself}

module _ (m : Meaning) (makers : List Made) (domain : DomainView) (settings : Settings) (posed : Posed)
    (by : IsPosedBy m makers domain settings posed) where
  module _ {Change : Type 0} (feed : Feed Change) (k : ℕ) (lines : List Change) (state : State)
      (took placed : DirectorView) (names : List (List ℕ)) (course : Course) (start : PlanScore) where
    -- the state that the lines leave
    abbrev handled : State
    handled = fold feed.handle state lines

    -- the director took the lines and was placed, and the score is that of its plan
    pub record IsPlaced : Type 0 where
      pub handles : searched took names ≡ handled
      pub course_is : course_of course placed.plan
          ≡ placing_of (whole_score m domain.rules took.weights) took.plan (todo_by m domain.harder (is_decreasing settings.construction) took.plan)
      pub rests : placed ≡ at_rest domain.rules took.weights placed.plan
      pub scored : start ≡ score_seen m placed

    module _ (is : IsPlaced) where
      plan_is : took.plan ≡ handled.plan
      plan_is = ap (λ (s : State). s.plan) is.handles

      weights_are : took.weights ≡ handled.weights
      weights_are = ap (λ (s : State). s.weights) is.handles

      placing : course_of course placed.plan ≡ placing_from posed handled
      placing = placing_at m makers domain settings posed by handled took.plan took.weights course placed.plan plan_is weights_are is.course_is

      -- the director is at the leg's start
      stands : placed ≡ at_rest posed.rules handled.weights (placing_from posed handled).plan
      stands = is.rests ∙ (λ i. at_rest (by.rules i) (weights_are i) (placing i).plan)

      -- and the score is that of the start
      pub start_is : start ≡ state_score posed (leg_begun feed posed k lines state).start
      unfolding plan_score
      start_is = is.scored ∙ (λ i. score_seen (by.means i) (stands i))

      -- what is printed is the leg's opening
      pub opening_is : (told : List Line) → told ≡ handled_lines feed state lines
          → opening_of domain k told course start ≡ opening_text feed posed k lines state
      opening_is told told_is =
          λ i. lines_text (by.classes i) (by.rules i)
          (line.Leg k ∷ told_is i ++ placing_lines (placing i).placed (placing i).stuck ++ line.Start (start_is i) ∷ [])

      -- and the leg is begun
      pub opened : (core : Core) → IsDecider posed (suc k) (bare (leg_begun feed posed k lines state)) core
          → IsOfSchema domain.classes took.plan → IsOpened core placed names posed k (bare (leg_begun feed posed k lines state))
      opened core decides schema = record {
        decides = decides;
        stands = stands;
        names_are = ap (λ (s : State). s.names) is.handles;
        schema = shapes_placed (plan_score posed handled.weights) handled.plan (todo_of posed handled.plan)
            ∙ ap shapes (sym plan_is) ∙ schema ∙ ap (map shape_of) by.classes;
      }

-- a leg that was begun is live before its first step: a worker is at its start, the best so far
pub opened_live : (m : Meaning) (posed : Posed) (k : ℕ) (leg : BareLeg) (core : Core) (director : DirectorView) (names : List (List ℕ))
    (worker : WorkerView) (best : BestSoFar) (score : PlanScore)
    → m ≡ posed.meaning → leg.steps ≡ [] → IsOpened core director names posed k leg
    → worker ≡ record { director = director; seed = posed.settings.seed } → score ≡ score_seen m director
    → best.score ≡ score → best.back.items ≡ [] → best.wins ≡ 0
    → IsLive core worker best names posed (suc k) leg
unfolding plan_score
opened_live m posed k leg core director names worker best score means fresh opened worker_is scored best_is none unwon =
    let begun : leg ≡ record { boundary = leg.boundary; origin = leg.origin; lines = leg.lines; start = leg.start; steps = [] } =
    λ i. record { boundary = leg.boundary; origin = leg.origin; lines = leg.lines; start = leg.start; steps = fresh i } in
    subst (λ (l : BareLeg). IsLive core worker best names posed (suc k) l) (sym begun)
    (let fresh_leg : BareLeg = record { boundary = leg.boundary; origin = leg.origin; lines = leg.lines; start = leg.start; steps = [] } in
    let scored_at : best.score ≡ state_score posed leg.start = best_is ∙ scored ∙ (λ i. score_seen (means i) (opened.stands i)) in
    record {
      course = record {
        decides = subst (λ (l : BareLeg). IsDecider posed (suc k) l core) begun opened.decides;
        at = record {
          stands = worker_is ∙ (λ i. record { director = opened.stands i; seed = posed.settings.seed });
          score = scored_at;
          greatest = ap (is_better_plan (state_score posed leg.start)) scored_at ∙ not_better_than_itself (state_score posed leg.start);
          back = subst (λ items. IsWayBack leg.start.plan items leg.start.plan) (sym none) refl;
          wins = unwon;
        };
        few = omega arith;
      };
      framed = record {
        names_are = opened.names_are;
        schema = opened.schema;
        stays = record { now = refl; best = refl };
      };
    })

-- a step that was made leaves a leg in its frame
pub made_live : (core : Core) (worker : WorkerView) (best : BestSoFar) (names : List (List ℕ)) (posed : Posed) (k : ℕ) (leg : BareLeg)
    → IsMade core worker best posed k (gone_on posed k leg) → IsFramed posed leg names → IsLiveMade core worker best names posed k (gone_on posed k leg)
made_live core worker best names posed k leg made framed = record {
  made = made;
  framed = record { names_are = framed.names_are; schema = framed.schema; stays = goes_on_in_frame posed k leg framed.stays };
}

-- the plan of a leg's best state, and its names and weights
module _ (posed : Posed) (leg : BareLeg) (names : List (List ℕ)) (framed : IsFramed posed leg names) where
  pub best_schema : IsOfSchema posed.classes (best_in posed leg).plan
  best_schema = ap (λ (f : Frame). f.shapes) framed.stays.best ∙ framed.schema

  pub best_names : names ≡ (best_in posed leg).names
  best_names = framed.names_are ∙ sym (ap (λ (f : Frame). f.names) framed.stays.best)

-- behind a step of a leg its boundary is to be cut
pub is_ended : (posed : Posed) (k : ℕ) (leg : BareLeg) (core : Core) → HasEnded posed k leg core → IsEnded core k
is_ended posed k leg core ended = record {
  terms = terms posed ended.buffer;
  events = ended.events;
  history = history_in posed leg;
  stands = ended.stands;
  taken = ended.taken;
  ends = ended.ends;
}

-- and a leg in course decides its next step, if there is one
pub is_ready : (posed : Posed) (k : ℕ) (leg : BareLeg) (core : Core) → IsDecider posed k leg core → k ≤ posed.settings.steps → IsReady core k
is_ready posed k leg core decides within = record {
  begins = record {
    terms = terms posed decides.buffer;
    events = decides.events;
    history = history_in posed leg;
    stands = decides.stands;
    begins = decides.begins within;
  };
  taken = decides.taken;
}

-- the settings of a core that stands for a posed problem
pub settings_of : (m : Meaning) (makers : List Made) (domain : DomainView) (settings : Settings) (posed : Posed)
    → IsPosedBy m makers domain settings posed → (k : ℕ) (leg : BareLeg) (core : Core) → HasEnded posed k leg core
    → (terms_of core).settings ≡ settings
settings_of m makers domain settings posed by k leg core ended =
    ap (λ (t : Terms). t.settings) ended.stands.terms ∙ sym by.settings_are

-- lines make a leg begin at any boundary
pub lines_begin : (k count : ℕ) → 1 ≤ count → begins_leg k count ≡ true
lines_begin k count some = grind arith

-- a director that was led back to the best plan of a leg is at its best state
module _ (posed : Posed) (leg : BareLeg) (names : List (List ℕ)) (worker : WorkerView) (best : BestSoFar)
    (at : IsAt posed leg worker best) (framed : IsFramed posed leg names) where
  pub weights_stay : worker.director.weights ≡ (best_in posed leg).weights
  weights_stay =
      ap (λ (w : WorkerView). w.director.weights) at.stands
      ∙ ap (λ (f : Frame). f.weights) framed.stays.now ∙ sym (ap (λ (f : Frame). f.weights) framed.stays.best)

  pub at_best : (rules : List RuleDef) (director : DirectorView)
      → director ≡ at_rest rules worker.director.weights (best_in posed leg).plan → searched director names ≡ best_in posed leg
  at_best rules director is =
      λ i. record { plan = (is i).plan; names = best_names posed leg names framed i; weights = (ap (λ (d : DirectorView). d.weights) is ∙ weights_stay) i }

  pub best_of_schema : (classes : List ClassDef) (rules : List RuleDef) (director : DirectorView) → classes ≡ posed.classes
      → director ≡ at_rest rules worker.director.weights (best_in posed leg).plan → IsOfSchema classes director.plan
  best_of_schema classes rules director classes_are is =
      ap (λ (d : DirectorView). shapes d.plan) is ∙ best_schema posed leg names framed ∙ sym (ap (map shape_of) classes_are)

-- a worker at a leg's state has the rules and the seed of the problem
pub own_rules : (m : Meaning) (makers : List Made) (domain : DomainView) (settings : Settings) (posed : Posed)
    → IsPosedBy m makers domain settings posed → (leg : BareLeg) (worker : WorkerView) (best : BestSoFar) → IsAt posed leg worker best
    → domain.rules ≡ worker.director.rules
own_rules m makers domain settings posed by leg worker best at =
    by.rules ∙ sym (ap (λ (w : WorkerView). w.director.rules) at.stands)

pub own_seed : (m : Meaning) (makers : List Made) (domain : DomainView) (settings : Settings) (posed : Posed)
    → IsPosedBy m makers domain settings posed → (leg : BareLeg) (worker : WorkerView) (best : BestSoFar) → IsAt posed leg worker best
    → settings.seed ≡ worker.seed
own_seed m makers domain settings posed by leg worker best at =
    ap (λ (s : Settings). s.seed) by.settings_are ∙ sym (ap (λ (w : WorkerView). w.seed) at.stands)

-- whether a boundary takes lines shows in its posts
pub some_lines : (k : ℕ) (posts : List Post) (empty : Bool) → empty ≡ (length posts == 0) → empty ≡ false
    → 1 ≤ length (taken_at k posts)
some_lines k [] empty is full = let no : true ≡ false = sym is ∙ full in absurd cc
some_lines k (post ∷ posts) empty is full = omega arith

pub no_lines : (k : ℕ) (posts : List Post) (empty : Bool) → empty ≡ (length posts == 0) → empty ≡ true
    → length (taken_at k posts) ≡ 0
no_lines k [] empty is none = refl
no_lines k (post ∷ posts) empty is none =
    let some : (length (post ∷ posts) == 0) ≡ false = grind arith in
    let no : false ≡ true = sym (is ∙ some) ∙ none in
    absurd cc

-- the first line of a run, and then an opening
pub run_then_opening : (m : Meaning) (makers : List Made) (domain : DomainView) (settings : Settings) (posed : Posed)
    → IsPosedBy m makers domain settings posed → (opening : List Line)
    → run_line_of domain ++ text_of posed opening ≡ text_of posed (line.Run posed.name ∷ opening)
run_then_opening m makers domain settings posed by opening =
    (λ i. lines_text (by.classes i) (by.rules i) (line.Run (by.name i) ∷ []) ++ text_of posed opening)
    ∙ sym (text-append posed (line.Run posed.name ∷ []) opening)

-- a director at rest on the plan as read is at the state as read
pub read_state : (rules : List RuleDef) (plan : PlanView) (names : List (List ℕ)) (weights : List ℕ) (director : DirectorView) (origin : State)
    → director ≡ at_rest rules weights plan → record { plan = plan; names = names; weights = weights } ≡ origin
    → searched director names ≡ origin
read_state rules plan names weights director origin rest is =
    (λ i. record { plan = (rest i).plan; names = names; weights = (rest i).weights }) ∙ is
