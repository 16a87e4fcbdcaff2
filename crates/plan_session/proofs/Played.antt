-- A step's winner is played: where the search stands then.
use Rattle.std.proofs.Common.{◌≡◌, ◌∙◌, ◌<◌, ◌^◌, ℕ, Bool, true, false, cond, IfOk, OnOk, Result, Ok, Err, Option, Some, None, List, [], ◌∷◌, ◌++◌, length, refl, sym, ap, subst}
use Rattle.std.specs.Option.{option_map}
use Rattle.std.specs.Ordering.{is_gt, ordering_reverse}
use Rattle.std.specs.declared.cmp.Ordering.{Ordering}
use Rattle.std.specs.declared.cmp.Ordering.TheVariants.{Less, Equal, Greater}
use Rattle.plan_scores.specs.declared.plan_score.PlanScore.{PlanScore}
use Rattle.plan_scores.specs.Best.{better_of}
use Rattle.plan_scores.specs.Order.{is_better_plan, plan_score_cmp}
use Rattle.plan_scores.specs.Total.{plan_score_cmp_total}
use Rattle.plan_facts.specs.Plan.{PlanView}
use Rattle.plan_moves.specs.declared.edit.Set.{Set}
use Rattle.plan_moves.specs.Edits.{applied, inverse_of}
use Rattle.plan_settings.specs.declared.setting.Selector.{Selector}
use Rattle.move_selectors.specs.Candidates.{Made}
use Rattle.plan_rules.specs.Meaning.{Meaning}
use Rattle.foragers.specs.Forage.{number_of}
use Rattle.score_director.specs.View.{score_seen}
use Rattle.plan_search.specs.Game.{found_at}
use Rattle.plan_search.specs.Judging.{winning}
use Rattle.plan_search.specs.Leg.{history_of, idle_step, state_of, won_step}
use Rattle.plan_search.specs.Posed.{Posed, State, candidate_at, candidate_by, move_of, plan_score, state_score, with_plan}
use Rattle.plan_search.specs.Quiet.{game}
use Rattle.plan_search.proofs.Legs.{best_of-step, best_score-is, state_of-step}
use Rattle.plan_search.proofs.Winning.{next_idle, next_won, winner_moves}
use Rattle.move_workers.specs.Judging.{LeadsTo, WorkerView, candidate_in, played}
use Rattle.move_workers.specs.Laws.{worker_on}
use Rattle.plan_session.specs.declared.best.BestSoFar.{BestSoFar}
use Rattle.plan_session.specs.Course.{BareLeg, IsAt, Plays, WentOn, best_in, gone_on, history_in, step_in, winner_in}
use Rattle.plan_session.specs.Toured.{one_more, win_count}
use Rattle.plan_session.specs.WayBack.{IsWayBack}
use Rattle.plan_session.proofs.WayBack.{longer_way}
use Rattle.plan_session.proofs.Won.{wins_idle, wins_won}

-- what is made of nothing is nothing
none_of : {A B : Type 0} (f : A → B) (o : Option A) → option_map f o ≡ None → o ≡ None
none_of f None is = refl
none_of f (Some x) is = cc

-- what is made of a value is made of one
record Origin {A B : Type 0} (f : A → B) (o : Option A) (y : B) : Type 0 where
  value : A
  is : o ≡ Some value
  made : f value ≡ y

some_of : {A B : Type 0} (f : A → B) (o : Option A) (y : B) → option_map f o ≡ Some y → Origin f o y
some_of f None y is = absurd cc
some_of f (Some x) y is = let same : f x ≡ y = cc in record { value = x; is = refl; made = same }

-- the state after a step, and the best one
pub state_next : (posed : Posed) (k : ℕ) (leg : BareLeg) → state_of (gone_on posed k leg) ≡ (step_in posed k leg).after
state_next posed k leg = state_of-step leg (step_in posed k leg)

pub best_next : (posed : Posed) (k : ℕ) (leg : BareLeg)
    → best_in posed (gone_on posed k leg) ≡ better_of (state_score posed) (best_in posed leg) (step_in posed k leg).after
best_next posed k leg = best_of-step (game posed) leg (step_in posed k leg)

-- a step without a winner leaves the leg where it is
pub idle_went : (posed : Posed) (k : ℕ) (leg : BareLeg) (worker : WorkerView) (best : BestSoFar) → IsAt posed leg worker best
    → None ≡ winner_in posed k leg → WentOn posed k leg worker best false
idle_went posed k leg worker best at none =
    let g = game posed in
    let s = state_of leg in
    let b = best_in posed leg in
    let next : step_in posed k leg ≡ idle_step k s = next_idle g posed.settings k leg (none_of number_of _ (sym none)) in
    let state : state_of (gone_on posed k leg) ≡ s = state_next posed k leg ∙ ap (λ step. step.after) next in
    let no : is_better_plan (state_score posed s) (state_score posed b) ≡ false =
    subst (λ score. is_better_plan (state_score posed s) score ≡ false) at.score at.greatest in
    let stays : best_in posed (gone_on posed k leg) ≡ b =
    best_next posed k leg ∙ ap (λ step. better_of (state_score posed) b step.after) next ∙ ap (λ c. cond c s b) no in
    record {
      at = record {
        stands = at.stands ∙ ap (worker_on posed) (sym state);
        score = at.score ∙ ap (state_score posed) (sym stays);
        greatest = ap (λ here. is_better_plan (state_score posed here) best.score) state ∙ at.greatest;
        back = subst (λ here. IsWayBack (best_in posed (gone_on posed k leg)).plan best.back.items here.plan) (sym state)
            (subst (λ there. IsWayBack there.plan best.back.items s.plan) (sym stays) at.back);
        wins = at.wins ∙ sym (wins_idle leg.steps (step_in posed k leg) (ap (λ step. step.winner) next));
      };
      tells = ap (λ step. step.is_best) (sym next);
    }

-- a worker's candidate is the problem's
pub candidate_is : (m : Meaning) (seed : ℕ) (selectors : List Selector) (makers : List Made) (posed : Posed) (step number : ℕ) (worker : WorkerView)
    → Plays m seed selectors makers posed
    → candidate_in seed selectors makers step number worker ≡ candidate_at posed step number worker.director.plan
candidate_is m seed selectors makers posed step number worker plays i =
    candidate_by (plays.seed_is i) (plays.selectors_are i) (plays.makers_are i) step number worker.director.plan

-- the edit of a step's winner, and what the step is
pub record WinnerPlays (posed : Posed) (k : ℕ) (leg : BareLeg) (number : ℕ) (made : Option (List Set)) : Type 0 where
  pub sets : List Set
  pub candidate : made ≡ Some sets
  pub next : step_in posed k leg ≡ won_step (game posed) k (history_in posed leg) number (move_of (state_of leg) sets)

pub winner_plays : (posed : Posed) (k : ℕ) (leg : BareLeg) (number : ℕ) (worker : WorkerView) (best : BestSoFar) (candidate : Option (List Set))
    → candidate ≡ candidate_at posed k number worker.director.plan → IsAt posed leg worker best
    → Some number ≡ winner_in posed k leg → WinnerPlays posed k leg number candidate
winner_plays posed k leg number worker best candidate is at wins =
    let g = game posed in
    let s = state_of leg in
    let won = some_of number_of (winning posed.settings (history_of g leg) (found_at g k s)) number (sym wins) in
    let moves = winner_moves g posed.settings k leg won.value won.is in
    let made = some_of (move_of s) (candidate_at posed k won.value.number s.plan) moves.0 moves.1 in
    let move_is : g.candidate k won.value.number s ≡ Some (move_of s made.value) =
    moves.1 ∙ ap (λ move. Some move) (sym made.made) in
    let plan_is : worker.director.plan ≡ s.plan = ap (λ (w : WorkerView). w.director.plan) at.stands in
    record {
      sets = made.value;
      candidate = is ∙ (λ i. candidate_at posed k (sym won.made i) (plan_is i)) ∙ made.is;
      next = next_won g posed.settings k leg won.value (move_of s made.value) won.is move_is
          ∙ ap (λ won_by. won_step g k (history_of g leg) won_by (move_of s made.value)) won.made;
    }

-- a winner's candidate can be made
pub winner_has_move : (posed : Posed) (k : ℕ) (leg : BareLeg) (number : ℕ) (worker : WorkerView) (best : BestSoFar) (candidate : Option (List Set)) (plan : PlanView)
    → candidate ≡ candidate_at posed k number worker.director.plan → IsAt posed leg worker best
    → Some number ≡ winner_in posed k leg → None ≡ option_map (inverse_of plan) candidate → ⊥
winner_has_move posed k leg number worker best candidate plan is at wins none =
    let w = winner_plays posed k leg number worker best candidate is at wins in
    let some : None ≡ Some (inverse_of plan w.sets) = none ∙ ap (option_map (inverse_of plan)) w.candidate in
    absurd cc

-- no score is better than itself
reverse_alike : (o : Ordering) → o ≡ ordering_reverse o → is_gt o ≡ false
reverse_alike Less e = refl
reverse_alike Equal e = refl
reverse_alike Greater e = cc

pub not_better_than_itself : (a : PlanScore) → is_better_plan a a ≡ false
not_better_than_itself a = reverse_alike (plan_score_cmp a a) (plan_score_cmp_total.antisymm a a)

-- what is known of the best plan after a move to this state
abbrev Knows : Posed → State → BestSoFar → BestSoFar → List Set → Bool → Type 0
Knows posed after old new back is_best =
    (new.score ≡ cond is_best (state_score posed after) old.score)
    × (new.back.items ≡ cond is_best [] (old.back.items ++ back ∷ []))

-- a move that is the best makes its state the best, and the way back to it is none; after another one the way back is one edit longer
keeps_best : (posed : Posed) (k : ℕ) (leg : BareLeg) (before after : State) (worker : WorkerView) (old new : BestSoFar) (back : List Set) (is_best : Bool)
    → state_of (gone_on posed k leg) ≡ after
    → best_in posed (gone_on posed k leg) ≡ cond is_best after (best_in posed leg)
    → worker ≡ worker_on posed after
    → is_best ≡ is_better_plan (state_score posed after) (state_score posed (best_in posed leg))
    → old.score ≡ state_score posed (best_in posed leg)
    → IsWayBack (best_in posed leg).plan old.back.items before.plan → LeadsTo before.plan after.plan back
    → Knows posed after old new back is_best → new.wins ≡ win_count (gone_on posed k leg).steps
    → IsAt posed (gone_on posed k leg) worker new
keeps_best posed k leg before after worker old new back true state best is better score way leads knows wins = record {
  stands = is ∙ ap (worker_on posed) (sym state);
  score = knows.0 ∙ ap (state_score posed) (sym best);
  greatest =
      (λ i. is_better_plan (state_score posed (state i)) (knows.0 i)) ∙ not_better_than_itself (state_score posed after);
  back = subst (λ items. IsWayBack (best_in posed (gone_on posed k leg)).plan items (state_of (gone_on posed k leg)).plan) (sym knows.1)
      (ap (λ s. s.plan) (state ∙ sym best));
  wins = wins;
}
keeps_best posed k leg before after worker old new back false state best is better score way leads knows wins = record {
  stands = is ∙ ap (worker_on posed) (sym state);
  score = knows.0 ∙ score ∙ ap (state_score posed) (sym best);
  greatest =
      (λ i. is_better_plan (state_score posed (state i)) ((knows.0 ∙ score) i)) ∙ sym better;
  back = subst (λ items. IsWayBack (best_in posed (gone_on posed k leg)).plan items (state_of (gone_on posed k leg)).plan) (sym knows.1)
      (subst (λ b. IsWayBack b.plan (old.back.items ++ back ∷ []) (state_of (gone_on posed k leg)).plan) (sym best)
      (subst (λ s. IsWayBack (best_in posed leg).plan (old.back.items ++ back ∷ []) s.plan) (sym state)
      (longer_way (best_in posed leg).plan before.plan after.plan old.back.items back way leads)));
  wins = wins;
}

-- a step that was won goes on to the state after the winner's move
pub won_went : (m : Meaning) (posed : Posed) (k : ℕ) (leg : BareLeg) (number : ℕ) (worker0 worker1 : WorkerView) (best0 best1 : BestSoFar) (back : List Set)
    (candidate : Option (List Set)) (score : PlanScore) (is_best : Bool)
    → m ≡ posed.meaning → candidate ≡ candidate_at posed k number worker0.director.plan
    → IsAt posed leg worker0 best0 → Some number ≡ winner_in posed k leg
    → worker1 ≡ played worker0 candidate
    → LeadsTo worker0.director.plan worker1.director.plan back
    → score ≡ score_seen m worker1.director
    → is_best ≡ is_better_plan score best0.score
    → best1.score ≡ cond is_best score best0.score
    → best1.back.items ≡ cond is_best [] (best0.back.items ++ back ∷ [])
    → best1.wins ≡ one_more best0.wins → length leg.steps < k → k < 2 ^ 32
    → WentOn posed k leg worker1 best1 is_best
unfolding plan_score
won_went m posed k leg number worker0 worker1 best0 best1 back candidate score is_best means is at wins went leads scored better score_is back_is wins_are few fits =
    let w = winner_plays posed k leg number worker0 best0 candidate is at wins in
    let s = state_of leg in
    let after : State = with_plan s (applied s.plan w.sets) in
    let worker : worker1 ≡ worker_on posed after = went ∙ (λ i. played (at.stands i) (w.candidate i)) in
    let scored_at : score ≡ state_score posed after = scored ∙ (λ i. score_seen (means i) (worker i).director) in
    let state : state_of (gone_on posed k leg) ≡ after = state_next posed k leg ∙ ap (λ step. step.after) w.next in
    let better_is : is_best ≡ is_better_plan (state_score posed after) (state_score posed (best_in posed leg)) =
    better ∙ (λ i. is_better_plan (scored_at i) (at.score i)) in
    let best : best_in posed (gone_on posed k leg) ≡ cond is_best after (best_in posed leg) =
    best_next posed k leg ∙ ap (λ step. better_of (state_score posed) (best_in posed leg) step.after) w.next
    ∙ ap (λ c. cond c after (best_in posed leg)) (sym better_is) in
    let score_at : best1.score ≡ cond is_best (state_score posed after) best0.score =
    score_is ∙ ap (λ z. cond is_best z best0.score) scored_at in
    let before : worker0.director.plan ≡ s.plan = ap (λ (w : WorkerView). w.director.plan) at.stands in
    let back_to : LeadsTo s.plan after.plan back =
    subst (λ p. LeadsTo p after.plan back) before
    (subst (λ (w : WorkerView). LeadsTo worker0.director.plan w.director.plan back) worker leads) in
    record {
      at = keeps_best posed k leg s after worker1 best0 best1 back is_best state best worker better_is at.score at.back back_to
          (score_at, back_is)
          (wins_won leg.steps (step_in posed k leg) number k best0.wins best1.wins (ap (λ step. step.winner) w.next) few fits at.wins wins_are);
      tells = better_is
          ∙ ap (is_better_plan (state_score posed after)) (sym (best_score-is (game posed) leg))
          ∙ ap (λ step. step.is_best) (sym w.next);
    }

-- what follows from what holds where a call succeeds, and from three facts of its value, follows where it does
pub if_ok_four : {A E : Type 0} (P Q R S : A → Type 0) (W : Type 0) (result : Result A E) → IfOk result P → IfOk result Q → IfOk result R → OnOk result W
    → ((value : A) → P value → Q value → R value → W → S value) → IfOk result S
if_ok_four P Q R S W (Ok value) p q r w all = all value p q r w
if_ok_four P Q R S W (Err fault) p q r w all = p
