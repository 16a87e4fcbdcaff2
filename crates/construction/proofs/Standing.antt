-- A director that placing stands on: what it judges, and how it stands after an edit was played.
use Rattle.std.proofs.Common.{◌≡◌, ◌∙◌, Bool, true, false, cond, Option, Some, None, List, refl, sym, ap, subst}
use Rattle.std.specs.Prelude.{option_map}
use Rattle.plan_facts.specs.Plan.{IsPlan}
use Rattle.plan_moves.specs.declared.edit.Set.{Set}
use Rattle.plan_moves.specs.Edits.{applied, is_doable, is_legal}
use Rattle.plan_rules.specs.Meaning.{Meaning}
use Rattle.plan_rules.specs.Range.{sizes_of}
use Rattle.plan_moves.specs.declared.edit.Touch.{Touch}
use Rattle.plan_search.specs.Placing.{best_edit}
use Rattle.plan_search.proofs.RestLaws.{idle_edits_leave_the_plan}
use Rattle.score_director.proofs.Worth.{sizes_of-applied}
use Rattle.score_director.specs.View.{DirectorView, at_rest, judged, score_seen}
use Rattle.construction.specs.declared.best.Best.{Best}
use Rattle.construction.specs.Standing.{played, score_under}

-- an edit that isn't doable leaves the plan as much worth as it is
pub judged_idle : (m : Meaning) (seen : DirectorView) (sets : List Set) → IsPlan seen.plan → is_legal seen.plan sets ≡ true → None ≡ judged m seen sets
    → score_seen m seen ≡ score_under m seen (applied seen.plan sets)
judged_idle m seen sets sound legal is =
    ap (score_under m seen) (sym (idle_edits_leave_the_plan seen.plan sets sound legal (idle (is_doable seen.plan sets) is)))
  where
    idle : (doable : Bool) → None ≡ cond doable (Some (score_under m seen (applied seen.plan sets))) None → doable ≡ false
    idle true h = cc
    idle false h = refl

-- it stays so when an edit is played
pub rests_then : (old now next : DirectorView) (sets : List Set) → now ≡ at_rest old.rules old.weights now.plan → next ≡ played now sets
    → next ≡ at_rest old.rules old.weights next.plan
rests_then old now next sets rest is =
    is ∙ (λ i. at_rest (rest i).rules (rest i).weights (applied now.plan sets))
    ∙ ap (at_rest old.rules old.weights) (sym (ap (λ (d : DirectorView). d.plan) is))

-- plans are worth the same under both
pub score_still : (m : Meaning) (old now : DirectorView) → now ≡ at_rest old.rules old.weights now.plan → score_under m now ≡ score_under m old
score_still m old now rest = ap (score_under m) rest

-- the best edit that was found is the best one by what plans were worth at first
pub best_as_first : (m : Meaning) (old now : DirectorView) (entity : Touch) (found : Option Best) (best : Best) → now ≡ at_rest old.rules old.weights now.plan
    → found ≡ Some best → option_map (λ b. b.edit) found ≡ best_edit (score_under m now) now.plan entity
    → best_edit (score_under m old) now.plan entity ≡ Some best.edit
best_as_first m old now entity found best rest is edit =
    subst (λ score. best_edit score now.plan entity ≡ Some best.edit) (score_still m old now rest)
    (sym (sym (ap (option_map (λ (b : Best). b.edit)) is) ∙ edit))

-- the plan after an edit was played
pub plan_then : (here mid next : DirectorView) (sets : List Set) → mid ≡ here → next ≡ played mid sets → next.plan ≡ applied here.plan sets
plan_then here mid next sets same is =
    ap (λ (d : DirectorView). d.plan) is ∙ ap (λ (d : DirectorView). applied d.plan sets) same

-- an edit that is played changes no class's count of facts
pub sizes_then : (old here mid next : DirectorView) (sets : List Set) → sizes_of here.plan ≡ sizes_of old.plan → mid ≡ here → next ≡ played mid sets
    → sizes_of next.plan ≡ sizes_of old.plan
sizes_then old here mid next sets sizes same is =
    ap sizes_of (plan_then here mid next sets same is) ∙ sizes_of-applied here.plan sets ∙ sizes
