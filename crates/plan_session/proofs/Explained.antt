-- The lines that explain a plan, fact by fact and class by class.
use Rattle.std.proofs.Common.{◌≡◌, ◌∙◌, ◌+◌, ◌<◌, ◌==◌, ◌||◌, not, ℕ, suc, Bool, true, false, cond, List, [], ◌∷◌, ◌++◌, filter, length, map, get_or, take, refl, sym, ap, subst, arith}
use Rattle.std.specs.List.{flat_map, list_any, range_with_len}
use Rattle.std.proofs.lemmas.Bool.Decides.{nat_tests}
use Rattle.std.proofs.lemmas.List.{append-nil, map-append, map-id, map_more}
use Rattle.std.proofs.lemmas.List.Elements.{filter-append}
use Rattle.std.proofs.lemmas.List.FromFn.{map-range_with_len_more}
use Rattle.std.proofs.lemmas.Grind.{flat_map-append}
use Rattle.plan_scores.specs.declared.plan_score.PlanScore.{PlanScore}
use Rattle.plan_facts.specs.declared.record.ClassDef.{ClassDef}
use Rattle.plan_facts.specs.declared.record.Raw.{Raw}
use Rattle.plan_facts.specs.Plan.{PlanView, records_of}
use Rattle.plan_rules.specs.declared.row.Match.{Match}
use Rattle.plan_rules.specs.declared.rule.RuleDef.{RuleDef}
use Rattle.plan_rules.specs.Totals.{all_matches, whole_score}
use Rattle.plan_reports.specs.declared.line.Line.{Line}
use Rattle.plan_reports.specs.declared.line.Line.TheVariants as line
use Rattle.plan_reports.specs.Lines.{lines_text}
use Rattle.plan_search.specs.Posed.{Posed, plan_score, state_score}
use Rattle.plan_search.specs.RunLines.{matches_in, matches_lines}
use Rattle.indictments.specs.Indicts.{Named, all_of, facts_in, is_indicted, is_part, matches_with, named}
use Rattle.indictments.specs.Tallies.{AreTallies, Entries, tally_in}
use Rattle.plan_session.specs.Explained.{explain_lines, explain_text, indict_line, indict_lines, tally_lines}
use Rattle.plan_session.proofs.Grown.{written_more}

-- a number after another one isn't 0
is_some_count : (n : ℕ) → not (suc n == 0) ≡ true
is_some_count n = grind (arith, nat_tests)

-- some member passes a test where those that pass are not none
any_is : {X : Type 0} (p : X → Bool) (xs : List X) → list_any p xs ≡ not (length (filter p xs) == 0)
any_is p [] = refl
any_is p (x ∷ xs) = here (p x) (any_is p xs)
  where
    here : (b : Bool) → list_any p xs ≡ not (length (filter p xs) == 0) → (b || list_any p xs) ≡ not (length (cond b (x ∷ filter p xs) (filter p xs)) == 0)
    here true rest = sym (is_some_count (length (filter p xs)))
    here false rest = rest

-- the lines of those of some facts that are parts of matches
abbrev pub lines_among : List Match → List Named → List Line
lines_among matches facts = map (indict_line matches) (filter (is_indicted matches) facts)

pub lines_among-append : (matches : List Match) (some more : List Named) → lines_among matches (some ++ more) ≡ lines_among matches some ++ lines_among matches more
lines_among-append matches some more =
    ap (map (indict_line matches)) (filter-append (is_indicted matches) some more)
    ∙ map-append (indict_line matches) (filter (is_indicted matches) some) (filter (is_indicted matches) more)

chosen_line : {X : Type 0} (f : X → Line) (x : X) (none : Bool) → map f (cond (not none) (x ∷ []) []) ≡ cond none [] (f x ∷ [])
chosen_line f x true = refl
chosen_line f x false = refl

-- the line of a fact, if there is one, is seen from its tally
pub line_by_tally : (matches : List Match) (entries : Entries) (class id : ℕ) → AreTallies entries matches
    → lines_among matches (record { class = class; id = id } ∷ []) ≡ tally_lines class id (tally_in entries class id)
line_by_tally matches entries class id are =
    let fact : Named = record { class = class; id = id } in
    ap (λ b. map (indict_line matches) (cond b (fact ∷ []) [])) (any_is (is_part class id) matches)
    ∙ chosen_line (indict_line matches) fact (length (matches_with class id matches) == 0)
    ∙ sym (ap (tally_lines class id) (are class id))

-- the lines of a fact are written, as those of its matches
pub fact_written : (classes : List ClassDef) (rules : List RuleDef) (matches : List Match) (entries : Entries) (class : ℕ) (raw : Raw) (old new : List ℕ) → AreTallies entries matches
    → new ≡ old ++ lines_text classes rules (tally_lines class raw.id (tally_in entries class raw.id))
    → new ≡ old ++ lines_text classes rules (lines_among matches (named class raw ∷ []))
fact_written classes rules matches entries class raw old new are wrote =
    wrote ∙ ap (λ zs. old ++ lines_text classes rules zs) (sym (line_by_tally matches entries class raw.id are))

-- the lines of one more record of a class
pub class_more : (matches : List Match) (class : ℕ) (facts : List Raw) (k : ℕ) (raw : Raw) → k < length facts → raw ≡ get_or facts k raw
    → lines_among matches (map (named class) (take (k + 1) facts)) ≡ lines_among matches (map (named class) (take k facts)) ++ lines_among matches (named class raw ∷ [])
class_more matches class facts k raw within is =
    ap (lines_among matches) (map_more (named class) facts k raw within ∙ ap (λ (r : Raw). map (named class) (take k facts) ++ named class r ∷ []) (sym is))
    ∙ lines_among-append matches (map (named class) (take k facts)) (named class raw ∷ [])

-- the facts of the first classes
abbrev pub facts_below : PlanView → ℕ → List Named
facts_below plan k = flat_map (facts_in plan) (range_with_len 0 k)

range_more : (k : ℕ) → range_with_len 0 (k + 1) ≡ range_with_len 0 k ++ k ∷ []
range_more k =
    sym (map-id (range_with_len 0 (k + 1))) ∙ map-range_with_len_more (λ n. n) 0 k k (omega arith) ∙ ap (λ ns. ns ++ k ∷ []) (map-id (range_with_len 0 k))

-- the lines of one more class
pub facts_more : (matches : List Match) (plan : PlanView) (k : ℕ)
    → lines_among matches (facts_below plan (k + 1)) ≡ lines_among matches (facts_below plan k) ++ lines_among matches (facts_in plan k)
facts_more matches plan k =
    ap (λ ns. lines_among matches (flat_map (facts_in plan) ns)) (range_more k)
    ∙ ap (lines_among matches) (flat_map-append (facts_in plan) (range_with_len 0 k) (k ∷ []) ∙ ap (λ zs. facts_below plan k ++ zs) (append-nil (facts_in plan k)))
    ∙ lines_among-append matches (facts_below plan k) (facts_in plan k)

-- the score, each rule with its matches, and each fact are written, as judged under these weights
pub explained_is : (posed : Posed) (rules : List RuleDef) (weights : List ℕ) (score : PlanScore) (matches : List (List Match)) (empty all : List ℕ) → empty ≡ []
    → all ≡ empty ++ lines_text posed.classes rules (explain_lines score posed.origin.plan matches)
    → rules ≡ posed.rules → weights ≡ posed.origin.weights
    → score ≡ whole_score posed.meaning posed.rules weights posed.origin.plan
    → matches ≡ all_matches posed.meaning (records_of posed.origin.plan) posed.rules weights
    → all ≡ explain_text posed
unfolding explain_text plan_score
explained_is posed rules weights score matches empty all none wrote rules_are weights_are score_is matches_are =
    let score_at : score ≡ state_score posed posed.origin = score_is ∙ (λ i. whole_score posed.meaning posed.rules (weights_are i) posed.origin.plan) in
    let matches_at : matches ≡ matches_in posed posed.origin = matches_are ∙ ap (all_matches posed.meaning (records_of posed.origin.plan) posed.rules) weights_are in
    wrote ∙ (λ i. none i ++ lines_text posed.classes (rules_are i) (explain_lines (score_at i) posed.origin.plan (matches_at i)))

-- the score, each rule with its matches, and each fact are written one after the other
pub explained_lines : (classes : List ClassDef) (rules : List RuleDef) (score : PlanScore) (plan : PlanView) (matches slice : List (List Match)) (entries : Entries) (old one two three all : List ℕ)
    → slice ≡ matches → AreTallies entries (all_of slice)
    → one ≡ old ++ lines_text classes rules (line.Total score ∷ [])
    → two ≡ one ++ lines_text classes rules (matches_lines matches)
    → ((ms : List Match) → AreTallies entries ms → three ≡ two ++ lines_text classes rules (indict_lines ms plan))
    → all ≡ three ++ lines_text classes rules (line.End ∷ [])
    → all ≡ old ++ lines_text classes rules (explain_lines score plan matches)
explained_lines classes rules score plan matches slice entries old one two three all same are wrote_one wrote_two wrote_three wrote_end =
    let P : List (List Match) → Type 0 = λ ms. AreTallies entries (all_of ms) in
    let here = subst P same are in
    let head : List Line = line.Total score ∷ [] in
    let facts = indict_lines (all_of matches) plan in
    let second : two ≡ old ++ lines_text classes rules (head ++ matches_lines matches) =
    written_more classes rules head (matches_lines matches) (head ++ matches_lines matches) old one two refl wrote_one wrote_two in
    let third : three ≡ old ++ lines_text classes rules ((head ++ matches_lines matches) ++ facts) =
    written_more classes rules (head ++ matches_lines matches) facts ((head ++ matches_lines matches) ++ facts) old two three refl second (wrote_three (all_of matches) here) in
    written_more classes rules ((head ++ matches_lines matches) ++ facts) (line.End ∷ []) (explain_lines score plan matches) old three all refl third wrote_end
