-- Texts that grow line by line, and lists of lines that grow class by class and rule by rule.
use Rattle.std.proofs.Common.{◌≡◌, ◌∙◌, ◌<◌, ◌+◌, ℕ, Option, List, [], ◌∷◌, ◌++◌, length, get_or, map, take, refl, sym, ap, arith, All}
use Rattle.std.specs.Option.{option_map_or}
use Rattle.std.specs.List.{filter, flat_map, enumerate_from, range_with_len}
use Rattle.std.proofs.lemmas.List.{append-nil, append_assoc, get_or-map, map-append, map_more}
use Rattle.std.proofs.lemmas.List.Elements.{All-filter, All-head, All-tail}
use Rattle.std.proofs.lemmas.Grind.{flat_map-append}
use Rattle.plan_facts.specs.declared.record.ClassDef.{ClassDef}
use Rattle.plan_facts.specs.declared.record.Raw.{Raw}
use Rattle.plan_facts.specs.Plan.{PlanView, IsPlan, class_of}
use Rattle.plan_facts.proofs.Places.{record_at}
use Rattle.plan_facts.proofs.Sound.{class_at}
use Rattle.plan_moves.specs.Entities.{entities_of, entity_classes, is_entity_class, touch_of}
use Rattle.plan_rules.specs.declared.rule.RuleDef.{RuleDef}
use Rattle.plan_rules.specs.declared.row.Match.{Match}
use Rattle.plan_reports.specs.declared.line.Line.{Line}
use Rattle.plan_reports.specs.declared.line.Line.TheVariants as line
use Rattle.plan_reports.specs.Lines.{line_text, lines_text}
use Rattle.plan_search.specs.RunLines.{entity_line, entity_lines, matches_lines, match_line, record_line, rule_line, rule_lines, sums_lines}
use Rattle.plan_search.proofs.Awaiting.{range_below}
use Rattle.construction.proofs.TodoLaws.{enumerate-push, flat_map-same}

-- the text of some lines is there, and that of more lines is written
pub written_more : (classes : List ClassDef) (rules : List RuleDef) (front more all : List Line) (old now new : List ℕ) → all ≡ front ++ more
    → now ≡ old ++ lines_text classes rules front → new ≡ now ++ lines_text classes rules more → new ≡ old ++ lines_text classes rules all
written_more classes rules front more all old now new whole was wrote =
    wrote ∙ ap (λ zs. zs ++ lines_text classes rules more) was
    ∙ append_assoc old (lines_text classes rules front) (lines_text classes rules more)
    ∙ ap (λ zs. old ++ zs) (sym (flat_map-append (line_text classes rules) front more))
    ∙ ap (λ zs. old ++ lines_text classes rules zs) (sym whole)

-- the lines of the first members are written, and that of the next one
pub written_next : {X : Type 0} (classes : List ClassDef) (rules : List RuleDef) (f : X → Line) (xs : List X) (k : ℕ) (d : X) (old now new : List ℕ) → k < length xs
    → now ≡ old ++ lines_text classes rules (map f (take k xs)) → new ≡ now ++ lines_text classes rules (f (get_or xs k d) ∷ []) → new ≡ old ++ lines_text classes rules (map f (take (k + 1) xs))
written_next classes rules f xs k d old now new within was wrote =
    written_more classes rules (map f (take k xs)) (f (get_or xs k d) ∷ []) (map f (take (k + 1) xs)) old now new (map_more f xs k d within) was wrote

-- the lines of one rule more, alone
pub sums-push : (matches : List (List Match)) (k : ℕ) (d : List Match) → k < length matches → sums_lines (take (k + 1) matches) ≡ sums_lines (take k matches) ++ rule_line k (get_or matches k d) ∷ []
sums-push matches k d within =
    ap (map (λ (pair : ℕ × List Match). rule_line pair.0 pair.1)) (enumerate-push matches k d within)
    ∙ map-append (λ (pair : ℕ × List Match). rule_line pair.0 pair.1) (enumerate_from 0 (take k matches)) ((k, get_or matches k d) ∷ [])

-- the lines of one rule more, with its matches
pub matches-push : (matches : List (List Match)) (k : ℕ) (d : List Match) → k < length matches
    → matches_lines (take (k + 1) matches) ≡ (matches_lines (take k matches) ++ rule_line k (get_or matches k d) ∷ []) ++ map match_line (get_or matches k d)
matches-push matches k d within =
    let of_rule : ℕ × List Match → List Line = λ pair. rule_lines pair.0 pair.1 in
    ap (flat_map of_rule) (enumerate-push matches k d within)
    ∙ flat_map-append of_rule (enumerate_from 0 (take k matches)) ((k, get_or matches k d) ∷ [])
    ∙ ap (λ zs. matches_lines (take k matches) ++ zs) (append-nil (of_rule (k, get_or matches k d)))
    ∙ sym (append_assoc (matches_lines (take k matches)) (rule_line k (get_or matches k d) ∷ []) (map match_line (get_or matches k d)))

-- the lines of the entities of a class
abbrev pub lines_in : PlanView → ℕ → List Line
lines_in plan class = map (record_line class) (class_of plan class).facts

map-flat_map : {A B C : Type 0} (g : B → C) (f : A → List B) (xs : List A) → map g (flat_map f xs) ≡ flat_map (λ x. map g (f x)) xs
map-flat_map g f [] = refl
map-flat_map g f (x ∷ xs) = map-append g (f x) (flat_map f xs) ∙ ap (λ zs. map g (f x) ++ zs) (map-flat_map g f xs)

-- what is made of a list in two steps is made in one, where that is the same of each member
map-map_same : {A B C : Type 0} (g : B → C) (f : A → B) (h : A → C) (xs : List A) → All (λ x. g (f x) ≡ h x) xs → map g (map f xs) ≡ map h xs
map-map_same g f h [] same = refl
map-map_same g f h (x ∷ xs) same =
    let P : _ → Type 0 = λ x. g (f x) ≡ h x in
    let here = All-head P x xs same in
    let rest = map-map_same g f h xs (All-tail P x xs same) in
    λ i. here i ∷ rest i

-- the line of an entity of a class is seen from its record
lines_in-is : (plan : PlanView) (class : ℕ) → IsPlan plan → class < length plan.classes
    → map (entity_line plan) (map (touch_of class) (class_of plan class).facts) ≡ lines_in plan class
lines_in-is plan class sound within =
    let facts = (class_of plan class).facts in
    let up = (class_at plan class sound within).increasing in
    map-map_same (entity_line plan) (touch_of class) (record_line class) facts
    (λ k d h.
    let raw = get_or facts k d in
    let id = get_or-map (λ (raw : Raw). raw.id) facts k d 0 h in
    ap (λ (found : Option Raw). line.Entity class raw.id (option_map_or (λ (r : Raw). r.values) found [])) (record_at facts k raw.id d up h id))

-- the lines of all entities, class by class
pub entity_lines-by_class : (plan : PlanView) → IsPlan plan → flat_map (lines_in plan) (entity_classes plan) ≡ entity_lines plan
unfolding entities_of entity_classes
entity_lines-by_class plan sound =
    let n = length plan.classes in
    let classes = filter (is_entity_class plan) (range_with_len 0 n) in
    sym (map-flat_map (entity_line plan) (λ class. map (touch_of class) (class_of plan class).facts) classes
    ∙ flat_map-same (λ class. map (entity_line plan) (map (touch_of class) (class_of plan class).facts)) (lines_in plan) classes
    (λ k d h. lines_in-is plan _ sound (All-filter (is_entity_class plan) (λ class. class < n) (range_with_len 0 n) (range_below n 0 n (omega arith)) k d h)))

-- what a slice holds at a place is what the list it was lent from holds there
pub lent_at : (matches slice : List (List Match)) (k : ℕ) (item of_rule : List Match) → slice ≡ matches → item ≡ get_or slice k item → of_rule ≡ item → of_rule ≡ get_or matches k item
lent_at matches slice k item of_rule same read lent = lent ∙ read ∙ ap (λ (xs : List (List Match)). get_or xs k item) same
