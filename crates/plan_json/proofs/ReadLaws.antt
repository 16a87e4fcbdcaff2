-- A problem is read item by item.
use Rattle.std.proofs.Common.{◌≡◌, ◌∙◌, ◌⊎◌, ◌<◌, ◌≤◌, ℕ, zero, suc, cond, List, [], ◌∷◌, Option, Some, None, Result, Ok, Err, IfOk, IfErr, OnOk, IsSomeAnd, All, map, length, get_or, slice_get, inl, inr, refl, sym, ap, subst, arith}
use Rattle.std.specs.Prelude.{position, codes}
use Rattle.std.specs.Option.{option_or, option_and_then}
use Rattle.std.specs.Str.{bytes_eq}
use Rattle.std.proofs.lemmas.Bool.{le-ltb, lt-ltb}
use Rattle.std.proofs.lemmas.Option.{slice_get-get_or}
use Rattle.std.proofs.lemmas.List.Quantifiers.{position-Some}
use Rattle.std.proofs.lemmas.List.{length-map}
use Rattle.std.proofs.lemmas.List.Elements.{All-weaker}
use Rattle.plan_facts.specs.Limits.{weight_limit}
use Rattle.plan_facts.specs.declared.record.ClassDef.{ClassDef}
use Rattle.plan_rules.specs.declared.rule.Harder.{Harder}
use Rattle.plan_rules.specs.declared.places.Numbers.{Numbers}
use Rattle.plan_rules.specs.declared.rule.RuleDef.{RuleDef}
use Rattle.plan_rules.specs.Faults.{rules_fault}
use Rattle.plan_rules.specs.Sound.{IsSound}
use Rattle.plan_rules.proofs.Accepted.{sound_rules}
use Rattle.serde_json.specs.Data.{Data}
use Rattle.serde_json.specs.Find.{get, as_str}
use Rattle.json_values.specs.Values.{value_of}
use Rattle.plan_facts.specs.Plan.{PlanView}
use Rattle.plan_facts.specs.PlanFaults.{plan_of}
use Rattle.plan_facts.specs.Refusal.{IsRefusal}
use Rattle.problem_faults.specs.Refusals.{RefusesFor}
use Rattle.problem_faults.specs.declared.fault.ProblemFault.{ProblemFault}
use Rattle.problem_faults.specs.declared.fault.ProblemFault.TheVariants.{Memory, TooLong}
use Rattle.problem_settings.specs.Root.{format_of, root_fault}
use Rattle.problem_settings.specs.declared.root.Format.{Format}
use Rattle.problem_settings.specs.SettingsOf.{settings_fault_of}
use Rattle.problem_settings.specs.Weights.{weights_fault, weights_of}
use Rattle.problem_records.specs.Facts.{raws_of}
use Rattle.problem_records.specs.RecordFaults.{records_fault}
use Rattle.plan_json.specs.Limits.{limits_fault}
use Rattle.plan_json.specs.declared.problem.Problem.{Problem}
use Rattle.plan_json.specs.Accepted.{problem_view, Reads}
use Rattle.plan_json.specs.Domains.{DomainView}
use Rattle.plan_json.specs.Problem.{ProblemView, settings_fault_in, weights_fault_in, records_fault_in, weights_in, plan_in, content_fault, facts_of, place_of_domain, problem_at, problem_in, problem_of, problem_of_root, problem_of_value, problem_under, unless_fault}

-- where settings, weights and records have no fault, the limits decide
pub content_limits : (domain : DomainView) (root : Data) (ws : List ℕ) (plan : PlanView)
    → settings_fault_in root ≡ None → weights_fault_in domain root ≡ None → records_fault_in domain root ≡ None
    → ws ≡ weights_in domain root → plan ≡ plan_in domain root
    → content_fault domain root ≡ limits_fault domain ws plan
content_limits domain root ws plan sn wn rn ws_are plan_is =
    let limits = limits_fault domain (weights_in domain root) (plan_in domain root) in
    ap (λ f. option_or f (option_or (weights_fault_in domain root) (option_or (records_fault_in domain root) limits))) sn
    ∙ ap (λ f. option_or f (option_or (records_fault_in domain root) limits)) wn
    ∙ ap (λ f. option_or f limits) rn
    ∙ ap (λ zs. limits_fault domain zs (plan_in domain root)) (sym ws_are)
    ∙ ap (limits_fault domain ws) (sym plan_is)

-- what was read of the parts of a root decides as the root does
pub content_read : (domain : DomainView) (root facts : Data) (format : Format) (settings weights : Option Data) (rules : List RuleDef) (ws : List ℕ) (plan : PlanView)
    → format ≡ format_of root → settings ≡ get (codes "settings") root → weights ≡ get (codes "weights") root → facts ≡ facts_of root → rules ≡ domain.rules
    → settings_fault_of format settings ≡ None → weights_fault rules weights ≡ None → records_fault domain.classes facts ≡ None
    → ws ≡ weights_of rules weights → plan ≡ plan_of domain.classes (raws_of domain.classes facts)
    → content_fault domain root ≡ limits_fault domain ws plan
content_read domain root facts format settings weights rules ws plan f_is s_is w_is facts_are rules_are sn wn rn ws_are plan_is =
    content_limits domain root ws plan
    ((λ i. settings_fault_of (sym f_is i) (sym s_is i)) ∙ sn)
    ((λ i. weights_fault (sym rules_are i) (sym w_is i)) ∙ wn)
    (ap (records_fault domain.classes) (sym facts_are) ∙ rn)
    (ws_are ∙ (λ i. weights_of (rules_are i) (w_is i)))
    (plan_is ∙ ap (λ f. plan_of domain.classes (raws_of domain.classes f)) facts_are)

-- the refusal of an equal fault
pub refused_as : (found other : Option ProblemFault) (fault : ProblemFault) → found ≡ other → IsRefusal Memory other fault → IsRefusal Memory found fault
refused_as found other fault same h = subst (λ f. IsRefusal Memory f fault) (sym same) h

map-map : {X Y Z : Type 0} (g : Y → Z) (f : X → Y) (xs : List X) → map g (map f xs) ≡ map (λ x. g (f x)) xs
map-map g f [] = refl
map-map g f (x ∷ xs) = ap (λ zs. g (f x) ∷ zs) (map-map g f xs)

-- the place of the domain that the root names
pub place_found : {X : Type 0} (f : X → DomainView) (xs : List X) (root m : Data) (name bytes : List ℕ) (r : Option ℕ)
    → get (codes "domain") root ≡ Some m → as_str m ≡ Some name → bytes ≡ name → r ≡ position (bytes_eq bytes) (map (λ x. (f x).name) xs) → r ≡ place_of_domain (map f xs) root
place_found f xs root m name bytes r has text same is =
    is ∙ ap (λ b. position (bytes_eq b) (map (λ x. (f x).name) xs)) same
    ∙ ap (position (bytes_eq name)) (sym (map-map (λ (d : DomainView). d.name) f xs))
    ∙ sym (ap (λ (o : Option Data). option_and_then (λ n. position (bytes_eq n) (map (λ (d : DomainView). d.name) (map f xs))) (option_and_then as_str o)) has
    ∙ ap (λ (o : Option (List ℕ)). option_and_then (λ n. position (bytes_eq n) (map (λ (d : DomainView). d.name) (map f xs))) o) text)

-- the place is that of a domain
pub place_within : {X : Type 0} (f : X → DomainView) (xs : List X) (root : Data) (place : ℕ) → Some place ≡ place_of_domain (map f xs) root → place < length xs
place_within f xs root place is = named (option_and_then as_str (get (codes "domain") root)) is
  where
    named : (name : Option (List ℕ)) → Some place ≡ option_and_then (λ n. position (bytes_eq n) (map (λ (d : DomainView). d.name) (map f xs))) name → place < length xs
    named None h = cc
    named (Some n) h =
        let p = position-Some (bytes_eq n) (map (λ (d : DomainView). d.name) (map f xs)) place [] (sym h) in
        omega (arith, p.0, length-map (map f xs) (λ (d : DomainView). d.name), length-map xs f)

slice_get-map : {X Y : Type 0} (f : X → Y) (xs : List X) (k : ℕ) (x : X) → slice_get xs k ≡ Some x → slice_get (map f xs) k ≡ Some (f x)
slice_get-map f [] k x h = cc
slice_get-map f (y ∷ ys) zero x h = let e : y ≡ x = cc in ap (λ z. Some (f z)) e
slice_get-map f (y ∷ ys) (suc k) x h = slice_get-map f ys k x h

-- a root without a fault, of a domain that is there, is what its content is
pub problem_of_root-content : {X : Type 0} (f : X → DomainView) (xs : List X) (root : Data) (place : ℕ) (x : X)
    → root_fault root ≡ None → Some place ≡ place_of_domain (map f xs) root → x ≡ get_or xs place x
    → problem_of_root (map f xs) root ≡ unless_fault (content_fault (f x) root) (problem_in place (f x) root)
problem_of_root-content f xs root place x sound at is =
    let within = place_within f xs root place at in
    let here : slice_get xs place ≡ Some x = slice_get-get_or xs place x within ∙ ap (λ y. Some y) (sym is) in
    ap (λ (o : Option ProblemFault). elim o [ Some fault ↦ Err fault | None ↦ problem_at (map f xs) root (place_of_domain (map f xs) root) ]) sound
    ∙ ap (problem_at (map f xs) root) (sym at)
    ∙ ap (problem_under root place) (slice_get-map f xs place x here)

-- the problem that a root is, from what its content was read as
pub root_reads : (domains : List DomainView) (root : Data) (place : ℕ) (domain : DomainView) (r : Result Problem ProblemFault)
    → problem_of_root domains root ≡ unless_fault (content_fault domain root) (problem_in place domain root)
    → RefusesFor (content_fault domain root) r → IfOk r (λ p. problem_view p ≡ problem_in place domain root)
    → Reads (problem_of_root domains root) r
root_reads domains root place domain (Ok p) is none view = is ∙ ap (λ f. unless_fault f (problem_in place domain root)) none ∙ ap (λ v. Ok v) (sym view)
root_reads domains root place domain (Err fault) is refused view =
    elim refused [ inl m ↦ inl m | inr found ↦ inr (is ∙ ap (λ f. unless_fault f (problem_in place domain root)) found) ]

-- the domain of a problem that was read
pub root_accepted : {X : Type 0} (P : X → Problem → Type 0) (xs : List X) (root : Data) (place : ℕ) (x : X) (domain : DomainView) (r : Result Problem ProblemFault)
    → place < length xs → x ≡ get_or xs place x → IfOk r (λ p. problem_view p ≡ problem_in place domain root) → IfOk r (P x) → IfOk r (λ p. IsSomeAnd (slice_get xs p.domain) (λ d. P d p))
root_accepted P xs root place x domain (Ok p) within is view h =
    let at : p.domain ≡ place = ap (λ (v : ProblemView). v.domain) view in
    let here : slice_get xs p.domain ≡ Some x = ap (slice_get xs) at ∙ slice_get-get_or xs place x within ∙ ap (λ y. Some y) (sym is) in
    subst (λ o. IsSomeAnd o (λ d. P d p)) (sym here) h
root_accepted P xs root place x domain (Err fault) within is view h = view

-- bytes that aren't too many are what their value is
pub problem_of-value : (domains : List DomainView) (bytes : List ℕ) (value : Option Data) → length bytes ≤ 67108864 → value_of bytes ≡ value → problem_of domains bytes ≡ problem_of_value domains value
unfolding problem_of
problem_of-value domains bytes value few is =
    ap (λ b. cond b (Err TooLong) (problem_of_value domains (value_of bytes))) (le-ltb 67108864 (length bytes) few) ∙ ap (problem_of_value domains) is

pub problem_of-long : (domains : List DomainView) (bytes : List ℕ) → 67108864 < length bytes → problem_of domains bytes ≡ Err TooLong
unfolding problem_of
problem_of-long domains bytes many = ap (λ b. cond b (Err TooLong) (problem_of_value domains (value_of bytes))) (lt-ltb 67108864 (length bytes) many)

-- bytes are read as their root is
pub bytes_read : (domains : List DomainView) (bytes : List ℕ) (root : Data) (r : Result Problem ProblemFault) → length bytes ≤ 67108864 → value_of bytes ≡ Some root
    → Reads (problem_of_root domains root) r → Reads (problem_of domains bytes) r
bytes_read domains bytes root (Ok p) few is h = problem_of-value domains bytes (Some root) few is ∙ h
bytes_read domains bytes root (Err fault) few is h = elim h [ inl m ↦ inl m | inr found ↦ inr (problem_of-value domains bytes (Some root) few is ∙ found) ]

-- the weights are at most the greatest one where the rules' own are
pub few_weights : (rules : List RuleDef) (classes : List ClassDef) (numbers : Numbers) (harders : List Harder) (slice : List RuleDef) (weights : List ℕ)
    → rules_fault classes numbers rules harders ≡ None → slice ≡ rules
    → (All (λ (rule : RuleDef). rule.weight ≤ weight_limit) slice → All (λ weight. weight ≤ weight_limit) weights) → All (λ weight. weight ≤ weight_limit) weights
few_weights rules classes numbers harders slice weights accepted same h =
    h (subst (λ rs. All (λ (rule : RuleDef). rule.weight ≤ weight_limit) rs) (sym same)
    (All-weaker (IsSound (length classes) numbers) (λ (rule : RuleDef). rule.weight ≤ weight_limit) (λ rule sound. sound.weight) rules (sound_rules classes numbers rules harders accepted)))
