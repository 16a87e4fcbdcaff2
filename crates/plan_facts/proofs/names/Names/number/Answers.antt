use Rattle.std.proofs.Common.{◌≡◌, ◌∙◌, ◌≤◌, ◌++◌, ◌∷◌, [], ℕ, Vec, Global, None, map, length, slice_get, ap, sym, arith, rules}
use Rattle.std.proofs.lemmas.List.{length-map, length_push}
use Rattle.plan_facts.specs.Names.{place_of, with_name}
use Rattle.plan_facts.proofs.NamesLaws.{numbered, with_name-there, with_name-new, number_of-new, slice_get-last, with_name-keys}
use Rattle.plan_facts.proofs.names.Names.number.Goals as goal

pub returns-in-Some-clause-ok : goal.returns-in-Some-clause-ok
returns-in-Some-clause-ok c = sym (with_name-there c.args.self.now c.args.text.now c.in-Some.number (sym c.in-Some.ensures.place))

-- the texts with the new one
grown : (c : goal.In_ok-insert) → map (λ t. t.items) c.insert.new.self.keys ≡ with_name c.args.self.now c.args.text.now
grown c =
    let same : c.in_ok-from_slice.field-0.items ≡ c.args.text.now = search rules in
    ap (map (λ (t : Vec ℕ Global). t.items)) c.in_ok-insert.ensures.keys
    ∙ with_name-keys c.self.inside.texts.keys c.in_ok-from_slice.field-0
    ∙ (λ i. with_name (c.self.view_is i) (same i))

-- the text wasn't there
new : (c : goal.In_ok-insert) → place_of c.args.self.now c.args.text.now ≡ None
new c = search rules

appended : (c : goal.In_ok-insert) → map (λ t. t.items) c.insert.new.self.keys ≡ c.args.self.now ++ c.args.text.now ∷ []
appended c = grown c ∙ with_name-new c.args.self.now c.args.text.now (new c)

pub invariant_of-self-2 : goal.invariant_of-self-2
invariant_of-self-2 c =
    let more = ap length (appended c) in
    let short : length c.insert.new.self.keys ≤ 1000000000 =
    omega (arith, more, length-map c.insert.new.self.keys (λ (t : Vec ℕ Global). t.items), length_push c.args.self.now c.args.text.now)
    in
    numbered c.insert.new.self.keys short c.insert.ensures.unique

pub returns-clause-number : goal.returns-clause-number
returns-clause-number c = c.count-number.ensures.count ∙ sym (number_of-new c.args.self.now c.args.text.now (new c))

pub returns-clause-text : goal.returns-clause-text
returns-clause-text c =
    (λ i. slice_get (appended c i) (c.count-number.ensures.count i)) ∙ slice_get-last c.args.self.now c.args.text.now

pub returns-clause-ok : goal.returns-clause-ok
returns-clause-ok c = grown c
