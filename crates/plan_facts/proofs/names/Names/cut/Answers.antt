use Rattle.std.proofs.Common.{◌≡◌, ◌≤◌, ◌∙◌, ℕ, Vec, Global, map, take, length, ap, sym, arith, rules}
use Rattle.std.proofs.lemmas.List.{length-map, take-map}
use Rattle.plan_facts.proofs.NamesLaws.{numbered}
use Rattle.plan_facts.proofs.names.Names.cut.Goals as goal

pub invariant_of-self : goal.invariant_of-self
invariant_of-self c =
    let few = c.self.invariant.few in
    let short : length c.truncate.new.self.keys ≤ 1000000000 = omega (arith, length-map c.self.inside.texts.keys (λ (t : Vec ℕ Global). t.items)) in
    numbered c.truncate.new.self.keys short c.truncate.ensures.unique

pub returns : goal.returns
returns c =
    let view : map (λ (t : Vec ℕ Global). t.items) c.self.inside.texts.keys ≡ c.args.self.now = search rules in
    ap (map (λ (t : Vec ℕ Global). t.items)) c.truncate.ensures.keys
    ∙ sym (take-map (λ (t : Vec ℕ Global). t.items) c.args.count c.self.inside.texts.keys)
    ∙ ap (take c.args.count) view
