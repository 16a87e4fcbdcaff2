use Rattle.std.proofs.Common.{◌≡◌, ◌∙◌, ◌<◌, ℕ, Option, Some, IsSome, IsSomeAnd, Result, Ok, Err, OnOk, List, length, set, slice_get, ap, sym, subst}
use Rattle.std.proofs.lemmas.List.{length-set, get_or-set_same}
use Rattle.std.proofs.lemmas.Option.{slice_get-get_or}
use Rattle.move_selectors.specs.Pool.{ClassPoolView, PoolView, IsPoolOf}
use Rattle.move_selectors.proofs.PoolLaws.{pool-put}
use Rattle.move_selectors.proofs.pool.Pool.find_pillars.Goals as goal

pub returns-clause-pool : goal.returns-clause-pool
returns-clause-pool c =
    let pool = subst (IsPoolOf c.args.plan.now) (sym c.self.view_is) c.requires.pool in
    pool-put c.args.plan.now (record { entities = c.self.inside.entities; classes = c.self.inside.classes.items }) c.args.place c.find_pillars.new.self c.index_mut.result.now pool
    (c.find_pillars.ensures.class ∙ ap (λ (part : ClassPoolView). part.class) c.index_mut.ensures.value) c.find_pillars.ensures.part

-- what was put at a place is found there
found : {T E : Type 0} (result : Result T E) (classes : List ClassPoolView) (place : ℕ) (part : ClassPoolView) → place < length classes → OnOk result (IsSome part.links) → OnOk result (IsSomeAnd (slice_get (set classes place part) place) (λ (one : ClassPoolView). IsSome one.links))
found (Ok x) classes place part within some =
    let here : slice_get (set classes place part) place ≡ Some part = slice_get-get_or (set classes place part) place part (subst (λ (n : ℕ). place < n) (sym (length-set classes place part)) within) ∙ ap (λ (one : ClassPoolView). Some one) (get_or-set_same classes place part part within) in
    subst (λ (one : Option ClassPoolView). IsSomeAnd one (λ (p : ClassPoolView). IsSome p.links)) (sym here) some
found (Err e) classes place part within some = some

pub returns-clause-found : goal.returns-clause-found
returns-clause-found c =
    found c.find_pillars.result c.self.inside.classes.items c.args.place c.find_pillars.new.self (subst (λ (pool : PoolView). c.args.place < length pool.classes) (sym c.self.view_is) c.requires.place) c.find_pillars.ensures.found
