use Rattle.std.proofs.Common.{◌≡◌, ℕ, [], ◌∷◌, Some, IfSome, IfNone, subst}
use Rattle.tuple_store.specs.Numbers.{numbers_above}
use Rattle.tuple_store.specs.View.{StoreView}
use Rattle.tuple_store.proofs.TrialLaws.{next_number, no_number}
use Rattle.tuple_store.proofs.store.Store.next.Goals as goal

pub returns-clause-none : goal.returns-clause-none
returns-clause-none g c =
    subst (λ (v : StoreView _). IfNone c.first_above.result (numbers_above c.args.after v.now ≡ []))
    c.self.view_is (no_number _ c.args.after c.first_above.result c.first_above.ensures.none)

pub returns-clause-first : goal.returns-clause-first
returns-clause-first g c =
    let e = c.first_above.ensures in
    subst (λ (v : StoreView _). IfSome c.first_above.result (λ n. numbers_above c.args.after v.now ≡ n ∷ numbers_above (Some n) v.now))
    c.self.view_is (next_number _ c.args.after c.first_above.result e.above e.live e.least)
