use Rattle.std.specs.Prelude.{Bool, refl}
use Rattle.std.specs.Ordering.{nat_cmp}
use Rattle.std.specs.FinMap as map
use Rattle.std.specs.Coded.{Coded, code_by, coded×, coded_bool, coded_ℕ}

-- what a store holds: its rows by number, those that a rollback of the open trial brings back, and
-- whether a trial is open
pub record StoreView (T : Type 0) : Type 0 where
  pub now : map.FinMap nat_cmp T
  pub base : map.FinMap nat_cmp T
  pub is_open : Bool

-- a store's value is kept as the tuple of its fields
abbrev pub view_code : {T : Type 0} → Coded T → Coded (StoreView T)
view_code {T} row =
    code_by
    (map.FinMap nat_cmp T × (map.FinMap nat_cmp T × Bool))
    (coded× (map.code coded_ℕ row) (coded× (map.code coded_ℕ row) coded_bool))
    (λ v. (v.now, (v.base, v.is_open)))
    (λ p. record { now = p.0; base = p.1.0; is_open = p.1.1 })
    (λ _. refl)
