use Rattle.std.proofs.Common.{refl, sym, ◌∙◌, ap}
use Rattle.std.specs.FinMap as map
use Rattle.tuple_store.specs.Rows.{is_now, is_base, is_settled, rows_of, shown}
use Rattle.tuple_store.specs.View.{StoreView}
use Rattle.tuple_store.proofs.RowLaws.{get-rows_of, rows_of-put, rows_of-same}
use Rattle.tuple_store.proofs.TrialLaws.{closed_rows, idle_rows}
use Rattle.tuple_store.proofs.store.Store.add.Goals as goal

pub returns-then-self-clause-fresh : goal.returns-then-self-clause-fresh
returns-then-self-clause-fresh g c =
    sym (ap (λ (v : StoreView _). map.get v.now c.in_ok-n.n) c.self.view_is)
    ∙ get-rows_of is_now _ c.in_ok-n.n
    ∙ ap (shown is_now) c.in_ok-n.ensures.vacant

pub returns-then-self-clause-ok : goal.returns-then-self-clause-ok
returns-then-self-clause-ok g c =
    let u = c.in_ok-n.ensures.updates in
    rows_of-put is_now _ _ c.in_ok-n.n u.others c.args.row (ap (shown is_now) u.changed)
    ∙ ap (λ (v : StoreView _). map.insert v.now c.in_ok-n.n c.args.row) c.self.view_is

pub returns-then-self-clause-base : goal.returns-then-self-clause-base
returns-then-self-clause-base g c = λ is_open.
    let u = c.in_ok-n.ensures.updates in
    rows_of-same is_base _ _ c.in_ok-n.n u.others (ap (shown is_base) u.changed ∙ sym (ap (shown is_base) c.in_ok-n.ensures.vacant))
    ∙ ap (λ (v : StoreView _). v.base) c.self.view_is

pub returns-clause-fresh : goal.returns-clause-fresh
returns-clause-fresh g c =
    sym (ap (λ (v : StoreView _). map.get v.now c.in_ok-n-2.n) c.self.view_is)
    ∙ get-rows_of is_now _ c.in_ok-n-2.n
    ∙ ap (shown is_now) c.in_ok-n-2.ensures.vacant

pub returns-clause-ok : goal.returns-clause-ok
returns-clause-ok g c =
    let u = c.in_ok-n-2.ensures.updates in
    rows_of-put is_now _ _ c.in_ok-n-2.n u.others c.args.row (ap (shown is_now) u.changed)
    ∙ ap (λ (v : StoreView _). map.insert v.now c.in_ok-n-2.n c.args.row) c.self.view_is

pub returns-clause-closed : goal.returns-clause-closed
returns-clause-closed g c = λ closed.
    let u = c.in_ok-n-2.ensures.updates in
    closed_rows _ _ _ _ c.in_ok-n-2.n c.self.invariant (ap (λ (v : StoreView _). v.is_open) c.self.view_is ∙ closed) (ap is_settled u.changed) u.others

pub returns-in_err-make_room-clause-closed : goal.returns-in_err-make_room-clause-closed
returns-in_err-make_room-clause-closed g c = λ closed.
    idle_rows _ _ _ c.self.invariant (ap (λ (v : StoreView _). v.is_open) c.self.view_is ∙ closed)

pub returns-in_err-n-2-clause-closed : goal.returns-in_err-n-2-clause-closed
returns-in_err-n-2-clause-closed g c = λ closed.
    let same = c.in_err-n-2.ensures.err in
    ap (rows_of is_base) same ∙ idle_rows _ _ _ c.self.invariant (ap (λ (v : StoreView _). v.is_open) c.self.view_is ∙ closed) ∙ sym (ap (rows_of is_now) same)
