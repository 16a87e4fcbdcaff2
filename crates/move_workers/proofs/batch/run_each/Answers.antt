use denote.Exit.{no}
use denote.Param.{param}
use denote.Param.Callables.{held_fn}
use denote.Param.Object.{Ghosts, Vt, ghosts_of}
use denote.Param.Send.{IsSync, sendable}
use denote.RattleType.{RattleType}
use denote.Ref.{NamedLft}
use denote.Struct.Tuple.{Tuple}
use Rattle.std.specs.Prelude.{[], ◌∷◌}
use Rattle.std.specs.contracts.alloc.Global as Global
use Rattle.std.specs.contracts.dyn_box.DynBox as DynBox
use Rattle.std.specs.contracts.impls.GlobalAllocator.TheImpl as Heap
use Rattle.std.proofs.marker.PhantomData.TheSendSync as Phantom
use Rattle.move_workers.specs.contracts.batch.Batch as Batch
use Rattle.move_workers.specs.contracts.batch.run_each.dyn-1 as D1
use Rattle.move_workers.specs.contracts.batch.run_each.dyn-2 as D2
use Rattle.move_workers.specs.contracts.batch.run_each.dyn-3 as D3
use Rattle.move_workers.specs.contracts.batch.run_each.dyn-4 as D4
use Rattle.move_workers.proofs.Shared.{batch_sync, captured_sync}
use Rattle.move_workers.proofs.batch.run_each.Goals as goal

-- a box of what has these entries
abbrev box : (T : RattleType) → Ghosts T.Denot → RattleType
box T g = DynBox.the_row T Global.the_row g Heap.ghosts

pub each_beside-requires-sync-F : goal.each_beside-requires-sync-F
each_beside-requires-sync-F g c κs within =
    let V1 = Vt (D1.slots g.row.T g.row.B g.row.G) g.dyn-1.0 in
    let V2 = Vt (D2.slots g.row.T g.row.B g.row.G) g.dyn-2.0 in
    let V3 = Vt (D3.slots g.row.T g.row.B g.row.G) g.dyn-3.0 in
    let V4 = Vt (D4.slots g.row.T g.row.B g.row.G) g.dyn-4.0 in
    let G1 = ghosts_of (D1.slots g.row.T g.row.B g.row.G) g.dyn-1.0 g.dyn-1.1 in
    let G2 = ghosts_of (D2.slots g.row.T g.row.B g.row.G) g.dyn-2.0 g.dyn-2.1 in
    let G3 = ghosts_of (D3.slots g.row.T g.row.B g.row.G) g.dyn-3.0 g.dyn-3.1 in
    let G4 = ghosts_of (D4.slots g.row.T g.row.B g.row.G) g.dyn-4.0 g.dyn-4.1 in
    let b : (a k : NamedLft) → IsSync (Batch.the_row a k (param 1 g.row.B) (param 2 g.row.G) V1 V2 V3 V4 G1 G2 G3 G4 (held_fn g.dyn-1.0) (held_fn g.dyn-2.0) (held_fn g.dyn-3.0)) = λ a k.
    batch_sync (param 1 g.row.B) V1 V2 V3 G1 G2 G3 (held_fn g.dyn-1.0) (held_fn g.dyn-2.0) (held_fn g.dyn-3.0) c.type_bounds.sync-B (search sendable) (search sendable) (search sendable) g.dyn-1.3 g.dyn-2.3 g.dyn-3.3 (param 2 g.row.G) V4 G4 a k c.type_bounds.sync-G (search sendable) g.dyn-4.3 in
    captured_sync 2 _ no _ _ _ _ _ (b _ _) (Phantom.the_sync (Tuple (box V1 G1 ∷ box V2 G2 ∷ box V3 G3 ∷ [])))
