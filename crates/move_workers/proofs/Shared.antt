-- What the workers of a batch share may be shared between threads.
use denote.Exit.{Kept}
use denote.Param.{arg, param}
use denote.Param.Members as Members
use denote.Param.Object.{Ghosts, table_of}
use denote.Param.Send.{IsSync, recorded_sync, sendable, struct_sync}
use denote.Param.Sent.{Syncs}
use denote.Plain.{UInt}
use denote.RattleType.{RattleType}
use denote.Ref.{Bor, NamedLft, ShrRef}
use denote.Struct.Declared.{shape}
use denote.Struct.Field as Field
use denote.Struct.Tuple.{TupleAt}
use mir.Syntax.{Sym, Ty, w32}
use Rattle.std.specs.Prelude.{ℕ, [], ◌∷◌}
use Rattle.std.proofs.Crossing.{dyn_box_sync}
use Rattle.claim_board.proofs.board.Board.TheSendSync as Board
use Rattle.plan_facts.proofs.list.List.TheSendSync as List
use Rattle.plan_facts.proofs.schema.Schema.TheSendSync as Schema
use Rattle.plan_facts.proofs.text.Text.TheSendSync as Text
use Rattle.plan_facts.specs.contracts.list.List as ListRow
use Rattle.plan_facts.specs.contracts.text.Text as TextRow
use Rattle.plan_rules.proofs.places.Numbers.TheSendSync as Numbers
use Rattle.plan_rules.proofs.rule.Harder.TheSendSync as Harder
use Rattle.plan_rules.proofs.rule.RuleDef.TheSendSync as RuleDef
use Rattle.plan_rules.specs.contracts.closures.Key as Key
use Rattle.plan_rules.specs.contracts.closures.Test as Test
use Rattle.plan_rules.specs.contracts.closures.Weigh as Weigh
use Rattle.plan_rules.specs.contracts.rule.Harder as HarderRow
use Rattle.plan_rules.specs.contracts.rule.RuleDef as RuleDefRow
use Rattle.plan_rules.specs.contracts.rules.Rules as Rules
use Rattle.plan_rules.specs.declared.row.Row
use Rattle.plan_settings.proofs.setting.Selector.TheSendSync as Selector
use Rattle.move_workers.specs.contracts.batch.Batch as Batch
use Rattle.move_workers.specs.contracts.kit.Kit as Kit

-- what a closure captures by two references may be shared where what they refer to may be
pub captured_sync : (i : ℕ) (δ : Ty) (k : Kept) (ν : Sym) (a a' : NamedLft) (X Y : RattleType) → IsSync X → IsSync Y
    → IsSync (param i (arg δ k (TupleAt ν (ShrRef a.mir a.lft X ∷ ShrRef a'.mir a'.lft Y ∷ []))))
captured_sync i δ k ν a a' X Y x y = search sendable depth 20

-- rules, for which it is enough that the closures' boxes and the book may be shared
module _ (B T1 T2 T3 : RattleType) (g1 : Ghosts T1.Denot) (g2 : Ghosts T2.Denot) (g3 : Ghosts T3.Denot)
    (m1 : Members.Mut ((i : T1.Denot) × (g1.1.0 i).0.Denot) (Bor Row.Row × Unit {0}) (Field.bool-field).Value)
    (m2 : Members.Mut ((i : T2.Denot) × (g2.1.0 i).0.Denot) (Bor Row.Row × Unit {0}) (Field.i64-field).Value)
    (m3 : Members.Mut ((i : T3.Denot) × (g3.1.0 i).0.Denot) (Bor Row.Row × Unit {0}) (Field.u32-field).Value)
    (b : IsSync B) (s1 : IsSync T1) (s2 : IsSync T2) (s3 : IsSync T3)
    (y1 : Syncs (table_of T1.Denot g1)) (y2 : Syncs (table_of T2.Denot g2)) (y3 : Syncs (table_of T3.Denot g3)) where
  test_sync : IsSync (Test.the_row B T1 g1 m1)
  test_sync = search (dyn_box_sync T1 g1 y1, sendable) depth 30

  tests_sync : IsSync (ListRow.the_row (Test.the_row B T1 g1 m1))
  tests_sync = List.the_sync _ test_sync

  key_sync : IsSync (Key.the_row B T2 g2 m2)
  key_sync = search (dyn_box_sync T2 g2 y2, sendable) depth 30

  keys_sync : IsSync (ListRow.the_row (Key.the_row B T2 g2 m2))
  keys_sync = List.the_sync _ key_sync

  weigh_sync : IsSync (Weigh.the_row B T3 g3 m3)
  weigh_sync = search (dyn_box_sync T3 g3 y3, sendable) depth 30

  weighs_sync : IsSync (ListRow.the_row (Weigh.the_row B T3 g3 m3))
  weighs_sync = List.the_sync _ weigh_sync

  defs_sync : IsSync (ListRow.the_row RuleDefRow.the_row)
  defs_sync = search (RuleDef.the_sync, List.the_sync, sendable)

  harder_sync : IsSync (ListRow.the_row HarderRow.the_row)
  harder_sync = search (Harder.the_sync, List.the_sync, sendable)

  names_sync : IsSync (ListRow.the_row TextRow.the_row)
  names_sync = search (Text.the_sync, List.the_sync, sendable)

  caps_sync : IsSync (ListRow.the_row (UInt w32))
  caps_sync = search (List.the_sync, sendable)

  rules_sync : IsSync (Rules.the_row B T1 T2 T3 g1 g2 g3 m1 m2 m3)
  rules_sync =
      let of : IsSync (Rules.the_field B T1 T2 T3 g1 g2 g3 m1 m2 m3).row =
      struct_sync (shape (Rules.the_type B T1 T2 T3 g1 g2 g3 m1 m2 m3))
      (Schema.the_sync, (defs_sync, (tests_sync, (keys_sync, (weighs_sync, (harder_sync, (Numbers.the_field_sync, (names_sync, (caps_sync, tt))))))))) in
      recorded_sync (Rules.the_field B T1 T2 T3 g1 g2 g3 m1 m2 m3).row _ _ (Rules.the_type B T1 T2 T3 g1 g2 g3 m1 m2 m3).to_one of

  -- a kit beside them, and a batch
  module _ (G T4 : RattleType) (g4 : Ghosts T4.Denot) (lent kept : NamedLft)
      (gate : IsSync G) (s4 : IsSync T4) (y4 : Syncs (table_of T4.Denot g4)) where
    kit_sync : IsSync (Kit.the_row kept B T1 T2 T3 T4 g1 g2 g3 g4 m1 m2 m3)
    kit_sync = search (rules_sync, dyn_box_sync T4 g4 y4, Schema.the_sync, Selector.the_sync, sendable) depth 40 fits 20000

    pub batch_sync : IsSync (Batch.the_row lent kept B G T1 T2 T3 T4 g1 g2 g3 g4 m1 m2 m3)
    batch_sync = search (kit_sync, Board.the_sync, sendable) depth 40 fits 20000
