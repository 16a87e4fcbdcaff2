use Rattle.std.proofs.Common.{◌≡◌, ◌∙◌, ◌<◌, ◌+◌, ◌++◌, ◌∷◌, [], ℤ, List, map, length, sym, ap, arith, rules, SFits, w64, to_z, of_z}
use Rattle.std.specs.Ordering.{int_cmp, is_eq}
use Rattle.std.specs.Cmp.Lexicographic.{slice_cmp}
use Rattle.std.proofs.lemmas.Int.{to_z-of_z}
use Rattle.std.proofs.lemmas.List.{length_push}
use Rattle.std.proofs.lemmas.List.Elements.{All-push}
use Rattle.plan_rules.specs.Meaning.{IsKeyNumber}
use Rattle.plan_recalc.proofs.Grouped.{numbers_more, with_other}
use Rattle.plan_recalc.proofs.keyed.Keyed.numbers.Goals as goal
use Rattle.plan_recalc.proofs.keyed.Keyed.numbers.Goals.{then-is_eq+in_ok-push, else-is_eq}

pub loop-place-preserved : goal.loop-place-preserved
loop-place-preserved g c =
    let m = g.B.Book.meaning in
    let keyed = c.args.self.now in
    let key = c.args.key.now in
    let place = c.loop-place.place in
    let invariant = c.loop-place.invariant in
    let within : place < length keyed.rows.now = omega arith in
    let row_key = c.index-self-place in
    let tested : is_eq (slice_cmp int_cmp row_key.result key) ≡ c.is_eq.result =
    ap (λ (k : List ℤ). is_eq (slice_cmp int_cmp k key)) (row_key.is ∙ sym c.as_slice.ensures) ∙ ap is_eq (sym c.cmp.ensures) ∙ sym c.is_eq.ensures in
    elim c.if-is_eq.branch [
      | then-is_eq+in_ok-push w ↦
          let row = w.index-self-place-then-is_eq in
          let asked = w.key_of.ensures in
          let fits : SFits w64 w.key_of.result = search rules in
          let number = to_z-of_z w64 w.key_of.result fits in
          let pushed : c.if-is_eq.numbers ≡ c.loop-place.numbers ++ to_z w64 (of_z w64 w.key_of.result) ∷ [] = w.numbers-is ∙ w.in_ok-push.ensures.ok in
          let longer : length c.if-is_eq.numbers ≡ length c.loop-place.numbers + 1 = ap (λ (ns : List ℤ). length ns) pushed ∙ length_push c.loop-place.numbers (to_z w64 (of_z w64 w.key_of.result)) in
          record {
            numbers = numbers_more m keyed.keys.now key c.args.number keyed.rows.now keyed.row_keys.now place row_key.result row.result c.loop-place.numbers c.if-is_eq.numbers (to_z w64 (of_z w64 w.key_of.result)) c.requires.keyed within row_key.is (tested ∙ w.if-is_eq.true) row.is invariant.numbers
                (number ∙ asked.value ∙ ap (m.key_of c.args.number) (sym row.is)) pushed;
            range = rw pushed (All-push IsKeyNumber c.loop-place.numbers (to_z w64 (of_z w64 w.key_of.result)) invariant.range (rw number asked.range));
            few = let few = invariant.few in omega arith;
          }
      | else-is_eq w ↦
          let same : length c.if-is_eq.numbers ≡ length c.loop-place.numbers = ap (λ (ns : List ℤ). length ns) w.numbers-is in
          record {
            numbers = w.numbers-is ∙ invariant.numbers ∙ ap (map (m.key_of c.args.number)) (sym (with_other m keyed.keys.now key keyed.rows.now keyed.row_keys.now place row_key.result c.requires.keyed within row_key.is (tested ∙ w.if-is_eq.false)));
            range = rw (w.numbers-is) invariant.range;
            few = let few = invariant.few in omega arith;
          }
    ]
