use Rattle.std.proofs.Common.{◌≡◌, ◌∙◌, ◌≤◌, ◌^◌, ℤ, Bool, List, pos, length, ap, arith, to_z, w64}
use Rattle.std.specs.Prelude.{filter}
use Rattle.std.specs.Ordering.{int_cmp, is_eq}
use Rattle.std.specs.Cmp.Lexicographic.{slice_cmp}
use Rattle.std.proofs.lemmas.Int.{ints}
use Rattle.std.proofs.lemmas.List.{length-map}
use Rattle.plan_rules.specs.Named.{key_named}
use Rattle.plan_rules.specs.Groups.{group_key, rows_with}
use Rattle.plan_recalc.proofs.Grouped.{length-filter-map}
use Rattle.plan_recalc.proofs.keyed.Keyed.collected.Goals as goal

pub numbers-requires-clause-there : goal.numbers-requires-clause-there
numbers-requires-clause-there g c κs within = let there = rw c.in-CountDistinct.is at c.requires.collect in there 0 (key_named c.in-CountDistinct.number) (omega arith)

pub numbers-requires-in-Sum-clause-there : goal.numbers-requires-in-Sum-clause-there
numbers-requires-in-Sum-clause-there g c κs within = let there = rw c.in-Sum.is at c.requires.collect in there 0 (key_named c.in-Sum.number) (omega arith)

pub numbers-requires-in-Min-clause-there : goal.numbers-requires-in-Min-clause-there
numbers-requires-in-Min-clause-there g c κs within = let there = rw c.in-Min.is at c.requires.collect in there 0 (key_named c.in-Min.number) (omega arith)

pub numbers-requires-in-Max-clause-there : goal.numbers-requires-in-Max-clause-there
numbers-requires-in-Max-clause-there g c κs within = let there = rw c.in-Max.is at c.requires.collect in there 0 (key_named c.in-Max.number) (omega arith)

pub returns-in-Count : goal.returns-in-Count
returns-in-Count g c =
    let m = g.B.Book.meaning in
    let keys = c.args.self.now.keys.now in
    let rows = c.args.self.now.rows.now in
    let key = c.args.key.now in
    let p : List ℤ → Bool = λ other. is_eq (slice_cmp int_cmp other key) in
    let count : c.count_with.result ≡ length (rows_with m keys rows key) =
    c.count_with.ensures.value ∙ ap (λ (ks : List (List ℤ)). length (filter p ks)) c.requires.keyed ∙ length-filter-map p (group_key m keys) rows in
    let long : length c.args.self.now.row_keys.now ≡ length rows = ap (λ (ks : List (List ℤ)). length ks) c.requires.keyed ∙ length-map rows (group_key m keys) in
    let few : c.count_with.result ≤ 2 ^ 32 = omega (arith, c.count_with.ensures.few, c.requires.few) in
    let number : to_z w64 c.count_with.result ≡ pos c.count_with.result = omega (arith, ints) in
    rw (c.in-Count.is) (number ∙ ap pos count)
