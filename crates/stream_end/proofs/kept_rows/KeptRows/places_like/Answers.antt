use Rattle.std.proofs.Common.{ℤ, IsPermutation, List, ap, subst}
use Rattle.tuple_store.specs.View.{StoreView}
use Rattle.stream_index.specs.Places.{places_at}
use Rattle.stream_heads.specs.declared.member.Member.{Member}
use Rattle.stream_end.specs.Holding.{HaveRow}
use Rattle.stream_end.specs.Keys.{by_first, by_second, first_key, second_key}
use Rattle.stream_end.proofs.Pairs.{have_row}
use Rattle.stream_end.proofs.kept_rows.KeptRows.places_like.Goals as goal

pub returns : goal.returns
returns c =
    let cells = c.args.cells.now in
    let found = c.bucket_of-firsts.result.now in
    let places = c.self.inside.firsts.now in
    let moved = subst (λ (k : List ℤ). IsPermutation found (places_at k places)) c.first_key.ensures.value c.bucket_of-firsts.ensures in
    subst (λ (v : StoreView Member). HaveRow v.now cells found) c.self.view_is
    (have_row by_first c.self.inside.rows.now places cells (first_key cells) found (λ m is. ap first_key is) moved c.self.invariant.first.now)

pub returns-then-seconds-firsts : goal.returns-then-seconds-firsts
returns-then-seconds-firsts c =
    let cells = c.args.cells.now in
    let found = c.bucket_of-seconds.result.now in
    let places = c.self.inside.seconds.now in
    let moved = subst (λ (k : List ℤ). IsPermutation found (places_at k places)) c.second_key.ensures.value c.bucket_of-seconds.ensures in
    subst (λ (v : StoreView Member). HaveRow v.now cells found) c.self.view_is
    (have_row by_second c.self.inside.rows.now places cells (second_key cells) found (λ m is. ap second_key is) moved c.self.invariant.second.now)
