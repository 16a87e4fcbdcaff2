use Rattle.std.proofs.Common.{rules, ◌≡◌, ◌∙◌, ◌∷◌, ◌++◌, [], refl, ap, length, length-append, slice_get, arith}
use Rattle.change_inbox.specs.declared.knowledge.Limits.{Limits}
use Rattle.change_inbox.specs.Seats.{InboxView, fresh_seat}
use Rattle.change_inbox.proofs.Ends.{begins, some_undealt, left_undealt, dealt, numbered-snoc}
use Rattle.change_inbox.proofs.Steps.{deals_at}
use Rattle.change_inbox.proofs.Calls.{seat_saw, shown}
use Rattle.change_inbox.proofs.inbox.Inbox.open.Goals as goal

pub new-requires : goal.new-requires
new-requires g c =
    let items = c.in_ok-push.ensures.items ∙ ap (λ l. l ++ c.in_ok-with_room.field-0 ∷ []) c.new-books.ensures.items in
    rw items (begins _ c.in_ok-with_room.field-0 c.ranges.seats.fits c.in_ok-with_room.ensures)

pub split_seat-token-requires : goal.split_seat-token-requires
split_seat-token-requires g c =
    let inv = c.loop-number.invariant in
    let lt = c.loop-number-test.true in
    (search rules, search rules, deals_at _ _ _ _ _ _ _ (ap (λ m. m.0) inv.dealer ∙ some_undealt _ _ _ lt) (omega arith))

pub invariant_of-push : goal.invariant_of-push
invariant_of-push g c =
    let inv = c.loop-number.invariant in
    let here = dealt _ _ _ _ (ap (λ m. m.0) inv.dealer) c.loop-number-test.true in
    seat_saw (record { seats = c.args.seats; posts = c.args.posts; cuts = c.args.cuts }) _ _ _ [] (c.split_seat-token.ensures.4 ∙ ap (λ v. (v, [])) here) refl (omega arith)

pub loop-number-preserved : goal.loop-number-preserved
loop-number-preserved g c =
    let inv = c.loop-number.invariant in
    let lt = c.loop-number-test.true in
    let limits : Limits = record { seats = c.args.seats; posts = c.args.posts; cuts = c.args.cuts } in
    let inbox : InboxView = record { table = c.in-Ok.table.shared.table_id; limits = limits } in
    let here = dealt _ _ _ _ (ap (λ m. m.0) inv.dealer) lt in
    let token = c.split_seat-token.ensures.4 ∙ ap (λ v. (v, [])) here in
    let seat : shown c.split_seat-token.result.table_id c.split_seat-token.result.me c.loop-number.number ≡ fresh_seat inbox c.loop-number.number = (λ i. shown ((c.split_seat-token.ensures.3 ∙ inv.table) i) (token i) c.loop-number.number) in
    let list = c.in_ok-push-2.ensures.ok ∙ ap (λ s. c.loop-number.list ++ s ∷ []) seat in
    record {
      table = c.split_seat-token.ensures.0 ∙ inv.table;
      limits = inv.limits;
      dealer = c.split_seat-token.ensures.2 ∙ (λ i. (left_undealt _ _ _ _ (ap (λ m. m.0) inv.dealer) lt i, (inv.dealer i).1));
      count = (let k = ap length list in let n = inv.count in omega (arith, length-append c.loop-number.list (fresh_seat inbox c.loop-number.number ∷ [])));
      seats = (λ n l. ap (λ s. slice_get s n) list ∙ numbered-snoc (fresh_seat inbox) c.loop-number.list c.loop-number.number inv.count inv.seats n l);
    }
