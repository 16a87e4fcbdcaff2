use Rattle.std.proofs.Common.{rules, ◌≡◌, ◌∙◌, ◌∷◌, ◌++◌, [], sym, ap, subst, map, length, length-append, append-nil, arith}
use Rattle.change_inbox.specs.Law.{IsSettled}
use Rattle.change_inbox.proofs.Ends.{member_of, members-snoc, seat_holds, holds_itself, holds_parts, front_of_all, last_of_all, seats_begun, seats_owned, seats_all}
use Rattle.change_inbox.proofs.inbox.Inbox.close.Given.{Over}
use Rattle.change_inbox.proofs.inbox.Inbox.close.Goals as goal

pub unreachable-requires : goal.unreachable-requires
unreachable-requires g c =
    let none = ap length c.in_default.ensures.none in
    let some = c.self.invariant.2 in
    let seats = ap (λ i. i.limits.seats) c.self.view_is in
    omega arith

pub loop-seat-init : goal.loop-seat-init
loop-seat-init g c =
    let items = c.in-Some.ensures.last in
    let all = rw items at c.requires.1 in
    let inbox = last_of_all (λ s. s.inbox ≡ c.args.self) _ _ all in
    let me = seat_holds _ _ _ _ _ _ c.first.view_is c.first.invariant inbox in
    let part = ap (λ m. m.0.parts) me in
    let members = ap (λ m. m.0.members) me in
    record {
      table = ap (λ s. s.inbox.table) c.first.view_is ∙ ap (λ i. i.table) inbox;
      holds = holds_itself _ _ _ _ me;
      some = omega arith;
      parts = (let k = ap length items in omega (arith, c.requires.0, length-append c.pop.new.self (c.in-Some.first ∷ [])));
      members = ap (λ ms. map member_of c.pop.new.self ++ ms) members ∙ (sym (members-snoc c.pop.new.self c.in-Some.first []) ∙ (append-nil _ ∙ ap (map member_of) (sym items)));
      seats = front_of_all (λ s. s.inbox ≡ c.args.self) _ _ all;
    }

pub gather-requires : goal.gather-requires
gather-requires g c =
    let inv = c.loop-seat.invariant in
    let all = rw c.in-Some-pop.ensures.last at inv.seats in
    (search rules, ((inv.table, last_of_all (λ s. s.inbox ≡ c.args.self) _ _ all), (inv.holds, inv.some)))

pub loop-seat-preserved : goal.loop-seat-preserved
loop-seat-preserved g c =
    let items = c.in-Some-pop.ensures.last in
    let inv = c.loop-seat.invariant in
    let all = rw items at inv.seats in
    let me = c.gather.ensures.holds in
    let part = ap (λ m. m.0.parts) me in
    let members = ap (λ m. m.0.members) me in
    let left = c.pop-in-loop-seat.new.self in
    record {
      table = search rules;
      holds = holds_itself _ _ _ _ me;
      some = omega arith;
      parts = (let p = inv.parts in let k = ap length items in omega (arith, length-append left (c.in-Some-pop.seat ∷ [])));
      members = ap (λ ms. map member_of left ++ ms) members
          ∙ (sym (members-snoc left c.in-Some-pop.seat c.loop-seat.all.me.0.members) ∙ (ap (λ l. map member_of l ++ c.loop-seat.all.me.0.members) (sym items) ∙ inv.members));
      seats = front_of_all (λ s. s.inbox ≡ c.args.self) _ _ all;
    }

pub journal_of-requires-clause-holds : goal.journal_of-requires-clause-holds
journal_of-requires-clause-holds g c =
    let inv = c.loop-seat.invariant in
    let none = ap length c.in_default-pop.ensures.none in
    let parts = inv.parts in
    λ κs le. holds_parts _ _ c.args.self.limits.seats inv.holds (omega arith)

settled : (g : Over) (c : goal.After-drop-seats-inside g) → IsSettled c.args.self.limits (map member_of c.args.seats) c.journal_of.result
settled g c =
    let inv = c.loop-seat.invariant in
    let members = sym (ap (λ l. map member_of l ++ c.loop-seat.all.me.0.members) c.in_default-pop.ensures.none) ∙ inv.members in
    subst (λ ms. IsSettled c.args.self.limits ms c.journal_of.result) members c.journal_of.ensures.settled

pub returns-clause-seen : goal.returns-clause-seen
returns-clause-seen g c = seats_begun _ _ _ (settled g c).knows

pub returns-clause-own : goal.returns-clause-own
returns-clause-own g c = seats_owned _ _ _ (settled g c).knows

pub returns-clause-others : goal.returns-clause-others
returns-clause-others g c = seats_all _ _ _ (settled g c)
