use Rattle.std.proofs.Common.{◌∙◌, ◌<◌, ◌⊎◌, ℕ, List, Option, length, fold, inl, inr, ap, sym, subst, arith}
use Rattle.plan_facts.specs.declared.record.Raw.{Raw}
use Rattle.plan_moves.specs.Edits.{with_new, sets_of}
use Rattle.move_selectors.specs.Movables.{entities_in, entity_in}
use Rattle.move_selectors.proofs.Walked.{member_settled}
use Rattle.move_selectors.proofs.Exchanging.{IsExchanged, exchange-first, exchange-one, exchange-other, other_there}
use Rattle.move_selectors.proofs.pillars.exchange_members.Goals as goal
use Rattle.move_selectors.proofs.pillars.exchange_members.Goals.{then-first-len, else-first-len+then-second-len}

pub members-init : goal.members-init
members-init c =
    let m = c.args.movables.now in
    subst (IsExchanged m.class (entities_in m) c.args.one c.args.other c.args.one c.args.other) (sym c.requires.empty)
    (exchange-first m.class m.nullables.now (entities_in m) c.args.one c.args.other c.requires.one c.requires.other c.requires.apart)

pub next_member-first-requires-clause-settled : goal.next_member-first-requires-clause-settled
next_member-first-requires-clause-settled c =
    let m = c.args.movables.now in
    let less = c.if-first-second.true in
    let within = c.members.invariant.second_within in
    member_settled m.nullables.now (entities_in m) c.args.one c.requires.one c.members.first (c.members.invariant.first_member (omega arith))

pub members-preserved-then-first-second : goal.members-preserved-then-first-second
members-preserved-then-first-second c =
    let m = c.args.movables.now in
    exchange-one m.class m.nullables.now (entities_in m) c.args.one c.args.other c.requires.one c.requires.other c.requires.apart c.members.first c.members.second c.members.into c.members.invariant
    c.next_member-first.result c.put_values.new.into c.if-first-second.true c.next_member-first.ensures
    (c.in_ok-put_values.ensures
    ∙ ap (λ (raw : Raw). fold with_new c.members.into (sets_of m.class raw.id c.values.result.now)) c.entity.ensures
    ∙ ap (λ (values : List (Option ℕ)). fold with_new c.members.into (sets_of m.class (entity_in m c.members.first).id values)) c.values.ensures)

pub next_member-second-requires-clause-settled : goal.next_member-second-requires-clause-settled
next_member-second-requires-clause-settled c =
    let m = c.args.movables.now in
    let some : (c.members.first < length (entities_in m)) ⊎ (c.members.second < length (entities_in m)) =
    elim c.if-first-len.branch [
      | then-first-len w ↦ inl (let e = c.len.ensures in let h = w.if-first-len.true in omega arith)
      | else-first-len+then-second-len w ↦ inr (let e = w.len-else-first-len.ensures in let h = w.if-second-len.true in omega arith)
    ] in
    member_settled m.nullables.now (entities_in m) c.args.other c.requires.other c.members.second
    (c.members.invariant.second_member (other_there m.class m.nullables.now (entities_in m) c.args.one c.args.other c.requires.one c.requires.other c.requires.apart c.members.first c.members.second c.members.into c.members.invariant c.if-first-second.false some))

pub members-preserved : goal.members-preserved
members-preserved c =
    let m = c.args.movables.now in
    let some : (c.members.first < length (entities_in m)) ⊎ (c.members.second < length (entities_in m)) =
    elim c.if-first-len.branch [
      | then-first-len w ↦ inl (let e = c.len.ensures in let h = w.if-first-len.true in omega arith)
      | else-first-len+then-second-len w ↦ inr (let e = w.len-else-first-len.ensures in let h = w.if-second-len.true in omega arith)
    ] in
    exchange-other m.class m.nullables.now (entities_in m) c.args.one c.args.other c.requires.one c.requires.other c.requires.apart c.members.first c.members.second c.members.into c.members.invariant
    c.next_member-second.result c.put_values-else-first-second.new.into c.if-first-second.false some c.next_member-second.ensures
    (c.in_ok-put_values-2.ensures
    ∙ ap (λ (raw : Raw). fold with_new c.members.into (sets_of m.class raw.id c.values-else-first-second.result.now)) c.entity-else-first-second.ensures
    ∙ ap (λ (values : List (Option ℕ)). fold with_new c.members.into (sets_of m.class (entity_in m c.members.second).id values)) c.values-else-first-second.ensures)
