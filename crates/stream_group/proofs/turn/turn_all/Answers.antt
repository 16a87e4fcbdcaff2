use Rattle.std.proofs.Common.{◌∙◌, ℕ, ap, sym, take, take_while, length}
use Rattle.stream_heads.specs.Sides.{members_of}
use Rattle.stream_group.specs.Keyed.{change_key, has_key}
use Rattle.stream_group.proofs.Runs.{in_order}
use Rattle.stream_group.proofs.Turning.{all_turned, fewer_left, none_left, none_turned, run_of, turn_step}
use Rattle.stream_group.proofs.turn.turn_all.Goals as goal

pub turn-requires-clause-run : goal.turn-requires-clause-run
turn-requires-clause-run c =
    let width = length c.args.by.now.keys in
    let change = c.in-Some.change.now in
    run_of width c.loop-change.rest.now (change_key width change) c.run_len-len.result
    (c.run_len-len.ensures.run ∙ (λ i. length (take_while (has_key (c.len-width.ensures i) ((c.first-in-Some.ensures ∙ ap (λ (w : ℕ). take w change.member.numbers) c.len-width.ensures) i)) c.loop-change.rest.now)))

pub loop-change-init : goal.loop-change-init
loop-change-init c = none_turned c.args.by.now (members_of c.args.members.now) c.args.changes.now c.args.out.now

pub loop-change-preserved : goal.loop-change-preserved
loop-change-preserved c =
    let width = length c.args.by.now.keys in
    let change = c.in-Some.change.now in
    turn_step c.args.by.now (members_of c.args.members.now) c.args.changes.now c.loop-change.rest.now change c.run_len-len.result c.args.out.now c.loop-change.out c.turn.new.out (sym c.in-Some.ensures.value)
    (c.run_len-len.ensures.run ∙ (λ i. length (take_while (has_key (c.len-width.ensures i) ((c.first-in-Some.ensures ∙ ap (λ (w : ℕ). take w change.member.numbers) c.len-width.ensures) i)) c.loop-change.rest.now)))
    (in_order width c.args.changes.now c.requires.sorted) c.loop-change.invariant c.in_ok-turn.ensures

pub loop-change-smaller : goal.loop-change-smaller
loop-change-smaller c =
    let width = length c.args.by.now.keys in
    let change = c.in-Some.change.now in
    fewer_left width c.loop-change.rest.now change c.run_len-len.result (sym c.in-Some.ensures.value)
    (c.run_len-len.ensures.run ∙ (λ i. length (take_while (has_key (c.len-width.ensures i) ((c.first-in-Some.ensures ∙ ap (λ (w : ℕ). take w change.member.numbers) c.len-width.ensures) i)) c.loop-change.rest.now)))

pub returns : goal.returns
returns c = all_turned c.args.by.now (members_of c.args.members.now) c.args.changes.now c.loop-change.rest.now c.args.out.now c.loop-change.out (none_left c.loop-change.rest.now (sym c.in_default.ensures.value)) c.loop-change.invariant
