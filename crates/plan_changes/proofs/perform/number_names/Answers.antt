use Rattle.std.proofs.Common.{◌≡◌, ◌∙◌, ◌+◌, ℕ, List, length, take, sym, ap, arith}
use Rattle.plan_changes.specs.Performed.{numbered, text_in, texts_in}
use Rattle.plan_changes.proofs.Numbered.{numbered_front, texts_front, texts_more}
use Rattle.plan_changes.proofs.perform.number_names.Goals as goal

pub number_name-requires : goal.number_name-requires
number_name-requires c =
    let names = c.args.names.now in
    let items = c.args.items.now in
    let k = c.loop-item.item-index in
    let item = c.item-item.result in
    let more = texts_more names items k item c.loop-item-test.true c.item-item.is in
    let front = texts_front names items (k + 1) in
    let next : numbered c.loop-item.names (text_in item) ≡ numbered names (texts_in (take (k + 1) items)) = ap (λ ns. numbered ns (text_in item)) c.loop-item.invariant ∙ sym more in
    let long = ap (λ (ns : List (List ℕ)). length ns) next in
    let room = c.requires in
    omega arith

pub returns-in_err-number_name-clause-behind : goal.returns-in_err-number_name-clause-behind
returns-in_err-number_name-clause-behind c =
    let names = c.args.names.now in
    ap (take (length names)) (c.in_err-number_name.ensures.err ∙ c.loop-item.invariant)
    ∙ numbered_front names (texts_in (take c.loop-item.item-index c.args.items.now))

pub returns-clause-behind : goal.returns-clause-behind
returns-clause-behind c =
    let names = c.args.names.now in
    ap (take (length names)) c.loop-item.invariant ∙ numbered_front names (texts_in (take c.loop-item.item-index c.args.items.now))
