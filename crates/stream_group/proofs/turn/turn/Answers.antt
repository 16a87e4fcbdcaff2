use Rattle.std.proofs.Common.{◌≡◌, ◌∙◌, ◌++◌, ℕ, ap, take, length}
use Rattle.stream_group.specs.Turns.{rows_of_key, unless_same}
use Rattle.stream_group.proofs.turn.turn.Goals as goal

pub returns : goal.returns
returns c = λ there few few_later.
    let width = length c.args.by.now.keys in
    let is_key : c.first.result.now ≡ take width c.args.key.now = c.first.ensures ∙ ap (λ (w : ℕ). take w c.args.key.now) c.len.ensures in
    let before = c.in_ok-tally_run.ensures.before few in
    let after = c.in_ok-tally_run.ensures.after there few_later in
    let said = c.in_ok-push_turn.ensures in (
      said.gone ∙ (λ i. c.args.out.now.gone.items ++ unless_same (before i) (after i) (rows_of_key (is_key i) (before i))),
      said.come ∙ (λ i. c.args.out.now.come.items ++ unless_same (before i) (after i) (rows_of_key (is_key i) (after i))),
    )
