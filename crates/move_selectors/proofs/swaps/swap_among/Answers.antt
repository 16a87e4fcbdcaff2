use Rattle.std.proofs.Common.{◌≤◌, length, slice_index, sym}
use Rattle.plan_facts.specs.declared.record.Raw.{Raw}
use Rattle.move_selectors.specs.Movables.{entities_in}
use Rattle.move_selectors.proofs.Pillared.{picked-holds}
use Rattle.move_selectors.proofs.swaps.swap_among.Goals as goal

pub exchange-requires-clause-one : goal.exchange-requires-clause-one
exchange-requires-clause-one c =
    picked-holds (λ (raw : Raw). length raw.values ≤ 2) (entities_in c.args.movables.now) (slice_index c.args.words.now 2) c.in-Some.one.now c.requires.short (sym c.in-Some.ensures)

pub exchange-requires-clause-other : goal.exchange-requires-clause-other
exchange-requires-clause-other c =
    picked-holds (λ (raw : Raw). length raw.values ≤ 2) (entities_in c.args.movables.now) (slice_index c.args.words.now 3) c.in-Some-picked.other.now c.requires.short (sym c.in-Some-picked.ensures)
