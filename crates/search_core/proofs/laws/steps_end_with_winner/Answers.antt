use Rattle.search_core.proofs.InStep.{step_events-done}
use Rattle.search_core.proofs.laws.steps_end_with_winner.Goals as goal

pub returns : goal.returns
returns c = λ t k h found before range taken begins.
    let done = step_events-done t k h found before range.buffer range.settings.select_limit.least taken begins in
    record { taken = done.taken; ends = done.ends }
