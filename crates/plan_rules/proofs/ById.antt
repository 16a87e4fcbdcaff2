-- The records of a plan stand by their ids.
use Rattle.std.proofs.Common.{ℕ, ◌<◌, map}
use Rattle.plan_facts.specs.declared.record.Raw.{Raw}
use Rattle.plan_facts.specs.Plan.{class_of, ids_in, records_of, resolved}
use Rattle.plan_rules.specs.Laws.{PlansAreById}
use Rattle.plan_rules.proofs.Rising.{pairs_from_rising, rising_from_pairs, rising-unmap, rising-map}
use Rattle.plan_rules.proofs.RowOrder.{IdBefore}

pub plans_are_by_id : PlansAreById
unfolding records_of
plans_are_by_id plan increasing class =
    let facts = (class_of plan class).facts in
    pairs_from_rising IdBefore (map (resolved plan class) facts)
    (rising-map (λ (one : Raw) (other : Raw). one.id < other.id) IdBefore (resolved plan class) (λ one other below. below) facts
    (rising-unmap (λ (raw : Raw). raw.id) (λ (one other : ℕ). one < other) facts (rising_from_pairs (λ (one other : ℕ). one < other) (ids_in facts) (increasing class))))
