use Rattle.std.proofs.Common.{rules}
use Rattle.std.proofs.lemmas.Map.Made.{filter_same_pairs}
use Rattle.stream_index.proofs.BucketLaws.{holds, swept}
use Rattle.stream_index.proofs.far.far_sweep.Goals as goal

pub returns-clause-same : goal.returns-clause-same
returns-clause-same c =
    let e = filter_same_pairs _ (λ p. holds p.1) _ (λ k v b w f' t. search rules) _ _ c.retain.ensures.filtered in
    swept c.args.far.now c.retain.new.self e c.retain.ensures.was_unique
