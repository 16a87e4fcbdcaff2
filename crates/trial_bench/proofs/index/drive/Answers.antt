use Rattle.std.proofs.Common.{◌∙◌, ap, nat_cmp}
use Rattle.std.specs.FinMap as map
use Rattle.std.specs.FinMap.{get-empty}
use Rattle.stream_index.specs.View.{IndexView}
use Rattle.trial_bench.proofs.index.drive.Goals as goal

pub drive_puts-requires : goal.drive_puts-requires
drive_puts-requires g c = record { free = λ q le. ap (λ (v : IndexView). map.get v.now q) c.new-index.ensures ∙ get-empty nat_cmp q }
