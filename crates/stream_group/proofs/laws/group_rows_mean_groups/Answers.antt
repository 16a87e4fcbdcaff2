use Rattle.stream_group.proofs.KeyRows.{rows_mean_groups}
use Rattle.stream_group.proofs.laws.group_rows_mean_groups.Goals as goal

pub returns : goal.returns
returns c = rows_mean_groups
