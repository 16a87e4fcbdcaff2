use Rattle.live_lines.specs.Taking.{feed_on}
use Rattle.live_lines.proofs.Fronts.{handled_lines-append}
use Rattle.live_lines.proofs.Refusals.{refused_stays}
use Rattle.live_lines.proofs.laws.lines_are_taken_in_order.Goals as goal

pub returns-clause-refused : goal.returns-clause-refused
returns-clause-refused c = refused_stays

pub returns-clause-parts : goal.returns-clause-parts
returns-clause-parts c = λ by state first others. handled_lines-append (feed_on by) state first others
