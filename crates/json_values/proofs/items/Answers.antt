use Rattle.std.proofs.Common.{sym, ap, option_map}
use Rattle.json_values.specs.Values.{listed}
use Rattle.json_values.proofs.Reading.{listed-items_view}
use Rattle.json_values.proofs.items.Goals as goal

pub returns-in-Some : goal.returns-in-Some
returns-in-Some c = rw (c.as_slice.ensures.value, sym (listed-items_view c.in-Some.list.now.items)) (ap (option_map listed) c.in-Some.ensures)
