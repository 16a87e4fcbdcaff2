use Rattle.search_rows.proofs.Posted.{answered, has_room_for}
use Rattle.search_rows.proofs.tests.machine.answer.Goals as goal

pub on-requires : goal.on-requires
on-requires c = has_room_for c.args.core.now c.args.others c.args.event c.requires.few c.requires.room

pub returns : goal.returns
returns c =
    answered c.args.core.now c.on.new.self c.args.others c.args.event c.on.result c.requires.few c.on.ensures.ok c.on.ensures.err
