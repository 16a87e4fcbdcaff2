use Rattle.head_changes.proofs.Back.{class_back}
use Rattle.head_changes.proofs.gathering.turn_class.Goals as goal

pub returns-in_err-turn-clause-back : goal.returns-in_err-turn-clause-back
returns-in_err-turn-clause-back c = class_back _ _ c.args.changes.now c.args.class c.index-changes-class.result c.turn.new.change c.requires c.turn.ensures.back

pub returns-clause-back : goal.returns-clause-back
returns-clause-back c = class_back _ _ c.args.changes.now c.args.class c.index-changes-class.result c.turn.new.change c.requires c.turn.ensures.back
