use Rattle.std.proofs.Common.{◌∙◌, ◌++◌, List, ap, sym}
use Rattle.plan_moves.specs.declared.edit.Touch.{Touch}
use Rattle.score_director.specs.Keys.{keys_in}
use Rattle.score_director.proofs.AllKeys.{class_more}
use Rattle.score_director.proofs.network.keys_of.Goals as goal

pub loop-class-preserved : goal.loop-class-preserved
loop-class-preserved c =
    c.in_ok-push_keys.ensures
    ∙ ap (λ (keys : List Touch). keys ++ keys_in c.args.plan.now c.loop-class.class) c.loop-class.invariant
    ∙ sym (class_more (keys_in c.args.plan.now) c.loop-class.class)
