use Rattle.std.proofs.Common.{◌∙◌, ◌∷◌, ◌++◌, List, ap, sym}
use Rattle.plan_moves.specs.declared.edit.Touch.{Touch}
use Rattle.score_director.specs.Holders.{holder_keys_in}
use Rattle.score_director.proofs.AllKeys.{class_more}
use Rattle.score_director.proofs.holders.keys_about.Goals as goal

pub loop-class-preserved : goal.loop-class-preserved
loop-class-preserved c =
    let plan = c.args.plan.now in
    let fact = c.args.fact in
    let k = c.loop-class.class in
    c.in_ok-push_holders.ensures
    ∙ ap (λ (keys : List Touch). keys ++ holder_keys_in plan fact k) c.loop-class.invariant
    ∙ ap (λ (keys : List Touch). fact ∷ keys) (sym (class_more (holder_keys_in plan fact) k))
