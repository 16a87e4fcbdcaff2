use Rattle.std.proofs.Common.{◌∙◌, ap, None, arith}
use Rattle.std.proofs.lemmas.List.{take_all}
use Rattle.plan_moves.specs.declared.edit.Set.{Set}
use Rattle.plan_moves.specs.Edits.{applied, is_legal}
use Rattle.plan_moves.proofs.Shape.{legal_at, legal_there, legal_value, applied_none, applied_more}
use Rattle.plan_moves.proofs.edit.Edit.apply.Goals as goal

-- what a read past the end would give
abbrev no_set : Set
no_set = record { class = 0; id = 0; var = 0; value = None }

pub loop-set-init : goal.loop-set-init
loop-set-init c =
    applied_none c.args.plan.now c.deref-set-items.result.now (ap (is_legal c.args.plan.now) (c.deref-set-items.ensures.value ∙ c.self.view_is) ∙ c.requires)

pub set-requires-clause-there : goal.set-requires-clause-there
set-requires-clause-there c =
    legal_there c.loop-set.plan _ (legal_at c.loop-set.plan c.deref-set-items.result.now c.loop-set.set-index no_set c.loop-set-test.true c.loop-set.invariant.legal)

pub set-requires-clause-value : goal.set-requires-clause-value
set-requires-clause-value c =
    legal_value c.loop-set.plan _ (legal_at c.loop-set.plan c.deref-set-items.result.now c.loop-set.set-index no_set c.loop-set-test.true c.loop-set.invariant.legal)

pub loop-set-preserved : goal.loop-set-preserved
loop-set-preserved c =
    applied_more c.args.plan.now c.deref-set-items.result.now c.loop-set.set-index no_set c.loop-set.plan c.set.new.self c.loop-set.invariant c.loop-set-test.true c.set.ensures.now

pub returns : goal.returns
returns c =
    c.loop-set.invariant.so_far ∙ ap (applied c.args.plan.now) (take_all c.loop-set.set-index c.deref-set-items.result.now (omega arith) ∙ c.deref-set-items.ensures.value ∙ c.self.view_is)
