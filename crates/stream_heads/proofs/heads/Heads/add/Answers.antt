use Rattle.std.proofs.Common.{ap, ◌∙◌, ◌++◌, ◌∷◌, [], List}
use Rattle.plan_rules.specs.declared.row.Part.{Part}
use Rattle.plan_rules.specs.declared.row.Part.TheVariants.{Fact}
use Rattle.stream_heads.proofs.HeadLaws.{heads_came}
use Rattle.stream_heads.proofs.heads.Heads.add.Goals as goal

pub invariant_of-self : goal.invariant_of-self
invariant_of-self c =
    heads_came _ _ c.args.rec _ c.come.result c.self.invariant (c.of.ensures ∙ c.in_ok-push.ensures.ok ∙ ap (λ (r : List Part). r ++ Fact c.args.rec ∷ []) c.new-row.ensures) c.come.ensures.ok c.come.ensures.err c.come.ensures.base
