use Rattle.plan_facts.proofs.Lists.{IfSome-member}
use Rattle.plan_rules.specs.Sound.{IsSound}
use Rattle.plan_rules.proofs.Accepted.{sound_rules}
use Rattle.plan_rules.proofs.rules.Rules.def.Goals as goal

pub returns-clause-sound : goal.returns-clause-sound
returns-clause-sound g c =
    IfSome-member (IsSound _ c.args.self.now.numbers) c.args.self.now.defs c.args.rule c.get.result c.get.ensures (sound_rules _ _ _ _ c.args.self.now.accepted)
