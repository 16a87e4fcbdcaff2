use Rattle.trial_bench.proofs.Handed.{exists_led}
use Rattle.trial_bench.proofs.kept.lead_exists.Goals as goal

pub returns : goal.returns
returns g c =
    exists_led c.args.rules.now.numbers c.args.exists.now c.update.new.self c.update.result c.requires.stands c.update.ensures.kept c.update.ensures.whole
