use Rattle.plan_settings.proofs.RangeLaws.{IsNone-fault}
use Rattle.plan_settings.proofs.settings.Settings.fault.Goals as goal

pub returns-clause-none : goal.returns-clause-none
returns-clause-none c = IsNone-fault c.args.self.now c.first_out.result c.first_out.ensures
