use Rattle.std.proofs.Common.{sym}
use Rattle.serde_json.specs.View.{view}
use Rattle.problem_settings.proofs.Roots.{parts_there}
use Rattle.problem_settings.proofs.root.check_root.Goals as goal

pub returns-in-None-clause-domain : goal.returns-in-None-clause-domain
returns-in-None-clause-domain c = (parts_there (view c.args.root.now) (sym c.in-None.ensures)).0

pub returns-in-None-clause-facts : goal.returns-in-None-clause-facts
returns-in-None-clause-facts c = (parts_there (view c.args.root.now) (sym c.in-None.ensures)).1
