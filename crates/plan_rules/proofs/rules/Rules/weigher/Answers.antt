use Rattle.std.proofs.Common.{◌==◌, ap}
use Rattle.std.proofs.lemmas.Option.{IfSome_then}
use Rattle.plan_rules.specs.declared.places.Numbers.{Numbers}
use Rattle.plan_rules.proofs.PlacesLaws.{borrowed_stands, found_there}
use Rattle.plan_rules.proofs.rules.Rules.weigher.Goals as goal

pub returns-clause-keeps : goal.returns-clause-keeps
returns-clause-keeps g c = λ keeps.
    IfSome_then c.weigher_at.result (borrowed_stands (λ weigher. weigher.number == c.args.number) c.args.self.now.weighs c.weigher_at.result c.weigher_at.ensures)
    (λ weigher stands. rw stands.at at (keeps.2 stands.place weigher.now stands.within))

pub returns-clause-there : goal.returns-clause-there
returns-clause-there g c = λ there.
    found_there (λ weigher. weigher.number) c.args.number c.args.self.now.weighs _ c.weigher_at.result (ap (λ (n : Numbers). n.weighs) c.args.self.now.numbered) c.weigher_at.ensures there
