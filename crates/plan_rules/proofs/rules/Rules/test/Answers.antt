use Rattle.std.proofs.Common.{◌==◌, None, refl, ap}
use Rattle.std.proofs.lemmas.Option.{IfSome_then}
use Rattle.plan_rules.specs.declared.places.Numbers.{Numbers}
use Rattle.plan_rules.proofs.PlacesLaws.{find_by_place, borrowed_stands, found_there}
use Rattle.plan_rules.proofs.rules.Rules.test.Goals as goal

pub returns-in-Some-clause-found : goal.returns-in-Some-clause-found
returns-in-Some-clause-found g c =
    rw (find_by_place (λ test. test.number) c.args.number c.args.self.now.tests _ (ap (λ (n : Numbers). n.tests) c.args.self.now.numbered), ← c.place.ensures, c.in-Some.is) c.get.ensures

pub returns-in-None-clause-found : goal.returns-in-None-clause-found
returns-in-None-clause-found g c =
    rw (find_by_place (λ test. test.number) c.args.number c.args.self.now.tests _ (ap (λ (n : Numbers). n.tests) c.args.self.now.numbered), ← c.place.ensures, c.in-None.is) refl

pub returns-in-Some-clause-keeps : goal.returns-in-Some-clause-keeps
returns-in-Some-clause-keeps g c = λ keeps.
    IfSome_then c.get.result (borrowed_stands (λ test. test.number == c.args.number) c.args.self.now.tests c.get.result (returns-in-Some-clause-found g c))
    (λ test stands. rw stands.at at (keeps.0 stands.place test.now stands.within))

pub returns-in-Some-clause-there : goal.returns-in-Some-clause-there
returns-in-Some-clause-there g c = λ there.
    found_there (λ test. test.number) c.args.number c.args.self.now.tests _ c.get.result (ap (λ (n : Numbers). n.tests) c.args.self.now.numbered) (returns-in-Some-clause-found g c) there

pub returns-in-None-clause-there : goal.returns-in-None-clause-there
returns-in-None-clause-there g c = λ there.
    found_there (λ test. test.number) c.args.number c.args.self.now.tests _ None (ap (λ (n : Numbers). n.tests) c.args.self.now.numbered) (returns-in-None-clause-found g c) there
