use Rattle.std.proofs.Common.{◌==◌, None, refl, ap}
use Rattle.std.proofs.lemmas.Option.{IfSome_then}
use Rattle.plan_rules.specs.declared.places.Numbers.{Numbers}
use Rattle.plan_rules.proofs.PlacesLaws.{find_by_place, borrowed_stands, found_there}
use Rattle.plan_rules.proofs.rules.Rules.key.Goals as goal

pub returns-in-Some-clause-found : goal.returns-in-Some-clause-found
returns-in-Some-clause-found g c =
    rw (find_by_place (λ key. key.number) c.args.number c.args.self.now.keys _ (ap (λ (n : Numbers). n.keys) c.args.self.now.numbered), ← c.place.ensures, c.in-Some.is) c.get.ensures

pub returns-in-None-clause-found : goal.returns-in-None-clause-found
returns-in-None-clause-found g c =
    rw (find_by_place (λ key. key.number) c.args.number c.args.self.now.keys _ (ap (λ (n : Numbers). n.keys) c.args.self.now.numbered), ← c.place.ensures, c.in-None.is) refl

pub returns-in-Some-clause-keeps : goal.returns-in-Some-clause-keeps
returns-in-Some-clause-keeps g c = λ keeps.
    IfSome_then c.get.result (borrowed_stands (λ key. key.number == c.args.number) c.args.self.now.keys c.get.result (returns-in-Some-clause-found g c))
    (λ key stands. rw stands.at at (keeps.1 stands.place key.now stands.within))

pub returns-in-Some-clause-there : goal.returns-in-Some-clause-there
returns-in-Some-clause-there g c = λ there.
    found_there (λ key. key.number) c.args.number c.args.self.now.keys _ c.get.result (ap (λ (n : Numbers). n.keys) c.args.self.now.numbered) (returns-in-Some-clause-found g c) there

pub returns-in-None-clause-there : goal.returns-in-None-clause-there
returns-in-None-clause-there g c = λ there.
    found_there (λ key. key.number) c.args.number c.args.self.now.keys _ None (ap (λ (n : Numbers). n.keys) c.args.self.now.numbered) (returns-in-None-clause-found g c) there
