use Rattle.std.proofs.Common.{◌≡◌, map, take}
use Rattle.domain_words.specs.Handed.{numbers_in}
use Rattle.shipped_domains.specs.Handed.{numbers_handed}
use Rattle.shipped_domains.specs.Numbered.{numbers_shipped}
use Rattle.shipped_domains.proofs.making.with_shipped_domains.Given as goal

-- the closures of the domains so far
abbrev pub invariant-domains : goal.invariant-domains
invariant-domains g l =
    (map numbers_in l.numbers-items ≡ numbers_shipped)
    × (map numbers_handed l.made.items ≡ map numbers_in (take l.numbers-index l.numbers-items))

-- the closures of this domain so far
abbrev pub invariant-tests : goal.invariant-tests
invariant-tests g l = map (λ closure. closure.number) l.tests.items ≡ take l.number-index l.number-items

abbrev pub invariant-keys : goal.invariant-keys
invariant-keys g l = map (λ closure. closure.number) l.keys.items ≡ take l.number-index l.number-items

abbrev pub invariant-weighers : goal.invariant-weighers
invariant-weighers g l = map (λ closure. closure.number) l.weighers.items ≡ take l.number-index l.number-items
