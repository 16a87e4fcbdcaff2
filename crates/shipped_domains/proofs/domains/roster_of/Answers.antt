use Rattle.std.proofs.Common.{◌∙◌, codes, refl}
use Rattle.std.proofs.lemmas.Result.{IfOk-weaker}
use Rattle.shipped_domains.proofs.Parts.{shipped_same}
use Rattle.shipped_domains.proofs.domains.roster_of.Goals as goal

pub domain_of-requires-clause-accepted : goal.domain_of-requires-clause-accepted
domain_of-requires-clause-accepted g c = rw c.requires c.in_ok-parts.ensures.accepted

pub returns-clause-view : goal.returns-clause-view
returns-clause-view g c =
    IfOk-weaker c.domain_of.result _ _ (λ domain view.
    view ∙ shipped_same (codes "roster") refl refl c.requires refl ∙ c.in_ok-parts.ensures.view) c.domain_of.ensures.view
