use Rattle.std.proofs.Common.{◌≡◌, None, Some, ap}
use Rattle.score_director.specs.declared.director.Attempt.{Attempt}
use Rattle.score_director.proofs.Led.{kept_for}
use Rattle.score_director.proofs.director.Director.keep.Goals as goal

pub invariant_of-self : goal.invariant_of-self
invariant_of-self g c =
    let d = c.self.inside in
    record {
      each = c.self.invariant.each;
      network = kept_for g.B.Book.meaning d.rules d.plan d.net c.commit.new.self c.commit.ensures c.self.invariant.network;
      worth = c.self.invariant.worth;
      opened = ap (λ heads. heads.is_open) c.commit.ensures.heads;
      before = λ x is. absurd (none_some x is);
    }
  where
    none_some : (x : Attempt) → None ≡ Some x → ⊥
    none_some x e = cc
