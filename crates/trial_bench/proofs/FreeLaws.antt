use Rattle.std.proofs.Common.{◌≡◌, ◌≢◌, ℕ, ◌+◌, nat_cmp, ◌∙◌, arith, ⊎_elim}
use Rattle.std.proofs.lemmas.Bool.{cases_eq}
use Rattle.std.specs.FinMap as map
use Rattle.trial_bench.specs.Free.{IsFreeFrom}
use Rattle.tuple_store.proofs.MapLaws.{gone_other, gone_there, put_other}

-- one place more is taken
pub free_put : {T : Type 0} (old new : map.FinMap nat_cmp T) (n : ℕ) (x : T) → new ≡ map.insert old n x → IsFreeFrom n old → IsFreeFrom (n + 1) new
free_put old new n x is free q le = let apart : q ≢ n = λ e. absurd (omega arith) in put_other old new n x is q apart ∙ free q (omega arith)

-- a place that was taken and freed again
pub free_again : {T : Type 0} (old mid new : map.FinMap nat_cmp T) (n : ℕ) (x : T) → mid ≡ map.insert old n x → new ≡ map.remove mid n → IsFreeFrom n old → IsFreeFrom n new
free_again old mid new n x put killed free q le =
    ⊎_elim
    (λ (at : q ≡ n). rw at (gone_there mid new n killed))
    (λ apart. gone_other mid new n killed q apart ∙ put_other old mid n x put q apart ∙ free q le)
    (cases_eq q n)
