-- What the conversion to text says of bytes, by the test for UTF-8.
use Rattle.std.proofs.Common.{◌≡◌, ℕ, true, false, List, Result, Ok, Err, Bor}
use Rattle.std.specs.Option.{IfSome, IfNone}
use Rattle.std.specs.Result.{result_ok, MatchResult}
use Rattle.std.specs.Str.{IsUtf8, is_utf8}
use Rattle.std.proofs.lemmas.Bool.{false_from_ne_true}
use Rattle.std.proofs.lemmas.Str.{IsUtf8-from_is_utf8, is_utf8-from_IsUtf8}

pub text-some : {E : Type 0} (bytes : List ℕ) (r : Result (Bor (List ℕ)) E) (Q : E → Type 0)
    → MatchResult r (λ s. (s.now ≡ bytes) × IsUtf8 bytes) (λ e. (¬ (IsUtf8 bytes)) × Q e)
    → IfSome (result_ok r) (λ s. (s.now ≡ bytes) × (is_utf8 bytes ≡ true))
text-some bytes (Ok s) Q h = (h.0, is_utf8-from_IsUtf8 bytes h.1)
text-some bytes (Err e) Q h = tt

pub text-none : {E : Type 0} (bytes : List ℕ) (r : Result (Bor (List ℕ)) E) (Q : E → Type 0)
    → MatchResult r (λ s. (s.now ≡ bytes) × IsUtf8 bytes) (λ e. (¬ (IsUtf8 bytes)) × Q e)
    → IfNone (result_ok r) (is_utf8 bytes ≡ false)
text-none bytes (Ok s) Q h = tt
text-none bytes (Err e) Q h = false_from_ne_true (is_utf8 bytes) (λ good. h.0 (IsUtf8-from_is_utf8 bytes good))
