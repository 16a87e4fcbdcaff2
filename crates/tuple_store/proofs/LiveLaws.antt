use Rattle.std.proofs.Common.{◌≡◌, ◌≢◌, ℕ, zero, suc, ◌*◌, ◌<◌, Bool, true, List, [], ◌∷◌, length, Option, Some, None, is_some, cond, get_or, arith, sym, ◌∙◌, ap, ⊎_elim, get_or-set_same, get_or-set_other}
use Rattle.std.proofs.Math.ListN.{set}
use Rattle.std.proofs.lemmas.Bool.{cases_eq}
use Rattle.tuple_store.specs.declared.held.Held.{Held}
use Rattle.tuple_store.specs.Bits.{bit_of}
use Rattle.tuple_store.specs.Live.{slot_at, HasBits}
use Rattle.tuple_store.specs.Rows.{is_now, shown}

-- a slot that is written together with its bit
pub HasBits-set : {T : Type 0} (slots : List (Option (Held T))) (words : List ℕ) (n : ℕ) (slot : Option (Held T)) (wider : List ℕ) → HasBits slots words → n < length slots → is_some (slot_at slots n) ≡ true → bit_of wider n ≡ cond (is_some (shown is_now slot)) 1 0 → ((q : ℕ) → q ≢ n → bit_of wider q ≡ bit_of words q) → length wider ≡ length words → HasBits (set slots n slot) wider
HasBits-set {T} slots words n slot wider live within there here others same = record {
  bits = λ q. ⊎_elim (λ at. rw at (here ∙ ap (λ (s : Option (Held T)). cond (is_some (shown is_now s)) 1 0) (sym (get_or-set_same slots n slot None within))))
      (λ apart. others q apart ∙ live.bits q ∙ ap (λ (s : Option (Held T)). cond (is_some (shown is_now s)) 1 0) (sym (get_or-set_other slots n q slot None apart))) (cases_eq q n);
  covered = λ q e. rw same (⊎_elim (λ at. rw at (live.covered n there)) (λ apart. live.covered q (ap is_some (sym (get_or-set_other slots n q slot None apart)) ∙ e)) (cases_eq q n));
  short = rw same live.short;
}

none_some : {T : Type 0} {v : T} → None ≡ Some v → ⊥
none_some e = cc

-- a row stands within the slots
pub within_slots : {T : Type 0} (slots : List (Option T)) (n : ℕ) (v : T) → get_or slots n None ≡ Some v → n < length slots
within_slots [] n v e = absurd (none_some e)
within_slots (s ∷ slots) zero v e = omega arith
within_slots (s ∷ slots) (suc n) v e = let lt = within_slots slots n v e in omega arith

-- a marked row of the contents has its bit
pub held_bit : {T : Type 0} (held : Held T) → is_now held.mark ≡ true → ◌≡◌ {A = ℕ} 1 (cond (is_some (shown is_now (Some held))) 1 0)
held_bit {T} held e = ap (λ (b : Bool). cond (is_some (cond b (Some held.row) None)) 1 0) (sym e)
