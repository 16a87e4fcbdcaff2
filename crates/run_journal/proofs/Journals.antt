-- A journal that is read line by line.
use Rattle.std.proofs.Common.{◌≡◌, ◌∙◌, ℕ, ◌+◌, ◌<◌, ◌≤◌, not, cond, List, ◌∷◌, length, take, drop, Result, Ok, Err, sym, ap, arith}
use Rattle.std.specs.List.{position_or_len}
use Rattle.std.proofs.lemmas.Bool.{eq-eqb, ne_eqb}
use Rattle.std.proofs.lemmas.List.{drop-drop, length-drop}
use Rattle.std.proofs.lemmas.List.Sums.{prefix_len-le-length}
use Rattle.feed_lines.specs.Parts.{is_feed, lines_in}
use Rattle.feed_lines.proofs.Splitting.{lines_in-first}
use Rattle.run_journal.specs.Bounds.{bounds_from, counted, bounds_of}
use Rattle.run_journal.specs.declared.fault.JournalFault.{JournalFault}
use Rattle.run_journal.specs.declared.fault.JournalFault.TheVariants.{Line}

-- the lines from a place on: the first of them, and those behind it
pub lines_from : (bytes whole : List ℕ) (at size : ℕ) → whole ≡ drop at bytes → at < length bytes → size ≡ position_or_len is_feed whole
    → lines_in (drop at bytes) ≡ take size whole ∷ lines_in (drop (at + (size + 1)) bytes)
lines_from bytes whole at size same within is =
    let rest = drop at bytes in
    let some : 0 < length rest = omega (arith, length-drop at bytes) in
    let place = is ∙ ap (position_or_len is_feed) same in
    lines_in-first rest some
    ∙ ap (λ k. take k rest ∷ lines_in (drop (k + 1) rest)) (sym place)
    ∙ ap (λ left. take size rest ∷ lines_in left) (drop-drop (size + 1) at bytes)
    ∙ ap (λ w. take size w ∷ lines_in (drop (at + (size + 1)) bytes)) (sym same)

-- the first of them lies within the bytes
pub line_within : (bytes whole : List ℕ) (at size : ℕ) → whole ≡ drop at bytes → at < length bytes → size ≡ position_or_len is_feed whole → at + size ≤ length bytes
line_within bytes whole at size same within is =
    let short = prefix_len-le-length (λ b. not (is_feed b)) whole in
    let rest = ap length same in
    omega (arith, short, rest, length-drop at bytes, is)

-- all lines were read without a refusal, and are as many as they should be
pub enough : (bytes bounds : List ℕ) (count steps : ℕ) → bounds_from steps 0 0 0 (lines_in bytes) ≡ Ok bounds → length bounds ≡ count → bounds_of bytes count steps ≡ Ok bounds
unfolding bounds_of
enough bytes bounds count steps read size =
    ap (counted count (length (lines_in bytes) + 1)) read
    ∙ ap (λ b. cond b (Ok bounds) (Err (length (lines_in bytes) + 1))) (eq-eqb (length bounds) count size)

-- they are too few or too many
pub miscounted : (bytes bounds : List ℕ) (count steps past : ℕ) → bounds_from steps 0 0 0 (lines_in bytes) ≡ Ok bounds → (length bounds ≡ count → ⊥) → past ≡ length (lines_in bytes) + 1 → bounds_of bytes count steps ≡ Err past
unfolding bounds_of
miscounted bytes bounds count steps past read size is =
    ap (counted count (length (lines_in bytes) + 1)) read
    ∙ ap (λ b. cond b (Ok bounds) (Err (length (lines_in bytes) + 1))) (ne_eqb (length bounds) count size)
    ∙ ap (λ n. Err n) (sym is)

-- one of them refuses the journal
pub refused : (bytes : List ℕ) (count steps line : ℕ) → bounds_from steps 0 0 0 (lines_in bytes) ≡ Err line → bounds_of bytes count steps ≡ Err line
unfolding bounds_of
refused bytes count steps line read = ap (counted count (length (lines_in bytes) + 1)) read

-- two refusals of one result are one
pub fault_of : {A : Type 0} (r : Result A JournalFault) (f g : JournalFault) → r ≡ Err f → r ≡ Err g → f ≡ g
fault_of r f g first second = cc

pub line_of : (a b : ℕ) → Line a ≡ Line b → a ≡ b
line_of a b e = cc
