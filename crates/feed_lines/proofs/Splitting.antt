-- The first line of bytes that are put together.
use Rattle.std.proofs.Common.{◌≡◌, ◌∙◌, ℕ, suc, ◌+◌, ◌<◌, ◌≤◌, Bool, true, false, not, cond, List, [], ◌∷◌, ◌++◌, length, take, drop, Some, None, refl, ap, arith}
use Rattle.std.specs.List.{position, position_or_len}
use Rattle.std.proofs.lemmas.List.{take-append-le, drop-append-le, length-append, length-take-le, length-drop}
use Rattle.std.proofs.lemmas.List.Sums.{prefix_len-le-length}
use Rattle.feed_lines.specs.Parts.{is_feed, before_lines, lines_in, first_line, after_line, line_end}
use Rattle.feed_lines.proofs.Firsts.{place_later, place_here, place_of_none, place_of_some}

-- bytes that aren't empty are their first line and the lines behind it
pub lines_in-first : (bytes : List ℕ) → 0 < length bytes → lines_in bytes ≡ first_line bytes ∷ lines_in (after_line bytes)
lines_in-first [] some = absurd (omega arith)
lines_in-first (b ∷ []) some = by_head (is_feed b)
  where
    by_head : (f : Bool) → cond f ([] ∷ []) ((b ∷ []) ∷ []) ≡ take (cond (not f) 1 0) (b ∷ []) ∷ lines_in (drop (cond (not f) 1 0 + 1) (b ∷ []))
    by_head true = refl
    by_head false = refl
lines_in-first (b ∷ c ∷ bytes) some = by_head (is_feed b) (lines_in-first (c ∷ bytes) (omega arith))
  where
    rest : List ℕ
    rest = c ∷ bytes

    place : ℕ
    place = position_or_len is_feed rest

    by_head : (f : Bool) → lines_in rest ≡ take place rest ∷ lines_in (drop (place + 1) rest) → cond f ([] ∷ lines_in rest) (before_lines b (lines_in rest)) ≡ take (cond (not f) (1 + place) 0) (b ∷ rest) ∷ lines_in (drop (cond (not f) (1 + place) 0 + 1) (b ∷ rest))
    by_head true ih = refl
    by_head false ih =
        let one : suc place ≡ 1 + place = omega arith in
        let two : suc (place + 1) ≡ 1 + place + 1 = omega arith in
        ap (before_lines b) ih ∙ ap (λ k. take k (b ∷ rest) ∷ lines_in (drop (place + 1) rest)) one
        ∙ ap (λ k. take (1 + place) (b ∷ rest) ∷ lines_in (drop k (b ∷ rest))) two

-- a line feed in the first bytes ends the first line
pub first_here : (xs ys : List ℕ) (i : ℕ) → position is_feed xs ≡ Some i → first_line (xs ++ ys) ≡ take i xs
first_here xs ys i e =
    let at = place_of_some is_feed xs i e in
    let same : position_or_len is_feed (xs ++ ys) ≡ i = place_here is_feed xs ys (omega (arith, at.0, at.1)) ∙ at.0 in
    ap (λ k. take k (xs ++ ys)) same ∙ take-append-le i xs ys (omega (arith, at.1))

pub end_here : (xs ys : List ℕ) (i : ℕ) → position is_feed xs ≡ Some i → line_end (xs ++ ys) ≡ i + 1
end_here xs ys i e =
    let at = place_of_some is_feed xs i e in
    let same : position_or_len is_feed (xs ++ ys) ≡ i = place_here is_feed xs ys (omega (arith, at.0, at.1)) ∙ at.0 in
    omega (arith, same, at.1, length-append xs ys)

pub after_here : (xs ys : List ℕ) (i : ℕ) → position is_feed xs ≡ Some i → after_line (xs ++ ys) ≡ drop (i + 1) xs ++ ys
after_here xs ys i e =
    let at = place_of_some is_feed xs i e in
    let same : position_or_len is_feed (xs ++ ys) ≡ i = place_here is_feed xs ys (omega (arith, at.0, at.1)) ∙ at.0 in
    ap (λ k. drop (k + 1) (xs ++ ys)) same ∙ drop-append-le (i + 1) xs ys (omega (arith, at.1))

-- bytes without a line feed at the front belong to the first line
pub end_later : (xs ys : List ℕ) → position is_feed xs ≡ None → line_end (xs ++ ys) ≡ length xs + line_end ys
end_later xs ys none = omega (arith, place_later is_feed xs ys (place_of_none is_feed xs none), length-append xs ys)

drop_behind : (xs ys : List ℕ) (k : ℕ) → drop (length xs + k) (xs ++ ys) ≡ drop k ys
drop_behind [] ys k = let same : 0 + k ≡ k = omega arith in ap (λ n. drop n ys) same
drop_behind (x ∷ xs) ys k =
    let same : suc (length xs) + k ≡ suc (length xs + k) = omega arith in
    ap (λ n. drop n (x ∷ (xs ++ ys))) same ∙ drop_behind xs ys k

pub after_later : (xs ys : List ℕ) → position is_feed xs ≡ None → after_line (xs ++ ys) ≡ after_line ys
after_later xs ys none =
    let later = place_later is_feed xs ys (place_of_none is_feed xs none) in
    let same : position_or_len is_feed (xs ++ ys) + 1 ≡ length xs + (position_or_len is_feed ys + 1) = omega (arith, later) in
    ap (λ k. drop k (xs ++ ys)) same ∙ drop_behind xs ys (position_or_len is_feed ys + 1)

-- such bytes make the first line at least as long as they are
pub first_long : (xs ys : List ℕ) → position is_feed xs ≡ None → length xs ≤ length (first_line (xs ++ ys))
first_long xs ys none =
    let later = place_later is_feed xs ys (place_of_none is_feed xs none) in
    let within = prefix_len-le-length (λ b. not (is_feed b)) (xs ++ ys) in
    omega (arith, later, length-take-le (position_or_len is_feed (xs ++ ys)) (xs ++ ys) within)

-- behind the first line stand the bytes that it doesn't take
pub length-after : (bytes : List ℕ) → line_end bytes + length (after_line bytes) ≡ length bytes
length-after bytes = omega (arith, length-drop (position_or_len is_feed bytes + 1) bytes)
