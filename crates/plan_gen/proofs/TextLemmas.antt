-- The text of a problem, spelled out from left to right.
use Rattle.std.proofs.Common.{◌≡◌, ℕ, ◌+◌, ◌<◌, ◌≤◌, List, [], ◌∷◌, ◌++◌, map, length, take, refl, sym, ap, ◌∙◌, append_assoc, arith}
use Rattle.std.proofs.lemmas.Bool.Decides.{nat_tests}
use Rattle.std.specs.List.{join_with_byte, range_with_len}
use Rattle.std.proofs.lemmas.List.{map_push, length-map, length-append, take-take}
use Rattle.std.proofs.Math.Seq.{take-append_seam}
use Rattle.std.proofs.lemmas.List.FromFn.{map-range_with_len_more, length-map-range_with_len}
use Rattle.plan_gen.specs.Extends.{Extends}
use Rattle.plan_gen.specs.Text.{comma, separator, quoted, member, object, array}

-- the pieces in a row, with a comma between each two, and then the rest
abbrev pub joined_then : List (List ℕ) → List ℕ → List ℕ
joined_then [] rest = rest
joined_then (x ∷ []) rest = x ++ rest
joined_then (x ∷ y ∷ xs) rest = x ++ (comma ∷ joined_then (y ∷ xs) rest)

joined_then-is : (xs : List (List ℕ)) (rest : List ℕ) → join_with_byte comma xs ++ rest ≡ joined_then xs rest
joined_then-is [] rest = refl
joined_then-is (x ∷ []) rest = refl
joined_then-is (x ∷ y ∷ xs) rest =
    append_assoc x (comma ∷ join_with_byte comma (y ∷ xs)) rest ∙ ap (λ t. x ++ (comma ∷ t)) (joined_then-is (y ∷ xs) rest)

pub quoted-after : (text rest : List ℕ) → quoted text ++ rest ≡ 34 ∷ (text ++ (34 ∷ rest))
unfolding quoted
quoted-after text rest = ap (λ t. 34 ∷ t) (append_assoc text (34 ∷ []) rest)

pub member-after : (name value rest : List ℕ) → member name value ++ rest ≡ quoted name ++ (58 ∷ (value ++ rest))
unfolding member
member-after name value rest =
    append_assoc (quoted name ++ (58 ∷ [])) value rest ∙ append_assoc (quoted name) (58 ∷ []) (value ++ rest)

pub object-after : (members : List (List ℕ)) (rest : List ℕ) → object members ++ rest ≡ 123 ∷ joined_then members (125 ∷ rest)
unfolding object
object-after members rest =
    ap (λ t. 123 ∷ t) (append_assoc (join_with_byte comma members) (125 ∷ []) rest ∙ joined_then-is members (125 ∷ rest))

pub object-is : (members : List (List ℕ)) → object members ≡ 123 ∷ joined_then members (125 ∷ [])
unfolding object
object-is members = ap (λ t. 123 ∷ t) (joined_then-is members (125 ∷ []))

pub array-after : (items : List (List ℕ)) (rest : List ℕ) → array items ++ rest ≡ 91 ∷ (join_with_byte comma items ++ (93 ∷ rest))
unfolding array
array-after items rest = ap (λ t. 91 ∷ t) (append_assoc (join_with_byte comma items) (93 ∷ []) rest)

separator-after : (place : ℕ) → 0 < place → separator place ≡ comma ∷ []
separator-after place above = grind (arith, nat_tests)

-- one more piece stands behind the others, after a comma where there are others
join_more : (xs : List (List ℕ)) (x : List ℕ) → join_with_byte comma (xs ++ x ∷ []) ≡ join_with_byte comma xs ++ (separator (length xs) ++ x)
join_more [] x = refl
join_more (y ∷ []) x = refl
join_more (y ∷ z ∷ xs) x =
    let after : (pieces : List (List ℕ)) → 0 < length pieces → separator (length pieces) ≡ comma ∷ [] = λ pieces above. separator-after (length pieces) above in
    rw (after (y ∷ z ∷ xs) (omega arith))
    (ap (λ t. y ++ (comma ∷ t)) (rw (after (z ∷ xs) (omega arith)) at (join_more (z ∷ xs) x)) ∙ sym (append_assoc y (comma ∷ join_with_byte comma (z ∷ xs)) (comma ∷ x)))

-- one more item, of those that a function of the place gives
joined_more : {X : Type 0} (text : X → List ℕ) (item : ℕ → X) (place : ℕ) → join_with_byte comma (map text (map item (range_with_len 0 (place + 1))))
    ≡ join_with_byte comma (map text (map item (range_with_len 0 place))) ++ (separator place ++ text (item place))
joined_more text item place =
    let more = map-range_with_len_more item 0 place place (omega arith) in
    rw (more, map_push) (join_more (map text (map item (range_with_len 0 place))) (text (item place))
    ∙ ap (λ n. join_with_byte comma (map text (map item (range_with_len 0 place))) ++ (separator n ++ text (item place)))
    (length-map (map item (range_with_len 0 place)) text ∙ length-map-range_with_len item 0 place))

-- what a loop keeps that writes the items, each behind its separator
pub written_more : {X : Type 0} (text : X → List ℕ) (item : ℕ → X) (place : ℕ) (x : X) (old so_far separated new : List ℕ)
    → so_far ≡ old ++ join_with_byte comma (map text (map item (range_with_len 0 place)))
    → separated ≡ so_far ++ separator place
    → x ≡ item place
    → new ≡ separated ++ text x
    → new ≡ old ++ join_with_byte comma (map text (map item (range_with_len 0 (place + 1))))
written_more text item place x old so_far separated new kept before is after =
    rw (after, is, before, kept, joined_more) (simp append_assoc)

-- what goes on from old text and stops begins with the old text
pub Extends-after : (old mid new text : List ℕ) → mid ≡ old ++ text → Extends mid new → Extends old new
Extends-after old mid new text e extends =
    let shorter : length old ≤ length mid = omega (arith, length-append old text, ap length e) in
    record { front = sym (take-take (length old) (length mid) new shorter) ∙ ap (take (length old)) (extends.front ∙ e) ∙ take-append_seam old text }
