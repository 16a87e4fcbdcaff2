-- The boundaries at which the cuts of a live run take its lines, and its text by them.
use Rattle.std.proofs.Common.{◌≡◌, ◌∙◌, ◌≤◌, ◌<◌, ◌+◌, ◌==◌, ◌++◌, ℕ, zero, suc, Bool, cond, List, [], ◌∷◌, All, drop, length, map, get_or, replicate, refl, sym, ap, arith}
use Rattle.std.specs.List.{filter, range_with_len, slice_get, zip}
use Rattle.std.specs.List.Sorted.{IsNonDecreasing}
use Rattle.std.specs.Option.{option_map_or}
use Rattle.std.proofs.lemmas.Bool.{eq-eqb, ne_eqb}
use Rattle.std.proofs.lemmas.List.{append-nil, length-append, length-map, length-replicate, map-append}
use Rattle.std.proofs.lemmas.List.FromFn.{length-range_with_len}
use Rattle.std.proofs.lemmas.List.Elements.{All-append, All-nil, All-replicate, All-weaker, filter-append}
use Rattle.live_lines.specs.Taking.{Grounds, feed_on, taken, taken_at}
use Rattle.live_posts.specs.Cuts.{Take, boundaries, posts_taken}
use Rattle.plan_changes.specs.declared.line.Post.{Post}
use Rattle.plan_search.specs.Posed.{Posed}
use Rattle.plan_session.specs.Fed.{fed_text}
use Rattle.plan_session.specs.LiveRuns.{AreInOrder, bounds_in, lines_cut, live_text}
use Rattle.plan_session.specs.Replayed.{lines_at, replay_text}

-- pairs of longer lists
zip-append : {X Y : Type 0} (xs us : List X) (ys vs : List Y) → length xs ≡ length ys → zip (xs ++ us) (ys ++ vs) ≡ zip xs ys ++ zip us vs
zip-append [] us [] vs same = refl
zip-append [] us (y ∷ ys) vs same = absurd (omega (arith, same))
zip-append (x ∷ xs) us [] vs same = absurd (omega (arith, same))
zip-append (x ∷ xs) us (y ∷ ys) vs same = ap (λ rest. (x, y) ∷ rest) (zip-append xs us ys vs (omega (arith, same)))

-- so many lines more, for which these boundaries are named
lines_at-append : (posts more : List Post) (bounds others : List ℕ) (k : ℕ) → length posts ≡ length bounds
    → lines_at (posts ++ more) (bounds ++ others) k ≡ lines_at posts bounds k ++ lines_at more others k
lines_at-append posts more bounds others k same =
    let is_at : Post × ℕ → Bool = λ pair. pair.1 == k in
    ap (λ pairs. map (λ pair. taken k pair.0) (filter is_at pairs)) (zip-append posts more bounds others same)
    ∙ ap (map (λ pair. taken k pair.0)) (filter-append is_at (zip posts bounds) (zip more others))
    ∙ map-append (λ pair. taken k pair.0) (filter is_at (zip posts bounds)) (filter is_at (zip more others))

-- lines for which one boundary is named are taken there
lines_here : (posts : List Post) (b k : ℕ) → b ≡ k → lines_at posts (replicate (length posts) b) k ≡ taken_at k posts
lines_here [] b k same = refl
lines_here (post ∷ posts) b k same =
    let rest = filter (λ (pair : Post × ℕ). pair.1 == k) (zip posts (replicate (length posts) b)) in
    ap (λ here. map (λ (pair : Post × ℕ). taken k pair.0) (cond here ((post, b) ∷ rest) rest)) (eq-eqb b k same)
    ∙ ap (λ lines. taken k post ∷ lines) (lines_here posts b k same)

-- and nowhere else
lines_elsewhere : (posts : List Post) (b k : ℕ) → (b ≡ k → ⊥) → lines_at posts (replicate (length posts) b) k ≡ []
lines_elsewhere [] b k other = refl
lines_elsewhere (post ∷ posts) b k other =
    let rest = filter (λ (pair : Post × ℕ). pair.1 == k) (zip posts (replicate (length posts) b)) in
    ap (λ here. map (λ (pair : Post × ℕ). taken k pair.0) (cond here ((post, b) ∷ rest) rest)) (ne_eqb b k other)
    ∙ lines_elsewhere posts b k other

-- cuts in order, from this boundary on
abbrev pub AreFrom : ℕ → List (Take Post) → Type 0
AreFrom a cuts = boundaries cuts ≡ range_with_len a (length cuts)

pub from_first : (a : ℕ) (cut : Take Post) (cuts : List (Take Post)) → AreFrom a (cut ∷ cuts) → cut.boundary ≡ a
from_first a cut cuts order = ap (λ bounds. get_or bounds 0 0) order

pub from_rest : (a : ℕ) (cut : Take Post) (cuts : List (Take Post)) → AreFrom a (cut ∷ cuts) → AreFrom (a + 1) cuts
from_rest a cut cuts order = ap (λ bounds. drop 1 bounds) order

-- each cut has a boundary for each of its posts
pub as_many : (cuts : List (Take Post)) → length (bounds_in cuts) ≡ length (posts_taken cuts)
as_many [] = refl
as_many (cut ∷ cuts) =
    length-append (replicate (length cut.posts) cut.boundary) (bounds_in cuts)
    ∙ ap (λ n. n + length (bounds_in cuts)) (length-replicate (length cut.posts) cut.boundary)
    ∙ ap (λ n. length cut.posts + n) (as_many cuts)
    ∙ sym (length-append cut.posts (posts_taken cuts))

-- the lines of the first cut, and of the others
lines_split : (cut : Take Post) (cuts : List (Take Post)) (k : ℕ)
    → lines_at (posts_taken (cut ∷ cuts)) (bounds_in (cut ∷ cuts)) k
    ≡ lines_at cut.posts (replicate (length cut.posts) cut.boundary) k ++ lines_at (posts_taken cuts) (bounds_in cuts) k
lines_split cut cuts k =
    lines_at-append cut.posts (posts_taken cuts) (replicate (length cut.posts) cut.boundary) (bounds_in cuts) k
    (sym (length-replicate (length cut.posts) cut.boundary))

-- a boundary before the first cut takes nothing
lines_before : (cuts : List (Take Post)) (a k : ℕ) → AreFrom a cuts → k < a → lines_at (posts_taken cuts) (bounds_in cuts) k ≡ []
lines_before [] a k order before = refl
lines_before (cut ∷ cuts) a k order before =
    let first = from_first a cut cuts order in
    let other : cut.boundary ≡ k → ⊥ = λ same. omega (arith, first, same, before) in
    lines_split cut cuts k
    ∙ ap (λ lines. lines ++ lines_at (posts_taken cuts) (bounds_in cuts) k) (lines_elsewhere cut.posts cut.boundary k other)
    ∙ lines_before cuts (a + 1) k (from_rest a cut cuts order) (omega (arith, before))

-- each takes what its cut takes
lines_of_cut : (cuts : List (Take Post)) (a j k : ℕ) → AreFrom a cuts → k ≡ a + j
    → lines_at (posts_taken cuts) (bounds_in cuts) k ≡ taken_at k (option_map_or (λ (cut : Take Post). cut.posts) (slice_get cuts j) [])
lines_of_cut [] a j k order is = refl
lines_of_cut (cut ∷ cuts) a zero k order is =
    let first = from_first a cut cuts order in
    lines_split cut cuts k
    ∙ ap (λ lines. lines ++ lines_at (posts_taken cuts) (bounds_in cuts) k) (lines_here cut.posts cut.boundary k (omega (arith, first, is)))
    ∙ ap (λ lines. taken_at k cut.posts ++ lines) (lines_before cuts (a + 1) k (from_rest a cut cuts order) (omega (arith, is)))
    ∙ append-nil (taken_at k cut.posts)
lines_of_cut (cut ∷ cuts) a (suc j) k order is =
    let first = from_first a cut cuts order in
    let other : cut.boundary ≡ k → ⊥ = λ same. omega (arith, first, same, is) in
    lines_split cut cuts k
    ∙ ap (λ lines. lines ++ lines_at (posts_taken cuts) (bounds_in cuts) k) (lines_elsewhere cut.posts cut.boundary k other)
    ∙ lines_of_cut cuts (a + 1) j k (from_rest a cut cuts order) (omega (arith, is))

-- boundaries take what the cuts take
pub same_lines : (cuts : List (Take Post)) → AreInOrder cuts → lines_cut cuts ≡ lines_at (posts_taken cuts) (bounds_in cuts)
same_lines cuts order = λ i k. sym (lines_of_cut cuts 0 k k order (omega arith)) i

-- no boundary is below the first cut's, or past the last one's
bounds_from_to : (cuts : List (Take Post)) (a : ℕ) → AreFrom a cuts → All (λ bound. (a ≤ bound) × (bound < a + length cuts)) (bounds_in cuts)
bounds_from_to [] a order = All-nil (λ bound. (a ≤ bound) × (bound < a + 0))
bounds_from_to (cut ∷ cuts) a order =
    let first = from_first a cut cuts order in
    let are : ℕ → Type 0 = λ bound. (a ≤ bound) × (bound < a + suc (length cuts)) in
    All-append are (replicate (length cut.posts) cut.boundary) (bounds_in cuts)
    (All-replicate are (length cut.posts) cut.boundary (omega (arith, first), omega (arith, first)))
    (All-weaker (λ bound. (a + 1 ≤ bound) × (bound < a + 1 + length cuts)) are
    (λ bound within. (omega (arith, within.0), omega (arith, within.1))) (bounds_in cuts)
    (bounds_from_to cuts (a + 1) (from_rest a cut cuts order)))

-- none is past the last step
pub within_steps : (cuts : List (Take Post)) (steps : ℕ) → AreInOrder cuts → length cuts ≤ suc steps → All (λ bound. bound ≤ steps) (bounds_in cuts)
within_steps cuts steps order few =
    All-weaker (λ bound. (0 ≤ bound) × (bound < 0 + length cuts)) (λ bound. bound ≤ steps)
    (λ bound within. omega (arith, within.1, few)) (bounds_in cuts) (bounds_from_to cuts 0 order)

-- boundaries don't fall behind one that is at most each of them
rising_behind : (b : ℕ) (bounds : List ℕ) → IsNonDecreasing bounds → All (λ bound. b ≤ bound) bounds → IsNonDecreasing (b ∷ bounds)
rising_behind b bounds rising low zero zero d up within = omega arith
rising_behind b bounds rising low zero (suc j) d up within = low j d (omega (arith, within))
rising_behind b bounds rising low (suc i) zero d up within = absurd (omega (arith, up))
rising_behind b bounds rising low (suc i) (suc j) d up within = rising i j d (omega (arith, up)) (omega (arith, within))

rising_by : (n b : ℕ) (bounds : List ℕ) → IsNonDecreasing bounds → All (λ bound. b ≤ bound) bounds → IsNonDecreasing (replicate n b ++ bounds)
rising_by zero b bounds rising low = rising
rising_by (suc n) b bounds rising low =
    let at_most : ℕ → Type 0 = λ bound. b ≤ bound in
    rising_behind b (replicate n b ++ bounds) (rising_by n b bounds rising low)
    (All-append at_most (replicate n b) bounds (All-replicate at_most n b (omega arith)) low)

rising_from : (cuts : List (Take Post)) (a : ℕ) → AreFrom a cuts → IsNonDecreasing (bounds_in cuts)
rising_from [] a order = λ i j d up within. absurd (omega (arith, within))
rising_from (cut ∷ cuts) a order =
    let first = from_first a cut cuts order in
    let rest = from_rest a cut cuts order in
    rising_by (length cut.posts) cut.boundary (bounds_in cuts) (rising_from cuts (a + 1) rest)
    (All-weaker (λ bound. (a + 1 ≤ bound) × (bound < a + 1 + length cuts)) (λ bound. cut.boundary ≤ bound)
    (λ bound within. omega (arith, within.0, first)) (bounds_in cuts) (bounds_from_to cuts (a + 1) rest))

-- they don't fall
pub rising_bounds : (cuts : List (Take Post)) → AreInOrder cuts → IsNonDecreasing (bounds_in cuts)
rising_bounds cuts order = rising_from cuts 0 order

-- what a live run prints is what is printed of the lines that its cuts take, each taken at its cut's boundary
pub live_is_replay : (by : Grounds) (cuts : List (Take Post)) (posed : Posed) → AreInOrder cuts
    → live_text by cuts posed ≡ replay_text by (posts_taken cuts) (bounds_in cuts) posed
unfolding replay_text
live_is_replay by cuts posed order = ap (fed_text (feed_on by) posed) (same_lines cuts order)

-- cuts of all boundaries are as many, and in order
pub cut_count : (cuts : List (Take Post)) (n : ℕ) → boundaries cuts ≡ range_with_len 0 n → length cuts ≡ n
cut_count cuts n all =
    sym (length-map cuts (λ (cut : Take Post). cut.boundary)) ∙ ap (λ (bounds : List ℕ). length bounds) all ∙ length-range_with_len 0 n

pub in_order_all : (cuts : List (Take Post)) (n : ℕ) → boundaries cuts ≡ range_with_len 0 n → AreInOrder cuts
in_order_all cuts n all = all ∙ ap (range_with_len 0) (sym (cut_count cuts n all))
