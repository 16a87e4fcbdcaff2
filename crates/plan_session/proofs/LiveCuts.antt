-- What boundaries take, by the cuts of a live run.
use Rattle.std.proofs.Common.{◌≡◌, ◌∙◌, ◌≤◌, ◌<◌, ◌+◌, ℕ, zero, suc, List, [], ◌∷◌, ◌++◌, Some, All, false, length, take, drop, get_or, refl, sym, ap, subst, arith}
use Rattle.std.specs.List.{Any, range_with_len, slice_get, slice_index_or}
use Rattle.std.specs.Option.{option_map_or}
use Rattle.std.proofs.Math.Seq.{take-append_seam, take-length}
use Rattle.std.proofs.lemmas.Grind.{flat_map-append}
use Rattle.std.proofs.lemmas.List.{append-nil, length-append, map-append, take-append-drop}
use Rattle.std.proofs.lemmas.List.Elements.{All-append}
use mathlib.Core.List.{IsPrefix}
use Rattle.change_feed.specs.Feeds.{is_stop}
use Rattle.live_lines.specs.Taking.{Taken, taken_at}
use Rattle.live_posts.specs.Cuts.{Take, boundaries, posts_taken, take_at}
use Rattle.plan_changes.specs.declared.line.Body.{Body}
use Rattle.plan_changes.specs.declared.line.Body.TheVariants.{Do, Bad, Stop}
use Rattle.plan_changes.specs.declared.line.Post.{Post}
use Rattle.plan_changes.specs.declared.line.StopCause.{StopCause}
use Rattle.plan_facts.proofs.NamesLaws.{slice_get-last}
use Rattle.plan_session.specs.LiveRuns.{AgreesWith, AreInOrder, HasNoStop, HasStop}

-- a post that is no stop
abbrev pub IsLine : Post → Type 0
IsLine post = is_stop post.body ≡ false

-- what stands at a place of a list stands there in a longer one
slice_get-more : {X : Type 0} (xs ys : List X) (k : ℕ) → k < length xs → slice_get (xs ++ ys) k ≡ slice_get xs k
slice_get-more [] ys k within = absurd (omega (arith, within))
slice_get-more (x ∷ xs) ys zero within = refl
slice_get-more (x ∷ xs) ys (suc k) within = slice_get-more xs ys k (omega (arith, within))

-- one number more
pub range-snoc : (a n : ℕ) → range_with_len a (suc n) ≡ range_with_len a n ++ (a + n) ∷ []
range-snoc a zero = ap (λ (k : ℕ). k ∷ []) (let same : a ≡ a + 0 = omega arith in same)
range-snoc a (suc n) =
    let same : a + 1 + n ≡ a + suc n = omega arith in
    ap (λ (rest : List ℕ). a ∷ rest) (range-snoc (a + 1) n ∙ ap (λ (k : ℕ). range_with_len (a + 1) n ++ k ∷ []) same)

-- a boundary takes what its own cut took
pub takes_at : (takes : ℕ → List Taken) (old : List (Take Post)) (k : ℕ) (posts : List Post) → length old ≡ k
    → AgreesWith takes (old ++ take_at k posts ∷ []) → takes k ≡ taken_at k posts
takes_at takes old k posts count agrees =
    let cut = take_at k posts in
    let there : slice_get (old ++ cut ∷ []) k ≡ Some cut =
    subst (λ (n : ℕ). slice_get (old ++ cut ∷ []) n ≡ Some cut) count (slice_get-last old cut) in
    agrees k (omega (arith, count, length-append old (cut ∷ [])))
    ∙ ap (λ found. taken_at k (option_map_or (λ (c : Take Post). c.posts) found [])) there

-- those that agree with more cuts agree with the first of them
pub agrees_before : (takes : ℕ → List Taken) (old more : List (Take Post)) → AgreesWith takes (old ++ more) → AgreesWith takes old
agrees_before takes old more agrees k within =
    agrees k (omega (arith, within, length-append old more))
    ∙ ap (λ found. taken_at k (option_map_or (λ (c : Take Post). c.posts) found [])) (slice_get-more old more k within)

-- a cut more keeps the order
pub in_order_more : (old : List (Take Post)) (k : ℕ) (posts : List Post) → length old ≡ k → AreInOrder old → AreInOrder (old ++ take_at k posts ∷ [])
in_order_more old k posts count order =
    let last : k ≡ 0 + length old = omega (arith, count) in
    let long : suc (length old) ≡ length (old ++ take_at k posts ∷ []) = omega (arith, length-append old (take_at k posts ∷ [])) in
    map-append (λ (c : Take Post). c.boundary) old (take_at k posts ∷ [])
    ∙ ap (λ (bounds : List ℕ). bounds ++ k ∷ []) order
    ∙ ap (λ (n : ℕ). range_with_len 0 (length old) ++ n ∷ []) last
    ∙ sym (range-snoc 0 (length old))
    ∙ ap (range_with_len 0) long

-- the posts of one cut more
pub posts_more : (old : List (Take Post)) (k : ℕ) (posts : List Post) → posts_taken (old ++ take_at k posts ∷ []) ≡ posts_taken old ++ posts
posts_more old k posts =
    flat_map-append (λ (c : Take Post). c.posts) old (take_at k posts ∷ [])
    ∙ ap (λ (more : List Post). posts_taken old ++ more) (append-nil posts)

pub no_stop_more : (old : List (Take Post)) (k : ℕ) (posts : List Post) → HasNoStop old → All IsLine posts
    → HasNoStop (old ++ take_at k posts ∷ [])
no_stop_more old k posts before more =
    subst (All IsLine) (sym (posts_more old k posts)) (All-append IsLine (posts_taken old) posts before more)

-- what holds of some element of a part holds of some of the whole
any_behind : {X : Type 0} (P : X → Type 0) (xs ys : List X) → Any P ys → Any P (xs ++ ys)
any_behind P [] ys some = some
any_behind P (x ∷ xs) ys some =
    let more = any_behind P xs ys some in
    let within = more.2 in
    (suc more.0, more.1, omega (arith, within), more.3, more.4)

there_too : {X : Type 0} (xs ys : List X) (k : ℕ) (d : X) → k < length xs → slice_index_or (xs ++ ys) k d ≡ slice_index_or xs k d
there_too [] ys k d within = absurd (omega (arith, within))
there_too (x ∷ xs) ys zero d within = refl
there_too (x ∷ xs) ys (suc k) d within = there_too xs ys k d (omega (arith, within))

pub any_before : {X : Type 0} (P : X → Type 0) (xs ys : List X) → Any P xs → Any P (xs ++ ys)
any_before P xs ys some =
    let within = some.2 in
    (some.0, some.1, omega (arith, within, length-append xs ys), there_too xs ys some.0 some.1 within ∙ some.3, some.4)

pub stop_more : (cause : StopCause) (old : List (Take Post)) (k : ℕ) (posts : List Post) → Any (λ post. post.body ≡ Stop cause) posts
    → HasStop cause (old ++ take_at k posts ∷ [])
stop_more cause old k posts some =
    let stops : Post → Type 0 = λ post. post.body ≡ Stop cause in
    subst (Any stops) (sym (posts_more old k posts)) (any_behind stops (posts_taken old) posts some)

-- the first so many cuts of these and one more
pub first_of : (old : List (Take Post)) (cut : Take Post) → take (length old) (old ++ cut ∷ []) ≡ old
first_of old cut = take-append_seam old (cut ∷ [])

pub all_of : (cuts : List (Take Post)) → take (length cuts) cuts ≡ cuts
all_of cuts = take-length cuts

-- the first so many cuts
pub front_of : (n : ℕ) (cuts : List (Take Post)) → IsPrefix (take n cuts) cuts
front_of n cuts = (drop n cuts, take-append-drop n cuts)

pub few_first : (n : ℕ) (cuts : List (Take Post)) (most : ℕ) → length cuts ≤ most → length (take n cuts) ≤ most
few_first n cuts most few =
    let parts = ap (λ (c : List (Take Post)). length c) (take-append-drop n cuts) in
    omega (arith, few, parts, length-append (take n cuts) (drop n cuts))

-- their posts are the first posts
pub posts_first : (n : ℕ) (cuts : List (Take Post)) → IsPrefix (posts_taken (take n cuts)) (posts_taken cuts)
posts_first n cuts = (
  posts_taken (drop n cuts),
  sym (flat_map-append (λ (c : Take Post). c.posts) (take n cuts) (drop n cuts)) ∙ ap (λ (c : List (Take Post)). posts_taken c) (take-append-drop n cuts),
)

-- and they are in order
ordered_from : (a n : ℕ) (cuts : List (Take Post)) → boundaries cuts ≡ range_with_len a (length cuts)
    → boundaries (take n cuts) ≡ range_with_len a (length (take n cuts))
ordered_from a zero cuts order = refl
ordered_from a (suc n) [] order = refl
ordered_from a (suc n) (cut ∷ cuts) order =
    let head : cut.boundary ≡ a = ap (λ (bounds : List ℕ). get_or bounds 0 a) order in
    let rest = ordered_from (a + 1) n cuts (ap (λ (bounds : List ℕ). drop 1 bounds) order) in
    λ i. head i ∷ rest i

pub in_order_first : (n : ℕ) (cuts : List (Take Post)) → AreInOrder cuts → AreInOrder (take n cuts)
in_order_first n cuts order = ordered_from 0 n cuts order

-- a body that is no stop
pub no_stop_body : (body : Body) → ((cause : StopCause) → body ≡ Stop cause → ⊥) → is_stop body ≡ false
no_stop_body (Do change) other = refl
no_stop_body (Bad fault) other = refl
no_stop_body (Stop cause) other = absurd (other cause refl)
