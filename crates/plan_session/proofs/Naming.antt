-- What a live run prints names the boundaries of its lines.
use Rattle.std.proofs.Common.{◌≡◌, ◌∙◌, ◌+◌, ◌<◌, ◌≤◌, ◌^◌, ◌++◌, ℕ, zero, suc, Bool, true, false, cond, List, [], ◌∷◌, Option, Some, None, Ok, All, length, map, replicate, refl, sym, ap, subst, arith}
use Rattle.std.specs.Prelude.{IsTrue}
use Rattle.std.specs.List.{cons_option, flat_map, range_with_len, slice_get}
use Rattle.std.specs.List.Sorted.{IsNonDecreasing}
use Rattle.std.specs.Option.{option_map_or}
use Rattle.std.proofs.Math.Seq.{drop-append_seam, take-append_seam}
use Rattle.std.proofs.lemmas.Grind.{flat_map-append}
use Rattle.std.proofs.lemmas.List.{length-map, map-append}
use Rattle.std.proofs.lemmas.List.Elements.{All-cons, All-drop, All-head, All-nil, All-tail, All-take}
use Rattle.change_feed.specs.Feeds.{is_stop}
use Rattle.live_lines.specs.Reading.{AreLines}
use Rattle.live_lines.specs.Taking.{Grounds, Taken, applied_line, change_line, change_refusal, fault_of, feed_on, ready_in, taken_at, told_of}
use Rattle.live_posts.specs.Cuts.{Take, boundaries, posts_taken}
use Rattle.plan_changes.specs.Change.{ChangeView}
use Rattle.plan_changes.specs.Deeds.{is_weight}
use Rattle.plan_changes.specs.declared.fault.ChangeFault.{ChangeFault}
use Rattle.plan_changes.specs.declared.line.Body.{Body}
use Rattle.plan_changes.specs.declared.line.Body.TheVariants.{Bad, Do, Stop}
use Rattle.plan_changes.specs.declared.line.Post.{Post}
use Rattle.plan_facts.specs.Schema.{is_name}
use Rattle.plan_reports.specs.declared.line.Line.{Line}
use Rattle.plan_reports.specs.declared.line.Line.TheVariants as line
use Rattle.plan_search.specs.Posed.{Posed, State}
use Rattle.plan_search.specs.RunLines.{run_lines}
use Rattle.run_journal.specs.Bounds.{bounds_of}
use Rattle.plan_session.specs.Fed.{fed_text, legs_to}
use Rattle.plan_session.specs.LiveRuns.{AreInOrder, bounds_in, lines_cut, live_text}
use Rattle.plan_session.proofs.Bounds.{AreFrom, as_many, cut_count, from_first, from_rest, in_order_all, rising_bounds, within_steps}
use Rattle.plan_session.proofs.Telling.{marks_of_run, named_run}
use Rattle.text_journal.specs.Laws.{HaveNames, IsNamed}
use Rattle.text_journal.specs.Marks.{boundaries_told, change_mark, change_marks}
use Rattle.text_journal.proofs.ReadBack.{reads_back}

-- the number and the boundary of a line that is no stop
abbrev line_marks : ℕ → ℕ → Body → List (ℕ × ℕ)
line_marks number boundary (Do change) = (number, boundary) ∷ []
line_marks number boundary (Bad fault) = (number, boundary) ∷ []
line_marks number boundary (Stop cause) = []

abbrev marks_of : Taken → List (ℕ × ℕ)
marks_of one = line_marks one.post.line one.boundary one.post.body

-- a line is no stop
abbrev IsQuiet : Post → Type 0
IsQuiet post = is_stop post.body ≡ false

-- what holds of the members of two lists holds of those of each
all_first : {X : Type 0} (P : X → Type 0) (xs ys : List X) → All P (xs ++ ys) → All P xs
all_first P xs ys all = subst (All P) (take-append_seam xs ys) (All-take P (length xs) (xs ++ ys) all)

all_second : {X : Type 0} (P : X → Type 0) (xs ys : List X) → All P (xs ++ ys) → All P ys
all_second P xs ys all = subst (All P) (drop-append_seam xs ys) (All-drop P (length xs) (xs ++ ys) all)

-- a line that is no stop is told of once
one_mark : (number boundary : ℕ) (body : Body) → is_stop body ≡ false → line_marks number boundary body ≡ (number, boundary) ∷ []
one_mark number boundary (Do change) quiet = refl
one_mark number boundary (Bad fault) quiet = refl
one_mark number boundary (Stop cause) quiet = absurd cc

-- the numbers and the boundaries that are told of the lines of a boundary
numbers_here : (b : ℕ) (posts : List Post) → All IsQuiet posts
    → map (λ (mark : ℕ × ℕ). mark.0) (flat_map marks_of (taken_at b posts)) ≡ map (λ (post : Post). post.line) posts
numbers_here b [] quiet = refl
numbers_here b (post ∷ posts) quiet =
    ap (λ marks. map (λ (mark : ℕ × ℕ). mark.0) (marks ++ flat_map marks_of (taken_at b posts))) (one_mark post.line b post.body (All-head IsQuiet post posts quiet))
    ∙ ap (λ numbers. post.line ∷ numbers) (numbers_here b posts (All-tail IsQuiet post posts quiet))

bounds_here : (b : ℕ) (posts : List Post) → All IsQuiet posts
    → map (λ (mark : ℕ × ℕ). mark.1) (flat_map marks_of (taken_at b posts)) ≡ replicate (length posts) b
bounds_here b [] quiet = refl
bounds_here b (post ∷ posts) quiet =
    ap (λ marks. map (λ (mark : ℕ × ℕ). mark.1) (marks ++ flat_map marks_of (taken_at b posts))) (one_mark post.line b post.body (All-head IsQuiet post posts quiet))
    ∙ ap (λ bounds. b ∷ bounds) (bounds_here b posts (All-tail IsQuiet post posts quiet))

-- what all cuts take, in order
abbrev pub all_taken : List (Take Post) → List Taken
all_taken cuts = flat_map (λ cut. taken_at cut.boundary cut.posts) cuts

pub numbers_told : (cuts : List (Take Post)) → All IsQuiet (posts_taken cuts)
    → map (λ (mark : ℕ × ℕ). mark.0) (flat_map marks_of (all_taken cuts)) ≡ map (λ (post : Post). post.line) (posts_taken cuts)
numbers_told [] quiet = refl
numbers_told (cut ∷ cuts) quiet =
    let here = taken_at cut.boundary cut.posts in
    let first = λ (mark : ℕ × ℕ). mark.0 in
    ap (map first) (flat_map-append marks_of here (all_taken cuts))
    ∙ map-append first (flat_map marks_of here) (flat_map marks_of (all_taken cuts))
    ∙ ap (λ numbers. numbers ++ map first (flat_map marks_of (all_taken cuts)))
    (numbers_here cut.boundary cut.posts (all_first IsQuiet cut.posts (posts_taken cuts) quiet))
    ∙ ap (λ numbers. map (λ (post : Post). post.line) cut.posts ++ numbers) (numbers_told cuts (all_second IsQuiet cut.posts (posts_taken cuts) quiet))
    ∙ sym (map-append (λ (post : Post). post.line) cut.posts (posts_taken cuts))

pub bounds_told : (cuts : List (Take Post)) → All IsQuiet (posts_taken cuts)
    → map (λ (mark : ℕ × ℕ). mark.1) (flat_map marks_of (all_taken cuts)) ≡ bounds_in cuts
bounds_told [] quiet = refl
bounds_told (cut ∷ cuts) quiet =
    let here = taken_at cut.boundary cut.posts in
    let second = λ (mark : ℕ × ℕ). mark.1 in
    ap (map second) (flat_map-append marks_of here (all_taken cuts))
    ∙ map-append second (flat_map marks_of here) (flat_map marks_of (all_taken cuts))
    ∙ ap (λ bounds. bounds ++ map second (flat_map marks_of (all_taken cuts)))
    (bounds_here cut.boundary cut.posts (all_first IsQuiet cut.posts (posts_taken cuts) quiet))
    ∙ ap (λ bounds. replicate (length cut.posts) cut.boundary ++ bounds) (bounds_told cuts (all_second IsQuiet cut.posts (posts_taken cuts) quiet))

-- what boundaries take from the first cut's on, by what each takes
taken_from : (takes : ℕ → List Taken) (cuts : List (Take Post)) (a : ℕ) → AreFrom a cuts
    → ((j k : ℕ) → k ≡ a + j → takes k ≡ taken_at k (option_map_or (λ (cut : Take Post). cut.posts) (slice_get cuts j) []))
    → flat_map takes (range_with_len a (length cuts)) ≡ all_taken cuts
taken_from takes [] a order each = refl
taken_from takes (cut ∷ cuts) a order each =
    ap (λ lines. lines ++ flat_map takes (range_with_len (a + 1) (length cuts)))
    (each zero a (omega arith) ∙ ap (λ k. taken_at k cut.posts) (sym (from_first a cut cuts order)))
    ∙ ap (λ lines. taken_at cut.boundary cut.posts ++ lines)
    (taken_from takes cuts (a + 1) (from_rest a cut cuts order) (λ j k is. each (suc j) k (omega (arith, is))))

-- what the boundaries take is what the cuts take
pub taken_all : (cuts : List (Take Post)) → AreInOrder cuts → flat_map (lines_cut cuts) (range_with_len 0 (length cuts)) ≡ all_taken cuts
taken_all cuts order =
    taken_from (lines_cut cuts) cuts 0 order
    (λ j k is. ap (λ i. taken_at k (option_map_or (λ (cut : Take Post). cut.posts) (slice_get cuts i) [])) (omega (arith, is)))

-- the line that says what became of a change marks its number and its boundary
applied_mark : (is_weight : Bool) (number boundary rule class id : ℕ)
    → change_mark (cond is_weight (line.AppliedRule number boundary rule) (line.Applied number boundary class id)) ≡ Some (number, boundary)
applied_mark true number boundary rule class id = refl
applied_mark false number boundary rule class id = refl

either_mark : (refusal : Option ChangeFault) (number boundary : ℕ) (applied : Line) → change_mark applied ≡ Some (number, boundary)
    → change_mark (option_map_or (λ fault. line.Refused number boundary fault) refusal applied) ≡ Some (number, boundary)
either_mark None number boundary applied is = is
either_mark (Some fault) number boundary applied is = refl

change_line_mark : (by : Grounds) (state : State) (number boundary : ℕ) (change : ChangeView)
    → change_mark (change_line by state number boundary change) ≡ Some (number, boundary)
unfolding change_line
change_line_mark by state number boundary change =
    let ready = ready_in by state change in
    either_mark (change_refusal by state change) number boundary (applied_line number boundary ready)
    (applied_mark (is_weight ready.deed) number boundary ready.rule ready.class ready.id)

-- what is told of a line marks it, if it is no stop
marks_told : (by : Grounds) (state : State) (number boundary : ℕ) (body : Body)
    → change_marks (told_of by state number boundary body) ≡ line_marks number boundary body
marks_told by state number boundary (Do change) = ap (λ mark. cons_option mark []) (change_line_mark by state number boundary change)
marks_told by state number boundary (Bad fault) = refl
marks_told by state number boundary (Stop cause) = refl

-- and names no domain
applied_named : (is_weight : Bool) (number boundary rule class id : ℕ)
    → IsNamed (cond is_weight (line.AppliedRule number boundary rule) (line.Applied number boundary class id))
applied_named true number boundary rule class id = tt
applied_named false number boundary rule class id = tt

either_named : (refusal : Option ChangeFault) (number boundary : ℕ) (applied : Line) → IsNamed applied
    → IsNamed (option_map_or (λ fault. line.Refused number boundary fault) refusal applied)
either_named None number boundary applied is = is
either_named (Some fault) number boundary applied is = tt

change_line_named : (by : Grounds) (state : State) (number boundary : ℕ) (change : ChangeView)
    → IsNamed (change_line by state number boundary change)
unfolding change_line
change_line_named by state number boundary change =
    let ready = ready_in by state change in
    either_named (change_refusal by state change) number boundary (applied_line number boundary ready)
    (applied_named (is_weight ready.deed) number boundary ready.rule ready.class ready.id)

named_told : (by : Grounds) (state : State) (number boundary : ℕ) (body : Body) → All IsNamed (told_of by state number boundary body)
named_told by state number boundary (Do change) =
    All-cons IsNamed (change_line by state number boundary change) [] (change_line_named by state number boundary change) (All-nil IsNamed)
named_told by state number boundary (Bad fault) =
    All-cons IsNamed (line.Refused number boundary (fault_of fault)) [] tt (All-nil IsNamed)
named_told by state number boundary (Stop cause) = All-nil IsNamed

-- the text of a live run that was done to its end names the boundary of each of its lines
pub names_its_bounds : (by : Grounds) (posed : Posed) (cuts : List (Take Post)) → HaveNames posed.classes posed.rules → IsTrue (is_name posed.name)
    → posed.settings.steps < 2 ^ 64 → boundaries cuts ≡ range_with_len 0 (suc posed.settings.steps) → AreLines (posts_taken cuts)
    → bounds_of (live_text by cuts posed) (length (posts_taken cuts)) posed.settings.steps ≡ Ok (bounds_in cuts)
unfolding fed_text
names_its_bounds by posed cuts names named small all are =
    let feed = feed_on by in
    let steps = posed.settings.steps in
    let order = in_order_all cuts (suc steps) all in
    let count = cut_count cuts (suc steps) all in
    let legs = legs_to feed posed (lines_cut cuts) steps in
    let lines = run_lines feed posed legs in
    let marks = change_marks lines in
    let marked : marks ≡ flat_map marks_of (all_taken cuts) =
    marks_of_run feed posed marks_of (λ state one. marks_told by state one.post.line one.boundary one.post.body) (lines_cut cuts) steps
    ∙ ap (λ n. flat_map marks_of (flat_map (lines_cut cuts) (range_with_len 0 n))) (sym count)
    ∙ ap (flat_map marks_of) (taken_all cuts order) in
    let bounds : boundaries_told lines ≡ bounds_in cuts = ap (map (λ (mark : ℕ × ℕ). mark.1)) marked ∙ bounds_told cuts are.lines in
    let many : length marks ≡ length (posts_taken cuts) =
    sym (length-map marks (λ (mark : ℕ × ℕ). mark.1)) ∙ ap (λ (those : List ℕ). length those) bounds ∙ as_many cuts in
    let numbers : map (λ (mark : ℕ × ℕ). mark.0) marks ≡ range_with_len 1 (length marks) =
    ap (map (λ (mark : ℕ × ℕ). mark.0)) marked ∙ numbers_told cuts are.lines ∙ are.numbers ∙ ap (range_with_len 1) (sym many) in
    let few : length marks < 2 ^ 64 = omega (arith, many, are.few) in
    ap (λ n. bounds_of (live_text by cuts posed) n steps) (sym many)
    ∙ reads_back posed.classes posed.rules lines steps names
    (named_run feed posed (λ state one. named_told by state one.post.line one.boundary one.post.body) named legs)
    numbers
    (subst IsNonDecreasing (sym bounds) (rising_bounds cuts order))
    (subst (All (λ bound. bound ≤ steps)) (sym bounds) (within_steps cuts steps order (omega (arith, count))))
    few small
    ∙ ap (λ those. Ok those) bounds
