-- Where the heads stand while a change of facts is gathered.
use Rattle.std.proofs.Common.{◌≡◌, ◌≢◌, ◌+◌, ◌∙◌, ◌==◌, ◌&&◌, ◌⊎◌, inl, inr, ⊎_elim, ℕ, suc, List, [], ◌∷◌, ◌++◌, Bool, true, false, cond, not, Some, None, is_some, sum_by, refl, sym, ap, subst, arith}
use Rattle.std.specs.Prelude.{All}
use Rattle.std.specs.List.{Contains}
use Rattle.std.specs.FinMap as finmap
use Rattle.std.proofs.lemmas.Bool.{cases_eq}
use Rattle.std.proofs.lemmas.Bool.Decides.{Decides-eqb}
use Rattle.std.proofs.lemmas.List.Elements.{All-cons, All-nil, Contains-append_cases, Contains-append_left, Contains-append_right}
use Rattle.std.proofs.lemmas.List.Sums.{sum_by-append, sum_by-cons}
use Rattle.plan_facts.specs.declared.record.Rec.{Rec}
use Rattle.plan_rules.specs.declared.row.Part.{Part}
use Rattle.plan_rules.specs.Bags.{AreSame}
use Rattle.plan_rules.specs.Rows as rows
use Rattle.plan_rules.specs.Rows.{Facts, is_placed, row_of}
use Rattle.plan_rules.proofs.Rising.{Rising, rising-append, rising_from_pairs}
use Rattle.plan_rules.proofs.Sums.{same-filter, sum_by-filter}
use Rattle.tuple_store.proofs.MapLaws.{put_other, put_there}
use Rattle.stream_heads.specs.declared.cells.Cell.{Cell}
use Rattle.stream_heads.specs.declared.cells.Cell.TheVariants as cell
use Rattle.stream_heads.specs.Bags.{IsPartOf}
use Rattle.stream_heads.specs.Exact.{is_among}
use Rattle.stream_heads.specs.Meant.{Extends, Rows, record_at, record_in}
use Rattle.stream_heads.specs.Without.{without}
use Rattle.stream_heads.proofs.Among.{there_among}
use Rattle.stream_heads.proofs.Meanings.{extends-add}
use Rattle.stream_heads.proofs.WithoutLaws.{rest_and_gone}
use Rattle.head_changes.specs.Takers.{AreFacts, HeadsHold, IsTaken, Takers, takes}
use Rattle.head_changes.proofs.Lists.{kept_there, none_there, one-le-all, one_cases, first_there, part_there, sum_by-on}
use Rattle.head_changes.proofs.Takings.{IsTaker, held_taker, means_rec, rec_stays, taker_stays}

-- a row that went: its record's key is done, and it went of each kind that its record takes part in
pub record Went (heads : Rows) (gone : Takers) (done : ℕ → Rec → Bool) (class : ℕ) (row : List Cell) : Type 0 where
  pub finished : done class (record_at heads row) ≡ true
  pub each : (nulls : Bool) → takes nulls (record_at heads row) ≡ true → Contains (gone class nulls) row

-- a row that came: its place is new, its record's key is done, and the record wasn't one of the facts
pub record Came (before heads : Rows) (facts : Facts) (done : ℕ → Rec → Bool) (class : ℕ) (nulls : Bool) (row : List Cell) : Type 0 where
  pub taker : IsTaker heads class nulls row
  pub fresh : finmap.get before taker.place ≡ None
  pub finished : done class taker.rec ≡ true
  pub changed : Contains (facts class) taker.rec → ⊥

-- some of the keys are done: the facts are now these
pub record State (before heads : Rows) (gone come takers : Takers) (facts now : Facts) (done : ℕ → Rec → Bool) : Type 0 where
  pub extends : Extends before heads
  pub part : (class : ℕ) (nulls : Bool) → IsPartOf (gone class nulls) (takers class nulls)
  pub went : (class : ℕ) (nulls : Bool) (row : List Cell) → Contains (gone class nulls) row → Went heads gone done class row
  pub came : (class : ℕ) (nulls : Bool) (row : List Cell) → Contains (come class nulls) row → Came before heads facts done class nulls row
  pub different : (class : ℕ) (nulls : Bool) → Rising (λ (one other : List Cell). one ≢ other) (come class nulls)
  pub weighs : (class : ℕ) (nulls : Bool) (f : Rec → ℕ)
      → sum_by (λ row. f (record_at heads row)) (takers class nulls) + sum_by (λ row. f (record_at heads row)) (come class nulls)
      ≡ sum_by (λ row. f (record_at heads row)) (gone class nulls) + sum_by f (rows.takers now class nulls)
  pub all : (place : ℕ) (row : List Part) → finmap.get heads place ≡ Some row
      → (finmap.get before place ≡ Some row) ⊎ IsTaken come place (record_in row)

-- the row of a place, where the record under it is of this class and takes part
abbrev pub extra : Rec → ℕ → ℕ → Bool → List (List Cell)
extra rec place class nulls = cond ((rec.class == class) && takes nulls rec) ((cell.Place place ∷ []) ∷ []) []

-- the record, where it is of this class
abbrev pub of_class : Rec → ℕ → List Rec
of_class rec class = cond (rec.class == class) (rec ∷ []) []

-- what the records that take part weigh with one more
extra_weighs : (f : Rec → ℕ) (rec : Rec) (class : ℕ) (nulls : Bool) (more less : Facts) → AreSame (more class) (less class ++ of_class rec class)
    → sum_by f (rows.takers more class nulls) ≡ sum_by f (rows.takers less class nulls) + cond {A = ℕ} ((rec.class == class) && takes nulls rec) (f rec) 0
extra_weighs f rec class true more less same =
    let a = same.sums f in
    let b = sum_by-append f (less class) (of_class rec class) in
    let c : sum_by f (of_class rec class) ≡ cond {A = ℕ} ((rec.class == class) && true) (f rec) 0 = elim (rec.class == class) as (λ b. sum_by f (cond b (rec ∷ []) []) ≡ cond {A = ℕ} (b && true) (f rec) 0) [
      | true ↦ (let e = sum_by-cons f rec [] in omega (arith, e))
      | false ↦ refl
    ] in
    omega (arith, a, b, c)
extra_weighs f rec class false more less same =
    let w : Rec → ℕ = λ r. cond {A = ℕ} (is_placed r) (f r) 0 in
    let a = same.sums w in
    let b = sum_by-append w (less class) (of_class rec class) in
    let c : sum_by w (of_class rec class) ≡ cond {A = ℕ} ((rec.class == class) && is_placed rec) (f rec) 0 = elim (rec.class == class) as (λ b. sum_by w (cond b (rec ∷ []) []) ≡ cond {A = ℕ} (b && is_placed rec) (f rec) 0) [
      | true ↦ (let e = sum_by-cons w rec [] in omega (arith, e))
      | false ↦ refl
    ] in
    let d = sum_by-filter f is_placed (more class) in
    let e = sum_by-filter f is_placed (less class) in
    omega (arith, a, b, c, d, e)

takers_same : (f : Rec → ℕ) (class : ℕ) (nulls : Bool) (one other : Facts) → AreSame (one class) (other class) → sum_by f (rows.takers one class nulls) ≡ sum_by f (rows.takers other class nulls)
takers_same f class true one other same = same.sums f
takers_same f class false one other same = (same-filter is_placed (one class) (other class) same).sums f

row_weighs : (f : Rec → ℕ) (heads : Rows) (rec : Rec) (place : ℕ) (b : Bool) → finmap.get heads place ≡ Some (row_of rec)
    → sum_by (λ row. f (record_at heads row)) (cond b ((cell.Place place ∷ []) ∷ []) []) ≡ cond {A = ℕ} b (f rec) 0
row_weighs f heads rec place true there =
    let a = sum_by-cons (λ (row : List Cell). f (record_at heads row)) (cell.Place place ∷ []) [] in
    let b : f (record_at heads (cell.Place place ∷ [])) ≡ f rec = rw (means_rec heads place rec there) refl in
    omega (arith, a, b)
row_weighs f heads rec place false there = refl

-- what the rows of a place are
pub record Extra (rec : Rec) (place class : ℕ) (nulls : Bool) (row : List Cell) : Type 0 where
  pub is : row ≡ cell.Place place ∷ []
  pub of : rec.class ≡ class
  pub taken : takes nulls rec ≡ true

and-first : (a b : Bool) → (a && b) ≡ true → a ≡ true
and-first true b t = refl
and-first false b t = t

and-second : (a b : Bool) → (a && b) ≡ true → b ≡ true
and-second true b t = t
and-second false b t = absurd (no_true t) where
  no_true : false ≡ true → ⊥
  no_true e = cc

pub extra_there : (rec : Rec) (place class : ℕ) (nulls : Bool) (row : List Cell) → Contains (extra rec place class nulls) row → Extra rec place class nulls row
extra_there rec place class nulls row there =
    elim ((rec.class == class) && takes nulls rec) as (λ b. ((rec.class == class) && takes nulls rec) ≡ b → Contains (cond b ((cell.Place place ∷ []) ∷ []) []) row → Extra rec place class nulls row) [
      | true ↦ λ is inside. record {
        is = sym (one_cases (cell.Place place ∷ []) row inside);
        of = (Decides-eqb rec.class class).0 (and-first (rec.class == class) (takes nulls rec) is);
        taken = and-second (rec.class == class) (takes nulls rec) is;
      }
      | false ↦ λ is inside. absurd (none_there row inside)
    ] refl there

pub there_extra : (rec : Rec) (place : ℕ) (nulls : Bool) → takes nulls rec ≡ true → Contains (extra rec place rec.class nulls) (cell.Place place ∷ [])
there_extra rec place nulls taken =
    let own : (rec.class == rec.class) ≡ true = (Decides-eqb rec.class rec.class).1 refl in
    rw (own, taken) (first_there (cell.Place place ∷ []) [])

true_false : true ≡ false → ⊥
true_false e = cc

some_none : {X : Type 0} {x : X} → Some x ≡ None → ⊥
some_none e = cc

some_is : {X : Type 0} {x y : X} → Some x ≡ Some y → x ≡ y
some_is e = cc

pub extends_on : (a b c : Rows) → Extends a b → Extends b c → Extends a c
extends_on a b c one other = λ n live. let e = one n live in other n (ap is_some e ∙ live) ∙ e

row_rec : {one other : Rec} → row_of one ≡ row_of other → one ≡ other
row_rec e = ap record_in e

place_is : {p q : ℕ} → ◌≡◌ {A = List Cell} (cell.Place p ∷ []) (cell.Place q ∷ []) → p ≡ q
place_is e = cc

-- none of these rows is the other one
apart_from : (row : List Cell) (rows : List (List Cell)) → (Contains rows row → ⊥) → All (λ one. All (λ other. one ≢ other) (row ∷ [])) rows
apart_from row [] none = All-nil _
apart_from row (one ∷ rows) none =
    All-cons (λ one. All (λ other. one ≢ other) (row ∷ [])) one rows
    (All-cons (λ other. one ≢ other) row [] (λ e. none (0, omega arith, e)) (All-nil _))
    (apart_from row rows (λ there. none (rest there))) where
      rest : Contains rows row → Contains (one ∷ rows) row
      rest (k, within, is) = (suc k, omega (arith, within), is)

module _ (before heads : Rows) (gone come takers : Takers) (facts now : Facts) (done : ℕ → Rec → Bool)
    (hold : HeadsHold before takers facts) (are : AreFacts facts) (s : State before heads gone come takers facts now done) where
  pub old_taker : (class : ℕ) (nulls : Bool) (row : List Cell) → Contains (takers class nulls) row → IsTaker before class nulls row
  old_taker class nulls row there = held_taker before takers facts hold are class nulls row there

  -- nothing goes and nothing comes
  pub state_on : (later : Facts) (all_done : ℕ → Rec → Bool) → ((class : ℕ) (rec : Rec) → done class rec ≡ true → all_done class rec ≡ true)
      → ((class : ℕ) → AreSame (now class) (later class)) → State before heads gone come takers facts later all_done
  state_on later all_done more same = record {
    extends = s.extends;
    part = s.part;
    went = λ class nulls row there. let w = s.went class nulls row there in record { finished = more class (record_at heads row) w.finished; each = w.each };
    came = λ class nulls row there. let c = s.came class nulls row there in record { taker = c.taker; fresh = c.fresh; finished = more class c.taker.rec c.finished; changed = c.changed };
    different = s.different;
    weighs = λ class nulls f. let a = s.weighs class nulls f in let b = takers_same f class nulls now later (same class) in omega (arith, a, b);
    all = s.all;
  }

  -- a row whose record's key isn't done went not yet
  not_gone : (class : ℕ) (nulls : Bool) (place : ℕ) (rec : Rec) → finmap.get heads place ≡ Some (row_of rec) → done class rec ≡ false → Contains (gone class nulls) (cell.Place place ∷ []) → ⊥
  not_gone class nulls place rec there not_done inside =
      let w = s.went class nulls (cell.Place place ∷ []) inside in
      let is : record_at heads (cell.Place place ∷ []) ≡ rec = rw (means_rec heads place rec there) refl in
      true_false (sym w.finished ∙ ap (done class) is ∙ not_done)

  -- a row that is there and didn't go yet may go
  part_more : (class : ℕ) (nulls : Bool) (row : List Cell) → Contains (takers class nulls) row → (Contains (gone class nulls) row → ⊥) → IsPartOf (gone class nulls ++ row ∷ []) (takers class nulls)
  part_more class nulls row there stays =
      let old = takers class nulls in
      let out = gone class nulls in
      let apart : not (is_among out row) ≡ true = elim (is_among out row) as (λ b. is_among out row ≡ b → not b ≡ true) [
        | true ↦ λ is. absurd (stays (there_among out row is))
        | false ↦ λ is. refl
      ] refl in
      let kept = kept_there (λ r. not (is_among out r)) old row there apart in
      let whole = rest_and_gone out old (rising_from_pairs (λ one other. one ≢ other) old (hold.takers_are class nulls).different) (s.part class nulls) in
      record {
        sums = λ f.
            let a = one-le-all f (without out old) row kept in
            let b = whole.sums f in
            omega (arith, a, b, sum_by-append f (without out old) out, sum_by-append f out (row ∷ []), sum_by-cons f row []);
      }

  module _ (place : ℕ) (rec : Rec) (all_done : ℕ → Rec → Bool) (done_on : (class : ℕ) (r : Rec) → done class r ≡ true → all_done class r ≡ true) where
    module _ (out : Takers) (later : Facts) (there : finmap.get heads place ≡ Some (row_of rec)) (not_done : done rec.class rec ≡ false) (now_done : all_done rec.class rec ≡ true)
        (held : (nulls : Bool) → takes nulls rec ≡ true → Contains (takers rec.class nulls) (cell.Place place ∷ []))
        (goes : (class : ℕ) (nulls : Bool) → out class nulls ≡ gone class nulls ++ extra rec place class nulls)
        (less : (class : ℕ) → AreSame (now class) (later class ++ of_class rec class)) where
      left_part : (class : ℕ) (nulls : Bool) → IsPartOf (out class nulls) (takers class nulls)
      left_part class nulls =
          rw (goes class nulls)
          (elim ((rec.class == class) && takes nulls rec) as (λ b. ((rec.class == class) && takes nulls rec) ≡ b → IsPartOf (gone class nulls ++ cond b ((cell.Place place ∷ []) ∷ []) []) (takers class nulls)) [
            | true ↦ λ is.
                let class_is : rec.class ≡ class = (Decides-eqb rec.class class).0 (and-first (rec.class == class) (takes nulls rec) is) in
                let taken = and-second (rec.class == class) (takes nulls rec) is in
                part_more class nulls (cell.Place place ∷ [])
                (subst (λ (c : ℕ). Contains (takers c nulls) (cell.Place place ∷ [])) class_is (held nulls taken))
                (not_gone class nulls place rec there (subst (λ (c : ℕ). done c rec ≡ false) class_is not_done))
            | false ↦ λ is. record { sums = λ f. let a = (s.part class nulls).sums f in let b = sum_by-append f (gone class nulls) [] in let c : sum_by f [] ≡ 0 = refl in omega (arith, a, b, c) }
          ] refl)

      left_went : (class : ℕ) (nulls : Bool) (row : List Cell) → Contains (out class nulls) row → Went heads out all_done class row
      left_went class nulls row inside =
          ⊎_elim
          (λ (old : Contains (gone class nulls) row).
          let w = s.went class nulls row old in
          record {
            finished = done_on class (record_at heads row) w.finished;
            each = λ others taken. rw (goes class others) (Contains-append_left (gone class others) (extra rec place class others) row (w.each others taken));
          })
          (λ (new : Contains (extra rec place class nulls) row).
          let e = extra_there rec place class nulls row new in
          let means : record_at heads row ≡ rec = rw (e.is, means_rec heads place rec there) refl in
          record {
            finished = ap (all_done class) means ∙ subst (λ (c : ℕ). all_done c rec ≡ true) e.of now_done;
            each = λ others taken.
                rw (goes class others)
                (Contains-append_right (gone class others) (extra rec place class others) row
                (subst (λ (r : List Cell). Contains (extra rec place class others) r) (sym e.is)
                (subst (λ (c : ℕ). Contains (extra rec place c others) (cell.Place place ∷ [])) e.of
                (there_extra rec place others (sym (ap (takes others) means) ∙ taken)))));
          })
          (Contains-append_cases (gone class nulls) (extra rec place class nulls) row (subst (λ (rs : List (List Cell)). Contains rs row) (goes class nulls) inside))

      -- a record goes
      pub state_left : State before heads out come takers facts later all_done
      state_left = record {
        extends = s.extends;
        part = left_part;
        went = left_went;
        came = λ class nulls row inside. let c = s.came class nulls row inside in record { taker = c.taker; fresh = c.fresh; finished = done_on class c.taker.rec c.finished; changed = c.changed };
        different = s.different;
        weighs = λ class nulls f.
            let w : List Cell → ℕ = λ row. f (record_at heads row) in
            let a = s.weighs class nulls f in
            let b = extra_weighs f rec class nulls now later (less class) in
            let c = row_weighs f heads rec place ((rec.class == class) && takes nulls rec) there in
            let d : sum_by w (out class nulls) ≡ sum_by w (gone class nulls) + sum_by w (extra rec place class nulls) = ap (sum_by w) (goes class nulls) ∙ sum_by-append w (gone class nulls) (extra rec place class nulls) in
            omega (arith, a, b, c, d);
        all = s.all;
      }

    module _ (heads_on : Rows) (entered : Takers) (later : Facts) (free : finmap.get heads place ≡ None) (heads_are : heads_on ≡ finmap.insert heads place (row_of rec)) (now_done : all_done rec.class rec ≡ true)
        (changed : Contains (facts rec.class) rec → ⊥)
        (comes : (class : ℕ) (nulls : Bool) → entered class nulls ≡ come class nulls ++ extra rec place class nulls)
        (more : (class : ℕ) → AreSame (later class) (now class ++ of_class rec class)) where
      extended : Extends heads heads_on
      extended = extends-add heads heads_on place (row_of rec) free heads_are

      there_now : finmap.get heads_on place ≡ Some (row_of rec)
      there_now = put_there heads heads_on place (row_of rec) heads_are

      free_before : finmap.get before place ≡ None
      free_before = elim (finmap.get before place) as (λ o. finmap.get before place ≡ o → o ≡ None) [
        | None ↦ λ is. refl
        | Some r ↦ λ is. absurd (some_none (sym (s.extends place (ap is_some is) ∙ is) ∙ free))
      ] refl

      came_on : (class : ℕ) (nulls : Bool) (row : List Cell) → Contains (entered class nulls) row → Came before heads_on facts all_done class nulls row
      came_on class nulls row inside =
          ⊎_elim
          (λ (old : Contains (come class nulls) row).
          let c = s.came class nulls row old in
          let t = c.taker in
          record {
            taker = record { place = t.place; rec = t.rec; is = t.is; there = extended t.place (ap is_some t.there) ∙ t.there; classed = t.classed; taken = t.taken };
            fresh = c.fresh;
            finished = done_on class t.rec c.finished;
            changed = c.changed;
          })
          (λ (new : Contains (extra rec place class nulls) row).
          let e = extra_there rec place class nulls row new in
          record {
            taker = record { place = place; rec = rec; is = e.is; there = there_now; classed = e.of; taken = e.taken };
            fresh = free_before;
            finished = subst (λ (c : ℕ). all_done c rec ≡ true) e.of now_done;
            changed = subst (λ (c : ℕ). Contains (facts c) rec → ⊥) e.of changed;
          })
          (Contains-append_cases (come class nulls) (extra rec place class nulls) row (subst (λ (rs : List (List Cell)). Contains rs row) (comes class nulls) inside))

      no_place : (class : ℕ) (nulls : Bool) → Contains (come class nulls) (cell.Place place ∷ []) → ⊥
      no_place class nulls inside =
          let c = (s.came class nulls (cell.Place place ∷ []) inside).taker in
          some_none (sym c.there ∙ ap (finmap.get heads) (sym (place_is c.is)) ∙ free)

      different_on : (class : ℕ) (nulls : Bool) → Rising (λ (one other : List Cell). one ≢ other) (entered class nulls)
      different_on class nulls =
          rw (comes class nulls)
          (elim ((rec.class == class) && takes nulls rec) as (λ b. Rising (λ (one other : List Cell). one ≢ other) (come class nulls ++ cond b ((cell.Place place ∷ []) ∷ []) [])) [
            | true ↦ rising-append (λ (one other : List Cell). one ≢ other) (come class nulls) ((cell.Place place ∷ []) ∷ []) (s.different class nulls) (All-nil _, tt) (apart_from (cell.Place place ∷ []) (come class nulls) (no_place class nulls))
            | false ↦ rising-append (λ (one other : List Cell). one ≢ other) (come class nulls) [] (s.different class nulls) tt (nothing_apart (come class nulls))
          ]) where
            nothing_apart : (rows : List (List Cell)) → All (λ one. All (λ other. one ≢ other) []) rows
            nothing_apart [] = All-nil _
            nothing_apart (row ∷ rows) = All-cons (λ one. All (λ other. one ≢ other) []) row rows (All-nil _) (nothing_apart rows)

      gone_taker : (class : ℕ) (nulls : Bool) (row : List Cell) → Contains (gone class nulls) row → IsTaker heads class nulls row
      gone_taker class nulls row inside = taker_stays (old_taker class nulls row (part_there (gone class nulls) (takers class nulls) row (s.part class nulls) inside)) heads s.extends

      weighs_on : (class : ℕ) (nulls : Bool) (f : Rec → ℕ)
          → sum_by (λ row. f (record_at heads_on row)) (takers class nulls) + sum_by (λ row. f (record_at heads_on row)) (entered class nulls)
          ≡ sum_by (λ row. f (record_at heads_on row)) (gone class nulls) + sum_by f (rows.takers later class nulls)
      weighs_on class nulls f =
          let w : List Cell → ℕ = λ row. f (record_at heads_on row) in
          let v : List Cell → ℕ = λ row. f (record_at heads row) in
          let a = s.weighs class nulls f in
          let b = extra_weighs f rec class nulls later now (more class) in
          let c = row_weighs f heads_on rec place ((rec.class == class) && takes nulls rec) there_now in
          let d : sum_by w (entered class nulls) ≡ sum_by w (come class nulls) + sum_by w (extra rec place class nulls) = ap (sum_by w) (comes class nulls) ∙ sum_by-append w (come class nulls) (extra rec place class nulls) in
          let e = sum_by-on w v (takers class nulls) (λ row inside. ap f (rec_stays (taker_stays (old_taker class nulls row inside) heads s.extends) heads_on extended)) in
          let g = sum_by-on w v (come class nulls) (λ row inside. ap f (rec_stays (s.came class nulls row inside).taker heads_on extended)) in
          let h = sum_by-on w v (gone class nulls) (λ row inside. ap f (rec_stays (gone_taker class nulls row inside) heads_on extended)) in
          omega (arith, a, b, c, d, e, g, h)

      all_on : (at : ℕ) (row : List Part) → finmap.get heads_on at ≡ Some row → (finmap.get before at ≡ Some row) ⊎ IsTaken entered at (record_in row)
      all_on at row is =
          ⊎_elim
          (λ (same : at ≡ place).
          let means : row ≡ row_of rec = some_is (sym is ∙ ap (finmap.get heads_on) same ∙ there_now) in
          let rec_is : record_in row ≡ rec = ap record_in means in
          inr (λ nulls taken.
          rw (rec_is, same, comes rec.class nulls)
          (Contains-append_right (come rec.class nulls) (extra rec place rec.class nulls) (cell.Place place ∷ []) (there_extra rec place nulls (sym (ap (takes nulls) rec_is) ∙ taken)))))
          (λ apart.
          ⊎_elim
          (λ (old : finmap.get before at ≡ Some row). inl old)
          (λ (new : IsTaken come at (record_in row)).
          inr (λ nulls taken.
          rw (comes (record_in row).class nulls)
          (Contains-append_left (come (record_in row).class nulls) (extra rec place (record_in row).class nulls) (cell.Place at ∷ []) (new nulls taken))))
          (s.all at row (sym (put_other heads heads_on place (row_of rec) heads_are at apart) ∙ is)))
          (cases_eq at place)

      -- a record comes
      pub state_came : State before heads_on gone entered takers facts later all_done
      state_came = record {
        extends = extends_on before heads heads_on s.extends extended;
        part = s.part;
        went = λ class nulls row inside.
            let w = s.went class nulls row inside in
            let same = rec_stays (gone_taker class nulls row inside) heads_on extended in
            record {
              finished = ap (all_done class) same ∙ done_on class (record_at heads row) w.finished;
              each = λ others taken. w.each others (sym (ap (takes others) same) ∙ taken);
            };
        came = came_on;
        different = different_on;
        weighs = weighs_on;
        all = all_on;
      }
