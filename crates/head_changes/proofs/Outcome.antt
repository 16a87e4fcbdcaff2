-- What is gathered once all keys are done.
use Rattle.std.proofs.Common.{◌≡◌, ◌≢◌, ◌∙◌, ◌⊎◌, inl, inr, ⊎_elim, ℕ, List, [], ◌∷◌, ◌++◌, Bool, true, false, cond, not, Some, None, sum_by, refl, sym, ap, subst, arith}
use Rattle.std.specs.Prelude.{All}
use Rattle.std.specs.List.{Contains}
use Rattle.std.specs.FinMap as finmap
use Rattle.std.proofs.lemmas.List.Elements.{Contains-append_cases, Contains-append_left, Contains-append_right}
use Rattle.std.proofs.lemmas.List.Sums.{sum_by-append}
use Rattle.plan_facts.specs.declared.record.Rec.{Rec}
use Rattle.plan_rules.specs.declared.row.Part.{Part}
use Rattle.plan_rules.specs.Bags.{AreDifferent, AreSame}
use Rattle.plan_rules.specs.Rows.{Facts}
use Rattle.plan_rules.proofs.Rising.{pairs_from_rising, rising-append, rising-filter, rising_from_pairs}
use Rattle.plan_rules.proofs.Sums.{sum_by-map}
use Rattle.stream_heads.specs.declared.cells.Cell.{Cell}
use Rattle.stream_heads.specs.declared.cells.Cell.TheVariants as cell
use Rattle.stream_heads.specs.Exact.{IsExact, is_among}
use Rattle.stream_heads.specs.Meant.{IsOneRecord, Rows, record_at, record_in}
use Rattle.stream_heads.specs.Without.{without}
use Rattle.stream_heads.proofs.Among.{among_there, there_among}
use Rattle.stream_heads.proofs.WithoutLaws.{rest_and_gone}
use Rattle.head_changes.specs.Changes.{led}
use Rattle.head_changes.specs.Takers.{AreFacts, AreTakers, HeadsHold, IsTaken, MeanFacts, Takers, heads_without, takes}
use Rattle.head_changes.proofs.Lists.{kept_there, part_there, sum_by-on, there_kept}
use Rattle.head_changes.proofs.States.{State, old_taker}
use Rattle.head_changes.proofs.Takings.{IsTaker, are_rows, rec_stays, taker_one, taker_rec, taker_stays, there_each}
use Rattle.head_changes.proofs.Without.{left_extends, left_stays, stays_at}

some_none : {X : Type 0} {x : X} → Some x ≡ None → ⊥
some_none e = cc

true_false : true ≡ false → ⊥
true_false e = cc

place_is : {p q : ℕ} → ◌≡◌ {A = List Cell} (cell.Place p ∷ []) (cell.Place q ∷ []) → p ≡ q
place_is e = cc

nothing : {X : Type 0} (xs : List X) → sum_by (λ x. 0) xs ≡ 0
nothing [] = refl
nothing (x ∷ xs) = let rest = nothing xs in let a = sum_by-append (λ x. 0) (x ∷ []) xs in omega (arith, a, rest)

module _ (before heads : Rows) (gone come takers : Takers) (facts now : Facts) (done : ℕ → Rec → Bool)
    (hold : HeadsHold before takers facts) (are : AreFacts facts) (s : State before heads gone come takers facts now done) where
  was : (class : ℕ) (nulls : Bool) (row : List Cell) → Contains (takers class nulls) row → IsTaker before class nulls row
  was class nulls row there = old_taker before heads gone come takers facts now done hold are s class nulls row there

  gone_was : (class : ℕ) (nulls : Bool) (row : List Cell) → Contains (gone class nulls) row → IsTaker before class nulls row
  gone_was class nulls row there = was class nulls row (part_there (gone class nulls) (takers class nulls) row (s.part class nulls) there)

  -- what came stood nowhere before
  none_came : (class other : ℕ) (nulls all : Bool) (row : List Cell) → Contains (come class nulls) row → IsTaker before other all row → ⊥
  none_came class other nulls all row inside t =
      let c = s.came class nulls row inside in
      some_none (sym t.there ∙ ap (finmap.get before) (place_is (sym t.is ∙ c.taker.is)) ∙ c.fresh)

  led_cases : (class : ℕ) (nulls : Bool) (row : List Cell) → Contains (led gone come takers class nulls) row
      → (Contains (takers class nulls) row × (is_among (gone class nulls) row ≡ false)) ⊎ Contains (come class nulls) row
  led_cases class nulls row inside =
      ⊎_elim
      (λ (old : Contains (without (gone class nulls) (takers class nulls)) row).
      let k = there_kept (λ r. not (is_among (gone class nulls) r)) (takers class nulls) row old in
      inl (k.0, not_is (is_among (gone class nulls) row) (k.1)))
      (λ (new : Contains (come class nulls) row). inr new)
      (Contains-append_cases (without (gone class nulls) (takers class nulls)) (come class nulls) row inside) where
        not_is : (b : Bool) → not b ≡ true → b ≡ false
        not_is true e = absurd (true_false (sym e))
        not_is false e = refl

  led_taker : (class : ℕ) (nulls : Bool) (row : List Cell) → Contains (led gone come takers class nulls) row → IsTaker heads class nulls row
  led_taker class nulls row inside =
      ⊎_elim
      (λ (old : Contains (takers class nulls) row × (is_among (gone class nulls) row ≡ false)). taker_stays (was class nulls row (old.0)) heads s.extends)
      (λ (new : Contains (come class nulls) row). (s.came class nulls row new).taker)
      (led_cases class nulls row inside)

  -- those that take part later didn't go
  led_stays : (class other : ℕ) (nulls : Bool) (row : List Cell) → Contains (led gone come takers class nulls) row → Contains (gone other true) row → ⊥
  led_stays class other nulls row inside out =
      let t = led_taker class nulls row inside in
      let g = taker_stays (gone_was other true row out) heads s.extends in
      let same : other ≡ class = sym g.classed ∙ ap (λ (r : Rec). r.class) (sym (taker_rec g) ∙ taker_rec t) ∙ t.classed in
      let here : Contains (gone class true) row = subst (λ (c : ℕ). Contains (gone c true) row) same out in
      let each = (s.went class true row here).each nulls (ap (takes nulls) (taker_rec t) ∙ t.taken) in
      ⊎_elim
      (λ (old : Contains (takers class nulls) row × (is_among (gone class nulls) row ≡ false)). true_false (sym (among_there (gone class nulls) row each) ∙ old.1))
      (λ (new : Contains (come class nulls) row). none_came class class nulls nulls row new (gone_was class nulls row each))
      (led_cases class nulls row inside)

  -- with those that went they are all
  whole : (class : ℕ) (nulls : Bool) → AreSame (takers class nulls) (without (gone class nulls) (takers class nulls) ++ gone class nulls)
  whole class nulls = rest_and_gone (gone class nulls) (takers class nulls) (rising_from_pairs (λ one other. one ≢ other) (takers class nulls) (hold.takers_are class nulls).different) (s.part class nulls)

  pub led_exact : (class : ℕ) (nulls : Bool) → IsExact (takers class nulls) (gone class nulls) (come class nulls) (led gone come takers class nulls)
  led_exact class nulls = record {
    leads = record {
      sums = λ f.
          let a = (whole class nulls).sums f in
          let rest = without (gone class nulls) (takers class nulls) in
          omega (arith, a, sum_by-append f rest (gone class nulls), sum_by-append f (takers class nulls) (come class nulls), sum_by-append f rest (come class nulls), sum_by-append f (rest ++ come class nulls) (gone class nulls));
    };
    there = s.part class nulls;
    fresh =
        sum_by-on (λ row. cond {A = ℕ} (is_among (takers class nulls) row) 1 0) (λ row. 0) (come class nulls) (λ row inside.
        elim (is_among (takers class nulls) row) as (λ b. is_among (takers class nulls) row ≡ b → cond {A = ℕ} b 1 0 ≡ 0) [
          | true ↦ λ is. absurd (none_came class class nulls nulls row inside (was class nulls row (there_among (takers class nulls) row is)))
          | false ↦ λ is. refl
        ] refl)
        ∙ nothing (come class nulls);
  }

  different : (class : ℕ) (nulls : Bool) → AreDifferent (led gone come takers class nulls)
  different class nulls =
      let rest = without (gone class nulls) (takers class nulls) in
      pairs_from_rising (λ one other. one ≢ other) (rest ++ come class nulls)
      (rising-append (λ one other. one ≢ other) rest (come class nulls)
      (rising-filter (λ one other. one ≢ other) (λ r. not (is_among (gone class nulls) r)) (takers class nulls) (rising_from_pairs (λ one other. one ≢ other) (takers class nulls) (hold.takers_are class nulls).different))
      (s.different class nulls)
      (there_each (λ one. All (λ other. one ≢ other) (come class nulls)) rest (λ one inside.
      there_each (λ other. one ≢ other) (come class nulls) (λ other new e.
      none_came class class nulls nulls other new (subst (λ (r : List Cell). IsTaker before class nulls r) e (was class nulls one (there_kept (λ r. not (is_among (gone class nulls) r)) (takers class nulls) one inside).0))))))

  module _ (on : Rows) (each : (class : ℕ) (nulls : Bool) (row : List Cell) → Contains (led gone come takers class nulls) row → IsTaker on class nulls row)
      (same : (class : ℕ) (nulls : Bool) (row : List Cell) → Contains (led gone come takers class nulls) row → record_at on row ≡ record_at heads row) where
    takers_on : AreTakers on (led gone come takers)
    takers_on class nulls = are_rows on class nulls (led gone come takers class nulls) (each class nulls) (different class nulls)

    mean_on : MeanFacts on (led gone come takers) now
    mean_on = record {
      records = λ class nulls. there_each (IsOneRecord on) (led gone come takers class nulls) (λ row inside. taker_one (each class nulls row inside));
      same = λ class nulls. record {
        sums = λ f.
            let w : List Cell → ℕ = λ row. f (record_at heads row) in
            let rest = without (gone class nulls) (takers class nulls) in
            let a = sum_by-map f (record_at on) (led gone come takers class nulls) in
            let b = sum_by-on (λ row. f (record_at on row)) w (led gone come takers class nulls) (λ row inside. ap f (same class nulls row inside)) in
            let c = sum_by-append w rest (come class nulls) in
            let d = (whole class nulls).sums w in
            let e = sum_by-append w rest (gone class nulls) in
            let g = s.weighs class nulls f in
            omega (arith, a, b, c, d, e, g);
      };
    }

  pub led_takers : AreTakers heads (led gone come takers)
  led_takers = takers_on heads led_taker (λ class nulls row inside. refl)

  pub led_mean : MeanFacts heads (led gone come takers) now
  led_mean = mean_on heads led_taker (λ class nulls row inside. refl)

  pub came_changed : (class : ℕ) (nulls : Bool) (row : List Cell) → Contains (come class nulls) row → Contains (facts class) (record_at heads row) → ⊥
  came_changed class nulls row inside there = let c = s.came class nulls row inside in c.changed (subst (λ (r : Rec). Contains (facts class) r) (taker_rec c.taker) there)

  module _ (rows : List (List Cell)) (all_out : (class : ℕ) (row : List Cell) → Contains (gone class true) row → Contains rows row)
      (only_out : (row : List Cell) → Contains rows row → (class : ℕ) × Contains (gone class true) row) where
    stays_there : (class : ℕ) (nulls : Bool) (row : List Cell) → Contains (led gone come takers class nulls) row → is_among rows row ≡ false
    stays_there class nulls row inside = elim (is_among rows row) as (λ b. is_among rows row ≡ b → b ≡ false) [
      | true ↦ λ is. let out = only_out row (there_among rows row is) in absurd (led_stays class (out.0) nulls row inside (out.1))
      | false ↦ λ is. refl
    ] refl

    taker_left : (class : ℕ) (nulls : Bool) (row : List Cell) → Contains (led gone come takers class nulls) row → IsTaker (heads_without rows heads) class nulls row
    taker_left class nulls row inside =
        let t = led_taker class nulls row inside in
        record {
          place = t.place;
          rec = t.rec;
          is = t.is;
          there = stays_at rows heads t.place (ap (is_among rows) (sym t.is) ∙ stays_there class nulls row inside) ∙ t.there;
          classed = t.classed;
          taken = t.taken;
        }

    same_left : (class : ℕ) (nulls : Bool) (row : List Cell) → Contains (led gone come takers class nulls) row → record_at (heads_without rows heads) row ≡ record_at heads row
    same_left class nulls row inside = sym (rec_stays (taker_left class nulls row inside) heads (left_extends rows heads))

    all_left : (place : ℕ) (row : List Part) → finmap.get (heads_without rows heads) place ≡ Some row → IsTaken (led gone come takers) place (record_in row)
    all_left place row is nulls taken =
        let cells = cell.Place place ∷ [] in
        let class = (record_in row).class in
        let stays = left_stays rows heads place row is in
        let there = sym (stays_at rows heads place stays) ∙ is in
        let rest = without (gone class nulls) (takers class nulls) in
        ⊎_elim
        (λ (old : finmap.get before place ≡ Some row).
        let apart : not (is_among (gone class nulls) cells) ≡ true = elim (is_among (gone class nulls) cells) as (λ b. is_among (gone class nulls) cells ≡ b → not b ≡ true) [
          | true ↦ λ out. absurd (true_false (sym (among_there rows cells (all_out class cells ((s.went class nulls cells (there_among (gone class nulls) cells out)).each true refl))) ∙ stays))
          | false ↦ λ out. refl
        ] refl in
        Contains-append_left rest (come class nulls) cells (kept_there (λ r. not (is_among (gone class nulls) r)) (takers class nulls) cells (hold.all place row old nulls taken) apart))
        (λ (new : IsTaken come place (record_in row)). Contains-append_right rest (come class nulls) cells (new nulls taken))
        (s.all place row there)

    -- the heads hold just the later facts once those that went are let go
    pub hold_left : HeadsHold (heads_without rows heads) (led gone come takers) now
    hold_left = record {
      takers_are = takers_on (heads_without rows heads) taker_left same_left;
      mean = mean_on (heads_without rows heads) taker_left same_left;
      all = all_left;
    }
