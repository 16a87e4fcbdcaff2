-- What went and what came, over more than one change.
use Rattle.std.proofs.Common.{◌≡◌, ℕ, ◌+◌, ◌<◌, ◌≤◌, List, [], ◌∷◌, ◌++◌, true, false, cond, get_or, refl, sym, ◌∙◌, subst, arith}
use Rattle.std.specs.Prelude.{◌≢◌, All, Contains, count_by, nat_lt}
use Rattle.std.proofs.lemmas.Bool.Decides.{Decides-ltb}
use Rattle.std.proofs.lemmas.List.Elements.{All-contains, All-head, All-tail, Contains-get_or}
use Rattle.std.proofs.lemmas.List.Sums.{sum_by-append, sum_by-cons}
use Rattle.std.proofs.lemmas.Map.Made.{is_member-Decides}
use Rattle.plan_rules.specs.declared.row.Part.{Part}
use Rattle.plan_rules.specs.Bags.{AreDifferent, Leads}
use Rattle.plan_rules.specs.Laws.{ChangesAreExact, ChangesCancel, ChangesJoin}
use Rattle.plan_rules.proofs.Rising.{Rising, rising_from_pairs}
use Rattle.plan_rules.proofs.RowEquality.{row_decides, same_row}
use Rattle.plan_rules.proofs.Sums.{list_any-counted}

pub changes_join : ChangesJoin
changes_join old gone come between gone' come' new first second = record {
  sums = λ f.
      let one = first.sums f in
      let other = second.sums f in
      omega (
        arith,
        sum_by-append f old come,
        sum_by-append f between gone,
        sum_by-append f between come',
        sum_by-append f new gone',
        sum_by-append f old (come ++ come'),
        sum_by-append f come come',
        sum_by-append f new (gone ++ gone'),
        sum_by-append f gone gone',
      );
}

pub changes_cancel : ChangesCancel
changes_cancel old gone come new row leads = record {
  sums = λ f.
      let is = leads.sums f in
      omega (arith, sum_by-append f old (row ∷ come), sum_by-append f new (row ∷ gone), sum_by-cons f row come, sum_by-cons f row gone, sum_by-append f old come, sum_by-append f new gone);
}

-- a row stands in a list exactly where it is counted there
counted : (row : List Part) (rows : List (List Part)) → Contains rows row → 0 < count_by (same_row row) rows
counted row rows there =
    (Decides-ltb 0 (count_by (same_row row) rows)).0 (sym (list_any-counted (same_row row) rows) ∙ (is_member-Decides row_decides rows row).1 there)

contained : (row : List Part) (rows : List (List Part)) → 0 < count_by (same_row row) rows → Contains rows row
contained row rows some =
    (is_member-Decides row_decides rows row).0 (list_any-counted (same_row row) rows ∙ (Decides-ltb 0 (count_by (same_row row) rows)).1 some)

-- a row unlike all of some is counted nowhere among them
none_like : (row : List Part) (rows : List (List Part)) → All (λ other. row ≢ other) rows → count_by (same_row row) rows ≡ 0
none_like row [] all = refl
none_like row (other ∷ rows) all =
    let P : List Part → Type 0 = λ other. row ≢ other in
    let rest = none_like row rows (All-tail P other rows all) in
    let whole : count_by (same_row row) (other ∷ rows) ≡ cond (same_row row other) 1 0 + count_by (same_row row) rows = sum_by-cons (λ y. cond (same_row row y) 1 0) other rows in
    elim (same_row row other) as (λ b. same_row row other ≡ b → count_by (same_row row) (other ∷ rows) ≡ cond b 1 0 + count_by (same_row row) rows → count_by (same_row row) (other ∷ rows) ≡ 0) [
      | true ↦ λ is e. absurd (All-head P other rows all ((row_decides row other).0 is))
      | false ↦ λ is e. omega arith
    ] refl whole

-- where none stands twice each row is counted once at most
once : (row : List Part) (rows : List (List Part)) → Rising (λ one other. one ≢ other) rows → count_by (same_row row) rows ≤ 1
once row [] up = omega arith
once row (other ∷ rows) up =
    let rest = once row rows (up.1) in
    let whole : count_by (same_row row) (other ∷ rows) ≡ cond (same_row row other) 1 0 + count_by (same_row row) rows = sum_by-cons (λ y. cond (same_row row y) 1 0) other rows in
    elim (same_row row other) as (λ b. same_row row other ≡ b → count_by (same_row row) (other ∷ rows) ≡ cond b 1 0 + count_by (same_row row) rows → count_by (same_row row) (other ∷ rows) ≤ 1) [
      | true ↦ λ is e.
          let same : row ≡ other = (row_decides row other).0 is in
          let none = none_like row rows (subst (λ (r : List Part). All (λ y. r ≢ y) rows) (sym same) (up.0)) in
          omega arith
      | false ↦ λ is e. omega arith
    ] refl whole

-- how often a row stands in what was and went, and in what is and came
balanced : (old gone come new : List (List Part)) (row : List Part) → Leads old gone come new
    → count_by (same_row row) old + count_by (same_row row) come ≡ count_by (same_row row) new + count_by (same_row row) gone
balanced old gone come new row leads =
    let w : List Part → ℕ = λ y. cond (same_row row y) 1 0 in
    let is = leads.sums w in
    omega (arith, sum_by-append w old come, sum_by-append w new gone)

at_most_once : (rows : List (List Part)) (row : List Part) → AreDifferent rows → count_by (same_row row) rows ≤ 1
at_most_once rows row different = once row rows (rising_from_pairs (λ one other. one ≢ other) rows different)

uncounted : (row : List Part) (rows : List (List Part)) → (Contains rows row → ⊥) → count_by (same_row row) rows ≡ 0
uncounted row rows not_there =
    elim (nat_lt 0 (count_by (same_row row) rows)) as (λ b. nat_lt 0 (count_by (same_row row) rows) ≡ b → count_by (same_row row) rows ≡ 0) [
      | true ↦ λ is. absurd (not_there (contained row rows ((Decides-ltb 0 (count_by (same_row row) rows)).0 is)))
      | false ↦ λ is. none_counted (count_by (same_row row) rows) is
    ] refl
  where
    none_counted : (n : ℕ) → nat_lt 0 n ≡ false → n ≡ 0
    none_counted n is = grind arith

pub changes_are_exact : ChangesAreExact
changes_are_exact old gone come new leads different different' apart = (
  λ k d within.
      let row = get_or gone k d in
      let is = balanced old gone come new row leads in
      let went = counted row gone (Contains-get_or gone k d within) in
      let never_came = uncounted row come (apart k d within) in
      let few = at_most_once old row different in
      let few' = at_most_once new row different' in
      (contained row old (omega arith), λ there. absurd (let some = counted row new there in omega arith)),
  λ k d within.
      let row = get_or come k d in
      let is = balanced old gone come new row leads in
      let came = counted row come (Contains-get_or come k d within) in
      let few = at_most_once old row different in
      let few' = at_most_once new row different' in
      let never_went = uncounted row gone (λ there. not_both row there (Contains-get_or come k d within)) in
      (contained row new (omega arith), λ there. absurd (let some = counted row old there in omega arith)),
)
  where
    not_both : (row : List Part) → Contains gone row → Contains come row → ⊥
    not_both row there came = All-contains (λ row. Contains come row → ⊥) gone row apart there came
