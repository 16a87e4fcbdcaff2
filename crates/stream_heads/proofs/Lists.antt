-- Lists that go or come, member by member.
use Rattle.std.proofs.Common.{◌≡◌, ◌<◌, ◌+◌, ℕ, List, [], ◌∷◌, ◌++◌, take, get_or, length, sum_by, sym, subst, arith}
use Rattle.std.proofs.lemmas.List.{take_more}
use Rattle.std.proofs.lemmas.List.Sums.{sum_by-append, sum_by-cons, sum_by_more_le}
use Rattle.plan_rules.specs.Bags.{AreSame}
use Rattle.stream_heads.specs.Bags.{IsPartOf}

module _ {X : Type 0} (rows old now new : List X) (n : ℕ) (d : X) (within : n < length rows) where
  one : (f : X → ℕ) → sum_by f (get_or rows n d ∷ []) ≡ f (get_or rows n d)
  one f = let a = sum_by-cons f (get_or rows n d) [] in omega (arith, a)

  more : (f : X → ℕ) → sum_by f (take (n + 1) rows) ≡ sum_by f (take n rows) + f (get_or rows n d)
  more f = rw (take_more rows n d within) (let a = sum_by-append f (take n rows) (get_or rows n d ∷ []) in let b = one f in omega (arith, a, b))

  -- the next of the rows that go is there
  pub next_there : IsPartOf rows old → AreSame old (now ++ take n rows) → IsPartOf (get_or rows n d ∷ []) now
  next_there part same = record {
    sums = λ f.
        let a = part.sums f in
        let b = same.sums f in
        let c = sum_by-append f now (take n rows) in
        let e = sum_by_more_le f rows n d within in
        let g = one f in
        omega (arith, a, b, c, e, g);
  }

  -- one more is gone
  pub gone_more : AreSame old (now ++ take n rows) → AreSame now (new ++ get_or rows n d ∷ []) → AreSame old (new ++ take (n + 1) rows)
  gone_more same next = record {
    sums = λ f.
        let a = same.sums f in
        let b = next.sums f in
        let c = sum_by-append f now (take n rows) in
        let e = sum_by-append f new (get_or rows n d ∷ []) in
        let g = sum_by-append f new (take (n + 1) rows) in
        let h = one f in
        let i = more f in
        omega (arith, a, b, c, e, g, h, i);
  }

  -- one more has come
  pub come_more : AreSame now (old ++ take n rows) → AreSame new (now ++ get_or rows n d ∷ []) → AreSame new (old ++ take (n + 1) rows)
  come_more same next = record {
    sums = λ f.
        let a = same.sums f in
        let b = next.sums f in
        let c = sum_by-append f old (take n rows) in
        let e = sum_by-append f now (get_or rows n d ∷ []) in
        let g = sum_by-append f old (take (n + 1) rows) in
        let h = one f in
        let i = more f in
        omega (arith, a, b, c, e, g, h, i);
  }

-- one more item is gone
pub gone_item : {X : Type 0} (rows old now new : List X) (n : ℕ) (x : X) → n < length rows → x ≡ get_or rows n x → IsPartOf rows old → AreSame old (now ++ take n rows)
    → (IsPartOf (x ∷ []) now → AreSame now (new ++ x ∷ [])) → AreSame old (new ++ take (n + 1) rows)
gone_item {X} rows old now new n x within is part same next =
    let there : IsPartOf (x ∷ []) now = subst (λ (y : X). IsPartOf (y ∷ []) now) (sym is) (next_there rows old now new n x within part same) in
    gone_more rows old now new n x within same (subst (λ (y : X). AreSame now (new ++ y ∷ [])) is (next there))

-- one more item has come
pub come_item : {X : Type 0} (rows old now new : List X) (n : ℕ) (x : X) → n < length rows → x ≡ get_or rows n x → AreSame now (old ++ take n rows)
    → AreSame new (now ++ x ∷ []) → AreSame new (old ++ take (n + 1) rows)
come_item {X} rows old now new n x within is same next = come_more rows old now new n x within same (subst (λ (y : X). AreSame new (now ++ y ∷ [])) is next)
