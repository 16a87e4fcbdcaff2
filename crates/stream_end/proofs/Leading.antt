-- What rows at an end weigh where they lead on to others.
use Rattle.std.proofs.Common.{◌≡◌, ◌≤◌, ◌+◌, ◌-◌, ◌^◌, ◌∙◌, ℕ, ℤ, List, [], ◌∷◌, ◌++◌, Option, length, sum_by, ap, refl, sym, subst, arith}
use Rattle.std.specs.Prelude.{All}
use Rattle.std.specs.FinMap as finmap
use Rattle.std.proofs.lemmas.List.{length-map}
use Rattle.std.proofs.lemmas.List.Elements.{All-append, All-cons, All-nil}
use Rattle.std.proofs.lemmas.List.Sums.{sum_by-append, sum_by-le}
use Rattle.plan_rules.specs.Bags.{AreSame}
use Rattle.plan_rules.specs.Meaning.{Meaning}
use Rattle.plan_rules.proofs.Sums.{sum_by-map}
use Rattle.stream_heads.specs.declared.cells.Cell.{Cell}
use Rattle.stream_heads.specs.declared.delta.CellsDelta.{CellsDelta}
use Rattle.stream_heads.specs.declared.member.Member.{Member}
use Rattle.stream_heads.specs.Bags.{IsPartOf}
use Rattle.stream_heads.specs.Exact.{IsExact}
use Rattle.stream_heads.specs.Meant.{Rows}
use Rattle.stream_heads.specs.Sides.{IsNumbered, LetsGoNumbered, all_numbered, numbered}
use Rattle.stream_heads.specs.Standing.{TakesIn, Under}
use Rattle.stream_heads.proofs.SideLaws.{all_part}
use Rattle.stream_end.specs.declared.ahead.EndAhead.{EndAhead}
use Rattle.stream_end.specs.Ends.{EndLeads, IsFound, IsWeighed}
use Rattle.stream_end.specs.Found.{Adds, TakesOffBy}
use Rattle.stream_end.specs.Weights.{IsWeight, clipped, come_kept, kept_sum, weight_in, weight_sum, weights_at}
use Rattle.stream_end.proofs.Adding.{all_fit, kept_weighed}

-- rows with their numbers, as they are
all_are_numbered : (numbers : List Cell → List ℤ) (rows : List (List Cell)) → All (IsNumbered numbers) (all_numbered numbers rows)
all_are_numbered numbers [] = All-nil (IsNumbered numbers)
all_are_numbered numbers (row ∷ rows) = All-cons (IsNumbered numbers) (numbered numbers row) (all_numbered numbers rows) refl (all_are_numbered numbers rows)

kept_numbered : (numbers : List Cell → List ℤ) (rows : List (List Cell)) (kept : List Member) → AreSame kept (all_numbered numbers rows) → All (IsNumbered numbers) kept
kept_numbered numbers rows kept same =
    all_part (IsNumbered numbers) kept (all_numbered numbers rows) (record { sums = λ f. let is = same.sums f in omega (arith, is) }) (all_are_numbered numbers rows)

gone_part : (numbers : List Cell → List ℤ) (rows gone : List (List Cell)) (kept : List Member) → AreSame kept (all_numbered numbers rows) → IsPartOf gone rows → IsPartOf (all_numbered numbers gone) kept
gone_part numbers rows gone kept same part = record {
  sums = λ f.
      let a = same.sums f in
      let b = part.sums (λ row. f (numbered numbers row)) in
      omega (arith, a, b, sum_by-map f (numbered numbers) gone, sum_by-map f (numbered numbers) rows);
}

module _ (numbers : List Cell → List ℤ) (rows gone come later : List (List Cell)) (kept : List Member) (same : AreSame kept (all_numbered numbers rows)) (exact : IsExact rows gone come later) where
  -- what the later rows weigh, with those that go, is what the rows weigh with those that come
  led_sums : (f : Member → ℕ) → sum_by f (all_numbered numbers later) + sum_by f (all_numbered numbers gone) ≡ sum_by f kept + sum_by f (all_numbered numbers come)
  led_sums f =
      let a = same.sums f in
      let b = exact.leads.sums (λ row. f (numbered numbers row)) in
      omega (arith, a, b, sum_by-map f (numbered numbers) rows, sum_by-map f (numbered numbers) later, sum_by-map f (numbered numbers) gone, sum_by-map f (numbered numbers) come, sum_by-append (λ row. f (numbered numbers row)) rows come, sum_by-append (λ row. f (numbered numbers row)) later gone)

  -- the later rows are among those that were there and those that came
  later_part : IsPartOf (all_numbered numbers later) (kept ++ all_numbered numbers come)
  later_part = record { sums = λ f. let a = led_sums f in omega (arith, a, sum_by-append f kept (all_numbered numbers come)) }

  -- what is kept once rows went and others came
  later_kept : (mid new : List Member) → AreSame kept (mid ++ all_numbered numbers gone) → AreSame new (mid ++ all_numbered numbers come) → AreSame new (all_numbered numbers later)
  later_kept mid new went came = record {
    sums = λ f.
        let a = led_sums f in
        let b = went.sums f in
        let c = came.sums f in
        omega (arith, a, b, c, sum_by-append f mid (all_numbered numbers gone), sum_by-append f mid (all_numbered numbers come));
  }

-- what rows weigh, by the weights that are kept with them
pub kept_weights : (m : Meaning) (heads : Rows) (weigher : Option ℕ) (rows : List (List Cell)) → kept_sum (all_numbered (weights_at m heads weigher) rows) ≡ weight_sum m heads weigher rows
kept_weights m heads weigher rows = sum_by-map weight_in (numbered (weights_at m heads weigher)) rows

all_below : (members : List Member) → All IsWeight members → All (λ member. weight_in member ≤ 2 ^ 32 - 1) members
all_below members all = λ i d within. let a = all i d within in omega (arith, a)

-- as many rows as may be add up to less than 64 bits hold
sum_fits : (members : List Member) → All IsWeight members → length members ≤ 2 ^ 32 → kept_sum members ≤ 2 ^ 64 - 1
sum_fits members all few = let a = sum_by-le weight_in (2 ^ 32 - 1) members (all_below members all) in omega (arith, a, few)

-- what a change leads to was found
pub foreseen : (m : Meaning) (heads : Rows) (weigher : Option ℕ) (rows : List (List Cell)) (left : CellsDelta) (later : List (List Cell)) (kept : List Member) (total without : ℕ) (before after : EndAhead)
    → IsWeighed m heads weigher rows kept total → EndLeads rows left later → TakesOffBy (weights_at m heads weigher) kept left.gone.items total without → before.total ≡ without → Adds m heads weigher left.come.items before after
    → after.total ≡ weight_sum m heads weigher later
foreseen m heads weigher rows left later kept total without before after stands leads takes starts adds =
    let weights = weights_at m heads weigher in
    let gone = left.gone.items in
    let come = left.come.items in
    let less = takes (kept_numbered weights rows kept stands.members) (gone_part weights rows gone kept stands.members leads.exact.there) in
    let both = led_sums weights rows gone come later kept stands.members leads.exact weight_in in
    let there = (gone_part weights rows gone kept stands.members leads.exact.there).sums weight_in in
    let own : total ≡ kept_sum kept = stands.sum ∙ sym (kept_weights m heads weigher rows) ∙ sym (stands.members.sums weight_in) in
    let fit = all_part IsWeight (all_numbered weights later) (kept ++ all_numbered weights come) (later_part weights rows gone come later kept stands.members leads.exact) (All-append IsWeight kept (all_numbered weights come) stands.fit adds.fit) in
    let few : length (all_numbered weights later) ≤ 2 ^ 32 = let a = leads.few in omega (arith, a, length-map later (numbered weights)) in
    let fits = sum_fits (all_numbered weights later) fit few in
    let added = adds.total in
    sums_up total without before.total after.total (kept_sum (all_numbered weights gone)) (kept_sum (all_numbered weights come)) (kept_sum (all_numbered weights later)) (kept_sum kept) less starts added both there own fits ∙ kept_weights m heads weigher later
  where
    sums_up : (total without start end gone come later kept : ℕ) → without ≡ total - gone → start ≡ without → end ≡ clipped (start + come) → later + gone ≡ kept + come → gone ≤ kept → total ≡ kept → later ≤ 2 ^ 64 - 1 → end ≡ later
    sums_up total without start end gone come later kept a b c d e f g = omega (arith, a, b, c, d, e, f, g)

-- what is stored stands for the later rows
pub stored : (m : Meaning) (heads : Rows) (weigher : Option ℕ) (rows : List (List Cell)) (left : CellsDelta) (later : List (List Cell)) (old mid new : Under Member) (old_total new_total : ℕ) (found : EndAhead)
    → IsWeighed m heads weigher rows (finmap.values old) old_total → EndLeads rows left later → IsFound m heads weigher left later found
    → LetsGoNumbered old mid left.gone.items → TakesIn mid new (come_kept weigher left.come.items found.come.items) → new_total ≡ found.total
    → IsWeighed m heads weigher later (finmap.values new) new_total
stored m heads weigher rows left later old mid new old_total new_total found stands leads finds goes comes total_is =
    let weights = weights_at m heads weigher in
    let gone = left.gone.items in
    let come = left.come.items in
    let kept = finmap.values old in
    let went = goes weights (kept_numbered weights rows kept stands.members) (gone_part weights rows gone kept stands.members leads.exact.there) in
    let as_kept : come_kept weigher come found.come.items ≡ all_numbered weights come = ap (come_kept weigher come) finds.come ∙ kept_weighed m heads weigher come in
    let came : AreSame (finmap.values new) (finmap.values mid ++ all_numbered weights come) = subst (λ (ms : List Member). AreSame (finmap.values new) (finmap.values mid ++ ms)) as_kept comes in
    let fit_come = all_fit m heads weigher come (subst (All IsWeight) finds.come finds.fit) in
    let same = later_kept weights rows gone come later kept stands.members leads.exact (finmap.values mid) (finmap.values new) went came in
    let fit = all_part IsWeight (all_numbered weights later) (kept ++ all_numbered weights come) (later_part weights rows gone come later kept stands.members leads.exact) (All-append IsWeight kept (all_numbered weights come) stands.fit fit_come) in
    record {
      members = same;
      fit = all_part IsWeight (finmap.values new) (all_numbered weights later) (record { sums = λ f. let is = same.sums f in omega (arith, is) }) fit;
      few = leads.few;
      sum = total_is ∙ finds.total;
    }
