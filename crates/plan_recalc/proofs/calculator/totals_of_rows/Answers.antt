use Rattle.std.proofs.Common.{◌≡◌, ◌∙◌, ◌++◌, ◌∷◌, [], ℕ, List, get_or, length, ap, subst, sym, arith}
use Rattle.std.proofs.lemmas.List.{append_assoc, length_push}
use Rattle.std.specs.Vec.Iter.{into_iter_items}
use Rattle.plan_facts.specs.Plan.{records_of}
use Rattle.plan_rules.specs.Closures.{capped}
use Rattle.plan_rules.specs.Range.{sizes_of}
use Rattle.plan_rules.specs.Rows.{rule_rows}
use Rattle.plan_rules.specs.Sound.{IsSound}
use Rattle.plan_rules.specs.Totals.{all_matches, score_of}
use Rattle.plan_rules.proofs.Accepted.{sound_rules}
use Rattle.plan_rules.proofs.Lengths.{score_in_range}
use Rattle.plan_recalc.specs.RulesFrom.{AreTotals}
use Rattle.plan_rules.proofs.Within.{plan_within}
use Rattle.plan_recalc.proofs.OneMore.{all_before, matches_end, no_totals, room_here, rule_at, score_end, totals_more}
use Rattle.plan_recalc.proofs.calculator.totals_of_rows.Goals as goal

pub loop-rows-init : goal.loop-rows-init
loop-rows-init g c =
    let rules = c.args.rules.now in
    let weights = c.args.weights.now in
    let sizes = sizes_of c.args.plan.now in
    record {
      rest = sym c.into_iter-rows-iterator.ensures.into_iter_gives.0;
      totals = no_totals g.B.Book.meaning (records_of c.args.plan.now) rules.defs rules.caps weights sizes c.new-matches.result c.new-impacts.result c.zero-score.result
          c.new-matches.ensures c.new-impacts.ensures c.zero-score.ensures (score_in_range sizes rules.defs weights rules.caps c.requires.judges.1.range);
    }

pub add_rule-requires-clause-weigher : goal.add_rule-requires-clause-weigher
add_rule-requires-clause-weigher g c κs within =
    let rules = c.args.rules.now in
    let l = c.loop-rows in
    let rule = c.index-as_slice-place.result in
    let rest = l.invariant.rest ∙ ap (λ (zs : List _). l.yielded ++ zs) c.in-Some.ensures.steps.0 in
    let here = rule_at (λ list. list.items) g.B.Book.meaning (records_of c.args.plan.now) rules.defs c.as_slice.result.now c.args.weights.now c.len-place.result rule c.args.all.items l.yielded (into_iter_items c.next.new.self) c.in-Some.rows
    c.requires.rows rest c.requires.judges.1.weights (c.len-place.ensures ∙ l.invariant.totals.count) c.as_slice.ensures c.index-as_slice-place.is in
    (subst (IsSound (length rules.schema) rules.numbers) (sym here.read) (sound_rules rules.schema rules.numbers rules.defs rules.harder rules.accepted (length l.yielded) rule here.there)).weigher

pub add_rule-requires-clause-weight : goal.add_rule-requires-clause-weight
add_rule-requires-clause-weight g c κs within =
    let rules = c.args.rules.now in
    let l = c.loop-rows in
    let rule = c.index-as_slice-place.result in
    let rest = l.invariant.rest ∙ ap (λ (zs : List _). l.yielded ++ zs) c.in-Some.ensures.steps.0 in
    let here = rule_at (λ list. list.items) g.B.Book.meaning (records_of c.args.plan.now) rules.defs c.as_slice.result.now c.args.weights.now c.len-place.result rule c.args.all.items l.yielded (into_iter_items c.next.new.self) c.in-Some.rows
    c.requires.rows rest c.requires.judges.1.weights (c.len-place.ensures ∙ l.invariant.totals.count) c.as_slice.ensures c.index-as_slice-place.is in
    let few = c.requires.judges.1.few (length l.yielded) 0 here.there' in
    omega (arith, here.weighs, few)

pub add_rule-requires-clause-room : goal.add_rule-requires-clause-room
add_rule-requires-clause-room g c κs within =
    let m = g.B.Book.meaning in
    let rules = c.args.rules.now in
    let plan = c.args.plan.now in
    let weights = c.args.weights.now in
    let l = c.loop-rows in
    let rule = c.index-as_slice-place.result in
    let place = c.len-place.result in
    let rows = c.in-Some.rows in
    let rest = l.invariant.rest ∙ ap (λ (zs : List _). l.yielded ++ zs) c.in-Some.ensures.steps.0 in
    let here = rule_at (λ list. list.items) m (records_of plan) rules.defs c.as_slice.result.now weights place rule c.args.all.items l.yielded (into_iter_items c.next.new.self) rows
    c.requires.rows rest c.requires.judges.1.weights (c.len-place.ensures ∙ l.invariant.totals.count) c.as_slice.ensures c.index-as_slice-place.is in
    room_here m (records_of plan) rules.defs (capped rules.weighs) rules.caps weights (sizes_of plan) (length l.yielded) (get_or weights place 0) rule rows.items l.matches l.impacts l.score
    rules.caps_are (plan_within plan) here l.invariant.totals

pub loop-rows-preserved : goal.loop-rows-preserved
loop-rows-preserved g c =
    let m = g.B.Book.meaning in
    let rules = c.args.rules.now in
    let plan = c.args.plan.now in
    let weights = c.args.weights.now in
    let l = c.loop-rows in
    let rule = c.index-as_slice-place.result in
    let place = c.len-place.result in
    let rows = c.in-Some.rows in
    let later = into_iter_items c.next.new.self in
    let one = c.in_ok-one.one in
    let rest = l.invariant.rest ∙ ap (λ (zs : List _). l.yielded ++ zs) c.in-Some.ensures.steps.0 in
    let here = rule_at (λ list. list.items) m (records_of plan) rules.defs c.as_slice.result.now weights place rule c.args.all.items l.yielded later rows
    c.requires.rows rest c.requires.judges.1.weights (c.len-place.ensures ∙ l.invariant.totals.count) c.as_slice.ensures c.index-as_slice-place.is in
    let P : ℕ → Type 0 = λ k. AreTotals m (records_of plan) rules.defs rules.caps weights (sizes_of plan) k c.push.new.self c.push-in-loop-rows.new.self c.add_rule.new.score in
    record {
      rest = rest ∙ sym (append_assoc l.yielded (rows ∷ []) later);
      totals = subst P (sym (length_push l.yielded rows))
          (totals_more m (records_of plan) rules.defs (capped rules.weighs) rules.caps weights (sizes_of plan) (length l.yielded) (get_or weights place 0) rule rows.items l.matches l.impacts l.score
          rules.caps_are (plan_within plan) here l.invariant.totals one.matches one.impact c.add_rule.new.score c.push.new.self c.push-in-loop-rows.new.self
          c.in_ok-one.ensures.matches c.in_ok-one.ensures.size one.summed c.in_ok-one.ensures.score c.in_ok-push.ensures.ok c.in_ok-push-2.ensures.ok);
    }

pub returns-clause-matches : goal.returns-clause-matches
returns-clause-matches g c =
    let m = g.B.Book.meaning in
    let rules = c.args.rules.now in
    let weights = c.args.weights.now in
    let f = records_of c.args.plan.now in
    let l = c.loop-rows in
    let none : length (into_iter_items l.rows-iterator) ≡ 0 = omega (arith, l.rows-iterator.rest.ok.0, c.in-None.ensures.steps.0) in
    let end = all_before (λ list. list.items) (rule_rows m f) c.args.all.items l.yielded (into_iter_items l.rows-iterator) rules.defs c.requires.rows l.invariant.rest none in
    matches_end m f rules.defs weights (length l.yielded) (all_matches m f rules.defs weights) l.matches end l.invariant.totals.matches

pub returns-clause-score : goal.returns-clause-score
returns-clause-score g c =
    let m = g.B.Book.meaning in
    let rules = c.args.rules.now in
    let weights = c.args.weights.now in
    let f = records_of c.args.plan.now in
    let l = c.loop-rows in
    let none : length (into_iter_items l.rows-iterator) ≡ 0 = omega (arith, l.rows-iterator.rest.ok.0, c.in-None.ensures.steps.0) in
    let end = all_before (λ list. list.items) (rule_rows m f) c.args.all.items l.yielded (into_iter_items l.rows-iterator) rules.defs c.requires.rows l.invariant.rest none in
    let sum = score_end m f rules.defs weights (length l.yielded) (score_of m f rules.defs weights) l.score end l.invariant.totals.score in
    λ i. record { unplaced = c.unplaced-unplaced.ensures.unplaced i; score = sum i }
