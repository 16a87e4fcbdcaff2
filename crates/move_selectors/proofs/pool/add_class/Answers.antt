use Rattle.std.proofs.Common.{◌≡◌, ◌∙◌, ◌++◌, ◌==◌, ℕ, Bool, true, false, not, nat_lt, List, length, map, filter, ap, sym, arith}
use Rattle.std.proofs.lemmas.Bool.Decides.{nat_tests}
use Rattle.plan_facts.specs.declared.record.Raw.{Raw}
use Rattle.plan_facts.specs.Plan.{class_of}
use Rattle.plan_moves.specs.Entities.{touch_of, is_movable}
use Rattle.move_selectors.proofs.PoolLaws.{pool-other, pool-more}
use Rattle.move_selectors.proofs.pool.add_class.Goals as goal

some_or_none : (n : ℕ) → nat_lt 0 n ≡ not (n == 0)
some_or_none n = grind (arith, nat_tests)

-- whether the class has variables
variables : (read ranges : List ℕ) (empty : Bool) (is : Bool) → read ≡ ranges → empty ≡ (length read == 0) → empty ≡ is → nat_lt 0 (length ranges) ≡ not is
variables read ranges empty is same told tested = ap (λ (all : List ℕ). nat_lt 0 (length all)) (sym same) ∙ some_or_none (length read) ∙ ap not (sym told ∙ tested)

pub returns-then-is_empty : goal.returns-then-is_empty
returns-then-is_empty c =
    pool-other c.args.plan.now c.args.class c.args.entities.now c.args.classes.now.items c.requires
    (variables c.ranges-2.result.now (class_of c.args.plan.now c.args.class).ranges c.is_empty.result true c.ranges-2.ensures.ranges c.is_empty.ensures c.if-is_empty.true)

pub returns : goal.returns
returns c =
    pool-more c.args.plan.now c.args.class c.args.entities.now c.push_movable.new.entities c.args.classes.now.items c.push.new.self.items c.in_ok-part.part c.requires
    (variables c.ranges-2.result.now (class_of c.args.plan.now c.args.class).ranges c.is_empty.result false c.ranges-2.ensures.ranges c.is_empty.ensures c.if-is_empty.false)
    c.in_ok-part.ensures.class c.in_ok-part.ensures.part
    (c.in_ok-push_movable.ensures ∙ ap (λ (facts : List Raw). c.args.entities.now ++ map (touch_of c.args.class) (filter is_movable facts)) c.facts.ensures.facts)
    c.in_ok-push.ensures.items
