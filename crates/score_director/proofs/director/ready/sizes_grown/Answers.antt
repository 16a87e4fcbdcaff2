use Rattle.std.proofs.Common.{◌∙◌, ℕ, List, get_or, ap, arith}
use Rattle.plan_facts.proofs.Sound.{few_facts}
use Rattle.score_director.proofs.Widened.{size_at}
use Rattle.score_director.proofs.director.ready.sizes_grown.Goals as goal

pub overflow_add-as_mut_slice : goal.overflow_add-as_mut_slice
overflow_add-as_mut_slice c =
    let at = ap (λ (sizes : List ℕ). get_or sizes c.args.class 0) (c.as_mut_slice.ensures.value ∙ c.in_ok-sizes.ensures.sizes) in
    let size = size_at c.args.plan.now c.args.class in
    let few = few_facts c.args.plan.now c.args.class c.in_ok-sizes.ensures.sound c.requires in
    omega (arith, at, size, few)
