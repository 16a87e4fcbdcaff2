use Rattle.std.proofs.Common.{refl}
use Rattle.plan_rules.specs.Meaning.{WeighAnswers}
use Rattle.domain_words.specs.Numbers.{weight_cap}
use Rattle.shipped_domains.specs.Meaning.{shipped_weight}
use Rattle.shipped_domains.proofs.Grown.{same_grown, all_grown, same_grown_twice}
use Rattle.shipped_domains.proofs.rules.weighs_of.Goals as goal

pub loop-shipped-preserved : goal.loop-shipped-preserved
loop-shipped-preserved g c = (
  same_grown (λ one. one.number) (λ one. one.number) c.loop-shipped.weighs c.push.new.self c.loop-shipped.yielded c.new.result c.in-Some.shipped c.loop-shipped.invariant.0 c.new.ensures.number c.in_ok-push.ensures.ok,
  same_grown_twice (λ one. record { number = one.number; cap = one.cap }) (λ one. one.number) (λ number. record { number = number; cap = weight_cap }) c.loop-shipped.weighs c.push.new.self c.loop-shipped.yielded c.new.result c.in-Some.shipped c.loop-shipped.invariant.1 (rw (c.new.ensures.number, c.new.ensures.cap) refl) c.in_ok-push.ensures.ok,
  all_grown (λ one. WeighAnswers (λ r answer. (goal.Fn-dyn g).post (one.body.vtable, one.body.value) (r, tt) answer) one.cap (shipped_weight one.number)) c.loop-shipped.weighs c.push.new.self c.new.result c.loop-shipped.invariant.2
      (λ r answer post. rw (c.new.ensures.number, c.new.ensures.cap) (c.in-Some.shipped.answers r answer (rw c.new.ensures.body at post))) c.in_ok-push.ensures.ok,
)
