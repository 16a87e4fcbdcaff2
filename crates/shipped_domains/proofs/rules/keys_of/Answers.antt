use Rattle.plan_rules.specs.Meaning.{KeyAnswers}
use Rattle.shipped_domains.specs.Meaning.{shipped_key}
use Rattle.shipped_domains.proofs.Grown.{same_grown, all_grown}
use Rattle.shipped_domains.proofs.rules.keys_of.Goals as goal

pub loop-shipped-preserved : goal.loop-shipped-preserved
loop-shipped-preserved g c = (
  same_grown (λ one. one.number) (λ one. one.number) c.loop-shipped.keys c.push.new.self c.loop-shipped.yielded c.new.result c.in-Some.shipped c.loop-shipped.invariant.0 c.new.ensures.number c.in_ok-push.ensures.ok,
  all_grown (λ one. KeyAnswers (λ r answer. (goal.Fn-dyn g).post (one.body.vtable, one.body.value) (r, tt) answer) (shipped_key one.number)) c.loop-shipped.keys c.push.new.self c.new.result c.loop-shipped.invariant.1
      (λ r answer post. rw c.new.ensures.number (c.in-Some.shipped.answers r answer (rw c.new.ensures.body at post))) c.in_ok-push.ensures.ok,
)
