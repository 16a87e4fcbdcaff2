use Rattle.std.proofs.Common.{◌∙◌, string_bytes, not, refl, sym, ap}
use Rattle.std.proofs.lemmas.Fn.{says_at}
use Rattle.json_values.specs.Values.{is_other}
use Rattle.json_values.proofs.Reading.{any_here, any_later}
use Rattle.json_values.proofs.has_other_key.Goals as goal

pub returns-then-not-is_known : goal.returns-then-not-is_known
returns-then-not-is_known g c names knows =
    let answer = knows.answers _ _ (says_at g.F.Fn c.is_known.ensures refl) in
    let other = ap (is_other names) (sym c.as_bytes.ensures.value) ∙ ap not (sym answer ∙ c.if-not-is_known.true) in
    sym (c.loop-key.invariant.2 names knows ∙ any_here (λ key. is_other names (string_bytes key)) _ _ _ c.in-Some.ensures.steps other)

pub loop-key-preserved : goal.loop-key-preserved
loop-key-preserved g c = (
  tt,
  tt,
  λ names knows.
      let answer = knows.answers _ _ (says_at g.F.Fn c.is_known.ensures refl) in
      let known = ap (is_other names) (sym c.as_bytes.ensures.value) ∙ ap not (sym answer ∙ c.if-not-is_known.false) in
      c.loop-key.invariant.2 names knows ∙ any_later (λ key. is_other names (string_bytes key)) _ _ _ c.in-Some.ensures.steps known,
)
