use Rattle.std.proofs.Common.{◌≡◌, true, false, ◌∷◌, length, Some, None, sym, ap, ◌∙◌, rules, arith}
use Rattle.std.specs.List.{list_any, position_or_len}
use Rattle.std.specs.Str.{is_utf8}
use Rattle.std.proofs.lemmas.Str.Pattern.{split_once_first}
use Rattle.plan_words.specs.Items.{has_dash, is_equals_sign, wants_value}
use Rattle.plan_words.specs.Adding.{with_words}
use Rattle.plan_words.proofs.ItemLemmas.{with_words-positional, with_words-attached, with_words-pair, with_words-lacking}
use Rattle.plan_words.proofs.PlaceLemmas.{list_any-found, list_any-absent}
use Rattle.plan_words.proofs.line.Line.take.Goals as goal

pub returns-in_err-put_word-clause-none : goal.returns-in_err-put_word-clause-none
returns-in_err-put_word-clause-none c =
    let good : is_utf8 c.in_ok-text.text.now ≡ true = ap is_utf8 c.in_ok-text.ensures.some.0 ∙ c.in_ok-text.ensures.some.1 in
    let dash : has_dash c.in_ok-text.text.now ≡ false = search rules in
    let same = ap (λ word. with_words c.args.self.now (word ∷ c.args.more.now)) (sym c.in_ok-text.ensures.some.0) in
    rw c.from_residual-in_err-put_word.ensures (same ∙ with_words-positional _ c.in_ok-text.text.now c.args.more.now _ good dash c.in_err-put_word.ensures.none)

pub returns-then-not-starts_with-clause-some : goal.returns-then-not-starts_with-clause-some
returns-then-not-starts_with-clause-some c =
    let good : is_utf8 c.in_ok-text.text.now ≡ true = ap is_utf8 c.in_ok-text.ensures.some.0 ∙ c.in_ok-text.ensures.some.1 in
    let dash : has_dash c.in_ok-text.text.now ≡ false = search rules in
    let same = ap (λ word. with_words c.args.self.now (word ∷ c.args.more.now)) (sym c.in_ok-text.ensures.some.0) in
    same ∙ with_words-positional _ c.in_ok-text.text.now c.args.more.now _ good dash c.in_ok-put_word.ensures.some

pub returns-in_err-put_value-clause-none : goal.returns-in_err-put_value-clause-none
returns-in_err-put_value-clause-none c =
    let good : is_utf8 c.in_ok-text.text.now ≡ true = ap is_utf8 c.in_ok-text.ensures.some.0 ∙ c.in_ok-text.ensures.some.1 in
    let dash : has_dash c.in_ok-text.text.now ≡ true = search rules in
    let parts = split_once_first 61 c.in_ok-text.text.now (Some (c.in-Some.name, c.in-Some.value)) c.in-Some.ensures.cases (omega arith) in
    let sign : list_any is_equals_sign c.in_ok-text.text.now ≡ true = list_any-found is_equals_sign c.in_ok-text.text.now parts.0 in
    let same = ap (λ word. with_words c.args.self.now (word ∷ c.args.more.now)) (sym c.in_ok-text.ensures.some.0) in
    rw c.from_residual-in_err-put_value.ensures (same ∙ with_words-attached _ c.in_ok-text.text.now c.args.more.now _ good dash sign (rw (parts.1, parts.2) at c.in_err-put_value.ensures.none))

pub returns-in-Some-clause-some : goal.returns-in-Some-clause-some
returns-in-Some-clause-some c =
    let good : is_utf8 c.in_ok-text.text.now ≡ true = ap is_utf8 c.in_ok-text.ensures.some.0 ∙ c.in_ok-text.ensures.some.1 in
    let dash : has_dash c.in_ok-text.text.now ≡ true = search rules in
    let parts = split_once_first 61 c.in_ok-text.text.now (Some (c.in-Some.name, c.in-Some.value)) c.in-Some.ensures.cases (omega arith) in
    let sign : list_any is_equals_sign c.in_ok-text.text.now ≡ true = list_any-found is_equals_sign c.in_ok-text.text.now parts.0 in
    let same = ap (λ word. with_words c.args.self.now (word ∷ c.args.more.now)) (sym c.in_ok-text.ensures.some.0) in
    same ∙ with_words-attached _ c.in_ok-text.text.now c.args.more.now _ good dash sign (rw (parts.1, parts.2) at c.in_ok-put_value.ensures.some)

pub returns-in_err-next-clause-none : goal.returns-in_err-next-clause-none
returns-in_err-next-clause-none c =
    let good : is_utf8 c.in_ok-text.text.now ≡ true = ap is_utf8 c.in_ok-text.ensures.some.0 ∙ c.in_ok-text.ensures.some.1 in
    let dash : has_dash c.in_ok-text.text.now ≡ true = search rules in
    let nowhere : position_or_len is_equals_sign c.in_ok-text.text.now ≡ length c.in_ok-text.text.now = split_once_first 61 c.in_ok-text.text.now None c.in_default.ensures.cases (omega arith) in
    let wants : wants_value c.in_ok-text.text.now ≡ true = rw (dash, list_any-absent is_equals_sign c.in_ok-text.text.now nowhere) in
    let same = ap (λ word. with_words c.args.self.now (word ∷ c.args.more.now)) (sym c.in_ok-text.ensures.some.0) in
    rw c.from_residual-in_err-next.ensures (same ∙ with_words-lacking _ c.in_ok-text.text.now c.args.more.now good wants c.in_err-next.ensures.cases)

pub returns-in_err-put_value-2-clause-none : goal.returns-in_err-put_value-2-clause-none
returns-in_err-put_value-2-clause-none c =
    let good : is_utf8 c.in_ok-text.text.now ≡ true = ap is_utf8 c.in_ok-text.ensures.some.0 ∙ c.in_ok-text.ensures.some.1 in
    let dash : has_dash c.in_ok-text.text.now ≡ true = search rules in
    let nowhere : position_or_len is_equals_sign c.in_ok-text.text.now ≡ length c.in_ok-text.text.now = split_once_first 61 c.in_ok-text.text.now None c.in_default.ensures.cases (omega arith) in
    let wants : wants_value c.in_ok-text.text.now ≡ true = rw (dash, list_any-absent is_equals_sign c.in_ok-text.text.now nowhere) in
    let same = ap (λ word. with_words c.args.self.now (word ∷ c.args.more.now)) (sym c.in_ok-text.ensures.some.0) in
    let fine : is_utf8 c.in_ok-value.value.now ≡ true = ap is_utf8 c.in_ok-value.ensures.some.0 ∙ c.in_ok-value.ensures.some.1 in
    let others = c.in_ok-next.ensures.cases.0 ∙ ap (λ next. next ∷ c.in_ok-next.rest.now) (sym c.in_ok-value.ensures.some.0) in
    let split = ap (λ more. with_words c.args.self.now (c.in_ok-text.text.now ∷ more)) others in
    rw c.from_residual-in_err-put_value-2.ensures (same ∙ split ∙ with_words-pair _ c.in_ok-text.text.now c.in_ok-value.value.now c.in_ok-next.rest.now _ good fine wants c.in_err-put_value-2.ensures.none)

pub returns-clause-some : goal.returns-clause-some
returns-clause-some c =
    let good : is_utf8 c.in_ok-text.text.now ≡ true = ap is_utf8 c.in_ok-text.ensures.some.0 ∙ c.in_ok-text.ensures.some.1 in
    let dash : has_dash c.in_ok-text.text.now ≡ true = search rules in
    let nowhere : position_or_len is_equals_sign c.in_ok-text.text.now ≡ length c.in_ok-text.text.now = split_once_first 61 c.in_ok-text.text.now None c.in_default.ensures.cases (omega arith) in
    let wants : wants_value c.in_ok-text.text.now ≡ true = rw (dash, list_any-absent is_equals_sign c.in_ok-text.text.now nowhere) in
    let same = ap (λ word. with_words c.args.self.now (word ∷ c.args.more.now)) (sym c.in_ok-text.ensures.some.0) in
    let fine : is_utf8 c.in_ok-value.value.now ≡ true = ap is_utf8 c.in_ok-value.ensures.some.0 ∙ c.in_ok-value.ensures.some.1 in
    let others = c.in_ok-next.ensures.cases.0 ∙ ap (λ next. next ∷ c.in_ok-next.rest.now) (sym c.in_ok-value.ensures.some.0) in
    let split = ap (λ more. with_words c.args.self.now (c.in_ok-text.text.now ∷ more)) others in
    same ∙ split ∙ with_words-pair _ c.in_ok-text.text.now c.in_ok-value.value.now c.in_ok-next.rest.now _ good fine wants c.in_ok-put_value-2.ensures.some
