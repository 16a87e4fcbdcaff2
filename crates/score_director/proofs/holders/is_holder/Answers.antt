use Rattle.std.proofs.Common.{◌<◌, ◌∙◌, ◌||◌, ℕ, Bool, Option, None, length, zip, get_or, sym, ap, arith}
use Rattle.std.specs.List.{list_any}
use Rattle.std.proofs.lemmas.List.{take_all}
use Rattle.std.proofs.lemmas.List.Folds.{list_any_at, list_any_more}
use Rattle.std.proofs.lemmas.Slice.Zip.{get_or-zip, length-zip}
use Rattle.score_director.specs.Holders.{is_held}
use Rattle.score_director.proofs.holders.is_holder.Goals as goal

pub returns-then-is_held : goal.returns-then-is_held
returns-then-is_held c =
    let ranges = c.args.ranges.now in
    let values = c.args.values.now in
    let var = c.loop-var.var in
    let p : ℕ × Option ℕ → Bool = λ pair. is_held c.args.fact.class c.args.fact.id pair.0 pair.1 in
    let long = length-zip ranges values in
    let within : var < length (zip ranges values) = omega arith in
    let at = get_or-zip ranges values var (0, None) (omega arith) (omega arith) in
    sym (list_any_at p (zip ranges values) var (0, None) within (ap p at ∙ sym c.is_held.ensures ∙ c.if-is_held.true))

pub loop-var-preserved : goal.loop-var-preserved
loop-var-preserved c =
    let ranges = c.args.ranges.now in
    let values = c.args.values.now in
    let var = c.loop-var.var in
    let p : ℕ × Option ℕ → Bool = λ pair. is_held c.args.fact.class c.args.fact.id pair.0 pair.1 in
    let long = length-zip ranges values in
    let within : var < length (zip ranges values) = omega arith in
    let at = get_or-zip ranges values var (0, None) (omega arith) (omega arith) in
    list_any_more p (zip ranges values) var (0, None) within
    ∙ ap (λ (b : Bool). b || p (get_or (zip ranges values) var (0, None))) c.loop-var.invariant
    ∙ ap p at ∙ sym c.is_held.ensures ∙ c.if-is_held.false

pub returns : goal.returns
returns c =
    let ranges = c.args.ranges.now in
    let values = c.args.values.now in
    let p : ℕ × Option ℕ → Bool = λ pair. is_held c.args.fact.class c.args.fact.id pair.0 pair.1 in
    let long = length-zip ranges values in
    sym c.loop-var.invariant ∙ ap (list_any p) (take_all c.loop-var.var (zip ranges values) (omega arith))
