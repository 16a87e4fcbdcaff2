use Rattle.std.proofs.Common.{◌≡◌, ◌∙◌, true, length, sym}
use Rattle.plan_settings.specs.Settings.{is_selector_count}
use Rattle.problem_settings.proofs.Ranges.{are_selectors-view}
use Rattle.problem_settings.proofs.settings.are_selectors.Goals as goal

pub returns-then-is_selector_count : goal.returns-then-is_selector_count
returns-then-is_selector_count c =
    let few : is_selector_count (length c.args.values.now) ≡ true = sym c.is_selector_count.ensures ∙ c.if-is_selector_count.true in
    rw (are_selectors-view c.args.values.now, few) c.name_selectors.ensures
