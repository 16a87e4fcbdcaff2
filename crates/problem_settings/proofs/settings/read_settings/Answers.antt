use Rattle.std.proofs.Common.{◌≡◌, ◌∙◌, None, find, ap, sym, subst}
use Rattle.plan_settings.specs.Settings.{IsInRange}
use Rattle.json_values.specs.Views.{view_at}
use Rattle.problem_settings.specs.SettingsOf.{is_bad, known_settings}
use Rattle.problem_settings.proofs.Ranges.{in_range}
use Rattle.problem_settings.proofs.settings.read_settings.Goals as goal

pub returns-clause-in_range : goal.returns-clause-in_range
returns-clause-in_range c =
    let settings = view_at c.args.settings in
    let none : find (is_bad settings) (known_settings c.args.format) ≡ None =
    ap (find (is_bad settings)) (sym c.known_settings.ensures) ∙ sym c.first_bad.ensures ∙ c.in_default.is in
    subst IsInRange (sym c.in_ok-settings_given.ensures) (in_range c.args.format settings none)
