use Rattle.std.proofs.Common.{◌∙◌, ◌∷◌, [], ◌++◌, sym, ap}
use Rattle.std.specs.List.{filter_map}
use Rattle.std.proofs.lemmas.List.{take_all}
use Rattle.serde_json.specs.View.{view}
use Rattle.problem_settings.specs.Words.{selector_of}
use Rattle.problem_settings.proofs.Lists.{filter_map-given, filter_map-not_given, filter_map-map}
use Rattle.problem_settings.proofs.settings.selectors.Goals as goal
use Rattle.problem_settings.proofs.settings.selectors.Goals.{in-Some+in_ok-push, in_default}

pub loop-value-preserved : goal.loop-value-preserved
loop-value-preserved c =
    elim c.match-selector.branch [
      | in-Some+in_ok-push w ↦
          w.list-is ∙ w.in_ok-push.ensures.ok ∙ ap (λ list. list ++ w.in-Some.selector ∷ []) c.loop-value.invariant
          ∙ sym (filter_map-given (λ value. selector_of (view value)) c.args.values.now c.loop-value.value-index c.value-item.result _ c.loop-value-test.true c.value-item.is (sym w.in-Some.ensures))
      | in_default w ↦
          w.list-is ∙ c.loop-value.invariant
          ∙ sym (filter_map-not_given (λ value. selector_of (view value)) c.args.values.now c.loop-value.value-index c.value-item.result c.loop-value-test.true c.value-item.is (sym c.selector.ensures ∙ w.in_default.is))
    ]

pub returns : goal.returns
returns c =
    c.loop-value.invariant ∙ ap (filter_map (λ value. selector_of (view value))) (take_all _ _ c.loop-value-test.false) ∙ sym (filter_map-map view selector_of c.args.values.now)
