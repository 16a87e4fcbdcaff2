-- Settings without a fault are those in range.
use Rattle.std.proofs.Common.{◌≡◌, ℕ, Bool, true, false, not, cond, Option, Some, None, length, refl, sym, arith}
use Rattle.std.proofs.lemmas.Bool.Decides.{nat_tests}
use Rattle.plan_settings.specs.declared.settings.Settings.{Settings}
use Rattle.std.specs.Prelude.{IsNone, ◌↔◌}
use Rattle.plan_settings.specs.declared.setting.Setting.{Setting}
use Rattle.plan_settings.specs.Settings.{is_step_count, is_size, is_selector_count, settings_fault, IsSize, IsInRange}

-- what is found where it fails isn't found where it holds
passed : {A : Type 0} (b : Bool) (x : A) (rest : Option A) → cond (not b) (Some x) rest ≡ None → (b ≡ true) × (rest ≡ None)
passed true x rest h = (refl, h)
passed false x rest h = cc

size : (n : ℕ) → is_size n ≡ true → IsSize n
size n h = record { least = grind (arith, nat_tests); most = grind (arith, nat_tests) }

-- settings with no fault are in range
pub in_range : (s : Settings) → settings_fault s ≡ None → IsInRange s
in_range s h =
    let steps = passed (is_step_count s.steps) _ _ h in
    let select_limit = passed (is_size s.select_limit) _ _ steps.1 in
    let accepted_limit = passed (is_size s.accepted_limit) _ _ select_limit.1 in
    let late_size = passed (is_size s.late_size) _ _ accepted_limit.1 in
    let tabu_size = passed (is_size s.tabu_size) _ _ late_size.1 in
    let step_count_size = passed (is_size s.step_count_size) _ _ tabu_size.1 in
    let selectors = passed (is_selector_count (length s.selectors)) _ _ step_count_size.1 in
    record {
      steps = grind (arith, nat_tests);
      select_limit = size s.select_limit select_limit.0;
      accepted_limit = size s.accepted_limit accepted_limit.0;
      late_size = size s.late_size late_size.0;
      tabu_size = size s.tabu_size tabu_size.0;
      step_count_size = size s.step_count_size step_count_size.0;
      some_selector = grind (arith, nat_tests);
      few_selectors = grind (arith, nat_tests);
    }

is_size_true : (n : ℕ) → IsSize n → is_size n ≡ true
is_size_true n h = grind (arith, nat_tests)

-- settings in range have no fault
pub faultless : (s : Settings) → IsInRange s → settings_fault s ≡ None
faultless s h =
    let steps : is_step_count s.steps ≡ true = grind (arith, nat_tests) in
    let selectors : is_selector_count (length s.selectors) ≡ true = grind (arith, nat_tests) in
    rw (steps, is_size_true s.select_limit h.select_limit, is_size_true s.accepted_limit h.accepted_limit, is_size_true s.late_size h.late_size, is_size_true s.tabu_size h.tabu_size, is_size_true s.step_count_size h.step_count_size, selectors) refl

-- no fault is told exactly of settings in range
pub IsNone-fault : (s : Settings) (fault : Option Setting) → fault ≡ settings_fault s → IsNone fault ↔ IsInRange s
IsNone-fault s None told = (λ none. in_range s (sym told), λ all. refl)
IsNone-fault s (Some setting) told =
    (λ none. cc, λ all. let none = faultless s all in cc)
