-- What is told as refused changes nothing.
use Rattle.std.proofs.Common.{◌≡◌, ℕ, Bool, true, false, cond, [], ◌∷◌, Some, None, is_some, refl}
use Rattle.std.specs.Option.{option_map_or}
use Rattle.plan_changes.specs.Change.{ChangeView}
use Rattle.plan_changes.specs.declared.fault.ChangeFault.{ChangeFault}
use Rattle.plan_changes.specs.declared.line.Body.{Body}
use Rattle.plan_changes.specs.declared.line.Body.TheVariants.{Bad, Do, Stop}
use Rattle.plan_changes.specs.Deeds.{is_weight}
use Rattle.plan_reports.specs.declared.line.Line.{Line}
use Rattle.plan_reports.specs.declared.line.Line.TheVariants as line
use Rattle.plan_search.specs.Posed.{State}
use Rattle.live_lines.specs.Taking.{Grounds, Taken, applied_line, change_line, change_refusal, changed_by, feed_on, ready_in, told_of, with_change, with_line}

first_same : (one other : Line) → one ∷ [] ≡ other ∷ [] → one ≡ other
first_same one other e = cc

not_refused : (b : Bool) (n k rule class id number boundary : ℕ) (fault : ChangeFault) → cond b (line.AppliedRule n k rule) (line.Applied n k class id) ≡ line.Refused number boundary fault → ⊥
not_refused true n k rule class id number boundary fault e = cc
not_refused false n k rule class id number boundary fault e = cc

change_stays : (by : Grounds) (state : State) (change : ChangeView) (n k number boundary : ℕ) (fault : ChangeFault) → change_line by state n k change ≡ line.Refused number boundary fault → with_change by state change ≡ state
unfolding change_line with_change
change_stays by state change n k number boundary fault =
    let ready = ready_in by state change in
    elim (change_refusal by state change) as (λ r. option_map_or (λ f. line.Refused n k f) r (applied_line n k ready) ≡ line.Refused number boundary fault → cond (is_some r) state (changed_by ready state) ≡ state) [
      | Some f ↦ λ told. refl
      | None ↦ λ told. absurd (not_refused (is_weight ready.deed) n k ready.rule ready.class ready.id number boundary fault told)
    ]

body_stays : (by : Grounds) (state : State) (body : Body) (n k number boundary : ℕ) (fault : ChangeFault) → told_of by state n k body ≡ line.Refused number boundary fault ∷ [] → with_line by state body ≡ state
body_stays by state (Do change) n k number boundary fault told =
    change_stays by state change n k number boundary fault (first_same (change_line by state n k change) (line.Refused number boundary fault) told)
body_stays by state (Bad flaw) n k number boundary fault told = refl
body_stays by state (Stop cause) n k number boundary fault told = refl

-- a line that is told as refused makes nothing of what is searched
pub refused_stays : (by : Grounds) (state : State) (taken : Taken) (number boundary : ℕ) (fault : ChangeFault) → (feed_on by).tells state taken ≡ line.Refused number boundary fault ∷ [] → (feed_on by).handle state taken ≡ state
refused_stays by state taken number boundary fault told =
    body_stays by state taken.post.body taken.post.line taken.boundary number boundary fault told
