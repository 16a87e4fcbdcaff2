-- A problem that a live run searches, and how far it came when it broke off.
use Rattle.std.proofs.Common.{◌≡◌, ◌∙◌, ◌≤◌, ◌+◌, ◌-◌, ℕ, List, [], ◌∷◌, ◌++◌, Result, Err, length, take, refl, sym, ap, subst, arith}
use Rattle.std.proofs.Math.Seq.{take-append-add}
use Rattle.std.specs.Prelude.{IsErrOf}
use Rattle.live_lines.specs.Taking.{Grounds, Taken}
use Rattle.live_posts.specs.Cuts.{Take}
use Rattle.move_selectors.specs.Candidates.{Made}
use Rattle.plan_changes.specs.declared.line.Post.{Post}
use Rattle.plan_json.specs.Domains.{DomainView}
use Rattle.plan_ports.specs.Outside.{SinkState}
use Rattle.plan_rules.specs.Meaning.{Meaning}
use Rattle.plan_search.specs.Posed.{Posed, State}
use Rattle.plan_settings.specs.declared.settings.Settings.{Settings}
use Rattle.plan_session.specs.Begun.{IsPosedBy}
use Rattle.plan_session.specs.Posed.{posed_at}
use Rattle.plan_session.specs.LiveRuns.{AgreesWith, EndsLive, ForFirstCuts, HasLed, HasNamed, HasNoStop, lines_cut}
use Rattle.plan_session.specs.declared.live_fault.LiveFault.{LiveFault}
use Rattle.plan_session.specs.declared.live_fault.LiveFault.TheVariants.{Stopped, Write}
use Rattle.plan_session.proofs.LiveCuts.{agrees_before, all_of, first_of}
use Rattle.plan_session.proofs.Printed.{fails_since, later_goes_on}

-- a problem is posed by its parts
pub is_posed_at : (m : Meaning) (makers : List Made) (domain : DomainView) (settings : Settings) (origin : State)
    → IsPosedBy m makers domain settings (posed_at m makers domain settings origin)
is_posed_at m makers domain settings origin = record {
  means = refl;
  makers_are = refl;
  name = refl;
  classes = refl;
  rules = refl;
  harder = refl;
  settings_are = refl;
}

-- and by no others
pub posed_is : (m : Meaning) (makers : List Made) (domain : DomainView) (settings : Settings) (origin : State) (posed : Posed)
    → IsPosedBy m makers domain settings posed → origin ≡ posed.origin → posed_at m makers domain settings origin ≡ posed
posed_is m makers domain settings origin posed by from = λ i. record {
  name = by.name i;
  classes = by.classes i;
  rules = by.rules i;
  harder = by.harder i;
  meaning = by.means i;
  makers = by.makers_are i;
  settings = by.settings_are i;
  origin = from i;
}

-- boundaries that take what some cuts take agree with them
pub agrees_itself : (cuts : List (Take Post)) → AgreesWith (lines_cut cuts) cuts
agrees_itself cuts k within = refl

-- where the first so many of some cuts and one more count, and no fewer than all but that one, those before it do
pub agrees_least : (takes : ℕ → List Taken) (old : List (Take Post)) (cut : Take Post) (n : ℕ) → length old ≤ n
    → AgreesWith takes (take n (old ++ cut ∷ [])) → AgreesWith takes old
agrees_least takes old cut n least agrees =
    let more : length old + (n - length old) ≡ n = omega (arith, least) in
    let parts : take n (old ++ cut ∷ []) ≡ old ++ take (n - length old) (cut ∷ []) =
    ap (λ (k : ℕ). take k (old ++ cut ∷ [])) (sym more) ∙ take-append-add old (cut ∷ []) (n - length old) in
    agrees_before takes old (take (n - length old) (cut ∷ [])) (subst (AgreesWith takes) parts agrees)

-- what holds for these cuts, where all of them count
pub for_all_cuts : {Holds : (ℕ → List Taken) → Type 0} (least : ℕ) (cuts : List (Take Post)) → least ≤ length cuts → HasNoStop cuts
    → ((takes : ℕ → List Taken) → AgreesWith takes cuts → Holds takes) → ForFirstCuts least cuts Holds
for_all_cuts least cuts enough quiet holds = record {
  count = length cuts;
  enough = enough;
  quiet = subst HasNoStop (sym (all_of cuts)) quiet;
  holds = λ takes agrees. holds takes (subst (AgreesWith takes) (all_of cuts) agrees);
}

-- and where all but the last one do
pub for_cuts_before : {Holds : (ℕ → List Taken) → Type 0} (least : ℕ) (old cuts : List (Take Post)) (cut : Take Post) → cuts ≡ old ++ cut ∷ []
    → length old ≡ least → HasNoStop old → ((takes : ℕ → List Taken) → AgreesWith takes old → Holds takes) → ForFirstCuts least cuts Holds
for_cuts_before least old cuts cut is count quiet holds =
    let first : take (length old) cuts ≡ old = ap (take (length old)) is ∙ first_of old cut in
    record {
      count = length old;
      enough = omega (arith, count);
      quiet = subst HasNoStop (sym first) quiet;
      holds = λ takes agrees. holds takes (subst (AgreesWith takes) first agrees);
    }

-- how far it came, said of the same cuts and the same end
pub led_at : {A : Type 0} (by : Grounds) (posed : Posed) (cuts same : List (Take Post)) (old now : SinkState) (led ended : Result A LiveFault)
    → same ≡ cuts → led ≡ ended → HasLed by posed cuts old now led → HasLed by posed same old now ended
led_at {A = A} by posed cuts same old now led ended took is has =
    subst (λ (c : List (Take Post)). HasLed by posed c old now ended) (sym took) (subst (λ (r : Result A LiveFault). HasLed by posed cuts old now r) is has)

-- a fault that the one call ended with is what the other did
same_end : {A B : Type 0} (fault other : LiveFault) → IsErrOf {T = A} {E = LiveFault} (Err fault) other → IsErrOf {T = B} {E = LiveFault} (Err fault) other
same_end fault other is = let same : fault ≡ other = cc in ap Err same

-- where the half that searches breaks off, the run does
pub led_breaks : {A : Type 0} (by : Grounds) (posed : Posed) (cuts : List (Take Post)) (start old now : SinkState) (fault : LiveFault)
    → HasLed {A = A} by posed cuts old now (Err fault) → HasNamed posed start old → EndsLive by posed cuts start now (Err fault)
led_breaks by posed cuts start old now fault led named =
    let n = led.broken.count in
    record {
      in_order = led.in_order;
      few = omega (arith, led.few);
      all = tt;
      no_stop = tt;
      whole = tt;
      broken = (n, led.broken.quiet, led.broken.holds (lines_cut (take n cuts)) (agrees_itself (take n cuts)) start named);
      stopped = λ cause of. led.stopped cause (same_end fault (Stopped cause) of);
      failed = λ of. fails_since start old now named.later (led.failed (same_end fault Write of));
      later = later_goes_on start old now named.later led.later;
    }
