use Rattle.std.proofs.Common.{inl, inr}
use Rattle.shipped_domains.proofs.Members.{one_of_three, three_same}
use Rattle.shipped_domains.proofs.domains.domains_of.Goals as goal

pub returns-clause-views : goal.returns-clause-views
returns-clause-views g c =
    three_same c.in_ok-timetable.ensures.view c.in_ok-roster.ensures.views.0 c.in_ok-roster.ensures.views.1

pub returns-clause-keeps : goal.returns-clause-keeps
returns-clause-keeps g c = λ k d within.
    elim (one_of_three c.in_ok-timetable.timetable c.in_ok-roster.roster c.in_ok-roster.open_roster k d within) [
      | inl is ↦ rw is c.in_ok-timetable.ensures.keeps
      | inr later ↦ elim later [
        | inl is ↦ rw is c.in_ok-roster.ensures.keeps.0
        | inr is ↦ rw is c.in_ok-roster.ensures.keeps.1
      ]
    ]

pub returns-clause-makers : goal.returns-clause-makers
returns-clause-makers g c =
    three_same c.in_ok-timetable.ensures.makers c.in_ok-roster.ensures.makers.0 c.in_ok-roster.ensures.makers.1
