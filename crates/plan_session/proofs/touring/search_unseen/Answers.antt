use Rattle.std.proofs.Common.{◌∙◌, ℕ, List, map, sym, ap, subst}
use Rattle.std.proofs.lemmas.Result.{IfOk-weaker}
use Rattle.plan_rules.specs.Range.{MayJudge, sizes_of}
use Rattle.score_director.specs.View.{DirectorView}
use Rattle.plan_json.specs.Accepted.{problem_view}
use Rattle.plan_json.specs.Seen.{domain_view}
use Rattle.plan_session.specs.Posed.{posed_in}
use Rattle.plan_session.proofs.Posing.{is_origin, is_posed}
use Rattle.plan_session.proofs.touring.search_unseen.Goals as goal

pub search-requires-clause-judges : goal.search-requires-clause-judges
search-requires-clause-judges g c κs within =
    let makes = map (λ m. (goal.MoveMaker-dyn g (m.vtable, m.value)).made m.value) c.args.domain.now.makers.items in
    let domain = domain_view c.args.domain.now in
    let problem = problem_view c.args.problem in
    let begun = c.in_ok-director.ensures.begun makes (posed_in g.B.Book.meaning makes domain problem)
    (is_posed g.B.Book.meaning makes domain problem) (is_origin g.B.Book.meaning makes domain problem) in
    let rules = c.args.domain.now.rules in (
      c.requires.judges.0,
      subst (λ (weights : List ℕ). MayJudge rules.defs rules.caps weights (sizes_of c.in_ok-director.director.plan)) (sym (ap (λ d. d.weights) begun.stands))
          (subst (λ sizes. MayJudge rules.defs rules.caps c.args.problem.weights sizes) (sym c.in_ok-director.ensures.sizes) c.requires.judges.1),
    )

pub search-requires-clause-weights : goal.search-requires-clause-weights
search-requires-clause-weights g c κs within =
    let makes = map (λ m. (goal.MoveMaker-dyn g (m.vtable, m.value)).made m.value) c.args.domain.now.makers.items in
    let domain = domain_view c.args.domain.now in
    let problem = problem_view c.args.problem in
    let begun = c.in_ok-director.ensures.begun makes (posed_in g.B.Book.meaning makes domain problem)
    (is_posed g.B.Book.meaning makes domain problem) (is_origin g.B.Book.meaning makes domain problem) in
    ap (λ (d : DirectorView). d.weights) begun.stands ∙ sym (c.as_slice.ensures ∙ c.in_ok-under.ensures)

pub search-requires-clause-begun : goal.search-requires-clause-begun
search-requires-clause-begun g c κs within =
    let makes = map (λ m. (goal.MoveMaker-dyn g (m.vtable, m.value)).made m.value) c.args.domain.now.makers.items in
    let domain = domain_view c.args.domain.now in
    let problem = problem_view c.args.problem in
    let posed = posed_in g.B.Book.meaning makes domain problem in
    let by = is_posed g.B.Book.meaning makes domain problem in
    (posed, by, c.in_ok-director.ensures.begun makes posed by (is_origin g.B.Book.meaning makes domain problem))

pub returns : goal.returns
returns g c =
    let makes = map (λ m. (goal.MoveMaker-dyn g (m.vtable, m.value)).made m.value) c.args.domain.now.makers.items in
    let domain = domain_view c.args.domain.now in
    let problem = problem_view c.args.problem in
    let posed = posed_in g.B.Book.meaning makes domain problem in
    let by = is_posed g.B.Book.meaning makes domain problem in
    let begun = c.in_ok-director.ensures.begun makes posed by (is_origin g.B.Book.meaning makes domain problem) in
    IfOk-weaker c.search.result _ _ (λ searched any. any posed by begun) c.search.ensures.searched
