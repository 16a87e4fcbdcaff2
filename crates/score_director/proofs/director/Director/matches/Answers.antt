use Rattle.std.proofs.Common.{◌∙◌, ◌<◌, ℕ, ap, length, subst, sym}
use Rattle.score_director.specs.View.{DirectorView, rows_seen}
use Rattle.score_director.proofs.Led.{as_many, rows_are}
use Rattle.score_director.proofs.director.Director.matches.Goals as goal

pub rows-requires : goal.rows-requires
rows-requires g c =
    let d = c.self.inside in
    let long = as_many g.B.Book.meaning d.rules d.plan d.net c.self.invariant.network ∙ ap (λ (s : DirectorView). length s.rules) c.self.view_is in
    subst (λ (n : ℕ). c.args.rule < n) (sym long) c.requires

pub returns : goal.returns
returns g c =
    let m = g.B.Book.meaning in
    let d = c.self.inside in
    let within : c.args.rule < length d.rules = subst (λ (n : ℕ). c.args.rule < n) (sym (ap (λ (s : DirectorView). length s.rules) c.self.view_is)) c.requires in
    rows_are m d.rules d.plan d.net c.self.invariant.network c.args.rule c.in_ok-rows.rows c.put_in_order.new.rows within c.in_ok-rows.ensures c.put_in_order.ensures.rule
    ∙ ap (λ (s : DirectorView). rows_seen m s c.args.rule) c.self.view_is
