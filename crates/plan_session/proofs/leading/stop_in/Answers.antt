use Rattle.std.proofs.Common.{◌≡◌, ◌∙◌, ◌+◌, ◌∷◌, ◌++◌, [], List, All, take, sym, ap, subst, arith}
use Rattle.std.proofs.lemmas.List.{take_all, take_more}
use Rattle.std.proofs.lemmas.List.Elements.{All-append, All-cons, All-nil}
use Rattle.plan_changes.specs.declared.line.Post.{Post}
use Rattle.plan_session.proofs.LiveCuts.{IsLine, no_stop_body}
use Rattle.plan_session.proofs.leading.stop_in.Goals as goal

pub posts-preserved : goal.posts-preserved
posts-preserved c =
    let posts : List Post = c.args.posts.now in
    let i = c.posts.post-index in
    let post : Post = c.post-item.result in
    let more : take (i + 1) posts ≡ take i posts ++ post ∷ [] =
    take_more posts i post c.posts-test.true ∙ ap (λ (p : Post). take i posts ++ p ∷ []) (sym c.post-item.is) in
    subst (All IsLine) (sym more)
    (All-append IsLine (take i posts) (post ∷ []) c.posts.invariant
    (All-cons IsLine post [] (no_stop_body post.body c.in_default.not-Stop) (All-nil IsLine)))

pub returns-clause-none : goal.returns-clause-none
returns-clause-none c = subst (All IsLine) (take_all c.posts.post-index c.args.posts.now (omega (arith, c.posts-test.false))) c.posts.invariant
