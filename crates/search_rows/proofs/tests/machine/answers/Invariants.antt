use Rattle.search_rows.specs.Posted.{HasFewPosts}
use Rattle.search_rows.proofs.tests.machine.answers.Given as goal

-- no more posts than events so far
abbrev pub invariant-loop-place : goal.invariant-loop-place
invariant-loop-place l = HasFewPosts l.core l.place
