use Rattle.std.proofs.Common.{◌∙◌, ◌++◌, ℕ, map, subst, take, length}
use Rattle.std.specs.FinMap as finmap
use Rattle.std.specs.List.{filter_map}
use Rattle.plan_rules.specs.Bags.{AreSame}
use Rattle.plan_rules.proofs.Sums.{same-map}
use Rattle.stream_heads.specs.Sides.{members_of}
use Rattle.stream_group.specs.Keyed.{number_in, numbers_coming, numbers_staying, under}
use Rattle.stream_group.specs.Tally.{TalliesMore}
use Rattle.stream_group.specs.Turns.{numbers_under}
use Rattle.stream_group.proofs.Listed.{numbers_later}
use Rattle.stream_group.proofs.Tallied.{made_anew, tallies_on}
use Rattle.stream_group.proofs.turn.visit_run.Goals as goal

pub returns-clause-before : goal.returns-clause-before
returns-clause-before c =
    let by = c.args.by.now in
    let width = length by.keys in
    let key = take width c.args.key.now in
    let kept = members_of c.args.members.now in
    let there = filter_map (finmap.get c.args.members.now.rows.now) c.under.result.now in
    let same : AreSame there (under width key kept) =
    subst (λ (w : ℕ). AreSame there (under w (take w c.args.key.now) kept)) c.requires.width c.under.ensures.rows in
    let one = c.restart.new.self in
    let two = c.tally_there.new.before in
    let taken = subst (λ (w : ℕ). TalliesMore one two (map (number_in w) there)) c.len-width.ensures c.in_ok-tally_there.ensures.before in
    made_anew one two by.collect (map (number_in width) there) (numbers_under width kept key) c.restart.ensures.tallies
    (c.tally_there.ensures.collect_before ∙ c.restart.ensures.collect) taken (same-map (number_in width) there (under width key kept) same)

pub returns-clause-after : goal.returns-clause-after
returns-clause-after c =
    let by = c.args.by.now in
    let width = length by.keys in
    let key = take width c.args.key.now in
    let kept = members_of c.args.members.now in
    let run = c.args.run.now in
    let there = filter_map (finmap.get c.args.members.now.rows.now) c.under.result.now in
    let same : AreSame there (under width key kept) =
    subst (λ (w : ℕ). AreSame there (under w (take w c.args.key.now) kept)) c.requires.width c.under.ensures.rows in
    let one = c.restart-2.new.self in
    let two = c.tally_there.new.after in
    let three = c.tally_come.new.tally in
    let w = c.len-width.result in
    let both = tallies_on one two three (numbers_staying w run there) (numbers_coming w run) c.in_ok-tally_there.ensures.after c.in_ok-tally_come.ensures.tallies in
    let taken = subst (λ (w : ℕ). TalliesMore one three (numbers_staying w run there ++ numbers_coming w run)) c.len-width.ensures both in
    made_anew one three by.collect _ _ c.restart-2.ensures.tallies
    (c.tally_come.ensures.collect ∙ c.tally_there.ensures.collect_after ∙ c.restart-2.ensures.collect) taken (numbers_later width key run there kept same c.requires.run)
