use Rattle.std.proofs.Common.{◌≡◌, ◌∙◌, List, ℕ, length, sym, ap, arith}
use Rattle.live_lines.specs.Taking.{changed_by, grounds, searched}
use Rattle.live_lines.proofs.Fewness.{few_names}
use Rattle.live_lines.proofs.Made.{change_made, change_told, refused_told, refused_took}
use Rattle.live_lines.proofs.taking.take_change.Goals as goal

pub returns-in_ok-change-in-Ok-clause-took : goal.returns-in_ok-change-in-Ok-clause-took
returns-in_ok-change-in-Ok-clause-took g c =
    let by = grounds c.args.schema.now c.args.rules.now.defs c.args.rules.now.caps in
    let made = change_made by c.args.director.now c.args.names.now c.args.change.now c.requires.own c.requires.rest c.in-Ok.ready c.in-Ok.ensures.ok c.in-Ok.ensures.ready in
    let after : searched c.change.new.self c.change.new.names ≡ changed_by c.in-Ok.ready (searched c.args.director.now c.args.names.now) = (λ i. searched (c.in_ok-change-in-Ok.ensures.ok i) (c.in_ok-change-in-Ok.ensures.names i)) in
    after ∙ sym made

pub returns-in_ok-change-in-Ok-clause-told : goal.returns-in_ok-change-in-Ok-clause-told
returns-in_ok-change-in-Ok-clause-told g c =
    let by = grounds c.args.schema.now c.args.rules.now.defs c.args.rules.now.caps in
    c.applied_line.ensures
    ∙ sym (change_told by c.args.director.now c.args.names.now c.args.change.now c.requires.own c.requires.rest c.in-Ok.ready c.args.number c.args.boundary c.in-Ok.ensures.ok c.in-Ok.ensures.ready)

pub returns-in_ok-change-in-Ok-clause-few : goal.returns-in_ok-change-in-Ok-clause-few
returns-in_ok-change-in-Ok-clause-few g c =
    let le = few_names c.in-Ok.ready c.args.director.now.plan (length c.args.director.now.weights) c.args.names.now c.in-Ok.ensures.may in
    let long = ap (λ (ns : List (List ℕ)). length ns) c.in_ok-change-in-Ok.ensures.names in
    omega (arith, le, long)

pub returns-in-Err-clause-took : goal.returns-in-Err-clause-took
returns-in-Err-clause-took g c =
    let by = grounds c.args.schema.now c.args.rules.now.defs c.args.rules.now.caps in
    refused_took by c.args.director.now c.args.names.now c.args.change.now c.requires.own c.requires.rest c.refused_line.result c.in-Err.fault c.refused_line.ensures.fault c.in-Err.ensures.err

pub returns-in-Err-clause-told : goal.returns-in-Err-clause-told
returns-in-Err-clause-told g c =
    let by = grounds c.args.schema.now c.args.rules.now.defs c.args.rules.now.caps in
    refused_told by c.args.director.now c.args.names.now c.args.change.now c.requires.own c.requires.rest c.refused_line.result c.in-Err.fault c.args.number c.args.boundary c.refused_line.ensures.fault c.refused_line.ensures.line c.in-Err.ensures.err
