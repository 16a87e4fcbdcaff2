use Rattle.std.proofs.Common.{◌≡◌, None, rules}
use Rattle.std.specs.Prelude.{option_copied, slice_get}
use Rattle.plan_facts.specs.Schema.{HasFewMembers, HasRanges, schema_fault}
use Rattle.plan_facts.proofs.Lists.{IfSome-member}
use Rattle.plan_facts.proofs.SchemaLaws.{few_members_of, each_range_of}
use Rattle.plan_facts.proofs.schema.Schema.class.Goals as goal

pub returns-clause-members : goal.returns-clause-members
returns-clause-members c =
    let at : option_copied c.get.result ≡ slice_get c.args.self.now c.args.n = search rules in
    let faultless : schema_fault c.args.self.now ≡ None = search rules in
    IfSome-member HasFewMembers c.args.self.now c.args.n c.get.result at (few_members_of c.args.self.now faultless)

pub returns-clause-ranges : goal.returns-clause-ranges
returns-clause-ranges c =
    let at : option_copied c.get.result ≡ slice_get c.args.self.now c.args.n = search rules in
    let faultless : schema_fault c.args.self.now ≡ None = search rules in
    IfSome-member (HasRanges c.args.self.now) c.args.self.now c.args.n c.get.result at (each_range_of c.args.self.now faultless)
