use Rattle.std.proofs.Common.{rules}
use Rattle.std.proofs.lemmas.Result.{on_ok_weaker}
use Rattle.std.proofs.lemmas.List.Elements.{All-cons}
use Rattle.score_director.specs.Rule.{IsReady, IsRuleOpen, IsRuleWhole, KeepsRuleBase, KnowsClasses}
use Rattle.score_director.proofs.AllLaws.{keep_base, stores_from}
use Rattle.score_director.proofs.ChainLaws.{all_first, all_rest}
use Rattle.score_director.proofs.ZipLaws.{zip_cons, zip_rest}
use Rattle.score_director.proofs.all.+store_all.Goals as goal

pub returns-in_err-absorb-clause-base : goal.returns-in_err-absorb-clause-base
returns-in_err-absorb-clause-base t c =
    zip_cons KeepsRuleBase c.args.nets.now c.in-Some.rest.now c.in-Some.net.now c.in-Some.rest.now c.absorb.new.self c.in-Some.ensures.cases.0 c.absorb.ensures.base (keep_base c.in-Some.rest.now)

pub returns-in_err-absorb-clause-open : goal.returns-in_err-absorb-clause-open
returns-in_err-absorb-clause-open t c =
    All-cons IsRuleOpen c.absorb.new.self c.in-Some.rest.now c.absorb.ensures.open
    (all_rest IsRuleOpen c.args.nets.now c.in-Some.rest.now c.in-Some.net.now c.in-Some.ensures.cases.0 c.requires.open)

pub store_all-requires : goal.store_all-requires
store_all-requires t c =
    let is = c.in-Some.ensures.cases.0 in
    let found_is = c.in-Some-split_first.ensures.cases.0 in
    let all = c.args.nets.now in
    let rest = c.in-Some.rest.now in
    let n = c.in-Some.net.now in (
      search rules,
      (
        all_rest IsRuleOpen all rest n is c.requires.open,
        (
          all_rest IsRuleWhole all rest n is c.requires.whole,
          (
            all_rest (KnowsClasses c.args.lefts.now c.args.rights.now) all rest n is c.requires.classes,
            zip_rest IsReady all rest n c.args.found.now c.in-Some-split_first.others.now c.in-Some-split_first.first.now is found_is c.requires.ready,
          ),
        ),
      ),
    )

pub returns-clause-stores : goal.returns-clause-stores
returns-clause-stores t c =
    let known = all_first (KnowsClasses c.args.lefts.now c.args.rights.now) c.args.nets.now c.in-Some.rest.now c.in-Some.net.now c.in-Some.ensures.cases.0 c.requires.classes in
    on_ok_weaker c.store_all.result
    (λ others. stores_from c.args.lefts.now c.args.rights.now c.args.nets.now c.in-Some.rest.now c.store_all.new.nets c.in-Some.net.now c.absorb.new.self c.index-lefts-net.result c.taking-left.result.now c.args.found.now c.in-Some-split_first.others.now c.in-Some-split_first.first.now
    c.in-Some.ensures.cases.0 c.in-Some-split_first.ensures.cases.0 known.head c.index-lefts-net.is c.taking-left.ensures c.in_ok-absorb.ensures.stores others)
    c.store_all.ensures.stores
