use Rattle.std.proofs.Common.{◌∙◌, subst, sym}
use Rattle.vault_ledger.specs.Ledger.{with_outline}
use Rattle.desk_index.specs.Index.{IsIndexOf, IsSet}
use Rattle.desk_index.proofs.Loading.{none_set, each_set, next_set, refused_set, pools_back}
use Rattle.desk_index.proofs.load.set_each.Goals as goal

pub loop-request-init : goal.loop-request-init
loop-request-init c = none_set c.args.requests.now c.args.index.now

pub set-requires-clause-known : goal.set-requires-clause-known
set-requires-clause-known c =
    let from = c.loop-request.invariant.so_far c.requires.known.0 c.requires.known.1 in
    (with_outline c.requires.known.0 from.outline, from.index_is)

pub returns-in_err-refusal-clause-back : goal.returns-in_err-refusal-clause-back
returns-in_err-refusal-clause-back c l known =
    let from = c.loop-request.invariant.so_far l known in
    pools_back c.args.requests.now c.loop-request.request-index l c.loop-request.index from c.set.new.self (c.in_err-refusal.ensures.kept (with_outline l from.outline) from.index_is)

pub returns-in-Some-clause-set : goal.returns-in-Some-clause-set
returns-in-Some-clause-set c l known =
    let from = c.loop-request.invariant.so_far l known in
    refused_set c.args.requests.now c.loop-request.request-index l c.loop-request.index from c.request-item.result c.loop-request-test.true c.request-item.is c.in-Some.refusal c.set.new.self
    (subst (IsSet (with_outline l from.outline) c.request-item.result c.loop-request.index c.set.new.self) c.in-Some.is (c.in_ok-refusal.ensures.set (with_outline l from.outline) from.index_is))

pub returns-in-Some-clause-back : goal.returns-in-Some-clause-back
returns-in-Some-clause-back c l known =
    let from = c.loop-request.invariant.so_far l known in
    let set = subst (IsSet (with_outline l from.outline) c.request-item.result c.loop-request.index c.set.new.self) c.in-Some.is (c.in_ok-refusal.ensures.set (with_outline l from.outline) from.index_is) in
    pools_back c.args.requests.now c.loop-request.request-index l c.loop-request.index from c.set.new.self (subst (IsIndexOf (with_outline l from.outline)) (sym set.1) from.index_is)

pub loop-request-preserved : goal.loop-request-preserved
loop-request-preserved c = record {
  so_far = λ l known.
      let from = c.loop-request.invariant.so_far l known in
      next_set c.args.requests.now c.loop-request.request-index l c.loop-request.index from c.request-item.result c.loop-request-test.true c.request-item.is c.set.new.self
      (subst (IsSet (with_outline l from.outline) c.request-item.result c.loop-request.index c.set.new.self) c.in_default.is (c.in_ok-refusal.ensures.set (with_outline l from.outline) from.index_is));
  copies = c.set.ensures.copies ∙ c.loop-request.invariant.copies;
  catalogue = c.set.ensures.catalogue ∙ c.loop-request.invariant.catalogue;
}

pub returns-clause-set : goal.returns-clause-set
returns-clause-set c l known = each_set c.args.requests.now c.loop-request.request-index l c.loop-request.index (c.loop-request.invariant.so_far l known) c.loop-request-test.false
