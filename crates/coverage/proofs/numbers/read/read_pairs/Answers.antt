use Rattle.std.proofs.Common.{ap}
use Rattle.std.proofs.lemmas.List.{drop_all}
use Rattle.serde_json.specs.View.{view, items_view}
use Rattle.coverage.proofs.ReadLemmas.{drop_at, reads_none, reads_more, reads_no_pair, reads_no_fit, reads_all}
use Rattle.coverage.proofs.numbers.read.read_pairs.Goals as goal

pub loop-item-init : goal.loop-item-init
loop-item-init c = reads_none _ _ c.in_ok-pairs.ensures.items

pub returns-in_default-clause-complete : goal.returns-in_default-clause-complete
returns-in_default-clause-complete c =
    let left = ap items_view (drop_at c.args.list.now c.loop-item.item-index c.item-item.result c.loop-item-test.true c.item-item.is) in
    reads_no_pair _ _ _ _ (view c.item-item.result) _ c.loop-item.invariant left c.in_default.ensures

pub returns-then-not-fits_from-clause-complete : goal.returns-then-not-fits_from-clause-complete
returns-then-not-fits_from-clause-complete c =
    let left = ap items_view (drop_at c.args.list.now c.loop-item.item-index c.item-item.result c.loop-item-test.true c.item-item.is) in
    reads_no_fit _ _ _ _ (view c.item-item.result) _ c.in-Some.pair c.loop-item.invariant left c.in-Some.ensures c.if-not-fits_from.ensures

pub loop-item-preserved : goal.loop-item-preserved
loop-item-preserved c =
    let left = ap items_view (drop_at c.args.list.now c.loop-item.item-index c.item-item.result c.loop-item-test.true c.item-item.is) in
    reads_more _ _ _ _ _ (view c.item-item.result) _ c.in-Some.pair c.loop-item.invariant left c.in-Some.ensures c.if-not-fits_from.ensures c.in_ok-push.ensures.items

pub returns-clause-complete : goal.returns-clause-complete
returns-clause-complete c =
    reads_all _ _ _ _ c.loop-item.invariant (ap items_view (drop_all c.loop-item.item-index c.args.list.now c.loop-item-test.false))
