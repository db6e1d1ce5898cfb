use Rattle.std.proofs.Common.{ap}
use Rattle.std.proofs.lemmas.List.{drop_all}
use Rattle.serde_json.specs.View.{view, items_view}
use Rattle.coverage.proofs.ReadLemmas.{drop_at}
use Rattle.coverage.proofs.ReadDigestsLemmas.{read_none, read_other, read_some, reads_all, reads_more, reads_no_block, reads_none}
use Rattle.coverage.proofs.digests.read.read_list.Goals as goal

pub loop-item-init : goal.loop-item-init
loop-item-init c = reads_none _ _ c.new-blocks.ensures.empty

pub returns-in_default-clause-complete : goal.returns-in_default-clause-complete
returns-in_default-clause-complete c =
    let left = ap items_view (drop_at c.args.list.now c.loop-item.item-index c.item-item.result c.loop-item-test.true c.item-item.is) in
    reads_no_block _ _ _ (view c.item-item.result) _ c.loop-item.invariant left (read_none (view c.item-item.result) c.in_default.ensures)

pub returns-in_default-read_digest-clause-complete : goal.returns-in_default-read_digest-clause-complete
returns-in_default-read_digest-clause-complete c =
    let left = ap items_view (drop_at c.args.list.now c.loop-item.item-index c.item-item.result c.loop-item-test.true c.item-item.is) in
    reads_no_block _ _ _ (view c.item-item.result) _ c.loop-item.invariant left
    (read_other (view c.item-item.result) c.in-Some.k c.in-Some.text.now c.in-Some.ensures c.in_default-read_digest.ensures)

pub loop-item-preserved : goal.loop-item-preserved
loop-item-preserved c =
    let left = ap items_view (drop_at c.args.list.now c.loop-item.item-index c.item-item.result c.loop-item-test.true c.item-item.is) in
    let digest = c.in-Some-read_digest.ensures in
    reads_more _ _ _ _ (view c.item-item.result) _ c.in-Some.k c.in-Some-read_digest.digest c.loop-item.invariant left
    (read_some (view c.item-item.result) c.in-Some.k c.in-Some.text.now c.in-Some-read_digest.digest c.in-Some.ensures digest.1)
    digest.0 c.in_ok-insert.ensures.entries c.insert.ensures.ordered

pub returns-clause-complete : goal.returns-clause-complete
returns-clause-complete c = reads_all _ _ _ c.loop-item.invariant (ap items_view (drop_all c.loop-item.item-index c.args.list.now c.loop-item-test.false))
