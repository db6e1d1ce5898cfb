use Rattle.sqlite.specs.Held.{state}
use Rattle.inbox_table.specs.Calls.{joined}
use Rattle.numbers.specs.Numberer.{taken}
use Rattle.numbers.proofs.KnownLemmas.{counts_put, texts_there}
use Rattle.number_table.specs.Calls.{from}
use Rattle.number_table.proofs.LookLemmas.{all_events, tells}
use Rattle.number_table.proofs.lookup.answer_each.Goals as goal

pub returns-clause-numbers : goal.returns-clause-numbers
returns-clause-numbers g c clean base A rows was =
    let lists = c.args.lists.now in
    let L = joined lists in
    let events = all_events lists c.requires in
    let it = tells base A L rows (state g.S.Store c.args.table.now.conn) c.args.counted.now c.take_recent-known.new.self c.take_recent-known.result c.look_up_lists.new.known c.take_recent-known.ensures.taken c.take_recent-known.ensures.left events (c.in_ok-look_up_lists.ensures.learns clean) was in
    let got = c.in_ok-batches.ensures.numbers (from base) A it.counts it.each in (
      got.0,
      counts_put (from base) (taken A L) c.number_lists.new.counted c.put_recent.new.self c.number_lists.new.known c.put_recent.ensures (c.in_ok-batches.ensures.only (from base) A it.counts it.each it.only) got.1,
      λ is. texts_there (from base) A L c.look_up_lists.new.known it.only events (c.are_known-all_known.ensures.0 is),
    )
