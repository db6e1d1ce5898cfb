use Rattle.sqlite.specs.Held.{state}
use Rattle.numbers.specs.Numberer.{taken}
use Rattle.numbers.proofs.KnownLemmas.{counts_put, texts_there}
use Rattle.number_table.specs.Calls.{from}
use Rattle.number_table.proofs.LookLemmas.{are_events, tells}
use Rattle.number_table.proofs.lookup.answer_all.Goals as goal

pub returns-clause-numbers : goal.returns-clause-numbers
returns-clause-numbers g c clean base A rows was =
    let L = c.args.events.now in
    let events = are_events L c.requires in
    let it = tells base A L rows (state g.S.Store c.args.table.now.conn) c.args.counted.now c.take_recent-known.new.self c.take_recent-known.result c.look_up_all.new.known c.take_recent-known.ensures.taken c.take_recent-known.ensures.left events (c.in_ok-look_up_all.ensures.learns clean) was in
    let got = c.in_ok-batch.ensures.numbers (from base) A it.counts it.each in (
      got.0,
      counts_put (from base) (taken A L) c.number_all.new.counted c.put_recent.new.self c.number_all.new.known c.put_recent.ensures (c.in_ok-batch.ensures.only (from base) A it.counts it.each it.only) got.1,
      λ is. texts_there (from base) A L c.look_up_all.new.known it.only events (c.has_all-all_known.ensures.0 is),
    )
