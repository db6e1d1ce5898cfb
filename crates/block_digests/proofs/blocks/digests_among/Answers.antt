use Rattle.std.proofs.Common.{◌<◌, ap, sym, length, ◌∙◌}
use Rattle.std.specs.Option.{option_and_then}
use Rattle.block_digests.specs.steps.Mended.{fresh_digest}
use Rattle.block_digests.proofs.DigestsLemmas.{at_end, beyond, none_more, of_block, one_more}
use Rattle.block_digests.proofs.NoteLemmas.{got}
use Rattle.block_digests.proofs.blocks.digests_among.Goals as goal

pub loop-k-preserved-in_ok-insert : goal.loop-k-preserved-in_ok-insert
loop-k-preserved-in_ok-insert g c =
    let A = g.E.Arrivals.arrivals c.args.events.now in
    let blocks = c.args.blocks.now in
    let i = c.in-Some.i.now in
    let b = c.in-Some-get.block.now in
    let range : i < length blocks = c.in-Some-get.ensures.lookup.3.0 in
    one_more A blocks c.args.index.now.entries c.loop-k.k-iterator c.in-Some.k.now i _ c.loop-k.digests c.insert.new.self c.in-Some-2.digest c.loop-k.invariant c.in-Some.ensures.steps
    (of_block A blocks i b range (got blocks i b range c.in-Some-get.ensures.lookup.1) ∙ sym c.in_ok-digest.ensures ∙ c.in-Some-2.is)
    c.in_ok-insert.ensures.updates.0

pub loop-k-preserved-in_default-2 : goal.loop-k-preserved-in_default-2
loop-k-preserved-in_default-2 g c =
    let A = g.E.Arrivals.arrivals c.args.events.now in
    let blocks = c.args.blocks.now in
    let i = c.in-Some.i.now in
    let b = c.in-Some-get.block.now in
    let range : i < length blocks = c.in-Some-get.ensures.lookup.3.0 in
    none_more A blocks c.args.index.now.entries c.loop-k.k-iterator c.in-Some.k.now i _ c.loop-k.digests c.loop-k.invariant c.in-Some.ensures.steps
    (of_block A blocks i b range (got blocks i b range c.in-Some-get.ensures.lookup.1) ∙ sym c.in_ok-digest.ensures ∙ c.in_default-2.is)

pub loop-k-preserved : goal.loop-k-preserved
loop-k-preserved g c =
    let A = g.E.Arrivals.arrivals c.args.events.now in
    let blocks = c.args.blocks.now in
    let i = c.in-Some.i.now in
    none_more A blocks c.args.index.now.entries c.loop-k.k-iterator c.in-Some.k.now i _ c.loop-k.digests c.loop-k.invariant c.in-Some.ensures.steps
    (ap (option_and_then (fresh_digest A)) (beyond blocks i c.in_default.ensures.lookup.3))

pub returns : goal.returns
returns g c =
    let A = g.E.Arrivals.arrivals c.args.events.now in
    at_end A c.args.blocks.now c.args.index.now.entries c.loop-k.k-iterator c.loop-k.digests c.loop-k.invariant c.in-None.ensures.steps.0
