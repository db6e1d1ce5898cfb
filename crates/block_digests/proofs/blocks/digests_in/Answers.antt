use Rattle.std.proofs.Common.{arith, ◌<◌, Some, sym, subst, ◌∙◌}
use Rattle.std.specs.List.{AllByRecursion}
use Rattle.std.proofs.lemmas.Map.Text.{btree_map_updates_text}
use Rattle.std.specs.String.{string_bytes}
use Rattle.block_digests.specs.Kept.{AreOfSource}
use Rattle.block_digests.proofs.DigestsLemmas.{all_put, end, of_source, source_more, source_without, start}
use Rattle.block_digests.proofs.blocks.digests_in.Goals as goal

pub loop-source-init : goal.loop-source-init
loop-source-init g c =
    let A = g.E.Arrivals.arrivals c.args.events.now in (
      start A c.args.blocks.now c.args.index.now c.into_iter-source-iterator.result c.new-digests.result c.into_iter-source-iterator.ensures.into_iter_gives.0 c.into_iter-source-iterator.ensures.into_iter_gives.5 c.new-digests.ensures.empty,
      subst (AllByRecursion (λ e. AreOfSource e.1)) (sym c.new-digests.ensures.empty) tt,
    )

pub loop-source-preserved-in_ok-insert : goal.loop-source-preserved-in_ok-insert
loop-source-preserved-in_ok-insert g c =
    let A = g.E.Arrivals.arrivals c.args.events.now in (
      source_more A c.args.blocks.now c.args.index.now.entries c.loop-source.source-iterator c.in-Some.source.now c.in-Some.index.now _ c.loop-source.digests c.insert.new.self c.in_ok-key.key c.in_ok-own.own
          c.loop-source.invariant.0 c.in-Some.ensures.steps (c.in_ok-key.ensures.ok ∙ c.as_str.ensures.value) c.in_ok-own.ensures
          (btree_map_updates_text (string_bytes c.in_ok-key.key) c.loop-source.digests c.insert.new.self (Some c.in_ok-own.own) c.in_ok-insert.ensures.updates),
      all_put AreOfSource c.loop-source.digests.entries c.insert.new.self.entries c.in_ok-key.key c.in_ok-own.own c.loop-source.invariant.1
          (of_source c.in_ok-own.own (subst (λ n. 0 < n) c.len.ensures.len c.if-len-gt0.true) c.len.ensures.ordered) c.in_ok-insert.ensures.entries,
    )

pub loop-source-preserved-in_ok-insert-2 : goal.loop-source-preserved-in_ok-insert-2
loop-source-preserved-in_ok-insert-2 g c =
    let A = g.E.Arrivals.arrivals c.args.events.now in (
      source_more A c.args.blocks.now c.args.index.now.entries c.loop-source.source-iterator c.in-Some.source.now c.in-Some.index.now _ c.loop-source.digests c.insert.new.self c.in_ok-key.key c.in_ok-own.own
          c.loop-source.invariant.0 c.in-Some.ensures.steps (c.in_ok-key.ensures.ok ∙ c.as_str.ensures.value) c.in_ok-own.ensures
          (btree_map_updates_text (string_bytes c.in_ok-key.key) c.loop-source.digests c.insert.new.self (Some c.in_ok-own.own) c.in_ok-insert.ensures.updates),
      all_put AreOfSource c.loop-source.digests.entries c.insert.new.self.entries c.in_ok-key.key c.in_ok-own.own c.loop-source.invariant.1
          (of_source c.in_ok-own.own (subst (λ n. 0 < n) c.len.ensures.len c.if-len-gt0.true) c.len.ensures.ordered) c.in_ok-insert.ensures.entries,
    )

pub loop-source-preserved : goal.loop-source-preserved
loop-source-preserved g c =
    let A = g.E.Arrivals.arrivals c.args.events.now in (
      source_without A c.args.blocks.now c.args.index.now.entries c.loop-source.source-iterator c.in-Some.source.now c.in-Some.index.now _ c.loop-source.digests c.in_ok-own.own
          c.loop-source.invariant.0 c.in-Some.ensures.steps c.in_ok-own.ensures (omega (arith, c.len.ensures.len, c.if-len-gt0.false)),
      c.loop-source.invariant.1,
    )

pub returns-clause-found : goal.returns-clause-found
returns-clause-found g c =
    end (g.E.Arrivals.arrivals c.args.events.now) c.args.blocks.now c.args.index.now c.loop-source.source-iterator c.loop-source.digests c.loop-source.invariant.0 c.in-None.ensures.steps.0
