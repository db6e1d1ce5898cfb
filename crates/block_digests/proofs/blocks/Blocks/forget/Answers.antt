use Rattle.std.proofs.Common.{rules, ◌≡◌, ◌<◌, Some, None, ap, sym, subst, length, ◌∙◌}
use Rattle.std.specs.Prelude.{slice_get, slice_set, vec_len}
use Rattle.attributes.specs.Event.{source_of}
use Rattle.attributes.specs.Fault.{IsEvent}
use Rattle.block_digests.specs.Kept.{IsForgotten}
use Rattle.block_digests.specs.steps.Index.{kept_in, position}
use Rattle.block_digests.proofs.KeptLemmas.{kept_forgotten}
use Rattle.block_digests.proofs.NoteLemmas.{forgotten_at, forgotten_nowhere, got}
use Rattle.block_digests.proofs.blocks.Blocks.forget.Goals as goal

pub returns-in-Some-clause-forgotten : goal.returns-in-Some-clause-forgotten
returns-in-Some-clause-forgotten c =
    let index = c.self.inside.index in
    let blocks = c.self.inside.blocks.items in
    let there : position index c.source-source.result.now c.block_of-k.result ≡ Some c.in-Some.i = sym c.position.ensures ∙ c.in-Some.is in
    let range : c.in-Some.i < length blocks = search (rules, c.self.invariant.in_range c.source-source.result.now c.block_of-k.result c.in-Some.i there) in
    let had : slice_get blocks c.in-Some.i ≡ Some c.index_mut.result.now = got blocks c.in-Some.i c.index_mut.result.now range c.index_mut.ensures.value in
    subst (λ k. IsForgotten c.args.event.now k (kept_in index (slice_set blocks c.in-Some.i c.remove.new.self))) c.self.view_is
    (forgotten_at index (vec_len c.self.inside.blocks) c.self.invariant blocks c.source-source.result.now c.number.result c.block_of-k.result c.in-Some.i c.index_mut.result.now c.remove.new.self c.args.event.now
    (c.source-source.ensures.value ∙ ap source_of c.event.ensures) c.number.ensures c.block_of-k.ensures there had c.remove.ensures.places c.remove.ensures.digest)

pub returns-in-Some-clause-kept : goal.returns-in-Some-clause-kept
returns-in-Some-clause-kept c = λ A events new kept.
    kept_forgotten c.blocks_change_by_events.ensures.arrivals A c.args.event.now events (subst IsEvent c.event-2.ensures c.text-event.ensures.event) new c.args.self.now _ kept (returns-in-Some-clause-forgotten c)

pub returns-in_default-clause-forgotten : goal.returns-in_default-clause-forgotten
returns-in_default-clause-forgotten c =
    let none : position c.self.inside.index c.source-source.result.now c.block_of-k.result ≡ None = sym c.position.ensures ∙ c.in_default.is in
    subst (λ k. IsForgotten c.args.event.now k k) c.self.view_is
    (forgotten_nowhere c.self.inside.index c.self.inside.blocks.items c.source-source.result.now c.number.result c.block_of-k.result c.args.event.now
    (c.source-source.ensures.value ∙ ap source_of c.event.ensures) c.number.ensures c.block_of-k.ensures none)

pub returns-in_default-clause-kept : goal.returns-in_default-clause-kept
returns-in_default-clause-kept c = λ A events new kept.
    kept_forgotten c.blocks_change_by_events.ensures.arrivals A c.args.event.now events (subst IsEvent c.event-2.ensures c.text-event.ensures.event) new c.args.self.now c.args.self.now kept (returns-in_default-clause-forgotten c)
