use Rattle.std.proofs.Common.{rules, ◌≡◌, ◌<◌, Some, ap, subst, length, ◌∙◌}
use Rattle.std.specs.Prelude.{slice_get, vec_len}
use Rattle.std.proofs.lemmas.Result.{err_from_is_err_and}
use Rattle.attributes.specs.Event.{source_of}
use Rattle.attributes.specs.Fault.{IsEvent}
use Rattle.block_digests.specs.Kept.{KeepsDigests}
use Rattle.block_digests.specs.steps.Index.{kept_in}
use Rattle.block_digests.proofs.KeptLemmas.{err_along, kept_alike, kept_noted, ok_along}
use Rattle.block_digests.proofs.NoteLemmas.{alike_at, got, noted_at, ok_both}
use Rattle.block_digests.proofs.blocks.Blocks.note.Goals as goal

pub returns-in_err-i-clause-event : goal.returns-in_err-i-clause-event
returns-in_err-i-clause-event c = subst IsEvent c.event-2.ensures c.text-event.ensures.event

pub returns-clause-event : goal.returns-clause-event
returns-clause-event c = subst IsEvent c.event-2.ensures c.text-event.ensures.event

pub returns-in_err-i-clause-alike : goal.returns-in_err-i-clause-alike
returns-in_err-i-clause-alike c =
    let mid = kept_in c.find_or_make.new.index c.find_or_make.new.blocks.items in
    let alike : KeepsDigests c.args.self.now mid = subst (λ k. KeepsDigests k mid) c.self.view_is c.find_or_make.ensures.alike in
    rw (err_from_is_err_and c.from_residual.result c.from_residual.ensures.1).1 alike

pub returns-in_err-i-clause-same : goal.returns-in_err-i-clause-same
returns-in_err-i-clause-same c = λ A kept.
    let mid = kept_in c.find_or_make.new.index c.find_or_make.new.blocks.items in
    let alike : KeepsDigests c.args.self.now mid = subst (λ k. KeepsDigests k mid) c.self.view_is c.find_or_make.ensures.alike in
    rw (err_from_is_err_and c.from_residual.result c.from_residual.ensures.1).1 (kept_alike A c.args.self.now mid kept alike)

pub index_mut-requires : goal.index_mut-requires
index_mut-requires c = c.find_or_make.ensures.index.in_range c.source-source.result.now c.block_of-k.result c.in_ok-i.i c.in_ok-i.ensures.there

pub returns-clause-noted : goal.returns-clause-noted
returns-clause-noted c =
    let index = c.find_or_make.new.index in
    let blocks = c.find_or_make.new.blocks.items in
    let alike : KeepsDigests c.args.self.now (kept_in index blocks) = subst (λ k. KeepsDigests k (kept_in index blocks)) c.self.view_is c.find_or_make.ensures.alike in
    let range : c.in_ok-i.i < length blocks = search (rules, c.find_or_make.ensures.index.in_range c.source-source.result.now c.block_of-k.result c.in_ok-i.i c.in_ok-i.ensures.there) in
    let had : slice_get blocks c.in_ok-i.i ≡ Some c.index_mut.result.now = got blocks c.in_ok-i.i c.index_mut.result.now range c.index_mut.ensures.value in
    ok_both c.add.result _ _ _
    (λ places digest. noted_at index (vec_len c.find_or_make.new.blocks) c.find_or_make.ensures.index blocks c.source-source.result.now c.number.result c.block_of-k.result c.in_ok-i.i c.index_mut.result.now c.add.new.self c.args.event.now c.args.place c.args.self.now
    (c.source-source.ensures.value ∙ ap source_of c.event.ensures) c.number.ensures c.block_of-k.ensures c.in_ok-i.ensures.there had alike places digest)
    c.add.ensures.places c.add.ensures.digest

pub returns-clause-kept : goal.returns-clause-kept
returns-clause-kept c = λ A events kept new len.
    ok_along c.add.result _ _
    (λ noted. kept_noted c.blocks_change_by_events.ensures.arrivals A c.args.event.now events (subst IsEvent c.event-2.ensures c.text-event.ensures.event) new c.args.self.now _ c.args.place len kept noted)
    (returns-clause-noted c)

pub returns-clause-alike : goal.returns-clause-alike
returns-clause-alike c =
    let index = c.find_or_make.new.index in
    let blocks = c.find_or_make.new.blocks.items in
    let alike : KeepsDigests c.args.self.now (kept_in index blocks) = subst (λ k. KeepsDigests k (kept_in index blocks)) c.self.view_is c.find_or_make.ensures.alike in
    let range : c.in_ok-i.i < length blocks = search (rules, c.find_or_make.ensures.index.in_range c.source-source.result.now c.block_of-k.result c.in_ok-i.i c.in_ok-i.ensures.there) in
    let had : slice_get blocks c.in_ok-i.i ≡ Some c.index_mut.result.now = got blocks c.in_ok-i.i c.index_mut.result.now range c.index_mut.ensures.value in
    err_along c.add.result _ _ (alike_at index blocks c.in_ok-i.i c.index_mut.result.now c.add.new.self c.args.self.now had alike) c.add.ensures.err

pub returns-clause-same : goal.returns-clause-same
returns-clause-same c = λ A kept. err_along c.add.result _ _ (λ alike. kept_alike A c.args.self.now _ kept alike) (returns-clause-alike c)
