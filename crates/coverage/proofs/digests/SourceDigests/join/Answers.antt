use Rattle.std.proofs.Common.{ap, ap₂, sym, ◌∙◌, string_bytes}
use Rattle.std.specs.BTreeMap.{insert_entry, is_at}
use Rattle.std.specs.Map.{lookup}
use Rattle.std.specs.Prelude.{is_some}
use Rattle.coverage.specs.Numbers.{byte_cmp}
use Rattle.coverage.specs.steps.Blocks.{blocks_in}
use Rattle.coverage.proofs.JoinLemmas.{joined_all, joined_kept, joined_none, joined_put, joined_some, wanted}
use Rattle.coverage.proofs.digests.SourceDigests.join.Goals as goal

pub loop-source-init : goal.loop-source-init
loop-source-init c =
    joined_none c.args.self.now c.args.other.now _ _ (ap blocks_in c.into_iter-source-iterator.ensures.into_iter_gives.0 ∙ c.other-2.view_is) c.in_ok-both.ensures.copied

pub loop-source-preserved-in_ok-put : goal.loop-source-preserved-in_ok-put
loop-source-preserved-in_ok-put c =
    let source = string_bytes c.in-Some.source.now in
    let digests = c.in-Some.digests.now.entries in
    let text = c.as_str-text.ensures.value in
    joined_put c.args.self.now c.args.other.now _ c.loop-source.both _ (source, digests) _ c.loop-source.invariant (ap blocks_in c.in-Some.ensures.steps)
    (ap (λ s. is_some (lookup (is_at (byte_cmp s)) c.loop-source.both)) (sym text) ∙ sym (c.if-not-has.ensures))
    (c.in_ok-put.ensures ∙ ap₂ (λ s v. insert_entry byte_cmp c.loop-source.both s v) text c.in_ok-copy_blocks.ensures)

pub loop-source-preserved : goal.loop-source-preserved
loop-source-preserved c =
    let source = string_bytes c.in-Some.source.now in
    let digests = c.in-Some.digests.now.entries in
    let text = c.as_str-text.ensures.value in
    joined_kept c.args.self.now c.args.other.now _ c.loop-source.both (source, digests) _ c.loop-source.invariant (ap blocks_in c.in-Some.ensures.steps)
    (ap (λ s. is_some (lookup (is_at (byte_cmp s)) c.loop-source.both)) (sym text) ∙ sym (c.if-not-has.ensures))

pub returns-clause-joined : goal.returns-clause-joined
returns-clause-joined c =
    joined_all c.args.self.now c.args.other.now _ c.loop-source.both c.loop-source.invariant (ap blocks_in c.in-None.ensures.steps.0)

pub returns-clause-order : goal.returns-clause-order
returns-clause-order c = c.loop-source.invariant.order

pub returns-in_err-put-clause-err : goal.returns-in_err-put-clause-err
returns-in_err-put-clause-err c =
    wanted c.from_residual-in_err-put.result _ (joined_some c.args.self.now c.args.other.now _ c.loop-source.both (string_bytes c.in-Some.source.now, c.in-Some.digests.now.entries) _ c.loop-source.invariant (ap blocks_in c.in-Some.ensures.steps))
