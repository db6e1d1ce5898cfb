use Rattle.std.proofs.Common.{ap, ap₂, subst, sym, ◌∙◌, string_bytes}
use Rattle.std.specs.BTreeMap.{insert_entry, is_at}
use Rattle.std.specs.Map.{lookup}
use Rattle.std.specs.Prelude.{is_some}
use Rattle.coverage.specs.Numbers.{AreEntries, byte_cmp}
use Rattle.coverage.specs.steps.Entries.{sources_in}
use Rattle.coverage.proofs.EntriesLemmas.{AreListed-put}
use Rattle.coverage.proofs.JoinLemmas.{joined_kept, joined_put, joined_some, wanted}
use Rattle.coverage.proofs.numbers.Numbers.join.Goals as goal

pub loop-source-preserved-in_ok-put : goal.loop-source-preserved-in_ok-put
loop-source-preserved-in_ok-put c =
    let source = string_bytes c.in-Some.source.now in
    let numbers = c.in-Some.numbers.now in
    let text = c.as_str-text.ensures.value in
    let steps = ap sources_in c.in-Some.ensures.steps in
    let left = subst AreEntries steps c.loop-source.invariant.0 in
    let made = c.in_ok-put.ensures ∙ ap₂ (λ s v. insert_entry byte_cmp c.loop-source.both s v) text c.in_ok-copy.ensures.copied in (
      left.1,
      AreListed-put c.loop-source.both _ source numbers c.loop-source.invariant.1 made left.0,
      joined_put c.args.self.now c.args.other.now _ c.loop-source.both _ (source, numbers) _ c.loop-source.invariant.2 steps
          (ap (λ s. is_some (lookup (is_at (byte_cmp s)) c.loop-source.both)) (sym text) ∙ sym (c.if-not-has.ensures)) made,
    )

pub loop-source-preserved : goal.loop-source-preserved
loop-source-preserved c =
    let source = string_bytes c.in-Some.source.now in
    let numbers = c.in-Some.numbers.now in
    let text = c.as_str-text.ensures.value in
    let steps = ap sources_in c.in-Some.ensures.steps in (
      (subst AreEntries steps c.loop-source.invariant.0).1,
      c.loop-source.invariant.1,
      joined_kept c.args.self.now c.args.other.now _ c.loop-source.both (source, numbers) _ c.loop-source.invariant.2 steps
          (ap (λ s. is_some (lookup (is_at (byte_cmp s)) c.loop-source.both)) (sym text) ∙ sym (c.if-not-has.ensures)),
    )

pub returns-in_err-put-clause-err : goal.returns-in_err-put-clause-err
returns-in_err-put-clause-err c =
    wanted c.from_residual-in_err-put.result _ (joined_some c.args.self.now c.args.other.now _ c.loop-source.both (string_bytes c.in-Some.source.now, c.in-Some.numbers.now) _ c.loop-source.invariant.2 (ap sources_in c.in-Some.ensures.steps))
