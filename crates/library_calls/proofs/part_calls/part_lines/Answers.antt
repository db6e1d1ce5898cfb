use Rattle.std.proofs.Common.{◌∙◌, ◌++◌, List, ap, sym, ℕ}
use Rattle.std.proofs.lemmas.Option.{get_or_from_slice_get}
use Rattle.attributes.specs.Event.{EventValue}
use Rattle.parts.specs.Part.{of_parts, part, part_of}
use Rattle.library_calls.specs.Calls.{batch_line}
use Rattle.library_calls.proofs.CutLemmas.{parts_more}
use Rattle.library_calls.proofs.part_calls.part_lines.Goals as goal

pub loop-i-preserved : goal.loop-i-preserved
loop-i-preserved c =
    let i = c.loop-i.i in
    let line_of : ℕ → List ℕ = λ k. batch_line (part (part_of c.args.count) k c.args.events) in
    let there = c.in_ok-batches.ensures.parts i c.loop-i-test.true in
    let batch = c.index.ensures ∙ get_or_from_slice_get c.in_ok-batches.batches.items i (part (part_of c.args.count) i c.args.events) c.index.result.now there in
    let line = c.as_str.ensures ∙ c.in_ok-line.ensures ∙ ap (λ (l : List EventValue). batch_line l) batch in
    c.in_ok-push_str.ensures.bytes ∙ ap (λ (l : List ℕ). l ++ c.as_str.result.now) c.loop-i.invariant
    ∙ ap (λ (l : List ℕ). of_parts i line_of ++ l) line ∙ sym (parts_more i line_of)
