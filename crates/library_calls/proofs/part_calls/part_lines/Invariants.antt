use Rattle.std.proofs.Common.{◌≡◌, string_bytes}
use Rattle.parts.specs.Part.{of_parts, part, part_of}
use Rattle.library_calls.specs.Calls.{batch_line}
use Rattle.library_calls.proofs.part_calls.part_lines.Given as goal

abbrev pub invariant-loop-i : goal.invariant-loop-i
invariant-loop-i l =
    string_bytes l.lines ≡ of_parts l.i (λ i. batch_line (part (part_of l.count) i l.fn.events))
