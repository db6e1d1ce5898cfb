use Rattle.std.proofs.Common.{◌≡◌, ◌++◌, drop, string_bytes}
use Rattle.number_lines.specs.Texts.{numbered_text}
use Rattle.number_lines.proofs.text.numbered_text.Given as goal

abbrev pub invariant-loop-i : goal.invariant-loop-i
invariant-loop-i l = string_bytes l.text ++ numbered_text (drop l.i l.tells) (drop l.i l.answers) ≡ numbered_text l.tells l.answers
