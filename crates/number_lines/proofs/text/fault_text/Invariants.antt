use Rattle.std.proofs.Common.{◌≡◌, ◌++◌, drop, string_bytes}
use Rattle.number_lines.specs.Texts.{fault_text}
use Rattle.number_lines.proofs.text.fault_text.Given as goal

abbrev pub invariant-loop-i : goal.invariant-loop-i
invariant-loop-i l = string_bytes l.text ++ fault_text (drop l.i l.tells) ≡ fault_text l.tells
