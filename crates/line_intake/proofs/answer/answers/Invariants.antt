use Rattle.std.proofs.Common.{◌≡◌, ◌++◌, drop, string_bytes}
use Rattle.line_intake.specs.Answers.{answers_text}
use Rattle.line_intake.proofs.answer.answers.Given as goal

abbrev pub invariant-loop-i : goal.invariant-loop-i
invariant-loop-i l = string_bytes l.text ++ answers_text (drop l.i l.tells) (drop l.i l.lists) (drop l.i l.each) ≡ answers_text l.tells l.lists l.each
