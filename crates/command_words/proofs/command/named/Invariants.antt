use Rattle.std.proofs.Common.{◌≡◌, ◌≢◌, ℕ, ◌<◌}
use Rattle.std.specs.Prelude.{Some, slice_get}
use Rattle.command_words.specs.Commands.{word_of}
use Rattle.command_words.specs.declared.command.Command.{Command}
use Rattle.command_words.proofs.command.named.Given as goal

abbrev pub invariant-loop-i : goal.invariant-loop-i
invariant-loop-i l = (k : ℕ) → k < l.i → (c : Command) → slice_get l.commands k ≡ Some c → word_of c ≢ l.word
