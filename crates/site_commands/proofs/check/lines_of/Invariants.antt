use Rattle.std.proofs.Common.{take, string_bytes}
use Rattle.site_commands.specs.Checks.{AreFaultsOf}
use Rattle.site_commands.proofs.check.lines_of.Given as goal

abbrev pub invariant-loop-i : goal.invariant-loop-i
invariant-loop-i l = AreFaultsOf l.is_for_number (take l.i l.files) (take l.i l.contents) (string_bytes l.text)
