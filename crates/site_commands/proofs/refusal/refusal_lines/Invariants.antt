use Rattle.std.proofs.Common.{◌≡◌, ◌++◌, drop, string_bytes}
use Rattle.site_commands.specs.Checks.{refusal_lines}
use Rattle.site_commands.proofs.refusal.refusal_lines.Given as goal

abbrev pub invariant-loop-i : goal.invariant-loop-i
invariant-loop-i l = string_bytes l.text ++ refusal_lines l.name l.i (drop l.i l.events) ≡ refusal_lines l.name 0 l.events
