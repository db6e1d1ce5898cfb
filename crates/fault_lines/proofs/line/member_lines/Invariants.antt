use Rattle.std.proofs.Common.{◌≡◌, map, take, string_bytes}
use Rattle.event_json.specs.Faulty.{member_of}
use Rattle.fault_lines.specs.Lines.{told_lines}
use Rattle.fault_lines.proofs.line.member_lines.Given as goal

abbrev pub invariant-loop-member : goal.invariant-loop-member
invariant-loop-member l = string_bytes l.out ≡ told_lines l.numbers l.file (map member_of (take l.member-index l.members))
