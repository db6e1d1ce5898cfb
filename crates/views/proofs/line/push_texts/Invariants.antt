use Rattle.std.proofs.Common.{◌≡◌, ◌++◌, map, take, string_bytes}
use Rattle.std.specs.List.{join_with_byte}
use Rattle.attributes.specs.Event.{text}
use Rattle.views.proofs.line.push_texts.Given as goal

abbrev pub invariant-loop-i : goal.invariant-loop-i
invariant-loop-i l = string_bytes l.out ≡ string_bytes l.initial.out ++ join_with_byte 44 (map text (take l.i (map (λ e. e.now) l.events)))
