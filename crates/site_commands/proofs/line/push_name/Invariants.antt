use Rattle.std.proofs.Common.{◌≡◌, ◌++◌, IsUtf8, string_bytes}
use Rattle.std.specs.Str.Iter.{chars_rest}
use Rattle.site_commands.specs.Lines.{printed_name}
use Rattle.site_commands.proofs.line.push_name.Given as goal

abbrev pub invariant-loop-c : goal.invariant-loop-c
invariant-loop-c l = record {
  text : IsUtf8 (chars_rest l.c-iterator);
  pushed : string_bytes l.line ++ printed_name (chars_rest l.c-iterator) ≡ string_bytes l.initial.line ++ printed_name l.fn.name;
}
