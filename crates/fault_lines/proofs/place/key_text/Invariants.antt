use Rattle.std.proofs.Common.{◌≡◌, ◌++◌, IsUtf8, string_bytes}
use Rattle.std.specs.Str.Iter.{chars_rest}
use Rattle.fault_lines.specs.Place.{name_in_pointer}
use Rattle.fault_lines.proofs.place.key_text.Given as goal

abbrev pub invariant-loop-c : goal.invariant-loop-c
invariant-loop-c l = record {
  text : IsUtf8 (chars_rest l.c-iterator);
  pushed : string_bytes l.key ++ name_in_pointer (chars_rest l.c-iterator) ≡ name_in_pointer l.fn.name;
}
