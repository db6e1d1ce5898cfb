-- The number of an event among those of its source (CloudEvents Sequence extension). The width and
-- the range are this project's own.
use Rattle.std.specs.Prelude.{ℕ, ◌+◌, ◌-◌, ◌*◌, List, [], ◌∷◌, length, Bool, ◌&&◌, ◌==◌, nat_le, if◌then◌else◌, Option, Some, None, option_and_then, codes}
use Rattle.std.specs.Char.{is_ascii_digit}
use Rattle.std.specs.List.{list_all}
use Rattle.attributes.specs.Event.{EventValue, attribute_of, words_of}
use Rattle.attributes.specs.declared.scalar.Scalar.{Scalar}
use Rattle.attributes.specs.declared.fault.Fault.{Fault}
use Rattle.attributes.specs.declared.fault.Fault.TheVariants.{NoSequence, BadSequence}

-- the number that decimal digits of `sequence` stand for, after those of n
abbrev pub read_on : ℕ → List ℕ → ℕ
read_on n [] = n
read_on n (c ∷ cs) = read_on (10 * n + (c - 48)) cs

-- the greatest sequence number, 2^63 - 1
abbrev pub max_sequence : ℕ
max_sequence = 9223372036854775807

-- a number that an event's attribute `sequence` may have
abbrev pub is_sequence : ℕ → Bool
is_sequence n = nat_le 1 n && nat_le n max_sequence

-- an attribute's exactly twenty digits whose number is in range
abbrev pub sequence_of : List ℕ → Option ℕ
sequence_of t =
    if (length t == 20) && list_all is_ascii_digit t && is_sequence (read_on 0 t)
    then Some (read_on 0 t) else None

-- the sequence number of an event, where it has one
abbrev pub number_of : EventValue → Option ℕ
number_of e = option_and_then sequence_of (words_of (attribute_of (codes "sequence") e))

-- why this attribute is no sequence number
abbrev pub fault_at : Option Scalar → Fault
fault_at None = NoSequence
fault_at (Some s) = BadSequence

-- why an event has no sequence number
abbrev pub sequence_fault : EventValue → Fault
sequence_fault e = fault_at (attribute_of (codes "sequence") e)
