-- The words of lines that tell faults. A hint has no character that JSON escapes.
use Rattle.std.specs.Prelude.{ℕ, List, codes, Option, None, Some}
use Rattle.attributes.specs.declared.fault.Fault.{Fault}
use Rattle.attributes.specs.declared.fault.Fault.TheVariants as fault
use Rattle.event_json.specs.declared.fault.ReadFault.{ReadFault}
use Rattle.event_json.specs.declared.fault.ReadFault.TheVariants as read

-- the name of a fault, as it is printed in a line about a file
abbrev pub fault_name : Fault → List ℕ
fault_name fault.OutOfMemory = codes "OutOfMemory"
fault_name fault.SpecVersion = codes "SpecVersion"
fault_name fault.Id = codes "Id"
fault_name fault.Source = codes "Source"
fault_name fault.Kind = codes "Kind"
fault_name fault.Subject = codes "Subject"
fault_name fault.Time = codes "Time"
fault_name fault.ContentType = codes "ContentType"
fault_name fault.Schema = codes "Schema"
fault_name fault.ExtensionName = codes "ExtensionName"
fault_name fault.ExtensionValue = codes "ExtensionValue"
fault_name fault.TwoData = codes "TwoData"
fault_name fault.Base64 = codes "Base64"
fault_name fault.DataNumber = codes "DataNumber"
fault_name fault.TooDeep = codes "TooDeep"
fault_name fault.TooLarge = codes "TooLarge"
fault_name fault.NoSequence = codes "NoSequence"
fault_name fault.BadSequence = codes "BadSequence"

-- the member to tell in a fault's line, where the fault is always of the same one
abbrev pub attribute_name : Fault → Option (List ℕ)
attribute_name fault.OutOfMemory = None
attribute_name fault.SpecVersion = Some (codes "specversion")
attribute_name fault.Id = Some (codes "id")
attribute_name fault.Source = Some (codes "source")
attribute_name fault.Kind = Some (codes "type")
attribute_name fault.Subject = Some (codes "subject")
attribute_name fault.Time = Some (codes "time")
attribute_name fault.ContentType = Some (codes "datacontenttype")
attribute_name fault.Schema = Some (codes "dataschema")
attribute_name fault.ExtensionName = None
attribute_name fault.ExtensionValue = None
attribute_name fault.TwoData = Some (codes "data_base64")
attribute_name fault.Base64 = Some (codes "data_base64")
attribute_name fault.DataNumber = Some (codes "data")
attribute_name fault.TooDeep = Some (codes "data")
attribute_name fault.TooLarge = None
attribute_name fault.NoSequence = Some (codes "sequence")
attribute_name fault.BadSequence = Some (codes "sequence")

-- what to do about an event's fault, in the words of a line about a file
abbrev pub hint : Fault → List ℕ
hint fault.OutOfMemory = codes "memory ran out"
hint fault.SpecVersion = codes "an event is an object whose specversion is the text 1.0"
hint fault.Id = codes "an id is a text with at least one character and no control character"
hint fault.Source = codes "a source is a text with at least one character and no control character"
hint fault.Kind = codes "a type is a text with at least one character and no control character"
hint fault.Subject =
    codes "a subject has at least one character and no control character, or is left out"
hint fault.Time =
    codes "a time is written as in RFC 3339, such as 2026-11-24T10:00:00Z, or left out"
hint fault.ContentType =
    codes "a content type has at least one character and no control character, or is left out"
hint fault.Schema =
    codes "a schema has at least one character and no control character, or is left out"
hint fault.ExtensionName = codes "names have only the letters a to z and the digits 0 to 9"
hint fault.ExtensionValue =
    codes "attributes are truth values, 32-bit whole numbers or texts; put others into data"
hint fault.TwoData = codes "an event has data or data_base64, and not both"
hint fault.Base64 = codes "data_base64 is a text in Base64, of the standard alphabet and padded"
hint fault.DataNumber = codes "numbers in data are whole and fit 64 bits; write others as texts"
hint fault.TooDeep = codes "arrays and objects in data nest at most 120 deep"
hint fault.TooLarge =
    codes "the canonical text of an event has at most 262,144 bytes; keep large data elsewhere"
hint fault.NoSequence =
    codes "an event needs a sequence of twenty digits, such as 00000000000000000001"
hint fault.BadSequence =
    codes "a sequence is a text of twenty digits, from 1 to 9223372036854775807: pad it with zeros on the left"

-- why a file's bytes are refused as a whole, in the words of its line
abbrev pub whole_words : ReadFault → List ℕ
whole_words read.OutOfMemory = codes "out of memory"
whole_words read.NotJson = codes "not JSON"
whole_words read.NotEvent = codes "not an event or a batch"
whole_words (read.BadEvent index why) = codes "not an event or a batch"
whole_words read.InputTooLarge = codes "too large"

-- what to do about a file's bytes that are refused as a whole, in the words of its line
abbrev pub whole_hint : ReadFault → List ℕ
whole_hint read.OutOfMemory = codes "memory ran out"
whole_hint read.NotJson =
    codes "a file is one JSON text in UTF-8; where events stand one a line, --lines reads them so, or jq -s . makes one"
whole_hint read.NotEvent = codes "a file is an event, which is an object, or an array of events"
whole_hint (read.BadEvent index why) =
    codes "a file is an event, which is an object, or an array of events"
whole_hint read.InputTooLarge = codes "a file has at most 33,554,432 bytes; split it"
