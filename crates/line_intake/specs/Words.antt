-- The words of faults.
use Rattle.std.specs.Prelude.{ℕ, List, ◌++◌, codes}
use Rattle.std.specs.Fmt.{decimal}
use Rattle.attributes.specs.declared.fault.Fault.{Fault}
use Rattle.attributes.specs.declared.fault.Fault.TheVariants as fault
use Rattle.event_json.specs.declared.fault.ReadFault.TheVariants as read
use Rattle.event_files.specs.declared.refusal.ReportFault.{ReportFault}
use Rattle.event_files.specs.declared.refusal.ReportFault.TheVariants as report

abbrev pub name_of_event_fault : Fault → List ℕ
name_of_event_fault fault.OutOfMemory = codes "OutOfMemory"
name_of_event_fault fault.SpecVersion = codes "SpecVersion"
name_of_event_fault fault.Id = codes "Id"
name_of_event_fault fault.Source = codes "Source"
name_of_event_fault fault.Kind = codes "Kind"
name_of_event_fault fault.Subject = codes "Subject"
name_of_event_fault fault.Time = codes "Time"
name_of_event_fault fault.ContentType = codes "ContentType"
name_of_event_fault fault.Schema = codes "Schema"
name_of_event_fault fault.ExtensionName = codes "ExtensionName"
name_of_event_fault fault.ExtensionValue = codes "ExtensionValue"
name_of_event_fault fault.TwoData = codes "TwoData"
name_of_event_fault fault.Base64 = codes "Base64"
name_of_event_fault fault.DataNumber = codes "DataNumber"
name_of_event_fault fault.TooDeep = codes "TooDeep"
name_of_event_fault fault.TooLarge = codes "TooLarge"
name_of_event_fault fault.NoSequence = codes "NoSequence"
name_of_event_fault fault.BadSequence = codes "BadSequence"

-- `event I: NAME`, as an acknowledgement says it of a line
abbrev pub event_words : ℕ → Fault → List ℕ
event_words index why = codes "event " ++ decimal index ++ codes ": " ++ name_of_event_fault why

-- what an acknowledgement or an error says of bytes that spell no events with numbers
abbrev pub words_of : ReportFault → List ℕ
words_of report.OutOfMemory = codes "out of memory"
words_of (report.Read read.OutOfMemory) = codes "out of memory"
words_of (report.Read read.NotJson) = codes "not JSON"
words_of (report.Read read.NotEvent) = codes "not an event or a batch"
words_of (report.Read (read.BadEvent index why)) = event_words index why
words_of (report.Read read.InputTooLarge) = codes "too large"
words_of (report.Event index why) = event_words index why
