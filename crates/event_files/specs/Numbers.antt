-- The numbers of refusals, from 1.
use Rattle.std.specs.Prelude.{ℕ}
use Rattle.event_files.specs.declared.input.Unread.{Unread}
use Rattle.event_files.specs.declared.input.Unread.TheVariants as unread
use Rattle.event_files.specs.declared.refusal.ReportFault.{ReportFault}
use Rattle.event_files.specs.declared.refusal.ReportFault.TheVariants as fault

-- why an input, such as a file, was not read, as a number
abbrev pub unread_number : Unread → ℕ
unread_number unread.OutOfMemory = 1
unread_number unread.CannotRead = 2
unread_number unread.TooLarge = 3

-- why a file's events gave no answer, as a number
abbrev pub fault_number : ReportFault → ℕ
fault_number fault.OutOfMemory = 1
fault_number (fault.Read why) = 2
fault_number (fault.Event index why) = 3
