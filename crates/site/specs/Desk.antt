-- What a desk tells of its calls.
use Rattle.std.specs.Prelude.{ℕ, List, Result, Ok, Err}
use Rattle.attributes.specs.Event.{EventValue}
use Rattle.coverage.specs.Summary.{Sources}
use Rattle.inbox.specs.declared.inbox.Counts.{Counts}
use Rattle.views.specs.declared.query.Answer.{Answer}
use Rattle.site.specs.declared.call.Reply.{Reply}
use Rattle.site.specs.declared.call.Reply.TheVariants.{Answered, Paged, Refused, Summed, Took}
use Rattle.site.specs.declared.desk.DeskFault.{DeskFault}
use Rattle.site.specs.declared.desk.DeskFault.TheVariants.{OutOfMemory}

-- the number of the kind of a desk's fault
abbrev pub fault_number : DeskFault → ℕ
fault_number (OutOfMemory taken fresh) = 1

-- how many events of a batch a desk handled before the fault
abbrev pub taken_of : DeskFault → ℕ
taken_of (OutOfMemory taken fresh) = taken

-- the reply of a desk that its fault tells
abbrev pub refused : DeskFault → Reply
refused (OutOfMemory taken fresh) = Refused taken fresh

-- the reply that a call of a desk tells by its result
abbrev pub took : Result Counts DeskFault → Reply
took (Ok counts) = Took counts.fresh counts.repeated
took (Err fault) = refused fault

abbrev pub summed : Result Sources DeskFault → Reply
summed (Ok summary) = Summed summary
summed (Err fault) = refused fault

abbrev pub paged : Result (List EventValue) DeskFault → Reply
paged (Ok events) = Paged events
paged (Err fault) = refused fault

abbrev pub answered : Result Answer DeskFault → Reply
answered (Ok answer) = Answered answer
answered (Err fault) = refused fault
