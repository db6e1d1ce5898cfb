-- The numbers by which refusals are known.
use Rattle.std.specs.Prelude.{ℕ}
use Rattle.coverage.specs.declared.fault.SummaryFault.{SummaryFault}
use Rattle.coverage.specs.declared.fault.SummaryFault.TheVariants.{OutOfMemory, NotJson, Shape}
use Rattle.coverage.specs.declared.fault.SummaryFault.TheVariants.{Version, NotCanonical}

-- the number of a summary's refusal, in the order in which they are tested
abbrev pub fault_number : SummaryFault → ℕ
fault_number OutOfMemory = 1
fault_number NotJson = 2
fault_number Shape = 3
fault_number Version = 4
fault_number NotCanonical = 5
