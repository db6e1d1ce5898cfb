-- The refusals of a numberer, by those of what it stands on.
use Rattle.std.specs.Prelude.{◌≡◌, ◌⊎◌}
use Rattle.inbox_table.specs.declared.fault.TableFault.{TableFault}
use Rattle.inbox_table.specs.declared.fault.TableFault.TheVariants as table
use Rattle.numbers.specs.declared.fault.NumberFault.{NumberFault}
use Rattle.numbers.specs.declared.fault.NumberFault.TheVariants as numbers
use Rattle.number_table.specs.declared.fault.NumbererFault.{NumbererFault}
use Rattle.number_table.specs.declared.fault.NumbererFault.TheVariants.{OutOfMemory, HasSequence, TooLarge, Full, Store, Foreign}

-- a numberer's refusal of events
abbrev pub of_numbers : NumberFault → NumbererFault
of_numbers numbers.OutOfMemory = OutOfMemory
of_numbers (numbers.HasSequence i) = HasSequence i
of_numbers (numbers.TooLarge i) = TooLarge i
of_numbers (numbers.Full i) = Full i

-- a numberer's refusal that is one of its table
abbrev pub of_table : TableFault → NumbererFault
of_table table.OutOfMemory = OutOfMemory
of_table table.Store = Store
of_table table.Foreign = Foreign

-- a numberer's rows couldn't be read: want of memory, or another refusal of the store
abbrev pub IsOfReading : NumbererFault → Type 0
IsOfReading f = (f ≡ OutOfMemory) ⊎ (f ≡ Store)
