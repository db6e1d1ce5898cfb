-- The numbers of the faults.
use Rattle.std.specs.Prelude.{ℕ}
use Rattle.outbox.specs.declared.fault.OutboxFault.{OutboxFault}
use Rattle.outbox.specs.declared.fault.OutboxFault.TheVariants.{OutOfMemory, OrderExists, NoOrder, WrongState, Full, Store, Foreign}

-- the number that a fault of an outbox is known by, in the order in which they are tested
abbrev pub fault_number : OutboxFault → ℕ
fault_number OutOfMemory = 1
fault_number OrderExists = 2
fault_number NoOrder = 3
fault_number WrongState = 4
fault_number Full = 5
fault_number Store = 6
fault_number Foreign = 7
