-- The numbers of the faults, and what a refusal of a service is.
use Rattle.std.specs.Prelude.{ℕ}
use Rattle.outbox.specs.declared.fault.OutboxFault.{OutboxFault}
use Rattle.outbox.specs.declared.fault.OutboxFault.TheVariants as outbox
use Rattle.relay.specs.declared.fault.RelayFault.{RelayFault}
use Rattle.relay.specs.declared.fault.RelayFault.TheVariants.{OutOfMemory, RouteFailed, Stranger, Store, NoThread, GateShut}

-- the number that a relay's fault is known by
abbrev pub fault_number : RelayFault → ℕ
fault_number OutOfMemory = 1
fault_number RouteFailed = 2
fault_number Stranger = 3
fault_number Store = 4
fault_number NoThread = 5
fault_number GateShut = 6

-- the fault of a relay whose service refused so
abbrev pub of_outbox : OutboxFault → RelayFault
of_outbox outbox.OutOfMemory = OutOfMemory
of_outbox _ = Store
