-- The faults of the crates below, as those of commands.
use Rattle.std.specs.Prelude.{◌≡◌, ◌⊎◌}
use Rattle.inbox_table.specs.declared.fault.TableFault.{TableFault}
use Rattle.inbox_table.specs.declared.fault.TableFault.TheVariants as table
use Rattle.outbox.specs.declared.fault.OutboxFault.{OutboxFault}
use Rattle.outbox.specs.declared.fault.OutboxFault.TheVariants as outbox
use Rattle.relay.specs.declared.fault.RelayFault.{RelayFault}
use Rattle.relay.specs.declared.fault.RelayFault.TheVariants as relay
use Rattle.line_intake.specs.declared.step.FollowFault.{FollowFault}
use Rattle.line_intake.specs.declared.step.FollowFault.TheVariants as follow
use Rattle.databases.specs.declared.fault.CommandFault.{CommandFault}
use Rattle.databases.specs.declared.fault.CommandFault.TheVariants as command
use Rattle.databases.specs.declared.stream.StreamFault.{StreamFault}
use Rattle.databases.specs.declared.stream.StreamFault.TheVariants as stream

-- the fault of a command over a database that one of an inbox's table is
abbrev pub of_table : TableFault → CommandFault
of_table table.OutOfMemory = command.OutOfMemory
of_table table.Store = command.Store
of_table table.Foreign = command.Foreign

-- the fault of a command over a database that one of a service is
abbrev pub of_outbox : OutboxFault → CommandFault
of_outbox outbox.OutOfMemory = command.OutOfMemory
of_outbox outbox.OrderExists = command.OrderExists
of_outbox outbox.NoOrder = command.NoOrder
of_outbox outbox.WrongState = command.WrongState
of_outbox outbox.Full = command.Full
of_outbox outbox.Store = command.Store
of_outbox outbox.Foreign = command.Foreign

-- a command's fault says that an order isn't given a status: so a service refuses, or the
-- database's has another source than the one that was named
abbrev pub IsOfOrder : CommandFault → Type 0
IsOfOrder f = (f ≡ command.AnotherSource) ⊎ ((why : OutboxFault) × (f ≡ of_outbox why))

-- the fault of a command over a database that one of a relay is
abbrev pub of_relay : RelayFault → CommandFault
of_relay relay.OutOfMemory = command.OutOfMemory
of_relay relay.RouteFailed = command.RouteFailed
of_relay _ = command.Store

-- the fault of a command over a database that one of a stream over a table is
abbrev pub of_follow : FollowFault → StreamFault
of_follow (follow.Input why) = stream.Input why
of_follow (follow.Table why) = stream.Database (of_table why)
of_follow follow.Unwritten = stream.Unwritten

-- the fault of the database file of a name: its opening, or its database
abbrev pub IsOfNamed : CommandFault → Type 0
IsOfNamed command.OutOfMemory = Unit {0}
IsOfNamed command.Store = Unit {0}
IsOfNamed command.Foreign = Unit {0}
IsOfNamed command.CannotRead = Unit {0}
IsOfNamed command.Cache = Unit {0}
IsOfNamed _ = ⊥

-- the fault is such a one of a command over a database, or that of the file of its name
abbrev pub OrOfNamed : (CommandFault → Type 0) → CommandFault → Type 0
OrOfNamed Fails f = Fails f ⊎ IsOfNamed f
