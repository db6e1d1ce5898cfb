-- The faults of the crates below, as those of runs.
pub use Rattle.databases.specs.Fault.{IsOfNamed}
use Rattle.std.specs.Prelude.{ℕ, zero, suc, Option, None, Some}
use Rattle.databases.specs.declared.fault.CommandFault.{CommandFault}
use Rattle.databases.specs.declared.fault.CommandFault.TheVariants as command
use Rattle.feeds.specs.declared.report.WorkerEnd.{WorkerEnd}
use Rattle.feeds.specs.declared.report.WorkerEnd.TheVariants.{BadInput, Done, GateShut, OutOfMemory}
use Rattle.feeds.specs.declared.serving.ServeFault.{ServeFault}
use Rattle.feeds.specs.declared.serving.ServeFault.TheVariants as serve
use Rattle.keeper.specs.declared.fault.KeepFault.{KeepFault}
use Rattle.keeper.specs.declared.fault.KeepFault.TheVariants as keep
use Rattle.run_command.specs.declared.fault.RunFault.{RunFault}
use Rattle.run_command.specs.declared.fault.RunFault.TheVariants as run

-- the fault of a run that one of a keeper is
abbrev pub of_keep : KeepFault → RunFault
of_keep keep.OutOfMemory = run.Database command.OutOfMemory
of_keep keep.Store = run.Database command.Store
of_keep keep.Foreign = run.Database command.Foreign

-- the fault of a run that one of the workers as a whole is
abbrev pub of_serve : ServeFault → RunFault
of_serve serve.OutOfMemory = run.Database command.OutOfMemory
of_serve serve.NoThread = run.NoThread

-- the fault of a run's worker at this place, where it has one; so many of those from it on are
-- feeds. Nothing shuts the gate of a run, and a peer has no input
abbrev pub of_end : ℕ → ℕ → WorkerEnd → Option RunFault
of_end place feeds Done = None
of_end place feeds OutOfMemory = Some (run.Database command.OutOfMemory)
of_end place feeds GateShut = Some (run.Database command.OutOfMemory)
of_end place zero (BadInput fault) = Some (run.Database command.OutOfMemory)
of_end place (suc feeds) (BadInput fault) = Some (run.Feed place fault)

-- the database's fault in a run: want of memory, a refusal of the database, or rows that no
-- inbox has
abbrev pub IsDatabaseFaultOfRun : CommandFault → Type 0
IsDatabaseFaultOfRun command.OutOfMemory = Unit {0}
IsDatabaseFaultOfRun command.Store = Unit {0}
IsDatabaseFaultOfRun command.Foreign = Unit {0}
IsDatabaseFaultOfRun _ = ⊥

-- a fault of a run that is told of the database is one of the database's
abbrev pub IsRunFault : RunFault → Type 0
IsRunFault (run.Database why) = IsDatabaseFaultOfRun why
IsRunFault run.NoThread = Unit {0}
IsRunFault (run.Feed feed fault) = Unit {0}

-- a fault of a run that is told of the file of a name is one of it
abbrev pub IsNamedFault : RunFault → Type 0
IsNamedFault (run.Database why) = IsOfNamed why
IsNamedFault run.NoThread = Unit {0}
IsNamedFault (run.Feed feed fault) = Unit {0}
