-- The faults of a run over the file of a name.
use Rattle.std.proofs.Common.{◌≡◌, ℕ, List, Result, IfErr, subst, sym}
use Rattle.std.proofs.lemmas.Result.{IfErr-weaker}
use Rattle.databases.specs.Trouble.{fault_of}
use Rattle.databases.specs.declared.fault.CommandFault.{CommandFault}
use Rattle.databases.specs.declared.fault.CommandFault.TheVariants as command
use Rattle.databases.specs.declared.trouble.Trouble.{Trouble}
use Rattle.databases.specs.declared.trouble.Trouble.TheVariants as trouble
use Rattle.run_command.specs.Fault.{IsNamedFault, IsDatabaseFaultOfRun, IsOfNamed, IsRunFault}
use Rattle.run_command.specs.declared.fault.RunFault.{RunFault}
use Rattle.run_command.specs.declared.fault.RunFault.TheVariants as run

of_database : (why : CommandFault) → IsDatabaseFaultOfRun why → IsOfNamed why
of_database command.OutOfMemory h = tt
of_database command.Store h = tt
of_database command.Foreign h = tt
of_database command.OrderExists h = absurd h
of_database command.NoOrder h = absurd h
of_database command.WrongState h = absurd h
of_database command.Full h = absurd h
of_database command.RouteFailed h = absurd h
of_database command.AnotherSource h = absurd h
of_database command.CannotRead h = absurd h
of_database command.Cache h = absurd h

of_run : (fault : RunFault) → IsRunFault fault → IsNamedFault fault
of_run (run.Database why) h = of_database why h
of_run run.NoThread h = tt
of_run (run.Feed feed fault) h = tt

-- a fault of a run is one of the file of a name
pub named_run : (o : Result (List ℕ) RunFault) → IfErr o IsRunFault → IfErr o IsNamedFault
named_run o h = IfErr-weaker o _ _ (λ fault is. of_run fault is) h

of_trouble : (why : Trouble) → IsOfNamed (fault_of why)
of_trouble trouble.OutOfMemory = tt
of_trouble trouble.NoFile = tt
of_trouble trouble.CannotRead = tt
of_trouble trouble.Busy = tt
of_trouble trouble.Journal = tt
of_trouble trouble.System = tt
of_trouble trouble.NoDatabase = tt
of_trouble trouble.Damaged = tt
of_trouble trouble.Store = tt
of_trouble trouble.Foreign = tt
of_trouble trouble.Cache = tt

-- so is one of an opening
pub named_opening : (fault : CommandFault) (why : Trouble) → fault ≡ fault_of why → IsOfNamed fault
named_opening fault why is = subst IsOfNamed (sym is) (of_trouble why)
