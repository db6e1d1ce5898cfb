-- The end of a run whose workers have ended.
use Rattle.std.specs.Prelude.{◌≡◌, ◌≤◌, List, Option, None, Some, Result, Ok, Err, IsOk, IsSome, IsTrue}
use Rattle.sqlite.specs.Held.{Held}
use Rattle.sqlite.specs.State.{State, HasCleanDisk}
use Rattle.attributes.specs.Event.{EventValue}
use Rattle.feeds.specs.declared.report.Report.{Report}
use Rattle.feeds.specs.declared.serving.ServeFault.{ServeFault}
use Rattle.feeds.specs.declared.serving.Served.{Served}
use Rattle.inbox_table.specs.Calls.{IsSettled, KeptTable}
use Rattle.inbox_table.specs.Rows.{IsInbox}
use Rattle.keeper.specs.Keep.{Grows, KeepsUp}
use Rattle.keeper.specs.declared.fault.KeepFault.{KeepFault}

-- what the workers of a run reported, or why nothing was reported
abbrev pub workers_of : Result Served ServeFault → Result (List Report) ServeFault
workers_of (Ok s) = Ok s.reports.items
workers_of (Err fault) = Err fault

module _ {S : Type 0} (state : Held S → State) where
  -- a keeper k came to be l in keeping the rest of these arrivals, where nothing had stopped it
  -- before and workers reported; else nothing was done
  pub record KeepsRest (k l : KeptTable S) (arrivals : List EventValue)
      (served : Result Served ServeFault) (before stopped : Option KeepFault) : Type 0 where
    -- the table still has the first of them, as many as before or more
    pub first : KeepsUp (state l.conn) l.rows arrivals
    pub mark : HasCleanDisk (state l.conn) → IsTrue (state l.conn).is_open → k.rows ≤ l.rows
    -- a stop is told
    pub told : (fault : KeepFault) → before ≡ Some fault → stopped ≡ Some fault
    -- where there is none, the table has all, and a crash leaves just that
    pub all : HasCleanDisk (state l.conn) → IsOk served → stopped ≡ None
        → IsInbox (state l.conn).now arrivals
    pub settled : HasCleanDisk (state l.conn) → IsOk served → stopped ≡ None
        → IsSettled (state l.conn)
    -- whatever it comes to, the list only grows, and a crash leaves no less; nothing is done after
    -- a stop
    pub grows : Grows (state k.conn) (state l.conn)
    pub idle : IsSome before → l ≡ k
