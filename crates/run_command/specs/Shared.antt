-- What is left where the workers of a run have ended.
use Rattle.std.specs.Prelude.{◌≡◌, ◌≤◌, ℕ, List, ◌++◌, IfOk, IsTrue, None, Option}
use Rattle.sqlite.specs.Held.{Held}
use Rattle.sqlite.specs.State.{State, HasCleanDisk}
use Rattle.attributes.specs.Event.{EventValue}
use Rattle.inbox_table.specs.Calls.{KeptTable}
use Rattle.keeper.specs.Keep.{Grows, KeepsUp}
use Rattle.keeper.specs.declared.fault.KeepFault.{KeepFault}
use Rattle.feeds.specs.declared.serving.ServeFault.{ServeFault}
use Rattle.feeds.specs.declared.serving.Served.{Served}
use Rattle.std.specs.Prelude.{Result}
use Rattle.run_command.specs.Outcome.{AreReports}

module _ {S : Type 0} (state : Held S → State) where
  -- a site with these arrivals was shared, and the keeper k came to be l: the site has what it had,
  -- and more behind it or nothing; the table has the first of that, at least as many as before, and
  -- so it is after a crash; the database stays open but where keeping stopped; where the workers
  -- reported, all that they handed over is there
  pub record IsClosed (k : KeptTable S) (opening : List EventValue) (feeds : List (List ℕ))
      (peers : List (List EventValue)) (l : KeptTable S) (arrivals : List EventValue)
      (served : Result Served ServeFault) (stopped : Option KeepFault) : Type 0 where
    pub first : KeepsUp (state l.conn) l.rows arrivals
    pub mark : k.rows ≤ l.rows
    pub grows : Grows (state k.conn) (state l.conn)
    pub stays_open : HasCleanDisk (state l.conn) → stopped ≡ None
        → IsTrue (state k.conn).is_open → IsTrue (state l.conn).is_open
    pub more : List EventValue
    pub grew : arrivals ≡ opening ++ more
    pub reports : IfOk served (λ s. AreReports opening more feeds peers s.reports.items)
