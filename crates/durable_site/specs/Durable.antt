-- A site over its table.
use Rattle.std.specs.Prelude.{◌≡◌, ◌≢◌, ◌+◌, ℕ, List, [], length, Result, IfErr, IfOk, IsTrue, OnErr, OnOk}
use Rattle.std.specs.declared.alloc.AllocError.{AllocError}
use Rattle.sqlite.specs.State.{State, HasCleanDisk}
use Rattle.attributes.specs.Event.{EventValue}
use Rattle.inbox.specs.KeyOrder.{key_cmp}
use Rattle.inbox.specs.Ordered.{append_new}
use Rattle.inbox_table.specs.Calls.{AreFreshEach, IsSettled, joined}
use Rattle.inbox_table.specs.Fault.{IsOfStore}
use Rattle.inbox_table.specs.Rows.{IsInbox}
use Rattle.inbox_table.specs.declared.fault.TableFault.{TableFault}
use Rattle.durable_site.specs.declared.durable.DurableSite.{DurableSite}

-- all events of a durable site, in the order in which they came: those that the site has counted,
-- and those that are kept and owed to it
abbrev pub events_of : {S : Type 0} → DurableSite S → List EventValue
events_of d = append_new key_cmp d.site d.owed

-- the durable site's table has just these events
abbrev pub IsTableOf : State → List EventValue → Type 0
IsTableOf s events = HasCleanDisk s → IsTrue s.is_open → IsInbox s.now events

-- what counting does that a site was owed: nothing is owed then, or memory ran out and something is
pub record CatchesUp {S : Type 0} (old new : DurableSite S) (result : Result (Unit {0}) AllocError)
    : Type 0 where
  pub all : events_of new ≡ events_of old
  pub done : OnOk result (new.owed ≡ [])
  pub short : OnErr result (new.owed ≢ [])

-- ---- events taken

-- the events came behind those of the durable site, each in its turn and where it wasn't there by
-- then, and so many of them were not; or they are refused, and there is what there was
pub record TakesBehind (batch old new : List EventValue) (result : Result ℕ TableFault) : Type 0 where
  pub taken : OnOk result (new ≡ append_new key_cmp old batch)
  pub refused : OnErr result (new ≡ old)
  pub fault : IfErr result IsOfStore

-- what a take of a durable site does to the database, while the disk gives back what was written
pub record TakeEffectOfFile (batch old new : List EventValue) (was is : State)
    (result : Result ℕ TableFault) : Type 0 where
  pub whole : IsTableOf was old → IsTableOf is new
  pub fresh : IsTableOf was old → IfOk result (λ fresh. length old + fresh ≡ length new)
  -- a crash leaves what was taken
  pub stays_open : OnOk result (IsTrue is.is_open)
  pub settled : OnOk result (IsSettled is)
  -- refused, the database is as it was
  pub same : IsTrue is.is_open → OnErr result (is.now ≡ was.now)

-- ---- several batches taken

-- the batches came one behind the other behind a durable site's events, each event in its turn and
-- where it wasn't there by then; or they are refused, and there is what there was
pub record TakesEach (lists : List (List EventValue)) (old new : List EventValue)
    (result : Result (List ℕ) TableFault) : Type 0 where
  pub taken : OnOk result (new ≡ append_new key_cmp old (joined lists))
  pub one_each : IfOk result (λ each. length each ≡ length lists)
  pub refused : OnErr result (new ≡ old)
  pub fault : IfErr result IsOfStore

-- what a durable site's take of batches does to the database, while the disk gives what was written
pub record TakeEachEffect (lists : List (List EventValue)) (old new : List EventValue)
    (was is : State) (result : Result (List ℕ) TableFault) : Type 0 where
  pub whole : IsTableOf was old → IsTableOf is new
  -- so many of each batch were not there by then, those of the batches before it included
  pub fresh : IsTableOf was old → IfOk result (AreFreshEach old lists)
  -- a crash leaves what was taken
  pub stays_open : OnOk result (IsTrue is.is_open)
  pub settled : OnOk result (IsSettled is)
  -- refused, the database is as it was
  pub same : IsTrue is.is_open → OnErr result (is.now ≡ was.now)
