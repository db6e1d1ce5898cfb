-- What a flusher shows, and what its turns do.
use Rattle.std.specs.Prelude.{◌≡◌, ◌+◌, ◌-◌, ◌*◌, ◌≤◌, ℕ, Bool, true, false, length, min, Option, None, IsSome, IsTrue}
use Rattle.sqlite.specs.Held.{Held}
use Rattle.sqlite.specs.State.{State, HasCleanDisk}
use Rattle.atomic_table.specs.Seated.{TableId}
use Rattle.inbox_table.specs.Calls.{KeptTable}
use Rattle.turn_lock.specs.History.{StartsWith}
use Rattle.site_lock.specs.Pass.{IsSamePass, ShownPass, leaves}
use Rattle.keeper.specs.Keep.{AsksPages, Grows, max_page}
use Rattle.keeper.specs.declared.fault.KeepFault.{KeepFault}

-- the most pages of arrivals that a turn of the keeper keeps
abbrev pub max_pages : ℕ
max_pages = 10

-- the shared site, the keeper as its table, the pass, and the refusal of a step, if one came
pub record Flushing (S : Type 0) : Type 0 where
  pub site : TableId
  pub keeper : KeptTable S
  pub pass : ShownPass
  pub fault : Option KeepFault

module _ {S : Type 0} (state : Held S → State) where
  -- what turns may come to: the shared site and the number of the pass stay, and it is never split;
  -- what the pass has seen and the table's list only grow, and so does the mark; the database stays
  -- open but for a refusal, and after one all stays
  pub record Flushes (f g : Flushing S) : Type 0 where
    pub site : g.site ≡ f.site
    pub same : IsSamePass f.pass g.pass
    pub splits : g.pass.splits ≡ f.pass.splits
    pub seen : StartsWith g.pass.seen f.pass.seen
    pub mark : f.keeper.rows ≤ g.keeper.rows
    pub list : Grows (state f.keeper.conn) (state g.keeper.conn)
    pub stays_open : HasCleanDisk (state g.keeper.conn) → g.fault ≡ None
        → IsTrue (state f.keeper.conn).is_open → IsTrue (state g.keeper.conn).is_open
    pub stopped : IsSome f.fault → g ≡ f

  -- steps were made in one: the pass asked for pages, and for nothing else; it is refused exactly
  -- where the answer is false, and then the mark stays; else the mark grew by the pages
  pub record Steps (f g : Flushing S) (answer : Bool) : Type 0 where
    pub asked : AsksPages max_pages f.keeper.rows f.pass g.pass
    pub went : answer ≡ true → g.fault ≡ None
    pub refused : answer ≡ false → IsSome g.fault × (g.keeper.rows ≡ f.keeper.rows)
    pub page : answer ≡ true → HasCleanDisk (state g.keeper.conn) → g.keeper.rows
        ≡ f.keeper.rows + min (max_page * max_pages) (length (leaves g.pass) - f.keeper.rows)

  -- a turn makes steps in one, unless one was refused before: then it does nothing and answers
  -- false
  pub record Turns (f g : Flushing S) (answer : Bool) : Type 0 where
    pub flushes : Flushes f g
    pub step : f.fault ≡ None → Steps f g answer
    pub stopped : IsSome f.fault → answer ≡ false
