-- What a table has of the arrivals of a site.
pub use Rattle.site.specs.Page.{max_page}
use Rattle.std.specs.Prelude.{◌≡◌, ◌≢◌, ◌+◌, ◌-◌, ◌*◌, ◌≤◌, ℕ, zero, suc, List, [], ◌∷◌, ◌++◌, length, min, take, Result, IfErr, IfOk, IsTrue, OnErr, OnOk}
use Rattle.sqlite_trees.specs.Tree.{Trees}
use Rattle.sqlite.specs.Effect.{Database, IsDatabase}
use Rattle.sqlite.specs.Held.{Held}
use Rattle.sqlite.specs.State.{State, HasCleanDisk, Survives}
use Rattle.attributes.specs.Event.{EventValue}
use Rattle.inbox_table.specs.Beside.{KeepsServiceBeside}
use Rattle.inbox_table.specs.Calls.{IsSettled, KeptTable}
use Rattle.inbox_table.specs.Rows.{IsInbox}
use Rattle.site.specs.Machine.{call}
use Rattle.site.specs.declared.call.Call.{Call}
use Rattle.site.specs.declared.call.Command.{Command}
use Rattle.site.specs.declared.call.Command.TheVariants as command
use Rattle.site.specs.declared.call.Reply.{Reply}
use Rattle.site.specs.declared.call.Reply.TheVariants.{Paged, Refused}
use Rattle.turn_lock.specs.declared.machine.Entry.{Entry}
use Rattle.turn_lock.specs.History.{entry}
use Rattle.site_lock.specs.Pass.{Made, ShownPass}
use Rattle.keeper.specs.declared.fault.KeepFault.{KeepFault}
use Rattle.keeper.specs.declared.fault.KeepFault.TheVariants.{Foreign}

-- the keeper's table has the first so many of these arrivals, in their order, and no others
pub record HasFirst (db : Database) (rows : ℕ) (arrivals : List EventValue) : Type 0 where
  pub some : rows ≤ length arrivals
  pub table : IsInbox db (take rows arrivals)

-- a keeper's table has them while the disk gives back what was written and the database is open
abbrev pub KeepsUp : State → ℕ → List EventValue → Type 0
KeepsUp s rows arrivals =
    HasCleanDisk s → IsTrue s.is_open → HasFirst s.now rows arrivals

-- the keeper's table has all these arrivals, in their order, and no others
pub record HasAll (s : State) (rows : ℕ) (arrivals : List EventValue) : Type 0 where
  pub is_open : IsTrue s.is_open
  pub table : IsInbox s.now arrivals
  pub count : rows ≡ length arrivals

-- from p to q the keeper's pass made one call: for a page of arrivals after the first so many
abbrev pub AsksFresh : ℕ → ShownPass → ShownPass → Type 0
AsksFresh rows p q = (reply : Reply) × Made p q (call (command.Fresh rows max_page) reply)

-- the keeper's pass asked so many times, for page after page, and made no other call
abbrev pub AsksTimes : ℕ → ℕ → ShownPass → ShownPass → Type 0
AsksTimes zero rows p q = q ≡ p
AsksTimes (suc times) rows p q = (between : ShownPass) × AsksTimes times rows p between
    × AsksFresh (rows + max_page * times) between q

-- the keeper's pass asked for pages once or more, so many times at most
abbrev pub AsksPages : ℕ → ℕ → ShownPass → ShownPass → Type 0
AsksPages pages rows p q =
    (times : ℕ) × (1 ≤ times) × (times ≤ pages) × AsksTimes times rows p q

-- the last call of the keeper's pass had this reply
abbrev pub EndsWithReply : ShownPass → Reply → Type 0
EndsWithReply p reply = (before : List (Entry Call)) × (command : Command)
    × (p.mine ≡ before ++ entry p.number (call command reply) ∷ [])

-- the keeper's pass got a page, or was refused
abbrev pub EndsPaged : ShownPass → Type 0
EndsPaged p = (events : List EventValue) × EndsWithReply p (Paged events)

abbrev pub EndsShort : ShownPass → Type 0
EndsShort p = (taken : ℕ) × (fresh : ℕ) × EndsWithReply p (Refused taken fresh)

-- these are the trees of a database that has whatever events the keeper's table had, and more
-- behind them or none; what lies beside the table is as it was
pub record MayGrow (old : Database) (trees : Trees) : Type 0 where
  pub db : Database
  pub are : trees ≡ db.trees
  pub sound : IsDatabase db
  pub list : (held : List EventValue) → IsInbox old held
      → (more : List EventValue) × IsInbox db (held ++ more)
  pub beside : KeepsServiceBeside old db

-- whatever events the table had, it has them, and more behind them or none, and what lies beside it
-- is as it was, after a refusal too; this is so while the disk gives back what was written and the
-- database is open, and then it was so before. A crash leaves what it could leave before, or such a
-- database
pub record Grows (old new : State) : Type 0 where
  pub was_clean : HasCleanDisk new → HasCleanDisk old
  pub was_open : HasCleanDisk new → IsTrue new.is_open → IsTrue old.is_open
  pub list : HasCleanDisk new → IsTrue new.is_open → (held : List EventValue)
      → IsInbox old.now held → (more : List EventValue) × IsInbox new.now (held ++ more)
  pub beside : HasCleanDisk new → IsTrue new.is_open → KeepsServiceBeside old.now new.now
  pub survives : Survives old new (λ trees. IsTrue old.is_open → MayGrow old.now trees)

-- these are the trees of a database with the first so many of a keeper's arrivals, and behind them
-- the next ones, `most` at most; what lies beside the table is as it was
pub record MayKeep (most rows : ℕ) (arrivals : List EventValue) (old : Database) (trees : Trees)
    : Type 0 where
  pub db : Database
  pub are : trees ≡ db.trees
  pub sound : IsDatabase db
  pub first : HasFirst db (rows + min most (length arrivals - rows)) arrivals
  pub beside : KeepsServiceBeside old db

-- and these the trees of a database that has all of a keeper's arrivals
pub record MayKeepAll (arrivals : List EventValue) (old : Database) (trees : Trees) : Type 0 where
  pub db : Database
  pub are : trees ≡ db.trees
  pub sound : IsDatabase db
  pub table : IsInbox db arrivals
  pub beside : KeepsServiceBeside old db

module _ {S : Type 0} (state : Held S → State) where
  -- a keeper k came to be l in keeping, or was refused
  pub record Keeps {T : Type 0} (k l : KeptTable S) (result : Result T KeepFault) : Type 0 where
    -- whatever it comes to, the list only grows, and a crash leaves no less
    pub list : Grows (state k.conn) (state l.conn)
    -- kept, what lies beside the table is as it was, and a crash leaves just that
    pub beside : HasCleanDisk (state l.conn)
        → OnOk result (KeepsServiceBeside (state k.conn).now (state l.conn).now)
    pub settled : HasCleanDisk (state l.conn) → OnOk result (IsSettled (state l.conn))
    -- refused, the mark stays, and the database is as it was
    pub mark_same : OnErr result (l.rows ≡ k.rows)
    pub same : HasCleanDisk (state l.conn) → IsTrue (state l.conn).is_open
        → OnErr result ((state l.conn).now ≡ (state k.conn).now)
    pub known : IfErr result (λ fault. fault ≢ Foreign)

  -- it did so with the arrivals behind its mark, with `most` of them at most, and the answer is how
  -- many they were; the table has the first of them, and a crash leaves it with these or without
  pub record KeepsPages (most : ℕ) (k l : KeptTable S) (arrivals : List EventValue)
      (result : Result ℕ KeepFault) : Type 0 where
    pub keeps : Keeps k l result
    pub first : KeepsUp (state l.conn) l.rows arrivals
    pub grew : IfOk result (λ n. l.rows ≡ k.rows + n)
    pub page : HasCleanDisk (state l.conn)
        → IfOk result (λ n. n ≡ min most (length arrivals - k.rows))
    pub stays_open : HasCleanDisk (state l.conn) → OnOk result (IsTrue (state l.conn).is_open)
    pub crash : Survives (state k.conn) (state l.conn) (λ trees. IsTrue (state k.conn).is_open
        → MayKeep most k.rows arrivals (state k.conn).now trees)
