-- A site over the files of a database.
use Rattle.std.specs.Prelude.{◌≡◌, ◌⊎◌, ◌≤◌, ◌*◌, ℕ, zero, suc, min, ⊤, IfErr, Result}
use Rattle.sqlite_disk.specs.declared.Disk as disk
use Rattle.sqlite_disk.specs.declared.Files.{Files}
use Rattle.sqlite_wal.specs.Reads.{AreClean}
use Rattle.sqlite_wal.specs.Recovery.{Image}
use Rattle.sqlite_store.specs.FileStore.{view}
use Rattle.sqlite_store.specs.declared.store.FileStore.{FileStore}
use Rattle.sqlite_trees.specs.View.{IsClean}
use Rattle.sqlite.specs.Closing.{IsCopied}
use Rattle.sqlite.specs.Held.{Held}
use Rattle.sqlite.specs.State.{HasCleanDisk, Survives}
use Rattle.sqlite.specs.Files.{FailsToClose, FailsToOpenFiles, IsCleanLeft, IsClosed, IsOpened, LeavesFiles, file_state, image_of}
use Rattle.sqlite.specs.Start.{FindsIn}
use Rattle.sqlite.specs.declared.error.Error.{Error}
use Rattle.sqlite.specs.declared.error.Error.TheVariants.{SqliteFailure}
use Rattle.sqlite.specs.declared.error.ErrorCode.TheVariants as code
use Rattle.sqlite.specs.declared.file.Leftover.{Leftover}
use Rattle.inbox_table.specs.Opening.{MayOpen, Opens, RejectsOpening}
use Rattle.inbox_table.specs.declared.fault.TableFault.{TableFault}
use Rattle.inbox_table.specs.declared.fault.TableFault.TheVariants as table
use Rattle.durable_site.specs.Durable.{events_of}
use Rattle.durable_site.specs.declared.durable.DurableSite.{DurableSite}
use Rattle.durable_site.specs.declared.fault.OpenFault.{OpenFault}
use Rattle.durable_site.specs.declared.fault.OpenFault.TheVariants as opening

-- the number of each fault of opening a durable site
abbrev pub fault_number : OpenFault → ℕ
fault_number opening.OutOfMemory = 1
fault_number opening.System = 2
fault_number opening.NoDatabase = 3
fault_number opening.Damaged = 4
fault_number opening.Store = 5
fault_number opening.Foreign = 6

-- what fault of opening a durable site an error is that the database meets as it is opened
abbrev pub error_fault : Error → OpenFault
error_fault (SqliteFailure code.OutOfMemory) = opening.OutOfMemory
error_fault (SqliteFailure code.NotADatabase) = opening.NoDatabase
error_fault (SqliteFailure code.DatabaseCorrupt) = opening.Damaged
error_fault (SqliteFailure code.CannotOpen) = opening.System
error_fault (SqliteFailure code.SystemIoFailure) = opening.System
error_fault _ = opening.Store

-- what fault of opening a durable site a refusal of the table is
abbrev pub table_fault : TableFault → OpenFault
table_fault table.OutOfMemory = opening.OutOfMemory
table_fault table.Store = opening.Store
table_fault table.Foreign = opening.Foreign

-- so many pages are kept of a durable site's database where so many MiB are asked for, or 0: 256
-- pages of a MiB, of at most 1 TiB; else from 200 pages to 256 MiB
abbrev pub IsCacheOf : ℕ → ℕ → Type 0
IsCacheOf zero pages = (200 ≤ pages) × (pages ≤ 65536)
IsCacheOf (suc more) pages = pages ≡ min (suc more) 1048576 * 256

-- a durable site isn't opened: want of memory, or the system refuses
abbrev pub IsOfSystem : OpenFault → Type 0
IsOfSystem fault = (fault ≡ opening.OutOfMemory) ⊎ (fault ≡ opening.System)

module _ {D : Type 0} {g : disk.Ghosts D} where
  -- the connection was opened over files that held this: while the disk gives back what was
  -- written, it is open and shows the database that they held, where they held one
  abbrev pub IsOver : Image → Held (FileStore D g) → Type 0
  IsOver image c = HasCleanDisk (file_state c) → IsOpened c × FindsIn image (file_state c)

  -- the site was opened over such a connection, and its events are those of the table found there,
  -- or none, where it was made
  pub record OpensOver (image : Image) (d : DurableSite (FileStore D g)) : Type 0 where
    pub first : Held (FileStore D g)
    pub over : IsOver image first
    pub opens : HasCleanDisk (file_state d.table.conn)
        → Opens (λ _ _. ⊤) (file_state first) (file_state d.table.conn) (events_of d)
    -- no fault of the disk is forgotten, and a crash leaves it as it was, or with the table that was
    -- to be made
    pub crash : Survives (file_state first) (file_state d.table.conn) (MayOpen (file_state first).now)

  -- ---- files closed

  -- why the log wasn't copied into the database file, while the disk gives back what was written
  abbrev pub FailsToCopy : Held (FileStore D g) → FileStore D g → Type 0
  FailsToCopy c last = (e : Error) × (IsClean (view last) → FailsToClose c last e)

  -- the files of a connection were closed: a crash leaves nothing of them that it couldn't leave
  -- before; and the last commit is in the database file alone, or stays in the log, for an error
  abbrev pub Closes : Held (FileStore D g) → Type 0
  Closes c = (last : FileStore D g) × IsClosed c last
      × (((files : Files D) × (AreClean g files.log files.db → IsCopied c files))
      ⊎ FailsToCopy c last)

-- ---- openings that are refused

module _ (D : Type 0) (g : disk.Ghosts D) where
  -- files that held this weren't opened for this error of the database: while the disk gives back
  -- what was written, it has its cause in them, and they are left as they were, but for what an
  -- opening makes of files without a database
  pub record LeavesImage (image : Image) (e : Error) : Type 0 where
    pub files : Files D
    pub rest : Leftover D g
    pub held : image_of g files ≡ image
    pub fails : IsCleanLeft rest → FailsToOpenFiles files rest e
    pub leaves : IsCleanLeft rest → LeavesFiles files rest

  -- no connection was opened over them, for this fault: the system refused before the database was
  -- asked, or the database did
  abbrev pub IsUnopened : Image → OpenFault → Type 0
  IsUnopened image fault =
      IsOfSystem fault ⊎ ((e : Error) × (fault ≡ error_fault e) × LeavesImage image e)

  -- one was opened, and no table was found or made there, for this fault: the database is as it was,
  -- and its files were closed so
  pub record RefusesTable (image : Image) (fault : OpenFault) : Type 0 where
    pub first : Held (FileStore D g)
    pub last : Held (FileStore D g)
    pub over : IsOver image first
    pub why : TableFault
    pub is : fault ≡ table_fault why
    pub rejects : RejectsOpening (file_state first) (file_state last) why
    -- a crash leaves it so, or with the table that was to be made
    pub crash : Survives (file_state first) (file_state last) (MayOpen (file_state first).now)
    pub closes : Closes last

module _ {D : Type 0} {g : disk.Ghosts D} where
  -- a connection is refused
  abbrev pub RefusesFiles : Image → Result (Held (FileStore D g)) OpenFault → Type 0
  RefusesFiles image result = IfErr result (IsUnopened D g image)

  -- a site is refused
  abbrev pub RefusesSite : Image → Result (DurableSite (FileStore D g)) OpenFault → Type 0
  RefusesSite image result =
      IfErr result (λ fault. IsUnopened D g image fault ⊎ RefusesTable D g image fault)
