-- What a command finds in the files of a database, and leaves of them.
use Rattle.std.specs.Prelude.{◌≡◌, ◌⊎◌, IfErr, Result}
use Rattle.sqlite_disk.specs.declared.Disk as disk
use Rattle.sqlite_disk.specs.declared.Files.{Files}
use Rattle.sqlite_wal.specs.Reads.{AreClean}
use Rattle.sqlite_wal.specs.Recovery.{Image}
use Rattle.sqlite_store.specs.FileStore.{view}
use Rattle.sqlite_store.specs.declared.store.FileStore.{FileStore}
use Rattle.sqlite_trees.specs.View.{IsClean}
use Rattle.sqlite.specs.Closing.{IsCopied}
use Rattle.sqlite.specs.Held.{Held}
use Rattle.sqlite.specs.State.{State, HasCleanDisk}
use Rattle.sqlite.specs.Files.{FailsToClose, FailsToOpenFiles, IsCleanLeft, IsClosed, IsOpened, LeavesFiles, file_state, image_of}
use Rattle.sqlite.specs.Start.{FindsIn}
use Rattle.sqlite.specs.declared.error.Error.{Error}
use Rattle.sqlite.specs.declared.file.Leftover.{Leftover}
use Rattle.databases.specs.Trouble.{IsSystemTrouble, fault_of, of_error}
use Rattle.database_commands.specs.declared.command.CommandEnd.{CommandEnd}
use Rattle.databases.specs.declared.fault.CommandFault.{CommandFault}
use Rattle.databases.specs.declared.trouble.Trouble.{Trouble}

module _ {D : Type 0} {g : disk.Ghosts D} where
  -- the connection was opened over files that held this: while the disk gives back what was
  -- written, it is open and shows the database that they held, where they held one
  abbrev pub IsOver : Image → Held (FileStore D g) → Type 0
  IsOver image c = HasCleanDisk (file_state c) → IsOpened c × FindsIn image (file_state c)

  -- a command was given to such a connection, and this is what it did from there to its end
  pub record DoesOver (image : Image) (Did : State → State → Type 0) (last : Held (FileStore D g))
      : Type 0 where
    pub first : Held (FileStore D g)
    pub over : IsOver image first
    -- no fault of the disk is forgotten: where it is honest in the end, it was when it was opened
    pub clean : HasCleanDisk (file_state last) → HasCleanDisk (file_state first)
    pub did : Did (file_state first) (file_state last)

  -- ---- files closed

  -- why the log wasn't copied into the database file, while the disk gives back what was written
  abbrev pub FailsToCopy : Held (FileStore D g) → FileStore D g → Type 0
  FailsToCopy c last = (e : Error) × (IsClean (view last) → FailsToClose c last e)

  -- the files of a connection were closed: a crash leaves nothing of them that it couldn't leave
  -- before; and the last commit is in the database file alone, or stays in the log, for an error
  abbrev pub Closes : Held (FileStore D g) → Type 0
  Closes c = (last : FileStore D g) × IsClosed c last
      × (((files : Files D) × (AreClean g files.log files.db → IsCopied c files))
      ⊎ FailsToCopy c last)

-- ---- openings that are refused

module _ (D : Type 0) (g : disk.Ghosts D) where
  -- files that held this weren't opened for this error of the database: while the disk gives back
  -- what was written, it has its cause in them, and they are left as they were, but for what an
  -- opening makes of files without a database
  pub record LeavesImage (image : Image) (e : Error) : Type 0 where
    pub files : Files D
    pub rest : Leftover D g
    pub held : image_of g files ≡ image
    pub fails : IsCleanLeft rest → FailsToOpenFiles files rest e
    pub leaves : IsCleanLeft rest → LeavesFiles files rest

  -- no connection was opened over them, and this is the matter: the system refused before the
  -- database was asked, or the database did
  abbrev pub IsUnopened : Image → Trouble → Type 0
  IsUnopened image why =
      IsSystemTrouble why ⊎ ((e : Error) × (why ≡ of_error e) × LeavesImage image e)

  -- so it is for this fault
  abbrev pub IsUnopenedFor : Image → CommandFault → Type 0
  IsUnopenedFor image f = (why : Trouble) × (f ≡ fault_of why) × IsUnopened image why

module _ {D : Type 0} {g : disk.Ghosts D} where
  -- a connection is refused
  abbrev pub RefusesFiles : Image → Result (Held (FileStore D g)) Trouble → Type 0
  RefusesFiles image result = IfErr result (IsUnopened D g image)

  abbrev pub RefusesFilesFor : Image → Result (Held (FileStore D g)) CommandFault → Type 0
  RefusesFilesFor image result = IfErr result (IsUnopenedFor D g image)

  -- so is a command, which wasn't begun
  abbrev pub RefusesCommand : {A : Type 0} → Image
      → Result (CommandEnd (FileStore D g) A) CommandFault → Type 0
  RefusesCommand image result = IfErr result (IsUnopenedFor D g image)

  abbrev pub RefusesLook : {A : Type 0} → Image
      → Result (CommandEnd (FileStore D g) A) Trouble → Type 0
  RefusesLook image result = IfErr result (IsUnopened D g image)
