-- What a crash leaves of the files of a database, and what is opened of them.
use Rattle.std.specs.Prelude.{◌≡◌, IsTrue, ⊤}
use Rattle.sqlite_disk.specs.declared.Disk.{Ghosts}
use Rattle.sqlite_disk.specs.declared.Files.{Files}
use Rattle.sqlite_wal.specs.Reads.{AreClean, tally_of_files}
use Rattle.sqlite_wal.specs.Recovery.{Image}
use Rattle.sqlite_trees.specs.Tree.{Trees}
use Rattle.sqlite_store.specs.Report.{named}
use Rattle.sqlite_store.specs.declared.store.FileStore.{FileStore}
use Rattle.sqlite.specs.Effect.{IsDatabase}
use Rattle.sqlite.specs.Files.{HoldsDatabase, IsFullLeft, file_state, image_of}
use Rattle.sqlite.specs.Files.{faults_left, faults_of, tally_left}
use Rattle.sqlite.specs.Held.{Held}
use Rattle.sqlite.specs.Opening.{FailsAs}
use Rattle.sqlite.specs.State.{HasCleanDisk, Opens, State}
use Rattle.sqlite.specs.declared.error.Error.{Error}
use Rattle.sqlite.specs.declared.file.Leftover.{Leftover}

-- these trees are those of any database that the crashed files hold
abbrev pub AreOfFiles : Image → Trees → Type 0
AreOfFiles image trees = (db : Trees) → HoldsDatabase image db → trees ≡ db

-- the files of a connection after a crash of the machine
pub record IsCrashed {D : Type 0} {g : Ghosts D} (c : Held (FileStore D g)) (files : Files D)
    : Type 0 where
  -- they may be opened: no sync of either has failed since
  pub log : IsTrue (g.is_usable files.log)
  pub db : IsTrue (g.is_usable files.db)
  -- no wrong answer of the disk is forgotten
  pub clean : AreClean g files.log files.db → HasCleanDisk (file_state c)
  -- while the disk gives back what was written, they hold a database, which is one of those that a
  -- crash could leave
  pub holds : AreClean g files.log files.db
      → ∥ ((db : Trees) × (file_state c).may_leave db × HoldsDatabase (image_of g files) db) ∥₁
  -- and so are the trees that are read of them
  pub reads : AreClean g files.log files.db → (trees : Trees) → AreOfFiles (image_of g files) trees
      → (file_state c).may_leave trees

-- what is opened of files that crashed, while the disk gives back what was written
pub record IsReopened (old new : State) : Type 0 where
  -- the disk gave it back before, too
  pub clean : HasCleanDisk old
  -- it has the trees of one of the databases that the crash could leave
  pub found : old.may_leave new.committed.trees
  -- they are a database, which obeys its own schema
  pub sound : IsDatabase new.now
  -- it is open, with no transaction and no savepoint, and shows what is committed
  pub opens : Opens new

-- files that crashed aren't opened for this error
pub record FailsToReopen {D : Type 0} {g : Ghosts D} (c : Held (FileStore D g))
    (rest : Leftover D g) (e : Error) : Type 0 where
  pub files : Files D
  pub crashed : IsCrashed c files
  -- for want of memory, a fault of the disk meanwhile, by its name, or a limit of the format: where
  -- the disk gives back what was written, never because what a crash left were no database
  pub cause : AreClean g files.log files.db
      → FailsAs (named (tally_of_files g (files.log, files.db)) (tally_left rest))
      (faults_of g files) (faults_left rest) (IsFullLeft rest) ⊤ e
