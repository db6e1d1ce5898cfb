-- What the taking of a file leaves.
use Rattle.std.specs.Prelude.{◌≡◌, ℕ, Bool, [], ◌∷◌}
use Rattle.sqlite_disk.specs.Events.{replay, settled}
use Rattle.sqlite_disk.specs.Modelled.{start_of}
use Rattle.sqlite_disk.specs.declared.calls.Calls as calls
use Rattle.sqlite_disk.specs.declared.modelled.Modelled.{Modelled}
use Rattle.sqlite_disk.specs.declared.start.Start.{Ghosts}
use Rattle.file_disk.specs.File.{calls_of}
use Rattle.file_disk.specs.declared.system_file.SystemFile.{SystemFile}

-- the disk's file was settled, under this key, and that is all
abbrev pub IsFileSettled : ℕ → SystemFile → Type 0
IsFileSettled key f = calls_of f.file ≡ settled key ∷ []

module _ {S : Type 0} {g : calls.Ghosts SystemFile} where
  -- it is the log or the database file, and was settled under its key
  pub record IsFresh {start : Ghosts S} (is_log : Bool) (f : Modelled SystemFile S g start)
      : Type 0 where
    pub which : f.is_log ≡ is_log
    pub settled : IsFileSettled f.key f.calls

  -- the digests of what is read from it are taken under this key
  abbrev pub IsUnder : {start : Ghosts S} → ℕ → Modelled SystemFile S g start → Type 0
  IsUnder key f = f.key ≡ key

  -- its member `is_usable`
  abbrev pub is_usable : (start : Ghosts S) → Modelled SystemFile S g start → Bool
  is_usable start f = (replay (start_of start f) (calls_of f.calls.file)).is_usable
