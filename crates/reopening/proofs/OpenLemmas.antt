-- What an open finds in files that crashed.
use Rattle.std.proofs.Common.{ℕ, inl, inr, Result, Ok, Err, IfErr, IfOk}
use Rattle.std.specs.Prelude.{⊤}
use Rattle.std.proofs.Math.Logic.{∥∥₁_elim, ∥∥₁_map}
use mathlib.Core.HLevel.{⊥_prop}
use Rattle.sqlite_disk.specs.declared.Disk.{Ghosts}
use Rattle.sqlite_disk.specs.declared.Files.{Files}
use Rattle.sqlite_trees.specs.declared.error.StoreError.{StoreError}
use Rattle.sqlite_store.specs.declared.store.FileStore.{FileStore}
use Rattle.sqlite.specs.Files.{FailsToOpenFiles, Finds, IsCleanLeft, IsOpened, file_state}
use Rattle.sqlite.specs.Held.{Held}
use Rattle.sqlite.specs.Opening.{FailsAs}
use Rattle.sqlite.specs.State.{HasCleanDisk}
use Rattle.sqlite.specs.declared.error.Error.{Error}
use Rattle.sqlite.specs.declared.file.Leftover.{Leftover}
use Rattle.reopening.specs.Crash.{FailsToReopen, IsCrashed, IsReopened}

-- files that hold a database aren't refused as none
never_refused : (kind : StoreError) (a b : ℕ) (Limit Wanted : Type 0) (e : Error) → ∥ Wanted ∥₁ → FailsAs kind a b Limit Wanted e → FailsAs kind a b Limit ⊤ e
never_refused kind a b Limit Wanted e some (inl memory) = inl memory
never_refused kind a b Limit Wanted e some (inr (inl refused)) = absurd (∥∥₁_elim some ⊥_prop refused.1)
never_refused kind a b Limit Wanted e some (inr (inr other)) = inr (inr other)

module _ {D : Type 0} {g : Ghosts D} (c : Held (FileStore D g)) (files : Files D) where
  pub opened_as : {E : Type 0} (r : Result (Held (FileStore D g)) E) → IsCrashed c files
      → IfOk r (λ again. HasCleanDisk (file_state again) → IsOpened again) → IfOk r (λ again. HasCleanDisk (file_state again) → Finds files again)
      → IfOk r (λ again. HasCleanDisk (file_state again) → IsReopened (file_state c) (file_state again))
  opened_as (Ok again) crashed opened found = λ clean.
      let all = found clean in
      let is = opened clean in
      record { clean = crashed.clean all.honest; found = crashed.reads all.honest _ all.holds; sound = (is.1 is.0.is_open).0; opens = is.0 }
  opened_as (Err e) crashed opened found = tt

  pub refused_as : {T : Type 0} (r : Result T (Error × Leftover D g)) → IsCrashed c files → IfErr r (λ e. IsCleanLeft e.1 → FailsToOpenFiles files e.1 e.0)
      → IfErr r (λ e. IsCleanLeft e.1 → FailsToReopen c e.1 e.0)
  refused_as (Ok x) crashed cause = tt
  refused_as (Err e) crashed cause = λ clean.
      record { files = files; crashed = crashed; cause = λ honest. never_refused _ _ _ _ _ e.0 (∥∥₁_map (crashed.holds honest) (λ db. inl (db.0, db.2))) (cause clean) }
