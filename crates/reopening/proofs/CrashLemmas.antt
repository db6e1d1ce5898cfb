-- From the outcomes of a crash that each file allows to the databases that it may leave.
use Rattle.std.proofs.Common.{Bool, true, false, ◌&&◌, ◌≡◌, ◌∙◌, refl, subst, IsTrue, arith}
use Rattle.std.proofs.Math.Logic.{∥∥₁_elim, ∥∥₁_map}
use Rattle.std.proofs.lemmas.Bool.{and_parts}
use mathlib.Core.HLevel.{×_prop, Σ_prop_path}
use Rattle.sqlite_disk.specs.declared.Disk.{Ghosts}
use Rattle.sqlite_disk.specs.declared.Files.{Files}
use Rattle.sqlite_wal.specs.Files.{outcomes}
use Rattle.sqlite_wal.specs.Reads.{AreClean}
use Rattle.sqlite_wal.specs.Recovery.{Image}
use Rattle.sqlite_pages.specs.PageMap.{PageMap}
use Rattle.sqlite_pool.specs.Stored.{Recovers}
use Rattle.sqlite_pool.specs.StoredLaws.{recovers_once}
use Rattle.sqlite_pool.proofs.PoolLemmas.{pages_from}
use Rattle.sqlite_pool.proofs.StateLemmas.{clean_is, may_leave_is, size_is_allowed}
use Rattle.sqlite_pool.proofs.ResealLemmas.{adopts_of}
use Rattle.sqlite_trees.specs.Tree.{Trees}
use Rattle.sqlite_trees.specs.Props.{Trees-set}
use Rattle.sqlite_trees.specs.View.{IsClean, IsQuiet}
use Rattle.sqlite_trees.proofs.Doubt.{no_doubt}
use Rattle.sqlite_store.specs.declared.store.FileStore.{FileStore}
use Rattle.sqlite_store.specs.FileStore.{faults, files, is_shielded, reading, recovers, schema_in, state, view}
use Rattle.sqlite_store.specs.Listing.{IsOurs, file_trees}
use Rattle.sqlite.specs.Files.{HoldsDatabase, file_state, image_of}
use Rattle.sqlite.specs.Held.{AreDatabases, Held}
use Rattle.sqlite.specs.State.{HasCleanDisk}
use Rattle.sqlite.proofs.Theorems.{opens_again}
use Rattle.reopening.specs.Crash.{AreOfFiles}

both_up : (a b : Bool) → IsTrue a → IsTrue b → IsTrue (a && b)
both_up true b h k = k
both_up false b h k = h

-- an image recovers to these pages, and they read as these trees
abbrev ReadsAs : {D : Type 0} {g : Ghosts D} → FileStore D g → Image → Trees → PageMap → Type 0
ReadsAs it left trees pages = ∥ Recovers (state it).page_size left pages ∥₁ × (trees ≡ file_trees (state it).page_size (schema_in it pages) pages)

-- the pages that an image recovers to, and that read as these trees
abbrev Reads : {D : Type 0} {g : Ghosts D} → FileStore D g → Image → Trees → Type 0
Reads it left trees = (pages : PageMap) × ReadsAs it left trees pages

reads_once : {D : Type 0} {g : Ghosts D} (it : FileStore D g) (left : Image) (trees : Trees) → IsProp (Reads it left trees)
reads_once it left trees x y =
    Σ_prop_path {A = PageMap} {B = ReadsAs it left trees}
    (λ pages. ×_prop squash₁ (Trees-set trees (file_trees (state it).page_size (schema_in it pages) pages))) {u = x} {v = y}
    (pages_from x.0 y.0 x.1.0 (λ a. pages_from x.0 y.0 y.1.0 (λ b. recovers_once (state it).page_size left x.0 y.0 a b)))

-- trees that are read of an image that a crash may leave are those of a database that it may leave
reads_left : {D : Type 0} {g : Ghosts D} (it : FileStore D g) → IsTrue (view it).is_numbered → AreDatabases (recovers it)
    → (left : Image) → (state it).may_leave left → (trees : Trees) → AreOfFiles left trees → recovers it trees
reads_left it numbered sound left may trees are =
    let found : Reads it left trees = ∥∥₁_elim it.safe (reads_once it left trees) (λ all.
    let pages = all left may in
    let db = reading it pages.0 in
    let schema = sound db (left, pages.0, may, ∣ pages.1 ∣₁, refl) in
    let same : trees ≡ db = ∥∥₁_elim (size_is_allowed it.pool) (Trees-set _ _) (λ size.
    ∥∥₁_elim pages.2 (Trees-set _ _) (λ ours. are db (
      (state it).page_size,
      size,
      record {
        pages = pages.0;
        wanted = schema_in it pages.0;
        schema = schema.0;
        found = adopts_of _ left pages.0 pages.1;
        reads = refl;
        sound = schema.1;
        ours = subst (λ b. IsOurs (state it).page_size b (schema_in it pages.0) pages.0) numbered ours;
      },
    ))) in
    (pages.0, (∣ pages.1 ∣₁, same))) in
    (left, found.0, may, found.1.0, found.1.1)

module _ {D : Type 0} {g : Ghosts D} (c : Held (FileStore D g)) (it : FileStore D g)
    (numbered : IsClean (view it) → IsTrue (view it).is_numbered) (sound : IsClean (view it) → AreDatabases (recovers it))
    (quiet : IsQuiet view faults recovers is_shielded c.store it) (before now : Files D) (are : (before.log, before.db) ≡ files it)
    (log_left : g.may_leave before.log (g.seen now.log)) (db_left : g.may_leave before.db (g.seen now.db))
    (log_clean : IsTrue (g.is_clean now.log) → IsTrue (g.is_clean before.log)) (db_clean : IsTrue (g.is_clean now.db) → IsTrue (g.is_clean before.db))
    (honest : AreClean g now.log now.db) where
  was_clean : AreClean g (files it).0 (files it).1
  was_clean = let parts = and_parts _ _ honest in subst (λ p. AreClean g p.0 p.1) are (both_up _ _ (log_clean parts.0) (db_clean parts.1))

  no_lie : IsClean (view it)
  no_lie = no_doubt _ (clean_is it.pool ∙ was_clean)

  may_be : (state it).may_leave (image_of g now)
  may_be = may_leave_is it.pool (image_of g now) was_clean (subst (λ p. outcomes g p.0 p.1 (image_of g now)) are (log_left, db_left))

  pub crashed_clean : HasCleanDisk (file_state c)
  crashed_clean = omega (arith, quiet.clean, no_lie)

  pub crashed_holds : ∥ ((db : Trees) × (file_state c).may_leave db × HoldsDatabase (image_of g now) db) ∥₁
  crashed_holds = ∥∥₁_map (opens_again it (numbered no_lie) (sound no_lie) _ may_be) (λ db. (db.0, quiet.outcomes db.0 db.1, db.2))

  pub crashed_reads : (trees : Trees) → AreOfFiles (image_of g now) trees → (file_state c).may_leave trees
  crashed_reads trees of_files = quiet.outcomes trees (reads_left it (numbered no_lie) (sound no_lie) _ may_be trees of_files)
