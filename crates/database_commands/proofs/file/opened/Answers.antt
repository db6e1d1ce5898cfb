use Rattle.std.proofs.Common.{ℕ, Bool, cond, List, ap₂, inr, subst}
use Rattle.sqlite_disk.specs.Events.{Event, replay}
use Rattle.sqlite_wal.specs.Recovery.{Image}
use Rattle.sqlite.specs.Files.{file_state}
use Rattle.sqlite.specs.Start.{FindsIn}
use Rattle.database_commands.proofs.file.opened.Goals as goal

abbrev image : List ℕ → List ℕ → Image
image log db = record { log = log; db = db }

-- what a file shows that was settled, and to which nothing has happened since
abbrev seen : List ℕ → List ℕ → Bool → List Event → List ℕ
seen log db is_log history = (replay (cond is_log log db) history).seen

pub returns-in-Ok-open_files-clause-over : goal.returns-in-Ok-open_files-clause-over
returns-in-Ok-open_files-clause-over g c clean =
    let (log, db) = c.in-Ok.ensures.fresh in
    let found = c.in-Ok-open_files.ensures.found clean in
    let same = ap₂ image (ap₂ (seen g.T.Start.log g.T.Start.db) log.0 log.1) (ap₂ (seen g.T.Start.log g.T.Start.db) db.0 db.1) in
    (c.in-Ok-open_files.ensures.opened clean, subst (λ i. FindsIn i (file_state c.in-Ok-open_files.conn)) same (record { holds = found.holds; reads = found.reads }))

pub returns-in-Ok-clause-refused : goal.returns-in-Ok-clause-refused
returns-in-Ok-clause-refused g c =
    let (log, db) = c.in-Ok.ensures.fresh in
    inr (
      c.in-Err-open_files.error,
      c.of_error.ensures.exact,
      record {
        files = c.in-Ok.files;
        rest = c.in-Err-open_files.field-0-1;
        held = ap₂ image (ap₂ (seen g.T.Start.log g.T.Start.db) log.0 log.1) (ap₂ (seen g.T.Start.log g.T.Start.db) db.0 db.1);
        fails = c.in-Err-open_files.ensures.cause;
        leaves = c.in-Err-open_files.ensures.unharmed;
      },
    )
