use Rattle.std.proofs.Common.{Bool, ap₂, cond, inr, List, subst, ℕ}
use Rattle.sqlite_disk.specs.Events.{Event, replay}
use Rattle.sqlite_wal.specs.Recovery.{Image}
use Rattle.sqlite.specs.Files.{file_state}
use Rattle.sqlite.specs.Start.{FindsIn}
use Rattle.durable_site.proofs.file.connect.Goals as goal

abbrev image_from : List ℕ → List ℕ → Image
image_from log db = record { log = log; db = db }

-- what a file shows after these calls
abbrev seen : List ℕ → List ℕ → Bool → List Event → List ℕ
seen log db is_log calls = (replay (cond is_log log db) calls).seen

pub returns-in-Ok-clause-over : goal.returns-in-Ok-clause-over
returns-in-Ok-clause-over g c clean =
    let log = c.in_ok-files.ensures.log in
    let db = c.in_ok-files.ensures.db in
    let found = c.in-Ok.ensures.found clean in
    let same = ap₂ image_from
    (ap₂ (seen g.T.Start.log g.T.Start.db) log.which log.settled)
    (ap₂ (seen g.T.Start.log g.T.Start.db) db.which db.settled) in
    (c.in-Ok.ensures.opened clean, subst (λ i. FindsIn i (file_state c.in-Ok.conn)) same (record { holds = found.holds; reads = found.reads }))

pub returns-clause-refused : goal.returns-clause-refused
returns-clause-refused g c =
    let log = c.in_ok-files.ensures.log in
    let db = c.in_ok-files.ensures.db in
    inr (
      c.in-Err.error,
      c.of_error.ensures,
      record {
        files = c.in_ok-files.files;
        rest = c.in-Err.field-0-1;
        held = ap₂ image_from
            (ap₂ (seen g.T.Start.log g.T.Start.db) log.which log.settled)
            (ap₂ (seen g.T.Start.log g.T.Start.db) db.which db.settled);
        fails = c.in-Err.ensures.cause;
        leaves = c.in-Err.ensures.unharmed;
      },
    )
