-- What holds of keepers, whatever was done.
use Rattle.std.specs.Prelude.{◌≡◌, ◌≤◌, ℕ, List, [], ◌++◌}
use Rattle.sqlite.specs.Effect.{Database}
use Rattle.attributes.specs.Event.{EventValue}
use Rattle.inbox_table.specs.Rows.{IsInbox}
use Rattle.site.specs.Machine.{call}
use Rattle.site.specs.declared.call.Call.{Call}
use Rattle.site.specs.declared.call.Command.TheVariants as command
use Rattle.site.specs.declared.call.Reply.TheVariants.{Paged}
use Rattle.turn_lock.specs.History.{StartsWith}
use Rattle.turn_lock.specs.declared.machine.Entry.{Entry}
use Rattle.site_lock.specs.Pass.{Made, ShownPass, leave, leaves}
use Rattle.keeper.specs.Keep.{HasFirst}

-- a keeper's table that has the first arrivals after a history has them after a longer one too
abbrev pub FirstArrivalsStay : Type 0
FirstArrivalsStay = (db : Database) (rows : ℕ) (opening : List EventValue)
    (seen more : List (Entry Call))
    → HasFirst db rows (leave opening seen) → HasFirst db rows (leave opening (seen ++ more))

-- a caller's pass, which went from p to q, asked what came after the first n arrivals, and there
-- was nothing; the keeper's pass r is of the same site and has seen that, and the database has the
-- table with the first arrivals up to the mark, which has reached n: then the table has first all
-- the arrivals that the caller had seen
abbrev pub AcknowledgedAreKept : Type 0
AcknowledgedAreKept = (db : Database) (mark n limit : ℕ) (p q r : ShownPass)
    → Made p q (call (command.Fresh n limit) (Paged [])) → 1 ≤ limit
    → r.opening ≡ q.opening → StartsWith r.seen q.seen
    → n ≤ mark → HasFirst db mark (leaves r)
    → (more : List EventValue) × IsInbox db (leaves q ++ more)
