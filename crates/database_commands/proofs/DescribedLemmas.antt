-- What is told of a database.
use Rattle.std.proofs.Common.{◌≡◌, inl, inr, ℕ, List, [], ◌++◌, false, length, refl, sym, subst, append-nil}
use Rattle.std.specs.Prelude.{None}
use Rattle.sqlite.specs.Effect.{Database}
use Rattle.attributes.specs.Event.{EventValue}
use Rattle.database_layout.specs.Layout.{has_name}
use Rattle.inbox_table.specs.Calls.{Finds}
use Rattle.inbox_table.specs.Rows.{IsAnyInbox, IsListed}
use Rattle.inbox_table.specs.declared.fault.TableFault.{TableFault}
use Rattle.inbox_table.specs.declared.fault.TableFault.TheVariants as table
use Rattle.inbox_table.specs.declared.version.Version.{Version}
use Rattle.inbox_table.specs.declared.version.Version.TheVariants.{One, Two}
use Rattle.inbox_table.proofs.UpgradeLemmas.{any_named}
use Rattle.databases.specs.declared.fault.CommandFault.{CommandFault}
use Rattle.databases.specs.declared.fault.CommandFault.TheVariants as command
use Rattle.databases.specs.Described.{CountsSources, Describes, SaysDatabase, IsToldVersion, SaysInbox, TellsInbox, TellsOfService, version_number}
use Rattle.databases.specs.Fault.{of_table}
use Rattle.databases.specs.Held.{Holds, IsNoOrders, IsUntold}
use Rattle.databases.specs.Service.{SaysService}
use Rattle.database_commands.specs.steps.Told.{TellsInboxLine}
use Rattle.databases.proofs.HeldLemmas.{any_holds, held_once}

-- ---- the inbox

either : (v : Version) (db : Database) (events : List EventValue) → IsListed v db events → IsAnyInbox db events
either One db events box = inr box
either Two db events box = inl box

-- the line of a table that is there tells of the inbox
pub tells_found : (name : List ℕ) (db : Database) (v : Version) (events : List EventValue) (text : List ℕ) → Finds db v events
    → TellsInboxLine name events (version_number v) text → TellsInbox name db text
tells_found name db v events text finds (n, counts, line) =
    let box : IsAnyInbox db events = either v db events finds.table in
    let holds : Holds db events = any_holds db events box in
    record {
      events = events;
      holds = holds;
      only = λ held h. finds.only held (h.there (any_named db events box));
      version = version_number v;
      is_version = inr (v, refl, finds.table);
      sources = n;
      counts = subst (λ (l : List EventValue). CountsSources l n) (held_once db events holds) counts;
      line = line;
    }

pub foreign_table : (f : TableFault) → of_table f ≡ command.Foreign → f ≡ table.Foreign
foreign_table table.OutOfMemory h = absurd (cc)
foreign_table table.Store h = absurd (cc)
foreign_table table.Foreign h = refl

-- ---- both

pub describes : (name : List ℕ) (db : Database) (first rest text : List ℕ) → TellsInbox name db first → TellsOfService db rest → text ≡ first ++ rest → Describes name db text
describes name db first rest text inbox service both = record { first = first; rest = rest; inbox = inbox; service = service; both = both }

pub describes_one : (name : List ℕ) (db : Database) (first : List ℕ) → TellsInbox name db first → has_name db.schema ≡ false → Describes name db first
describes_one name db first inbox none = describes name db first [] first inbox (inl (none, refl)) (sym (append-nil first))

pub says_events : (name : List ℕ) (events : List EventValue) (version : ℕ) (text : List ℕ) → IsToldVersion (length events) version → TellsInboxLine name events version text → SaysInbox name text
says_events name events version text told (n, counts, line) = (length events, n, version, told, line)

pub says_one : (name first : List ℕ) → SaysInbox name first → SaysDatabase name first
says_one name first it = record { first = first; rest = []; inbox = it; service = inl refl; both = sym (append-nil first) }

pub says_both : (name first rest text source : List ℕ) → SaysInbox name first → SaysService false source None rest → text ≡ first ++ rest → SaysDatabase name text
says_both name first rest text source inbox service both = record { first = first; rest = rest; inbox = inbox; service = inr (service.source, service.base, service.orders, service.rows, service.line); both = both }

pub untold : (f : CommandFault) → IsNoOrders f → (f ≡ command.AnotherSource → ⊥) → IsUntold f
untold f (inl is) none = inl is
untold f (inr (inl is)) none = inr (inl is)
untold f (inr (inr (inl is))) none = inr (inr is)
untold f (inr (inr (inr is))) none = absurd (none is)
