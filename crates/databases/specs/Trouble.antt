-- Why nothing is told of a database, and the line that says so.
use Rattle.std.specs.Prelude.{ℕ, List, [], ◌∷◌, ◌++◌, codes}
use Rattle.serde_json.specs.Data.{Data, string, object, no_members, member}
use Rattle.serde_json.specs.Written.{compact_text}
use Rattle.std.specs.declared.io.ErrorKind.{ErrorKind}
use Rattle.std.specs.declared.io.ErrorKind.TheVariants as kind
use Rattle.sqlite.specs.declared.error.Error.{Error}
use Rattle.sqlite.specs.declared.error.Error.TheVariants.{SqliteFailure}
use Rattle.sqlite.specs.declared.error.ErrorCode.{ErrorCode}
use Rattle.sqlite.specs.declared.error.ErrorCode.TheVariants as code
use Rattle.databases.specs.declared.fault.CommandFault.{CommandFault}
use Rattle.databases.specs.declared.fault.CommandFault.TheVariants as command
use Rattle.databases.specs.declared.trouble.Trouble.{Trouble}
use Rattle.databases.specs.declared.trouble.Trouble.TheVariants as trouble

-- the fault of a command that needs the database in trouble
abbrev pub fault_of : Trouble → CommandFault
fault_of trouble.OutOfMemory = command.OutOfMemory
fault_of trouble.CannotRead = command.CannotRead
fault_of trouble.Foreign = command.Foreign
fault_of trouble.Cache = command.Cache
fault_of _ = command.Store

-- the name of the fault of a database in trouble, as a refused command prints it
abbrev pub name_of_command_fault : CommandFault → List ℕ
name_of_command_fault command.OutOfMemory = codes "out of memory"
name_of_command_fault command.CannotRead = codes "cannot read"
name_of_command_fault command.Foreign = codes "Foreign"
name_of_command_fault command.Cache = codes "Cache"
name_of_command_fault _ = codes "Store"

-- what is the matter with a database, and what can be done
abbrev pub hint_of_trouble : Trouble → List ℕ
hint_of_trouble trouble.OutOfMemory = codes "memory ran out"
hint_of_trouble trouble.NoFile =
    codes "a database is a file: its name is neither empty nor :memory:, and doesn't begin with file:"
hint_of_trouble trouble.CannotRead = codes "there is no file of that name, or none that this user may look at"
hint_of_trouble trouble.Busy =
    codes "another program has the file open: --wait 30 waits for it, at most 30 seconds"
hint_of_trouble trouble.Journal =
    codes "SQLite left a journal that it alone can play back: open the file once with sqlite3"
hint_of_trouble trouble.System =
    codes "the operating system doesn't open it, lock it or read it: is it a folder, and may this user write it"
hint_of_trouble trouble.NoDatabase =
    codes "it is no database of SQLite in UTF-8, or has a schema that site can't read"
hint_of_trouble trouble.Damaged = codes "a page of it is damaged: PRAGMA integrity_check of sqlite3 says where"
hint_of_trouble trouble.Store =
    codes "it has tables of others too, or a part of it can't be read: PRAGMA integrity_check of sqlite3 says if it is damaged"
hint_of_trouble trouble.Foreign =
    codes "its tables or rows aren't as site leaves them: take the events from a copy, or from another site by delta"
hint_of_trouble trouble.Cache = codes "the variable SITE_CACHE_MIB isn't a whole number from 1 to 1048576"

-- what trouble with a database a fault is of a look at it, while it is open
abbrev pub of_fault : CommandFault → Trouble
of_fault command.OutOfMemory = trouble.OutOfMemory
of_fault command.Foreign = trouble.Foreign
of_fault _ = trouble.Store

-- what trouble an error of the database is that is met when it is opened
abbrev pub of_code : ErrorCode → Trouble
of_code code.OutOfMemory = trouble.OutOfMemory
of_code code.DatabaseBusy = trouble.Busy
of_code code.NotADatabase = trouble.NoDatabase
of_code code.DatabaseCorrupt = trouble.Damaged
of_code code.CannotOpen = trouble.System
of_code code.SystemIoFailure = trouble.System
of_code _ = trouble.Store

abbrev pub of_error : Error → Trouble
of_error (SqliteFailure c) = of_code c
of_error _ = trouble.Store

-- what trouble with a database a refusal of the operating system is
abbrev pub of_kind : ErrorKind → Trouble
of_kind kind.OutOfMemory = trouble.OutOfMemory
of_kind _ = trouble.System

-- the system, the environment or the name refuses, before a database is asked
abbrev pub IsSystemTrouble : Trouble → Type 0
IsSystemTrouble trouble.NoDatabase = ⊥
IsSystemTrouble trouble.Damaged = ⊥
IsSystemTrouble trouble.Store = ⊥
IsSystemTrouble trouble.Foreign = ⊥
IsSystemTrouble _ = Unit {0}

-- a database's file isn't opened for this: the name is a file's, and the file may be looked at
abbrev pub IsOfOpening : Trouble → Type 0
IsOfOpening trouble.NoFile = ⊥
IsOfOpening trouble.CannotRead = ⊥
IsOfOpening trouble.Foreign = ⊥
IsOfOpening _ = Unit {0}

-- {"db":DB,"fault":NAME,"hint":WORDS}, which says why nothing is told of a database
abbrev pub trouble_data : List ℕ → List ℕ → List ℕ → Data
trouble_data db fault words =
    object (member (codes "db") (string db) (member (codes "fault") (string fault)
    (member (codes "hint") (string words) no_members)))

-- why nothing is told of the database of this name; JSON without white space (RFC 8259), as one
-- line
unfoldable pub trouble_line : List ℕ → Trouble → List ℕ
trouble_line db why = compact_text (trouble_data db (name_of_command_fault (fault_of why)) (hint_of_trouble why)) ++ 10 ∷ []
