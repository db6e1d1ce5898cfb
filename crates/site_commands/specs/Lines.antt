-- The lines on standard error of a run that was refused.
use Rattle.std.specs.Prelude.{◌==◌, ◌/◌, ◌%◌, Bool, ℕ, List, [], ◌∷◌, ◌++◌, codes, map, slice_get, unwrap_or, if◌then◌else◌}
use Rattle.std.specs.Char.{digit_char, encode_utf8, is_control}
use Rattle.std.specs.Fmt.{decimal}
use Rattle.std.specs.List.{flat_map}
use Rattle.std.specs.Str.{chars}
use Rattle.event_json.specs.declared.fault.ReadFault.TheVariants as read
use Rattle.event_files.specs.declared.input.Unread.{Unread}
use Rattle.event_files.specs.declared.input.Unread.TheVariants as unread
use Rattle.event_files.specs.declared.refusal.ReportFault.{ReportFault}
use Rattle.event_files.specs.declared.refusal.ReportFault.TheVariants as report
use Rattle.line_intake.specs.Words.{words_of}
use Rattle.coverage.specs.declared.fault.SummaryFault.{SummaryFault}
use Rattle.coverage.specs.declared.fault.SummaryFault.TheVariants as summary
use Rattle.databases.specs.declared.fault.CommandFault.{CommandFault}
use Rattle.databases.specs.declared.fault.CommandFault.TheVariants as database
use Rattle.site_commands.specs.Names.{Names}
use Rattle.site_commands.specs.declared.line.Refusal.{Refusal}
use Rattle.site_commands.specs.declared.line.Refusal.TheVariants as refusal
use Rattle.site_commands.specs.declared.pieces.LineAt.{LineAt}

-- ---- names of files

-- a backslash and a letter, in a name in an error line
abbrev pub escape : ℕ → List ℕ
escape letter = 92 ∷ letter ∷ []

-- a control character of a name as `\u00` and two lower-case hexadecimal digits, any other as it is
abbrev pub other_char : ℕ → List ℕ
other_char c =
    if is_control c then 92 ∷ 117 ∷ 48 ∷ 48 ∷ digit_char (c / 16 % 16) ∷ digit_char (c % 16) ∷ []
    else encode_utf8 c

-- a control character of a file's name as in a JSON string (RFC 8259, section 7), the usual ones as
-- `\b`, `\t`, `\n`, `\f`, `\r`; any other character as it is
abbrev pub name_char : ℕ → List ℕ
name_char c =
    if c == 8 then escape 98 else if c == 9 then escape 116 else if c == 10 then escape 110
    else if c == 12 then escape 102
    else if c == 13 then escape 114 else other_char c

-- a file's name in an error line
abbrev pub printed_name : List ℕ → List ℕ
printed_name name = flat_map name_char (chars name)

-- the name at a place, from 0, of a plan's files
abbrev pub name_at : List (List ℕ) → ℕ → List ℕ
name_at names file = unwrap_or (slice_get names file) []

-- `FILE line N`, which names a line of a file in an error line
abbrev pub line_name : List ℕ → ℕ → List ℕ
line_name name number = name ++ codes " line " ++ decimal number

-- the names of lines of these files in error lines
abbrev pub line_names : List (List ℕ) → List LineAt → List (List ℕ)
line_names files places = map (λ at. line_name (name_at files at.file) at.line) places

-- ---- the lines

-- the error line `site: FILE: WORDS`
abbrev pub file_line : List ℕ → List ℕ → List ℕ
file_line name words = codes "site: " ++ printed_name name ++ codes ": " ++ words ++ 10 ∷ []

-- the error line `site: out of memory`
abbrev pub memory_line : List ℕ
memory_line = codes "site: out of memory" ++ 10 ∷ []

-- the error line that a word of the command line isn't UTF-8
abbrev pub arguments_line : List ℕ
arguments_line = codes "site: the arguments aren't text" ++ 10 ∷ []

-- the error line that a file of this name was not read
abbrev pub unread_line : List ℕ → Unread → List ℕ
unread_line name unread.OutOfMemory = memory_line
unread_line name unread.CannotRead = file_line name (codes "cannot read")
unread_line name unread.TooLarge = file_line name (codes "too large")

-- the error line that a file of this name is at fault
abbrev pub file_fault_line : List ℕ → ReportFault → List ℕ
file_fault_line name report.OutOfMemory = memory_line
file_fault_line name (report.Read read.OutOfMemory) = memory_line
file_fault_line name why = file_line name (words_of why)

-- the error line that so many lines of an input were at fault
abbrev pub lines_line : ℕ → List ℕ
lines_line faults = codes "site: " ++ decimal faults ++ (codes " lines refused" ++ 10 ∷ [])

-- the error line that the summary in a file of this name is at fault
abbrev pub summary_fault_line : List ℕ → SummaryFault → List ℕ
summary_fault_line name summary.OutOfMemory = memory_line
summary_fault_line name summary.NotJson = file_line name (codes "not JSON")
summary_fault_line name summary.Shape = file_line name (codes "Shape")
summary_fault_line name summary.Version = file_line name (codes "Version")
summary_fault_line name summary.NotCanonical = file_line name (codes "NotCanonical")

-- the error line `site: order N: NAME`
abbrev pub order_line : ℕ → List ℕ → List ℕ
order_line number name = codes "site: order " ++ decimal number ++ codes ": " ++ name ++ 10 ∷ []

-- the error line that a command over the database of this name, about this order, has no answer
abbrev pub database_fault_line : List ℕ → ℕ → CommandFault → List ℕ
database_fault_line db number database.OutOfMemory = memory_line
database_fault_line db number database.Store = file_line db (codes "Store")
database_fault_line db number database.Foreign = file_line db (codes "Foreign")
database_fault_line db number database.OrderExists = order_line number (codes "OrderExists")
database_fault_line db number database.NoOrder = order_line number (codes "NoOrder")
database_fault_line db number database.WrongState = order_line number (codes "WrongState")
database_fault_line db number database.Full = order_line number (codes "Full")
database_fault_line db number database.RouteFailed = codes "site: route failed" ++ 10 ∷ []
database_fault_line db number database.AnotherSource = file_line db (codes "another source")
database_fault_line db number database.CannotRead = file_line db (codes "cannot read")
database_fault_line db number database.Cache =
    codes "site: SITE_CACHE_MIB isn't a whole number from 1 to 1048576" ++ 10 ∷ []

-- the program's lines of what was made: the file of this database, a service in it
abbrev pub made_lines : Bool → Bool → List ℕ → List ℕ
made_lines file service db =
    (if file then file_line db (codes "made, it wasn't there") else [])
    ++ (if service then file_line db (codes "a service /orders was made in it") else [])

-- the one error line of a refusal of a plan that names these
abbrev pub line_of : Names → Refusal → List ℕ
line_of names (refusal.Unread at) = unread_line (name_at names.files at.file) at.why
line_of names (refusal.File refused) = file_fault_line (name_at names.files refused.file) refused.fault
line_of names (refusal.Line refused) =
    file_fault_line (line_name (name_at names.files refused.at.file) refused.at.line) refused.fault
line_of names (refusal.Summary why) = summary_fault_line (name_at names.files 0) why
line_of names (refusal.Database why) = database_fault_line names.db names.order why
line_of names refusal.NoThread = codes "site: no thread" ++ 10 ∷ []
line_of names (refusal.Lines faults) = lines_line faults
line_of names refusal.NoNumber = file_line names.db (codes "Full")
