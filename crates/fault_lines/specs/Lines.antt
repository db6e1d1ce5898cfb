-- The lines that tell what is wrong with a file: JSON without white space (RFC 8259), each with LF
-- at its end. Which members there are is this project's own.
use Rattle.std.specs.Prelude.{◌≡◌, ◌⊎◌, ℕ, nat_le, List, [], ◌∷◌, ◌++◌, length, flat_map, codes, Bool, true, false, not, ◌&&◌, if◌then◌else◌, Option, None, Some, option_and_then}
use Rattle.std.specs.Fmt.{decimal}
use Rattle.serde_json.specs.Data.{Data, null, boolean, number, string, array, object}
use Rattle.serde_json.specs.Find.{get, as_str, is_float}
use Rattle.serde_json.specs.Written.{compact_text}
use Rattle.attributes.specs.declared.fault.Fault.{Fault}
use Rattle.attributes.specs.declared.fault.Fault.TheVariants as fault
use Rattle.event_json.specs.Faulty.{FaultyMember, TellsFaulty, RefusesWhole}
use Rattle.event_json.specs.declared.fault.ReadFault.{ReadFault}
use Rattle.fault_lines.specs.Member.{member_at_fault}
use Rattle.fault_lines.specs.Place.{place}
use Rattle.fault_lines.specs.Words.{fault_name, hint, whole_hint, whole_words}

-- a text as a JSON string, for a line about a file at fault
abbrev pub string_text : List ℕ → List ℕ
string_text words = compact_text (string words)

-- a fault's line shows such a value: null, a truth value, a text, or a whole number of 64 bits
abbrev pub is_plain_value : Data → Bool
is_plain_value null = true
is_plain_value (boolean b) = true
is_plain_value (number n) = not (is_float n)
is_plain_value (string s) = true
is_plain_value (array ds) = false
is_plain_value (object ms) = false

-- a text of at most 200 bytes, as a fault line's member `value`; a longer one is left out
abbrev pub if_short : List ℕ → List ℕ
if_short text = if nat_le (length text) 200 then codes ",\"value\":" ++ text else []

-- the member `value` of a fault's line, of a plain value, where it is short
abbrev pub value_member : Option Data → List ℕ
value_member None = []
value_member (Some d) = if is_plain_value d then if_short (compact_text d) else []

-- a fault line's members `attribute` and `value`, where the fault is of a member of this name
abbrev pub attribute_and_value : Option (List ℕ) → Data → List ℕ
attribute_and_value None tree = []
attribute_and_value (Some name) tree =
    codes ",\"attribute\":" ++ (string_text name ++ value_member (get name tree))

-- a fault line's member `pointer`, where a number of the data is at fault: where it stands
abbrev pub pointer_member : Option (List ℕ) → List ℕ
pointer_member None = []
pointer_member (Some at) = codes ",\"pointer\":" ++ string_text (codes "/data" ++ at)

-- for a fault's line: where in an event's data the fault is, if it is of a number there
abbrev pub place_at_fault : Fault → Data → Option (List ℕ)
place_at_fault fault.DataNumber tree = option_and_then place (get (codes "data") tree)
place_at_fault why tree = None

-- the members of a fault's line that tell where in an event a fault is
abbrev pub where_members : Fault → Data → List ℕ
where_members why tree =
    attribute_and_value (member_at_fault why tree) tree ++ pointer_member (place_at_fault why tree)

-- the member `id` of a fault's line, where there is one
abbrev pub id_member : Option (List ℕ) → List ℕ
id_member None = []
id_member (Some id) = codes ",\"id\":" ++ string_text id

-- the id of a file's member at fault, where it is a text
abbrev pub id_of_member : Data → Option (List ℕ)
id_of_member tree = option_and_then as_str (get (codes "id") tree)

-- the line of a file's member at fault, where this is the file's name as a JSON string
abbrev pub member_line : List ℕ → FaultyMember → List ℕ
member_line file m =
    codes "{\"file\":" ++ (file ++ (codes ",\"index\":" ++ (decimal m.index
    ++ (id_member (id_of_member m.tree) ++ (codes ",\"fault\":\"" ++ (fault_name m.fault ++ (codes "\""
    ++ (where_members m.fault m.tree
    ++ (codes ",\"hint\":\"" ++ (hint m.fault ++ (codes "\"}" ++ 10 ∷ [])))))))))))

-- a line for each member of a file at fault
abbrev pub member_lines : List ℕ → List FaultyMember → List ℕ
member_lines file told = flat_map (λ m. member_line file m) told

-- the line of a file that is refused as a whole, where this is its name as a JSON string, with the
-- words for the fault and for what to do
abbrev pub line_with : List ℕ → List ℕ → List ℕ → List ℕ
line_with file words hint =
    codes "{\"file\":" ++ (file ++ (codes ",\"fault\":\"" ++ (words
    ++ (codes "\",\"hint\":\"" ++ (hint ++ (codes "\"}" ++ 10 ∷ []))))))

-- the line of a file that is refused as a whole, for this reason
abbrev pub whole_file_line : List ℕ → ReadFault → List ℕ
whole_file_line file why = line_with file (whole_words why) (whole_hint why)

-- the file's bytes are an event or a batch, and the text has a line for each member at fault
abbrev pub TellsMembers : List ℕ → List ℕ → List ℕ → Type 0
TellsMembers name b text = (told : List FaultyMember) × TellsFaulty b told
    × (text ≡ member_lines (string_text name) told)

-- the file's bytes are refused as a whole, and the text is the line that says why
abbrev pub TellsWhole : List ℕ → List ℕ → List ℕ → Type 0
TellsWhole name b text = (why : ReadFault) × RefusesWhole b why
    × (text ≡ whole_file_line (string_text name) why)

-- what is said in lines of the file of that name and these bytes
abbrev pub IsFaultText : List ℕ → List ℕ → List ℕ → Type 0
IsFaultText name b text = TellsMembers name b text ⊎ TellsWhole name b text

-- ---- of what needs no numbers

-- an event is at fault for its number alone: it has none, or what it has is none
abbrev pub is_of_number : Fault → Bool
is_of_number fault.NoSequence = true
is_of_number fault.BadSequence = true
is_of_number why = false

-- the line of a file's member that is no event; none where its number alone is at fault
abbrev pub reading_line : List ℕ → FaultyMember → List ℕ
reading_line file m = if is_of_number m.fault then [] else member_line file m

-- a line for each member of a file that is no event
abbrev pub reading_lines : List ℕ → List FaultyMember → List ℕ
reading_lines file told = flat_map (λ m. reading_line file m) told

-- the file's bytes are JSON, and the text has a line for each member that is no event
abbrev pub TellsNoEvents : List ℕ → List ℕ → List ℕ → Type 0
TellsNoEvents name b text = (told : List FaultyMember) × TellsFaulty b told
    × (text ≡ reading_lines (string_text name) told)

-- what is said in lines of the file of that name and these bytes, whose events need no numbers
abbrev pub IsReadingText : List ℕ → List ℕ → List ℕ → Type 0
IsReadingText name b text = TellsNoEvents name b text ⊎ TellsWhole name b text

-- a line for each member of a file at fault; where numbers don't count, for each that is no event
abbrev pub told_lines : Bool → List ℕ → List FaultyMember → List ℕ
told_lines numbers file told =
    flat_map (λ m. if not numbers && is_of_number m.fault then [] else member_line file m) told

-- what is said in lines of a file, where numbers count, or where they don't
abbrev pub IsToldText : Bool → List ℕ → List ℕ → List ℕ → Type 0
IsToldText numbers name b text = ((told : List FaultyMember) × TellsFaulty b told
    × (text ≡ told_lines numbers (string_text name) told)) ⊎ TellsWhole name b text

-- the line of a file's event, where file and id are JSON strings, with the words for its fault and
-- for what to do
abbrev pub event_line : List ℕ → ℕ → List ℕ → List ℕ → List ℕ → List ℕ
event_line file index id words hint =
    codes "{\"file\":" ++ (file ++ (codes ",\"index\":" ++ (decimal index ++ (codes ",\"id\":" ++ (id
    ++ (codes ",\"fault\":\"" ++ (words ++ (codes "\",\"hint\":\"" ++ (hint
    ++ (codes "\"}" ++ 10 ∷ []))))))))))
