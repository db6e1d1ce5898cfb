-- Those of the members of a batch so far that are at fault.
use Rattle.std.specs.Prelude.{◌≡◌, ℕ, List, Some, map, length}
use Rattle.serde_json.specs.Data.{Data}
use Rattle.attributes.specs.JsonText.{IsJsonText}
use Rattle.event_json.specs.Spelling.{candidates}
use Rattle.event_json.specs.Faulty.{faulty, member_of}
use Rattle.event_json.specs.declared.faulty.FaultyMembers.{FaultyMembers}

-- just the faulty ones of these members of an input are told, and so many were there
abbrev pub AreFaultyOf : FaultyMembers → List Data → Type 0
AreFaultyOf found ds =
    (map member_of found.told.items ≡ faulty 0 ds) × (found.count ≡ length ds)

-- the bytes are the text of a JSON object or an array, of which these are the members
abbrev pub HasMembers : List ℕ → List Data → Type 0
HasMembers b ds = (value : Data) × IsJsonText b value × (candidates value ≡ Some ds)
