-- What the payload members of an event's object offer (CloudEvents JSON Event Format 1.0.2,
-- section 3.1; RFC 4648, section 4).
use Rattle.std.specs.Prelude.{ℕ, List, Bool, ◌||◌, if◌then◌else◌, Option, Some, None, Result}
use Rattle.std.specs.Prelude.{Ok, Err, codes, bytes_eq}
use Rattle.base64.specs.declared.decode.DecodeError.{DecodeError}
use Rattle.base64.specs.Engines.{standard}
use Rattle.base64.specs.GeneralPurpose.{decode_of}
use Rattle.serde_json.specs.Data.{Data, null, string, Members, no_members, member}
use Rattle.serde_json.specs.Find.{get_member}
use Rattle.attributes.specs.declared.content.Offered.{Offered}
use Rattle.attributes.specs.declared.content.Offered.TheVariants as offered

-- the names of the JSON members that carry data
abbrev pub tree_name : List ℕ
tree_name = codes "data"

abbrev pub bytes_name : List ℕ
bytes_name = codes "data_base64"

-- one of the names of the JSON members that carry data
abbrev pub is_payload : List ℕ → Bool
is_payload name = bytes_eq tree_name name || bytes_eq bytes_name name

-- the members of a JSON object but for those that carry data
abbrev pub attribute_members : Members → Members
attribute_members no_members = no_members
attribute_members (member k d ms) =
    if is_payload k then attribute_members ms else member k d (attribute_members ms)

-- a JSON member that is null is unset
abbrev pub unless_null : Option Data → Option Data
unless_null (Some null) = None
unless_null other = other

-- the bytes of `data_base64`, where the text could be decoded
abbrev pub decoded : Result (List ℕ) DecodeError → Offered
decoded (Ok b) = offered.Bytes b
decoded (Err e) = offered.Undecodable

-- the bytes of a JSON text in Base64
abbrev pub bytes_in : Data → Offered
bytes_in (string s) = decoded (decode_of standard s)
bytes_in _ = offered.Undecodable

-- what is offered as data by the JSON members `data` and `data_base64`
abbrev pub payload : Option Data → Option Data → Offered
payload None None = offered.Nothing
payload (Some d) None = offered.Tree d
payload None (Some e) = bytes_in e
payload (Some d) (Some e) = offered.Both

-- what the members of a JSON object offer as data
abbrev pub offered_in : Members → Offered
offered_in ms =
    payload (unless_null (get_member tree_name ms)) (unless_null (get_member bytes_name ms))
