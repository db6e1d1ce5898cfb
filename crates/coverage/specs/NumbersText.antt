-- The text of numbers by source, version 1: our own, a JSON object without white space (RFC 8259).
use Rattle.std.specs.Prelude.{ℕ, List, [], ◌∷◌, codes, decimal}
use Rattle.json.specs.Token as token
use Rattle.serde_json.specs.Data.{unsigned, Data, number, array, object, Items, no_items, item}
use Rattle.serde_json.specs.Data.{Members, no_members, member}
use Rattle.serde_json.specs.Written.{compact_text}
use Rattle.coverage.specs.Intervals.{Interval}
use Rattle.coverage.specs.Numbers.{Entries}

-- a summary's interval as the array of its first and its last number
abbrev pub interval_data : Interval → Data
interval_data p = array (item (number (unsigned p.0)) (item (number (unsigned p.1)) no_items))

-- each interval in a summary's text as the array of its first and its last number
abbrev pub intervals_items : List Interval → Items
intervals_items [] = no_items
intervals_items (p ∷ ps) = item (interval_data p) (intervals_items ps)

-- the JSON tokens of a summary's arrays of intervals
abbrev pub intervals_tokens : List Interval → List token.Token
intervals_tokens [] = []
intervals_tokens (p ∷ ps) =
    token.begin_array ∷ token.number (decimal p.0) ∷ token.number (decimal p.1) ∷ token.end_array
    ∷ intervals_tokens ps

-- a summary text's member for each source, with its intervals
abbrev pub sources_members : Entries → Members
sources_members [] = no_members
sources_members (e ∷ es) = member e.0 (array (intervals_items e.1)) (sources_members es)

-- the summary's numbers as JSON: their sources and the version
abbrev pub numbers_data : Entries → Data
numbers_data es = object (member (codes "sources") (object (sources_members es))
    (member (codes "version") (number (unsigned 1)) no_members))

-- the text of numbers by source
unfoldable pub numbers_text : Entries → List ℕ
numbers_text es = compact_text (numbers_data es)
