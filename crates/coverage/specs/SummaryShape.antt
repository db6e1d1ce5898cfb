-- What a JSON value must be so that it may stand for a summary of a version.
use Rattle.std.specs.Option.{option_zip}
use Rattle.std.specs.Prelude.{ℕ, List, Bool, true, false, ◌&&◌, ◌==◌, Option, Some, None, option_and_then}
use Rattle.std.specs.Prelude.{is_some, codes}
use Rattle.serde_json.specs.Data.{Data, array, object, Items, no_items, item, Members, no_members}
use Rattle.serde_json.specs.Data.{member}
use Rattle.serde_json.specs.Find.{get, as_number, as_str, as_u64}
use Rattle.serde_json.specs.Events.{members_len}
use Rattle.coverage.specs.Intervals.{Interval}

-- a whole number in 64 bits, in a summary's JSON
abbrev pub whole_of : Data → Option ℕ
whole_of d = option_and_then as_u64 (as_number d)

-- the member `version` of a summary's JSON, where it is a whole number in 64 bits
abbrev pub version_of : Data → Option ℕ
version_of d = option_and_then whole_of (get (codes "version") d)

-- a summary's two numbers, where there are just two items and both are whole numbers
abbrev pub pair_in : Items → Option Interval
pair_in (item a (item b no_items)) = option_zip (whole_of a) (whole_of b)
pair_in _ = None

-- an interval in a summary's JSON: an array of two whole numbers
abbrev pub interval_in : Data → Option Interval
interval_in (array ds) = pair_in ds
interval_in _ = None

-- each item in a summary's JSON is an array of two whole numbers
abbrev pub are_pairs : Items → Bool
are_pairs no_items = true
are_pairs (item d ds) = is_some (interval_in d) && are_pairs ds

-- a summary's intervals of a source: an array of arrays of two whole numbers
abbrev pub is_list_of_pairs : Data → Bool
is_list_of_pairs (array ds) = are_pairs ds
is_list_of_pairs _ = false

-- the value of each member in a summary's JSON is a list of arrays of two whole numbers
abbrev pub are_lists : Members → Bool
are_lists no_members = true
are_lists (member k d ms) = is_list_of_pairs d && are_lists ms

-- a summary's object whose members are lists of intervals
abbrev pub is_object_of_lists : Data → Bool
is_object_of_lists (object ms) = are_lists ms
is_object_of_lists _ = false

-- a summary's `sources`: there is a value, and it is an object of lists of intervals
abbrev pub is_sources : Option Data → Bool
is_sources (Some d) = is_object_of_lists d
is_sources None = false

-- how many members a summary's JSON object has
abbrev pub member_count : Data → ℕ
member_count (object ms) = members_len ms
member_count _ = 0

-- a summary of version 1: beside the version just one member, `sources`, an object of such lists
abbrev pub is_shaped : Data → Bool
is_shaped d = (member_count d == 2) && is_sources (get (codes "sources") d)

-- a summary's number and text, where there are just two items, a whole number and a text
abbrev pub block_pair : Items → Option (ℕ × List ℕ)
block_pair (item a (item b no_items)) = option_zip (whole_of a) (as_str b)
block_pair _ = None

-- a block in a summary's JSON: an array of a whole number and a text
abbrev pub block_in : Data → Option (ℕ × List ℕ)
block_in (array ds) = block_pair ds
block_in _ = None

-- each item in a summary's JSON is an array of a block's whole number and a text
abbrev pub are_blocks : Items → Bool
are_blocks no_items = true
are_blocks (item d ds) = is_some (block_in d) && are_blocks ds

-- a summary's blocks of a source: an array of arrays of a whole number and a text
abbrev pub is_list_of_blocks : Data → Bool
is_list_of_blocks (array ds) = are_blocks ds
is_list_of_blocks _ = false

-- the value of each member in a summary's JSON is a list of such blocks
abbrev pub are_block_lists : Members → Bool
are_block_lists no_members = true
are_block_lists (member k d ms) = is_list_of_blocks d && are_block_lists ms

-- a summary's object whose members are lists of blocks
abbrev pub is_object_of_blocks : Data → Bool
is_object_of_blocks (object ms) = are_block_lists ms
is_object_of_blocks _ = false

-- a summary's `blocks`: there is a value, and it is an object of lists of blocks
abbrev pub is_blocks : Option Data → Bool
is_blocks (Some d) = is_object_of_blocks d
is_blocks None = false

-- a summary of version 2: beside the version there are just the members `blocks` and `sources`,
-- each an object of its lists
abbrev pub is_shaped_with_blocks : Data → Bool
is_shaped_with_blocks d =
    (member_count d == 3)
    && (is_blocks (get (codes "blocks") d) && is_sources (get (codes "sources") d))
