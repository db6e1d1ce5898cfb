-- Blocks whose digests are made over places among arrivals.
use Rattle.std.specs.Prelude.{◌≡◌, ◌⊎◌, ℕ, Bool, false, List, [], ◌∷◌, Option, Some, None, map, slice_get}
use Rattle.std.specs.Option.{option_and_then, option_map, option_map_or}
use Rattle.std.specs.Ordering.{is_lt}
use Rattle.sha2.specs.Sha256.{sha256}
use Rattle.attributes.specs.Event.{EventValue}
use Rattle.inbox.specs.Ordered.{in_order}
use Rattle.block_digests.specs.Block.{line_cmp, lines}
use Rattle.block_digests.specs.Kept.{KeptBlock}
use Rattle.block_digests.specs.steps.Rows.{NumberedText, numbered_text_cmp, numbered_text_of}

-- the arrivals at a block's places that there are
abbrev pub events_at : List EventValue → List ℕ → List EventValue
events_at A [] = []
events_at A (p ∷ ps) = option_map_or (λ e. e ∷ events_at A ps) (slice_get A p) (events_at A ps)

-- whether a block's events stand at both places, the first below the second
abbrev pub is_rise : List EventValue → ℕ → ℕ → Bool
is_rise A p q = option_map_or
    (λ e. option_map_or (λ f. is_lt (line_cmp e f)) (slice_get A q) false) (slice_get A p) false

-- the rows (number and text) of a block's places, in order
abbrev pub rows_at : List EventValue → List ℕ → List NumberedText
rows_at A ps = in_order numbered_text_cmp (map numbered_text_of (events_at A ps))

-- a block's digest: of the texts at its places
abbrev pub digest_at : List EventValue → List ℕ → List ℕ
digest_at A ps = sha256 (lines (in_order line_cmp (events_at A ps)))

-- a block's digest over places, none where there are none
abbrev pub digest_over : List EventValue → List ℕ → Option (List ℕ)
digest_over A [] = None
digest_over A (p ∷ ps) = Some (digest_at A (p ∷ ps))

-- the block's digest that is there, or else the one over its places
abbrev pub fresh_digest : List EventValue → KeptBlock → Option (List ℕ)
fresh_digest A b = option_map_or (λ d. Some d) b.digest (digest_over A b.places)

-- a stale block with its digest
abbrev pub mended : List EventValue → KeptBlock → KeptBlock
mended A b = record { places = b.places; digest = fresh_digest A b }

-- each block is as it was or has its digest made again
abbrev pub AreMendedOrSame : List EventValue → List KeptBlock → List KeptBlock → Type 0
AreMendedOrSame A old new = (i : ℕ)
    → (slice_get new i ≡ slice_get old i)
    ⊎ (slice_get new i ≡ option_map (mended A) (slice_get old i))

-- all blocks have their digests made
abbrev pub AreMended : List EventValue → List KeptBlock → List KeptBlock → Type 0
AreMended A old new = (i : ℕ) → slice_get new i ≡ option_map (mended A) (slice_get old i)

-- the digest of the kept block at a position, where there is one
abbrev pub digest_among : List EventValue → List KeptBlock → Option ℕ → Option (List ℕ)
digest_among A blocks at = option_and_then (fresh_digest A) (option_and_then (slice_get blocks) at)
