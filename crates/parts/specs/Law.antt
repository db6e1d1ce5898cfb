-- What holds of parts.
use Rattle.coverage.specs.Digests.{Digests, delta}
use Rattle.std.specs.Prelude.{◌≤◌, ◌<◌, ◌≡◌, ◌↔◌, ◌&&◌, ℕ, List, filter}
use Rattle.std.specs.Map.{keys_of}
use Rattle.std.specs.List.Sorted.{IsStrictlySortedBy}
use Rattle.inbox.specs.KeyOrder.{key_cmp}
use Rattle.inbox.specs.Ordered.{append_new, in_order}
use Rattle.attributes.specs.Bytes.{byte_cmp}
use Rattle.attributes.specs.Event.{EventValue}
use Rattle.inbox.specs.Sets.{AreEvents, set_of, union}
use Rattle.views.specs.Tally.{day_cmp, days, kinds}
use Rattle.inbox.specs.Conflicts.{conflicts}
use Rattle.inbox.specs.Shown.{shown}
use Rattle.coverage.specs.BlockDigests.{SourceBlocks}
use Rattle.coverage.specs.Summary.{Entries, Sources}
use Rattle.views.specs.Latest.{latest}
use Rattle.views.specs.Number.{AreGaps, IsGap, Sums, has_number}
use Rattle.parts.specs.Merge.{added, conflict_cmp, latest_cmp, of_part, source_row_cmp, rows_of_part}
use Rattle.parts.specs.Part.{FallsBelow, falls_to, of_parts, part, part_of}

-- the numbers, and the gaps, of a part are those of its sources
pub record NumbersOfPart : Type 0 where
  pub numbers : (p : List ℕ → ℕ) (i : ℕ) (E : List EventValue) (source : List ℕ) (n : ℕ)
      → has_number (part p i E) source n ≡ (has_number E source n && falls_to p i source)
  pub gaps : (p : List ℕ → ℕ) (i : ℕ) (E : List EventValue) (source : List ℕ) (n : ℕ)
      → IsGap (part p i E) source n ↔ (IsGap E source n × (p source ≡ i))
  -- a summary of the whole, and its rows of gaps, give those of the parts by source
  pub sums : (p : List ℕ → ℕ) (i : ℕ) (E : List EventValue) (s : Sources) → Sums E s
      → Sums (part p i E) (record s { entries = rows_of_part p i s.entries })
  pub rows : (p : List ℕ → ℕ) (i : ℕ) (E : List EventValue) (rows : Entries) → AreGaps E rows
      → AreGaps (part p i E) (rows_of_part p i rows)

-- the shown events of a part are those of the whole whose source falls to it
abbrev pub ShownPart : Type 0
ShownPart = (p : List ℕ → ℕ) (i : ℕ) (E : List EventValue) → shown (part p i E) ≡ part p i (shown E)

-- the conflicts of a part are those of the whole whose source falls to it
abbrev pub ConflictsPart : Type 0
ConflictsPart = (p : List ℕ → ℕ) (i : ℕ) (E : List EventValue)
    → conflicts (part p i E) ≡ filter (λ c. falls_to p i c.source) (conflicts E)

-- the whole is the set of what its parts have, and its shown events are that of theirs
pub record PartsMerge : Type 0 where
  pub whole : (p : List ℕ → ℕ) (n : ℕ) (A : List EventValue) → FallsBelow p n → AreEvents A
      → set_of (of_parts n (λ i. part p i (set_of A))) ≡ set_of A
  pub shown : (p : List ℕ → ℕ) (n : ℕ) (A : List EventValue) → FallsBelow p n → AreEvents A
      → set_of (of_parts n (λ i. shown (part p i (set_of A)))) ≡ shown (set_of A)

-- types, and types by day, are counted in the whole as often as in its parts
pub record PartsAdd : Type 0 where
  pub kinds : (p : List ℕ → ℕ) (n : ℕ) (E : List EventValue) → FallsBelow p n
      → kinds E ≡ added byte_cmp (of_parts n (λ i. kinds (part p i E)))
  pub days : (p : List ℕ → ℕ) (n : ℕ) (E : List EventValue) → FallsBelow p n
      → days E ≡ added day_cmp (of_parts n (λ i. days (part p i E)))

-- the latest events of a part are those of the whole whose source falls to it
abbrev pub LatestPart : Type 0
LatestPart = (p : List ℕ → ℕ) (i : ℕ) (E : List EventValue) → latest (part p i E) ≡ part p i (latest E)

-- conflicts and latest events of the whole are those of its parts in order, and so are rows by
-- source, as those of gaps and of a summary
pub record PartsJoin : Type 0 where
  pub conflicts : (p : List ℕ → ℕ) (n : ℕ) (E : List EventValue) → FallsBelow p n
      → IsStrictlySortedBy key_cmp E
      → in_order conflict_cmp (of_parts n (λ i. conflicts (part p i E))) ≡ conflicts E
  pub latest : (p : List ℕ → ℕ) (n : ℕ) (E : List EventValue) → FallsBelow p n
      → in_order latest_cmp (of_parts n (λ i. latest (part p i E))) ≡ latest E
  pub entries : (p : List ℕ → ℕ) (n : ℕ) (rows : Entries) → FallsBelow p n
      → IsStrictlySortedBy byte_cmp (keys_of rows)
      → in_order source_row_cmp (of_parts n (λ i. rows_of_part p i rows)) ≡ rows
  pub digests : (p : List ℕ → ℕ) (n : ℕ) (rows : SourceBlocks) → FallsBelow p n
      → IsStrictlySortedBy byte_cmp (keys_of rows)
      → in_order source_row_cmp (of_parts n (λ i. rows_of_part p i rows)) ≡ rows

-- a summary with digests gives those of the parts, and so does a delta for a peer, whether the part
-- is asked with the peer's whole summary or with what it tells of the part's sources
pub record DeltasPart : Type 0 where
  pub digests : (p : List ℕ → ℕ) (i : ℕ) (E : List EventValue) (s : Sources) → Digests E s
      → Digests (part p i E) (of_part p i s)
  pub whole : (p : List ℕ → ℕ) (i : ℕ) (E : List EventValue) (peer : Sources)
      → delta (part p i E) peer ≡ part p i (delta E peer)
  pub own : (p : List ℕ → ℕ) (i : ℕ) (E : List EventValue) (peer : Sources)
      → delta (part p i E) (of_part p i peer) ≡ part p i (delta E peer)

-- true answers of the parts, in order, are the true answer of the whole: gaps, and summaries of
-- both versions, those with digests part by part
pub record SummariesJoin : Type 0 where
  pub gaps : (p : List ℕ → ℕ) (n : ℕ) (E : List EventValue) (rows : ℕ → Entries) (all : Entries)
      → FallsBelow p n → ((i : ℕ) → i < n → AreGaps (part p i E) (rows i)) → AreGaps E all
      → in_order source_row_cmp (of_parts n rows) ≡ all
  pub sums : (p : List ℕ → ℕ) (n : ℕ) (E : List EventValue) (parts : ℕ → Sources) (all : Sources)
      → FallsBelow p n → ((i : ℕ) → i < n → Sums (part p i E) (parts i)) → Sums E all
      → in_order source_row_cmp (of_parts n (λ i. (parts i).entries)) ≡ all.entries
  pub digests : (p : List ℕ → ℕ) (n : ℕ) (E : List EventValue) (parts : ℕ → Sources) (all : Sources)
      → FallsBelow p n → ((i : ℕ) → i < n → Digests (part p i E) (parts i)) → Digests E all
      → (in_order source_row_cmp (of_parts n (λ i. (parts i).entries)) ≡ all.entries)
      × ((i : ℕ) → i < n → parts i ≡ of_part p i all)

-- what comes, the set of it, and a union are those of the parts, part by part
pub record PartsTake : Type 0 where
  pub takes : (p : List ℕ → ℕ) (i : ℕ) (A L : List EventValue)
      → append_new key_cmp (part p i A) (part p i L) ≡ part p i (append_new key_cmp A L)
  pub sets : (p : List ℕ → ℕ) (i : ℕ) (A : List EventValue) → AreEvents A
      → set_of (part p i A) ≡ part p i (set_of A)
  pub unions : (p : List ℕ → ℕ) (i : ℕ) (A B : List EventValue) → AreEvents A → AreEvents B
      → union (part p i (set_of A)) (part p i (set_of B)) ≡ part p i (union (set_of A) (set_of B))

-- of n parts, where there is one, each source falls to one
abbrev pub PartsAreFew : Type 0
PartsAreFew = (n : ℕ) → 1 ≤ n → FallsBelow (part_of n) n
