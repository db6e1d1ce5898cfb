-- Places of events among arrivals, and the events at places.
use Rattle.std.proofs.Common.{◌≡◌, ℕ, ◌+◌, List, [], ◌∷◌, ◌++◌, length, length-append, Bool, true, false, ◌||◌, filter, map, take, Option, Some, None, slice_get, slice_index, ◌<◌, refl, sym, ap, ◌∙◌, arith, append-nil, append_assoc, if◌then◌else◌}
use Rattle.std.specs.Option.{option_map_or}
use Rattle.std.specs.BTreeSet.{insert_key}
use Rattle.std.proofs.lemmas.List.{map-append, take_more}
use mathlib.Core.Bool.{true≢false}
use Rattle.sha2.specs.Sha256.{sha256}
use Rattle.attributes.specs.Event.{EventValue, text}
use Rattle.inbox.specs.Ordered.{in_order}
use Rattle.block_digests.specs.Block.{has_block, is_in_block, line_cmp, lines}
use Rattle.block_digests.specs.Digest.{digest_in}
use Rattle.block_digests.specs.Kept.{places_from, places_of}
use Rattle.block_digests.specs.steps.Mended.{digest_at, digest_over, events_at, rows_at}
use Rattle.block_digests.specs.steps.Rows.{numbered_text_cmp, numbered_text_of}
use Rattle.block_digests.proofs.DigestLemmas.{lines-append}
use Rattle.block_digests.proofs.RowLemmas.{push_row}

-- ---- the events at places
events_at-append : (A : List EventValue) (ps qs : List ℕ) → events_at A (ps ++ qs) ≡ events_at A ps ++ events_at A qs
events_at-append A [] qs = refl
events_at-append A (p ∷ ps) qs =
    elim (slice_get A p) as (λ o. option_map_or (λ e. e ∷ events_at A (ps ++ qs)) o (events_at A (ps ++ qs)) ≡ option_map_or (λ e. e ∷ events_at A ps) o (events_at A ps) ++ events_at A qs) [
      | None ↦ events_at-append A ps qs
      | Some e ↦ ap (λ l. e ∷ l) (events_at-append A ps qs)
    ]

one_place : (A : List EventValue) (p : ℕ) (o : Option EventValue) → slice_get A p ≡ o → events_at A (p ∷ []) ≡ option_map_or (λ e. e ∷ []) o []
one_place A p o h = ap (λ q. option_map_or (λ e. e ∷ []) q []) h

take_place : (ps : List ℕ) (i : ℕ) → i < length ps → take (i + 1) ps ≡ take i ps ++ slice_index ps i ∷ []
take_place ps i h = take_more ps i 0 h

-- the event at one place more
events_placed : (A : List EventValue) (ps : List ℕ) (i : ℕ) (o : Option EventValue) → i < length ps → slice_get A (slice_index ps i) ≡ o
    → events_at A (take (i + 1) ps) ≡ events_at A (take i ps) ++ option_map_or (λ e. e ∷ []) o []
events_placed A ps i o h k = ap (events_at A) (take_place ps i h) ∙ events_at-append A (take i ps) (slice_index ps i ∷ []) ∙ ap (λ l. events_at A (take i ps) ++ l) (one_place A (slice_index ps i) o k)

-- the row of the event at one place more
pub row_placed : (A : List EventValue) (ps : List ℕ) (i : ℕ) (e : EventValue) → i < length ps → slice_get A (slice_index ps i) ≡ Some e
    → insert_key numbered_text_cmp (rows_at A (take i ps)) (numbered_text_of e) ≡ rows_at A (take (i + 1) ps)
row_placed A ps i e h k =
    sym (ap (λ l. in_order numbered_text_cmp (map numbered_text_of l)) (events_placed A ps i (Some e) h k)
    ∙ ap (in_order numbered_text_cmp) (map-append numbered_text_of (events_at A (take i ps)) (e ∷ []))
    ∙ push_row [] (map numbered_text_of (events_at A (take i ps))) (numbered_text_of e))

-- its line
pub line_placed : (A : List EventValue) (ps : List ℕ) (i : ℕ) (e : EventValue) → i < length ps → slice_get A (slice_index ps i) ≡ Some e
    → (lines (events_at A (take i ps)) ++ text e) ++ 10 ∷ [] ≡ lines (events_at A (take (i + 1) ps))
unfolding lines
line_placed A ps i e h k =
    append_assoc (lines (events_at A (take i ps))) (text e) (10 ∷ [])
    ∙ sym (lines-append (events_at A (take i ps)) (e ∷ []))
    ∙ ap lines (sym (events_placed A ps i (Some e) h k))

pub no_lines : [] ≡ lines []
unfolding lines
no_lines = refl

-- no event stands at one place more
pub events_missing : (A : List EventValue) (ps : List ℕ) (i : ℕ) → i < length ps → slice_get A (slice_index ps i) ≡ None
    → events_at A (take i ps) ≡ events_at A (take (i + 1) ps)
events_missing A ps i h k = sym (events_placed A ps i None h k ∙ append-nil (events_at A (take i ps)))

pub row_missing : (A : List EventValue) (ps : List ℕ) (i : ℕ) → i < length ps → slice_get A (slice_index ps i) ≡ None
    → rows_at A (take i ps) ≡ rows_at A (take (i + 1) ps)
row_missing A ps i h k = ap (λ l. in_order numbered_text_cmp (map numbered_text_of l)) (events_missing A ps i h k)

-- ---- the places of a block
item_behind : (P : List EventValue) (e : EventValue) (A : List EventValue) → slice_get (P ++ e ∷ A) (length P) ≡ Some e
item_behind [] e A = refl
item_behind (x ∷ P) e A = item_behind P e A

events_from : (P A : List EventValue) (source : List ℕ) (k i : ℕ) → i ≡ length P → events_at (P ++ A) (places_from i A source k) ≡ filter (is_in_block source k) A
events_from P [] source k i h = refl
events_from P (e ∷ A) source k i h =
    let rest : events_at (P ++ e ∷ A) (places_from (i + 1) A source k) ≡ filter (is_in_block source k) A =
    ap (λ l. events_at l (places_from (i + 1) A source k)) (sym (append_assoc P (e ∷ []) A))
    ∙ events_from (P ++ e ∷ []) A source k (i + 1) (ap (λ n. n + 1) h ∙ sym (length-append P (e ∷ []))) in
    elim (is_in_block source k e) as (λ b. events_at (P ++ e ∷ A) (if b then i ∷ places_from (i + 1) A source k else places_from (i + 1) A source k) ≡ (if b then e ∷ filter (is_in_block source k) A else filter (is_in_block source k) A)) [
      | true ↦
          ap (λ o. option_map_or (λ x. x ∷ events_at (P ++ e ∷ A) (places_from (i + 1) A source k)) o (events_at (P ++ e ∷ A) (places_from (i + 1) A source k))) (ap (slice_get (P ++ e ∷ A)) h ∙ item_behind P e A)
          ∙ ap (λ l. e ∷ l) rest
      | false ↦ rest
    ]

pub events_of_places : (A : List EventValue) (source : List ℕ) (k : ℕ) → events_at A (places_of A source k) ≡ filter (is_in_block source k) A
events_of_places A source k = events_from [] A source k 0 refl

-- one event more has the place behind
pub places_more : (A : List EventValue) (e : EventValue) (source : List ℕ) (k i : ℕ) (b : Bool) → is_in_block source k e ≡ b
    → places_from i (A ++ e ∷ []) source k ≡ places_from i A source k ++ (if b then (i + length A) ∷ [] else [])
places_more [] e source k i b h = ap (λ c. if c then i ∷ [] else []) h ∙ ap (λ n. if b then n ∷ [] else []) (omega arith)
places_more (x ∷ A) e source k i b h =
    let same : (i + 1) + length A ≡ i + length (x ∷ A) = omega arith in
    let rest : places_from (i + 1) (A ++ e ∷ []) source k ≡ places_from (i + 1) A source k ++ (if b then (i + length (x ∷ A)) ∷ [] else []) =
    places_more A e source k (i + 1) b h ∙ ap (λ n. places_from (i + 1) A source k ++ (if b then n ∷ [] else [])) same in
    elim (is_in_block source k x) as (λ c. (if c then i ∷ places_from (i + 1) (A ++ e ∷ []) source k else places_from (i + 1) (A ++ e ∷ []) source k)
    ≡ (if c then i ∷ places_from (i + 1) A source k else places_from (i + 1) A source k) ++ (if b then (i + length (x ∷ A)) ∷ [] else [])) [
      | true ↦ ap (λ l. i ∷ l) rest
      | false ↦ rest
    ]

abbrev is_nil : List ℕ → Bool
is_nil [] = true
is_nil (p ∷ ps) = false

-- a block has places where an event stands in it
nowhere : (A : List EventValue) (source : List ℕ) (k i : ℕ) → is_nil (places_from i A source k) ≡ true → has_block A source k ≡ false
nowhere [] source k i h = refl
nowhere (e ∷ A) source k i h =
    elim (is_in_block source k e) as (λ b. is_nil (if b then i ∷ places_from (i + 1) A source k else places_from (i + 1) A source k) ≡ true → (b || has_block A source k) ≡ false) [
      | true ↦ λ t. absurd (true≢false (sym t))
      | false ↦ λ t. nowhere A source k (i + 1) t
    ] h

somewhere : (A : List EventValue) (source : List ℕ) (k i : ℕ) → is_nil (places_from i A source k) ≡ false → has_block A source k ≡ true
somewhere [] source k i h = absurd (true≢false h)
somewhere (e ∷ A) source k i h =
    elim (is_in_block source k e) as (λ b. is_nil (if b then i ∷ places_from (i + 1) A source k else places_from (i + 1) A source k) ≡ false → (b || has_block A source k) ≡ true) [
      | true ↦ λ t. refl
      | false ↦ λ t. somewhere A source k (i + 1) t
    ] h

-- the digest over a block's places is the block's
pub digest_of_places : (A : List EventValue) (source : List ℕ) (k : ℕ) → digest_over A (places_of A source k) ≡ digest_in A source k
digest_of_places A source k = go (places_of A source k) refl
  where
    go : (ps : List ℕ) → places_of A source k ≡ ps → digest_over A ps ≡ digest_in A source k
    go [] h = ap (λ b. if b then Some (sha256 (lines (in_order line_cmp (filter (is_in_block source k) A)))) else None) (sym (nowhere A source k 0 (ap is_nil h)))
    go (p ∷ ps) h =
        ap (λ l. Some (sha256 (lines (in_order line_cmp l)))) (ap (events_at A) (sym h) ∙ events_of_places A source k)
        ∙ ap (λ b. if b then Some (sha256 (lines (in_order line_cmp (filter (is_in_block source k) A)))) else None) (sym (somewhere A source k 0 (ap is_nil h)))

-- over places that there are
pub over_some : (A : List EventValue) (ps : List ℕ) → (ps ≡ [] → ⊥) → digest_over A ps ≡ Some (digest_at A ps)
over_some A [] h = absurd (h refl)
over_some A (p ∷ ps) h = refl
