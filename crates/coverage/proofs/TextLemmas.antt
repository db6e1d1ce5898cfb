-- What a text's value says of the bytes.
use Rattle.std.proofs.Common.{◌≡◌, ◌&&◌, true, List, [], ◌∷◌, ℕ, Some, None, refl, sym, ap, ap₂, ◌∙◌}
use Rattle.serde_json.specs.Data.{Data}
use Rattle.serde_json.specs.Read.{read}
use Rattle.attributes.specs.JsonText.{IsJsonText}
use Rattle.coverage.specs.BlockDigests.{AreDigests, Blocks, SourceBlocks}
use Rattle.coverage.specs.DigestsText.{blocks_items, blocks_members, digests_data, digests_text}
use Rattle.coverage.specs.Intervals.{Interval}
use Rattle.coverage.specs.Numbers.{Entries, AreListed}
use Rattle.coverage.specs.NumbersText.{intervals_items, sources_members, numbers_data, numbers_text}
use Rattle.coverage.specs.Refusals.{IsNoSummaryText}
use Rattle.coverage.specs.SummaryShape.{version_of, are_block_lists, are_blocks, are_pairs, are_lists, is_shaped, is_shaped_with_blocks}
use Rattle.coverage.proofs.DigestsRoundLemmas.{read-digests_text}
use Rattle.coverage.proofs.FitLemmas.{fit_from_digests}
use Rattle.coverage.proofs.RoundLemmas.{read_is_data, same_data}
use Rattle.coverage.proofs.SummaryTextLemmas.{first_of, second_of}

pairs_of_intervals : (ps : List Interval) → are_pairs (intervals_items ps) ≡ true
pairs_of_intervals [] = refl
pairs_of_intervals (p ∷ ps) = pairs_of_intervals ps

lists_of_sources : (es : Entries) → are_lists (sources_members es) ≡ true
lists_of_sources [] = refl
lists_of_sources (e ∷ es) = ap (λ b. b && are_lists (sources_members es)) (pairs_of_intervals e.1) ∙ lists_of_sources es

shapes_of_blocks : (bs : Blocks) → are_blocks (blocks_items bs) ≡ true
shapes_of_blocks [] = refl
shapes_of_blocks (b ∷ bs) = shapes_of_blocks bs

lists_of_blocks : (ds : SourceBlocks) → are_block_lists (blocks_members ds) ≡ true
lists_of_blocks [] = refl
lists_of_blocks (d ∷ ds) = ap (λ b. b && are_block_lists (blocks_members ds)) (shapes_of_blocks d.1) ∙ lists_of_blocks ds

-- ---- version 1
-- where no numbers have the value, no summary has the text
pub no_first : (bytes : List ℕ) (d : Data) → IsJsonText bytes d → version_of d ≡ Some 1 → ((s : Entries) → AreListed s → d ≡ numbers_data s → ⊥) → IsNoSummaryText bytes
no_first bytes d parses v none s h e = let w = first_of bytes d s h e parses v in none s.entries h.listed w.1.1

-- where the only numbers that have the value have another text, no summary has the text
pub other_first : (bytes text : List ℕ) (d : Data) (found : Entries) → IsJsonText bytes d → version_of d ≡ Some 1 → ((s : Entries) → AreListed s → d ≡ numbers_data s → found ≡ s) → text ≡ numbers_text found → (text ≡ bytes → ⊥)
    → IsNoSummaryText bytes
other_first bytes text d found parses v only is differs s h e =
    let w = first_of bytes d s h e parses v in
    differs (is ∙ ap numbers_text (only s.entries h.listed w.1.1) ∙ sym w.1.0)

pub as_first : (bytes : List ℕ) → IsNoSummaryText bytes → (s : Entries) → AreListed s → bytes ≡ numbers_text s → ⊥
as_first bytes none s h e = none (record { entries = s; digests = None }) (record { listed = h; digests = tt }) e

pub shape_of_first : (bytes : List ℕ) (d : Data) (s : Entries) → IsJsonText bytes d → AreListed s → bytes ≡ numbers_text s → is_shaped d ≡ true
shape_of_first bytes d s parses h e = ap is_shaped (read_is_data bytes d s h parses.1 e) ∙ lists_of_sources s

-- ---- version 2
pub no_second : (bytes : List ℕ) (d : Data) → IsJsonText bytes d → version_of d ≡ Some 2 → ((es : Entries) (ds : SourceBlocks) → AreListed es → AreDigests es ds → d ≡ digests_data es ds → ⊥) → IsNoSummaryText bytes
no_second bytes d parses v none s h e = let w = second_of bytes d s h e parses v in none s.entries w.0 h.listed w.1.1 w.1.3

pub other_second : (bytes text : List ℕ) (d : Data) (found : Entries) (digests : SourceBlocks) → IsJsonText bytes d → version_of d ≡ Some 2
    → ((es : Entries) (ds : SourceBlocks) → AreListed es → AreDigests es ds → d ≡ digests_data es ds → (found ≡ es) × (digests ≡ ds)) → text ≡ digests_text found digests → (text ≡ bytes → ⊥) → IsNoSummaryText bytes
other_second bytes text d found digests parses v only is differs s h e =
    let w = second_of bytes d s h e parses v in
    let one = only s.entries w.0 h.listed w.1.1 w.1.3 in
    differs (is ∙ ap₂ digests_text one.0 one.1 ∙ sym w.1.2)

pub as_second : (bytes : List ℕ) → IsNoSummaryText bytes → (es : Entries) (ds : SourceBlocks) → AreListed es → AreDigests es ds → bytes ≡ digests_text es ds → ⊥
as_second bytes none es ds h a e = none (record { entries = es; digests = Some ds }) (record { listed = h; digests = a }) e

value_of_second : (bytes : List ℕ) (d : Data) (es : Entries) (ds : SourceBlocks) → IsJsonText bytes d → AreListed es → AreDigests es ds → bytes ≡ digests_text es ds → d ≡ digests_data es ds
value_of_second bytes d es ds parses h a e = same_data d (digests_data es ds) (sym parses.1 ∙ ap read e ∙ read-digests_text es ds h (fit_from_digests es ds h a))

pub shape_of_second : (bytes : List ℕ) (d : Data) (es : Entries) (ds : SourceBlocks) → IsJsonText bytes d → AreListed es → AreDigests es ds → bytes ≡ digests_text es ds → is_shaped_with_blocks d ≡ true
shape_of_second bytes d es ds parses h a e =
    ap is_shaped_with_blocks (value_of_second bytes d es ds parses h a e) ∙ ap₂ ◌&&◌ (lists_of_blocks ds) (lists_of_sources es)

-- the value tells the numbers and the digests
pub only_second : (bytes : List ℕ) (d : Data) (es : Entries) (ds : SourceBlocks) → IsJsonText bytes d → AreListed es → AreDigests es ds → bytes ≡ digests_text es ds → d ≡ digests_data es ds
only_second bytes d es ds parses h a e = value_of_second bytes d es ds parses h a e
