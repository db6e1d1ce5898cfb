-- A summary's text of either version reads back as the summary.
use Rattle.std.proofs.Common.{◌≡◌, ℕ, List, [], ◌∷◌, Option, Some, None, is_some, if◌then◌else◌, length, arith, refl, sym, ap, ap₂, subst, ◌∙◌}
use Rattle.std.specs.Prelude.{◌↔◌, ◌≢◌, IsTrue}
use Rattle.std.specs.Map.{keys_of}
use Rattle.std.specs.Str.{IsUtf8}
use Rattle.serde_json.specs.Data.{Data}
use Rattle.serde_json.specs.Read.{read}
use Rattle.serde_json.proofs.OnLiterals.{serde_json_on_literals}
use Rattle.attributes.specs.JsonText.{IsJsonText}
use Rattle.coverage.specs.BlockDigests.{AreDigests, HasDigests, SourceBlocks}
use Rattle.coverage.specs.DigestsText.{digests_data, digests_text}
use Rattle.coverage.specs.Numbers.{AreListed, Entries}
use Rattle.coverage.specs.NumbersText.{numbers_data, numbers_text}
use Rattle.coverage.specs.Refusals.{IsSummaryText}
use Rattle.coverage.specs.Summary.{IsSummary, Sources, holds_at}
use Rattle.coverage.specs.Summary as summary
use Rattle.coverage.specs.SummaryShape.{version_of}
use Rattle.coverage.specs.SummaryText.{summary_text, text_of_entries}
use Rattle.coverage.proofs.CompareLemmas.{same_summary}
use Rattle.coverage.proofs.DigestsRoundLemmas.{IsUtf8-digests_text, read-digests_text, same_digests_data}
use Rattle.coverage.proofs.FitLemmas.{fit_from_digests}
use Rattle.coverage.proofs.RoundLemmas.{IsUtf8-numbers_text, read-numbers_text, same_data, same_summary_data}
use Rattle.coverage.proofs.ToldLemmas.{no_digests}

abbrev pub data_of : Entries → Option SourceBlocks → Data
data_of es None = numbers_data es
data_of es (Some ds) = digests_data es ds

read_text : (es : Entries) (o : Option SourceBlocks) → AreListed es → HasDigests es o → read (text_of_entries es o) ≡ Some (data_of es o)
read_text es None h d = read-numbers_text es h
read_text es (Some ds) h d = read-digests_text es ds h (fit_from_digests es ds h d)

utf8_text : (es : Entries) (o : Option SourceBlocks) → AreListed es → HasDigests es o → IsUtf8 (text_of_entries es o)
utf8_text es None h d = IsUtf8-numbers_text es h
utf8_text es (Some ds) h d = IsUtf8-digests_text es ds h (fit_from_digests es ds h d)

some_one_two : ◌≡◌ {A = Option ℕ} (Some 1) (Some 2) → ⊥
some_one_two h = cc h

same_parts : (es fs : Entries) (o p : Option SourceBlocks) → AreListed es → AreListed fs → HasDigests es o → HasDigests fs p → data_of es o ≡ data_of fs p → (es ≡ fs) × (o ≡ p)
same_parts es fs None None h g d e is = (same_summary_data es fs is, refl)
same_parts es fs None (Some cs) h g d e is = absurd (some_one_two (ap version_of is))
same_parts es fs (Some bs) None h g d e is = absurd (some_one_two (sym (ap version_of is)))
same_parts es fs (Some bs) (Some cs) h g d e is =
    let both = same_digests_data es fs bs cs (fit_from_digests es bs h d) (fit_from_digests fs cs g e) is in
    (both.0, ap (λ x. Some x) both.1)

pub same_summary_texts : (s t : Sources) → IsSummary s → IsSummary t → summary_text s ≡ summary_text t → s ≡ t
same_summary_texts s t h g is =
    let shown = same_data (data_of s.entries s.digests) (data_of t.entries t.digests) (sym (read_text s.entries s.digests h.listed h.digests) ∙ ap read is ∙ read_text t.entries t.digests g.listed g.digests) in
    let both = same_parts s.entries t.entries s.digests t.digests h.listed g.listed h.digests g.digests shown in
    ap₂ (λ a b. record { entries = a; digests = b }) both.0 both.1

-- ---- what a comparison says
pub same_by_summary_texts : (s t : Sources) → IsSummary s → IsSummary t → (b : _) → IsTrue b ↔ (s ≡ t) → IsTrue b ↔ (summary_text s ≡ summary_text t)
same_by_summary_texts s t h g b is = (λ yes. ap summary_text (is.0 yes), λ same. is.1 (same_summary_texts s t h g same))

pub one_by_numbers : (s t : Sources) → IsSummary s → IsSummary t → summary.version_of s ≡ 1 → summary.version_of t ≡ 1 → ((source : List ℕ) (n : ℕ) → holds_at s source n ≡ holds_at t source n) → s ≡ t
one_by_numbers s t h k v w same =
    ap₂ (λ a b. record { entries = a; digests = b }) (same_summary s.entries t.entries h.listed k.listed same) (no_digests s v ∙ sym (no_digests t w))

pub same_by_holds : (s t : Sources) → IsSummary s → IsSummary t → (b : _) → IsTrue b ↔ (s ≡ t) → summary.version_of s ≡ 1 → summary.version_of t ≡ 1 → IsTrue b ↔ ((source : List ℕ) (n : ℕ) → holds_at s source n ≡ holds_at t source n)
same_by_holds s t h g b is v w = (λ yes source n. ap (λ x. holds_at x source n) (is.0 yes), λ same. is.1 (one_by_numbers s t h g v w same))

-- ---- a text and its value
value_of_text : (bytes : List ℕ) (d : Data) (s : Sources) → IsSummary s → bytes ≡ summary_text s → IsJsonText bytes d → d ≡ data_of s.entries s.digests
value_of_text bytes d s h is parses = same_data d (data_of s.entries s.digests) (sym parses.1 ∙ ap read is ∙ read_text s.entries s.digests h.listed h.digests)

-- a summary's text is JSON
pub is_json : (bytes : List ℕ) → IsSummaryText bytes → (IsUtf8 bytes → read bytes ≡ None) → ⊥
is_json bytes is none =
    let s = is.0 in
    let utf8 : IsUtf8 bytes = subst IsUtf8 (sym is.1.1) (utf8_text s.entries s.digests is.1.0.listed is.1.0.digests) in
    none_is_not_some (read bytes) _ (none utf8) (ap read is.1.1 ∙ read_text s.entries s.digests is.1.0.listed is.1.0.digests)
  where
    none_is_not_some : (o : Option Data) (d : Data) → o ≡ None → o ≡ Some d → ⊥
    none_is_not_some o d p q = cc

version_by : (es : Entries) (o : Option SourceBlocks) → version_of (data_of es o) ≡ Some (if is_some o then 2 else 1)
version_by es None = refl
version_by es (Some ds) = refl

has_version : (bytes : List ℕ) (d : Data) (s : Sources) → IsSummary s → bytes ≡ summary_text s → IsJsonText bytes d → version_of d ≡ Some (summary.version_of s)
has_version bytes d s h is parses = ap version_of (value_of_text bytes d s h is parses) ∙ version_by s.entries s.digests

pub no_version : (bytes : List ℕ) (d : Data) → IsSummaryText bytes → IsJsonText bytes d → None ≡ version_of d → ⊥
no_version bytes d is parses none = differ (version_of d) _ (sym none) (has_version bytes d is.0 is.1.0 is.1.1 parses)
  where
    differ : (o : Option ℕ) (v : ℕ) → o ≡ None → o ≡ Some v → ⊥
    differ o v p q = cc

pub other_version : (bytes : List ℕ) (d : Data) (v : ℕ) → IsSummaryText bytes → IsJsonText bytes d → Some v ≡ version_of d → v ≢ 1 → v ≢ 2 → ⊥
other_version bytes d v is parses found one two = by_version is.0.digests (same v _ (found ∙ has_version bytes d is.0 is.1.0 is.1.1 parses))
  where
    same : (a b : ℕ) → Some a ≡ Some b → a ≡ b
    same a b h = cc

    by_version : (o : Option SourceBlocks) → v ≡ (if is_some o then 2 else 1) → ⊥
    by_version None e = one e
    by_version (Some ds) e = two e

-- a text of version 1, and of version 2
first_by : (bytes : List ℕ) (d : Data) (es : Entries) (o : Option SourceBlocks) → bytes ≡ text_of_entries es o → d ≡ data_of es o → version_of d ≡ Some 1 → (o ≡ None) × ((bytes ≡ numbers_text es) × (d ≡ numbers_data es))
first_by bytes d es None is shown v = (refl, (is, shown))
first_by bytes d es (Some ds) is shown v = absurd (some_one_two (sym v ∙ ap version_of shown))

pub first_of : (bytes : List ℕ) (d : Data) (s : Sources) → IsSummary s → bytes ≡ summary_text s → IsJsonText bytes d → version_of d ≡ Some 1 → (s.digests ≡ None) × ((bytes ≡ numbers_text s.entries) × (d ≡ numbers_data s.entries))
first_of bytes d s h is parses v = first_by bytes d s.entries s.digests is (value_of_text bytes d s h is parses) v

abbrev pub IsSecond : List ℕ → Data → Entries → Option SourceBlocks → Type 0
IsSecond bytes d es o = (ds : SourceBlocks) × ((o ≡ Some ds) × (AreDigests es ds) × (bytes ≡ digests_text es ds) × (d ≡ digests_data es ds))

second_by : (bytes : List ℕ) (d : Data) (es : Entries) (o : Option SourceBlocks) → HasDigests es o → bytes ≡ text_of_entries es o → d ≡ data_of es o → version_of d ≡ Some 2 → IsSecond bytes d es o
second_by bytes d es None h is shown v = absurd (some_one_two (sym (sym v ∙ ap version_of shown)))
second_by bytes d es (Some ds) h is shown v = (ds, (refl, h, is, shown))

pub second_of : (bytes : List ℕ) (d : Data) (s : Sources) → IsSummary s → bytes ≡ summary_text s → IsJsonText bytes d → version_of d ≡ Some 2 → IsSecond bytes d s.entries s.digests
second_of bytes d s h is parses v = second_by bytes d s.entries s.digests h.digests is (value_of_text bytes d s h is parses) v

-- ---- no bytes, and no sources
pub nothing_read : read [] ≡ None
unfolding serde_json_on_literals
nothing_read = refl

pub nothing_is_no_json : (bytes : List ℕ) → bytes ≡ [] → (d : Data) → IsJsonText bytes d → ⊥
nothing_is_no_json bytes none d is = let told : None ≡ Some d = sym nothing_read ∙ ap read (sym none) ∙ is.1 in absurd (cc)

pub nothing_is_no_summary : (bytes : List ℕ) → bytes ≡ [] → IsSummaryText bytes → ⊥
nothing_is_no_summary bytes none is = is_json bytes is (λ _. ap read none ∙ nothing_read)

pub no_blocks : (es : Entries) (o : Option SourceBlocks) (ds : SourceBlocks) → HasDigests es o → o ≡ Some ds → es ≡ [] → ds ≡ []
no_blocks es None ds has is none = absurd (cc)
no_blocks es (Some bs) [] has is none = refl
no_blocks es (Some bs) (d ∷ ds) has is none =
    let same : bs ≡ d ∷ ds = cc in
    let keys : keys_of (d ∷ ds) ≡ [] = ap keys_of (sym same) ∙ has.sources ∙ ap keys_of none in
    absurd (cc)

pub no_length : {X : Type 0} (xs : List X) → length xs ≡ 0 → xs ≡ []
no_length [] h = refl
no_length (x ∷ xs) h = absurd (omega (arith, h))
