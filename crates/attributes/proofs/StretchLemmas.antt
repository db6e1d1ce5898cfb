-- Where the payload's text stands in a text, and in one that has grown behind it.
use Rattle.std.proofs.Common.{◌≡◌, ◌∙◌, ◌≤◌, ◌+◌, ◌-◌, ℕ, List, ◌++◌, length, drop, take, ap, ap₂, sym, subst, arith, append_assoc, length-append}
use Rattle.std.specs.Str.{IsUtf8, IsCharBoundary}
use Rattle.std.proofs.lemmas.Str.{IsUtf8-append, IsCharBoundary-from_take}
use Rattle.std.proofs.Math.Seq.{take-append_seam, drop-append_seam}
use Rattle.attributes.specs.declared.body.Stretch.{Stretch}
use Rattle.attributes.specs.steps.Place.{StandsIn, in_stretch}

-- the words stand where they stood, whatever comes behind
pub stands_more : (t x new : List ℕ) (s : Stretch) (words : List ℕ) → new ≡ t ++ x → StandsIn t s words → StandsIn new s words
stands_more t x new s words is h = record {
  before = h.before;
  rest = h.rest ++ x;
  is_text =
      is
      ∙ (ap (λ (l : List ℕ). l ++ x) h.is_text
      ∙ (append_assoc h.before (words ++ h.rest) x
      ∙ ap (λ (l : List ℕ). h.before ++ l) (append_assoc words h.rest x)));
  starts = h.starts;
  ends = h.ends;
  is_before = h.is_before;
  is_words = h.is_words;
}

-- the words are what stands there
pub stands_are : (t : List ℕ) (s : Stretch) (words : List ℕ) → StandsIn t s words → in_stretch t s ≡ words
stands_are t s words h =
    let long : s.end - s.start ≡ length words = omega (arith, h.starts, h.ends) in
    ap₂ (λ (n : ℕ) (l : List ℕ). take n l) long
    (ap₂ (λ (n : ℕ) (l : List ℕ). drop n l) h.starts h.is_text ∙ drop-append_seam h.before (words ++ h.rest))
    ∙ take-append_seam words h.rest

-- what stands there stands there
pub stands_there : (t : List ℕ) (s : Stretch) (words : List ℕ) → StandsIn t s words → StandsIn t s (in_stretch t s)
stands_there t s words h = subst (λ (l : List ℕ). StandsIn t s l) (sym (stands_are t s words h)) h

-- ---- the text may be cut there

module _ (t : List ℕ) (s : Stretch) (words : List ℕ) (h : StandsIn t s words) where
  long : length t ≡ length h.before + (length words + length h.rest)
  long = ap (λ (l : List ℕ). length l) h.is_text ∙ (length-append h.before (words ++ h.rest) ∙ ap (λ (n : ℕ). length h.before + n) (length-append words h.rest))

  pub stretch_forward : s.start ≤ s.end
  stretch_forward = omega (arith, h.starts, h.ends)

  pub stretch_within : s.end ≤ length t
  stretch_within = omega (arith, h.ends, long)

  pub start_boundary : IsUtf8 t → IsCharBoundary t s.start
  start_boundary utf8 =
      let first : take s.start t ≡ h.before = ap₂ (λ (n : ℕ) (l : List ℕ). take n l) h.starts h.is_text ∙ take-append_seam h.before (words ++ h.rest) in
      IsCharBoundary-from_take t s.start utf8 (omega (arith, h.starts, long)) (subst IsUtf8 (sym first) h.is_before)

  pub end_boundary : IsUtf8 t → IsCharBoundary t s.end
  end_boundary utf8 =
      let first : take s.end t ≡ h.before ++ words =
      ap₂ (λ (n : ℕ) (l : List ℕ). take n l) (h.ends ∙ sym (length-append h.before words)) (h.is_text ∙ sym (append_assoc h.before words h.rest)) ∙ take-append_seam (h.before ++ words) h.rest in
      IsCharBoundary-from_take t s.end utf8 stretch_within (subst IsUtf8 (sym first) (IsUtf8-append h.before words h.is_before h.is_words))
