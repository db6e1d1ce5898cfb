-- Places in a text that grows at its end.
use Rattle.std.proofs.Common.{◌≡◌, ◌∙◌, ◌≤◌, ℕ, ◌+◌, ◌-◌, List, [], ◌∷◌, ◌++◌, length, drop, take, refl, ap, ap₂, sym, subst, arith, append_assoc, append-nil, length-append, length-drop}
use Rattle.std.specs.List.{slice_index}
use Rattle.std.specs.Str.{IsCharBoundary, IsUtf8}
use Rattle.std.proofs.lemmas.Str.{IsCharBoundary-after_ascii}
use Rattle.std.proofs.lemmas.List.{get_or_append_left, take-append-le, drop-append-le}
use Rattle.std.proofs.Math.Seq.{get_or-append_seam, drop-append-add, take-append_seam, drop-append_seam}
use Rattle.attributes.specs.steps.Place.{in_span, IsSpan, behind, id_span, name_at_span, value_of, StandsInText, place_name, place_value, IsPlace, shown, ArePlaces, EndsAt}
use Rattle.attributes.specs.declared.body.Span.{Span}
use Rattle.attributes.specs.declared.body.Kind.{Kind}
use Rattle.attributes.specs.declared.body.Kind.TheVariants as kind
use Rattle.attributes.specs.declared.body.Place.{Place}
use Rattle.attributes.specs.declared.scalar.Scalar.{Scalar}
use Rattle.attributes.specs.declared.scalar.Scalar.TheVariants as scalar

-- what was pushed between quotation marks stands between them
pub span_pushed : (out text new : List ℕ) (s : Span) → s.start ≡ length out + 1 → s.end ≡ length out + 1 + length text → new ≡ out ++ 34 ∷ (text ++ 34 ∷ []) → IsSpan new s
span_pushed out text new s a b is =
    let before : s.start - 1 ≡ length out = omega (arith, a) in
    let long : length (out ++ 34 ∷ text) ≡ s.end = omega (arith, b, length-append out (34 ∷ text)) in
    let split : new ≡ (out ++ 34 ∷ text) ++ 34 ∷ [] = is ∙ sym (append_assoc out (34 ∷ text) (34 ∷ [])) in
    record {
      after_mark = omega (arith, a);
      forward = omega (arith, a, b);
      within = omega (arith, ap (λ (l : List ℕ). length l) split, long, length-append (out ++ 34 ∷ text) (34 ∷ []));
      mark_before = ap₂ (λ (l : List ℕ) (n : ℕ). slice_index l n) is before ∙ get_or-append_seam out 34 (text ++ 34 ∷ []) 0;
      mark_behind = ap₂ (λ (l : List ℕ) (n : ℕ). slice_index l n) split (sym long) ∙ get_or-append_seam (out ++ 34 ∷ text) 34 [] 0;
    }

pub in_span_pushed : (out text new : List ℕ) (s : Span) → s.start ≡ length out + 1 → s.end ≡ length out + 1 + length text → new ≡ out ++ 34 ∷ (text ++ 34 ∷ []) → in_span new s ≡ text
in_span_pushed out text new s a b is =
    let long : s.end - s.start ≡ length text = omega (arith, a, b) in
    ap₂ (λ (n : ℕ) (l : List ℕ). take n l) long (ap₂ (λ (n : ℕ) (l : List ℕ). drop n l) a is ∙ drop-append-add out (34 ∷ (text ++ 34 ∷ [])) 1)
    ∙ take-append_seam text (34 ∷ [])

pub span_more : (t x : List ℕ) (s : Span) → IsSpan t s → IsSpan (t ++ x) s
span_more t x s h = record {
  after_mark = h.after_mark;
  forward = h.forward;
  within = omega (arith, h.within, length-append t x);
  mark_before = get_or_append_left t x 0 (s.start - 1) (omega (arith, h.within, h.forward, h.after_mark)) ∙ h.mark_before;
  mark_behind = get_or_append_left t x 0 s.end h.within ∙ h.mark_behind;
}

drop_more : (t x : List ℕ) (a : ℕ) → a ≤ length t → drop a (t ++ x) ≡ drop a t ++ x
drop_more t x a h = drop-append-le a t x h

pub in_span_more : (t x : List ℕ) (s : Span) → IsSpan t s → in_span (t ++ x) s ≡ in_span t s
in_span_more t x s h =
    ap (take (s.end - s.start)) (drop_more t x s.start (omega (arith, h.forward, h.within)))
    ∙ take-append-le (s.end - s.start) (drop s.start t) x (omega (arith, h.within, h.forward, length-drop s.start t))

pub stands_more : (t x u y : List ℕ) (n : Span) (k : Kind) → StandsInText t u n k → StandsInText (t ++ x) (u ++ y) n k
stands_more t x u y n (kind.Flag b) h = span_more t x n h
stands_more t x u y n (kind.Whole z) h = span_more t x n h
stands_more t x u y n (kind.Words end) h = (span_more t x n h.0, span_more t x (behind n end) h.1)
stands_more t x u y n (kind.Escaped end) h = (span_more u y n h.0, span_more u y (behind n end) h.1)

name_more : (t x u y : List ℕ) (n : Span) (k : Kind) → StandsInText t u n k → name_at_span (t ++ x) (u ++ y) n k ≡ name_at_span t u n k
name_more t x u y n (kind.Flag b) h = in_span_more t x n h
name_more t x u y n (kind.Whole z) h = in_span_more t x n h
name_more t x u y n (kind.Words end) h = in_span_more t x n h.0
name_more t x u y n (kind.Escaped end) h = in_span_more u y n h.0

value_more : (t x u y : List ℕ) (n : Span) (k : Kind) → StandsInText t u n k → value_of (t ++ x) (u ++ y) n k ≡ value_of t u n k
value_more t x u y n (kind.Flag b) h = refl
value_more t x u y n (kind.Whole z) h = refl
value_more t x u y n (kind.Words end) h = ap scalar.Words (in_span_more t x (behind n end) h.1)
value_more t x u y n (kind.Escaped end) h = ap scalar.Words (in_span_more u y (behind n end) h.1)

abbrev Attribute : Type 0
Attribute = List ℕ × Scalar

places_grown : (t x u y : List ℕ) (ps : List Place) → ArePlaces t u ps → ArePlaces (t ++ x) (u ++ y) ps
places_grown t x u y [] h = tt
places_grown t x u y (p ∷ ps) h = (stands_more t x u y p.name p.value h.0, places_grown t x u y ps h.1)

shown_grown : (t x u y : List ℕ) (ps : List Place) → ArePlaces t u ps → shown (t ++ x) (u ++ y) ps ≡ shown t u ps
shown_grown t x u y [] h = refl
shown_grown t x u y (p ∷ ps) h =
    ap₂ (λ (a : Attribute) (l : List Attribute). a ∷ l)
    (ap₂ (λ (n : List ℕ) (v : Scalar). (n, v)) (name_more t x u y p.name p.value h.0) (value_more t x u y p.name p.value h.0))
    (shown_grown t x u y ps h.1)

places_then : (t u : List ℕ) (ps : List Place) (p : Place) → ArePlaces t u ps → IsPlace t u p → ArePlaces t u (ps ++ p ∷ [])
places_then t u [] p h k = (k, tt)
places_then t u (q ∷ ps) p h k = (h.0, places_then t u ps p h.1 k)

shown_then : (t u : List ℕ) (ps : List Place) (p : Place) → shown t u (ps ++ p ∷ []) ≡ shown t u ps ++ (place_name t u p, place_value t u p) ∷ []
shown_then t u [] p = refl
shown_then t u (q ∷ ps) p = ap (λ (l : List Attribute). (place_name t u q, place_value t u q) ∷ l) (shown_then t u ps p)

-- places stay where they are when the texts grow
pub places_more : (t x new u y other : List ℕ) (ps : List Place) → new ≡ t ++ x → other ≡ u ++ y → ArePlaces t u ps → ArePlaces new other ps
places_more t x new u y other ps a b h =
    subst (λ (n : List ℕ). ArePlaces n other ps) (sym a) (subst (λ (n : List ℕ). ArePlaces (t ++ x) n ps) (sym b) (places_grown t x u y ps h))

pub shown_more : (t x new u y other : List ℕ) (ps : List Place) → new ≡ t ++ x → other ≡ u ++ y → ArePlaces t u ps → shown new other ps ≡ shown t u ps
shown_more t x new u y other ps a b h =
    ap (λ (n : List ℕ). shown n other ps) a ∙ (ap (λ (n : List ℕ). shown (t ++ x) n ps) b ∙ shown_grown t x u y ps h)

-- one more place behind the others, in texts that have grown
module _ (t x new u y other : List ℕ) (ps qs : List Place) (p : Place) (a : new ≡ t ++ x) (b : other ≡ u ++ y) (is : qs ≡ ps ++ p ∷ []) (h : ArePlaces t u ps) where
  pub member_places : IsPlace new other p → ArePlaces new other qs
  member_places k = subst (λ (l : List Place). ArePlaces new other l) (sym is) (places_then new other ps p (places_more t x new u y other ps a b h) k)

  pub member_shown : (name : List ℕ) (s : Scalar) → place_name new other p ≡ name → place_value new other p ≡ s → shown new other qs ≡ shown t u ps ++ (name, s) ∷ []
  member_shown name s n v =
      ap (shown new other) is
      ∙ (shown_then new other ps p
      ∙ ap₂ (λ (l : List Attribute) (m : Attribute). l ++ m ∷ []) (shown_more t x new u y other ps a b h) (ap₂ (λ (k : List ℕ) (w : Scalar). (k, w)) n v))

-- ---- a text behind its name

pub behind_is : (name w : Span) (n : ℕ) → n ≡ name.end + 2 → w.start ≡ n + 1 → w ≡ behind name w.end
behind_is name w n long start = let at : w.start ≡ name.end + 3 = omega (arith, long, start) in ap (λ (m : ℕ). let s : Span = record { start = m; end = w.end } in s) at

pub span_in : (t x new : List ℕ) (s : Span) → new ≡ t ++ x → IsSpan t s → IsSpan new s
span_in t x new s is h = subst (λ (l : List ℕ). IsSpan l s) (sym is) (span_more t x s h)

pub shows_in : (t x new k : List ℕ) (s : Span) → new ≡ t ++ x → IsSpan t s → in_span t s ≡ k → in_span new s ≡ k
shows_in t x new k s is h e = ap (λ (l : List ℕ). in_span l s) is ∙ (in_span_more t x s h ∙ e)

pub behind_stands : (new : List ℕ) (name w : Span) (n : ℕ) → n ≡ name.end + 2 → w.start ≡ n + 1 → IsSpan new w → IsSpan new (behind name w.end)
behind_stands new name w n long start h = subst (λ (s : Span). IsSpan new s) (behind_is name w n long start) h

pub behind_shows : (new text : List ℕ) (name w : Span) (n : ℕ) → n ≡ name.end + 2 → w.start ≡ n + 1 → in_span new w ≡ text → in_span new (behind name w.end) ≡ text
behind_shows new text name w n long start h = ap (λ (s : Span). in_span new s) (sym (behind_is name w n long start)) ∙ h

-- a name, a colon, and a text between marks
module _ (a1 a2 a3 text : List ℕ) (n w : Span) (colon : a2 ≡ a1 ++ 58 ∷ []) (words : a3 ≡ a2 ++ 34 ∷ (text ++ 34 ∷ [])) (long : length a1 ≡ n.end + 1) (start : w.start ≡ length a2 + 1) where
  pub aside_long : length a2 ≡ n.end + 2
  aside_long = omega (arith, long, ap (λ (l : List ℕ). length l) colon, length-append a1 (58 ∷ []))

  pub aside_name : IsSpan a1 n → IsSpan a3 n
  aside_name h = span_in a2 (34 ∷ (text ++ 34 ∷ [])) a3 n words (span_in a1 (58 ∷ []) a2 n colon h)

  pub aside_name_is : (name : List ℕ) → IsSpan a1 n → in_span a1 n ≡ name → in_span a3 n ≡ name
  aside_name_is name h e = shows_in a2 (34 ∷ (text ++ 34 ∷ [])) a3 name n words (span_in a1 (58 ∷ []) a2 n colon h) (shows_in a1 (58 ∷ []) a2 name n colon h e)

  pub aside_words : IsSpan a3 w → IsSpan a3 (behind n w.end)
  aside_words h = behind_stands a3 n w (length a2) aside_long start h

  pub aside_words_are : in_span a3 w ≡ text → in_span a3 (behind n w.end) ≡ text
  aside_words_are e = behind_shows a3 text n w (length a2) aside_long start e

-- ---- the key: the source and the id between marks, at the end

module _ (out source id one all : List ℕ) (s : Span) (start : s.start ≡ length out + 1) (end : length one ≡ s.end + 1) (first : one ≡ out ++ 34 ∷ (source ++ 34 ∷ [])) (second : all ≡ one ++ (id ++ 34 ∷ [])) where
  key_line : all ≡ (out ++ 34 ∷ source) ++ 34 ∷ (id ++ 34 ∷ [])
  key_line =
      second
      ∙ (ap (λ (l : List ℕ). l ++ (id ++ 34 ∷ [])) (first ∙ sym (append_assoc out (34 ∷ source) (34 ∷ [])))
      ∙ append_assoc (out ++ 34 ∷ source) (34 ∷ []) (id ++ 34 ∷ []))

  ends_at : s.end ≡ length (out ++ 34 ∷ source)
  ends_at = omega (arith, end, ap (λ (l : List ℕ). length l) (first ∙ sym (append_assoc out (34 ∷ source) (34 ∷ []))), length-append (out ++ 34 ∷ source) (34 ∷ []))

  last_at : length all - 1 ≡ length (out ++ 34 ∷ source) + 1 + length id
  last_at = omega (arith, ap (λ (l : List ℕ). length l) key_line, length-append (out ++ 34 ∷ source) (34 ∷ (id ++ 34 ∷ [])), length-append id (34 ∷ []))

  next : s.end + 1 ≡ length (out ++ 34 ∷ source) + 1
  next = omega (arith, ends_at)

  pub id_pushed : IsSpan all (id_span all s)
  id_pushed = span_pushed (out ++ 34 ∷ source) id all (id_span all s) next last_at key_line

  pub id_shown : in_span all (id_span all s) ≡ id
  id_shown = in_span_pushed (out ++ 34 ∷ source) id all (id_span all s) next last_at key_line

-- ---- what is kept: a text, what stands aside of it, and the key

module _ (t u key all : List ℕ) (n : ℕ) (is : all ≡ t ++ (u ++ key)) (long : n ≡ length t) where
  pub text_is : take n all ≡ t
  text_is = ap₂ (λ (m : ℕ) (l : List ℕ). take m l) long is ∙ take-append_seam t (u ++ key)

  aside_is : drop n all ≡ u ++ key
  aside_is = ap₂ (λ (m : ℕ) (l : List ℕ). drop m l) long is ∙ drop-append_seam t (u ++ key)

  pub places_kept : (ps : List Place) → ArePlaces t u ps → ArePlaces (take n all) (drop n all) ps
  places_kept ps h = places_more t [] (take n all) u key (drop n all) ps (text_is ∙ sym (append-nil t)) aside_is h

  pub shown_kept : (ps : List Place) → ArePlaces t u ps → shown (take n all) (drop n all) ps ≡ shown t u ps
  shown_kept ps h = shown_more t [] (take n all) u key (drop n all) ps (text_is ∙ sym (append-nil t)) aside_is h

  pub ends_kept : EndsAt t (length t) → EndsAt all n
  ends_kept h = record {
    some = omega (arith, h.some, long);
    within = omega (arith, long, ap (λ (l : List ℕ). length l) is, length-append t (u ++ key));
    bracket = ap₂ (λ (l : List ℕ) (m : ℕ). slice_index l (m - 1)) is long ∙ (get_or_append_left t (u ++ key) 0 (length t - 1) (omega (arith, h.some)) ∙ h.bracket);
  }

pub boundary_at : (all r : List ℕ) (n : ℕ) → r ≡ all → IsUtf8 r → EndsAt all n → IsCharBoundary r n
boundary_at all r n is utf8 h =
    let again : (n - 1) + 1 ≡ n = omega (arith, h.some) in
    let bracket : slice_index r (n - 1) ≡ 125 = ap (λ (l : List ℕ). slice_index l (n - 1)) is ∙ h.bracket in
    subst (λ (m : ℕ). IsCharBoundary r m) again
    (IsCharBoundary-after_ascii r (n - 1) utf8 (omega (arith, h.some, h.within, ap (λ (l : List ℕ). length l) is)) (omega (arith, bracket)))
