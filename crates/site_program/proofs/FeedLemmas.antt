-- The lines of files as batches, one more at a time.
use Rattle.std.proofs.Common.{◌≡◌, ◌+◌, arith, length, ℕ, suc, Bool, false, true, List, [], ◌∷◌, ◌++◌, inl, inr, refl, sym, ap, subst, ◌∙◌, append_assoc}
use Rattle.attributes.specs.Event.{EventValue}
use Rattle.site_program.specs.Jobs.{AreBatches, AreFeeds, IsBatchOf, IsLineFeedFault, IsFirstUnreadLine, SpellLines}
use Rattle.site_commands.specs.Pieces.{FileLine, line_at, lines_behind, lines_from, lines_of}
use Rattle.site_program.specs.declared.batches.FeedFault.{FeedFault}
use Rattle.site_program.specs.declared.batches.FeedFault.TheVariants as feed
use Rattle.site_commands.specs.declared.pieces.RefusedLine.{RefusedLine}

-- lines behind others
pub spell_append : (xs ys : List FileLine) (a b : List EventValue) → SpellLines xs a → SpellLines ys b → SpellLines (xs ++ ys) (a ++ b)
spell_append [] ys a b h k = subst (λ l. SpellLines ys (l ++ b)) (sym h) k
spell_append (x ∷ xs) ys a b h k =
    (h.0, h.1 ++ b, h.2, spell_append xs ys h.1 b h.3 k, ap (λ l. l ++ b) h.4 ∙ append_assoc h.0 h.1 b)

-- the first at fault behind lines that spell events
pub first_append : (xs ys : List FileLine) (a : List EventValue) (r : RefusedLine) → SpellLines xs a → IsFirstUnreadLine ys r → IsFirstUnreadLine (xs ++ ys) r
first_append [] ys a r h k = k
first_append (x ∷ xs) ys a r h k = inr ((h.0, h.2), first_append xs ys h.1 r h.3 k)

-- the first at fault, before other lines
pub first_front : (xs ys : List FileLine) (r : RefusedLine) → IsFirstUnreadLine xs r → IsFirstUnreadLine (xs ++ ys) r
first_front [] ys r h = absurd h
first_front (x ∷ xs) ys r h = elim h [ inl own ↦ inl own | inr more ↦ inr (more.0, first_front xs ys r more.1) ]

-- ---- a loop over the lines of a file

module _ (file before after : ℕ) (line : List ℕ) (lines later : List (List ℕ)) (all : List FileLine) (is : lines ≡ line ∷ later) (next : after ≡ before + 1) where
  here : lines_from file before lines ≡ line_at file before line ++ lines_from file after later
  here = let same : suc before ≡ after = omega (arith, next) in ap (λ l. lines_from file before l) is ∙ ap (λ n. line_at file before line ++ lines_from file n later) same

  -- the events of one line more
  pub spell_next : (events own grown : List EventValue) → SpellLines (line_at file before line) own → grown ≡ events ++ own
      → ((rest : List EventValue) → SpellLines (lines_from file before lines) rest → SpellLines all (events ++ rest))
      → (rest : List EventValue) → SpellLines (lines_from file after later) rest → SpellLines all (grown ++ rest)
  spell_next events own grown h grew go rest k =
      subst (λ l. SpellLines all l) (sym (ap (λ l. l ++ rest) grew ∙ append_assoc events own rest))
      (go (own ++ rest) (subst (λ (l : List FileLine). SpellLines l (own ++ rest)) (sym here) (spell_append (line_at file before line) (lines_from file after later) own rest h k)))

  -- a line at fault behind it
  pub first_next : (own : List EventValue) → SpellLines (line_at file before line) own
      → ((r : RefusedLine) → IsFirstUnreadLine (lines_from file before lines) r → IsFirstUnreadLine all r)
      → (r : RefusedLine) → IsFirstUnreadLine (lines_from file after later) r → IsFirstUnreadLine all r
  first_next own h go r k = go r (subst (λ (l : List FileLine). IsFirstUnreadLine l r) (sym here) (first_append (line_at file before line) (lines_from file after later) own r h k))

  -- it is at fault itself
  pub first_here : ((r : RefusedLine) → IsFirstUnreadLine (lines_from file before lines) r → IsFirstUnreadLine all r)
      → (r : RefusedLine) → IsFirstUnreadLine (line_at file before line) r → IsFirstUnreadLine all r
  first_here go r h = go r (subst (λ (l : List FileLine). IsFirstUnreadLine l r) (sym here) (first_front (line_at file before line) (lines_from file after later) r h))

-- ---- a loop over files

pub none_left : (xs : List (List ℕ)) → length xs ≡ 0 → xs ≡ []
none_left [] h = refl
none_left (x ∷ xs) h = absurd (omega (arith, h))

module _ (first file after : ℕ) (bytes : List ℕ) (left later contents : List (List ℕ)) (is : left ≡ bytes ∷ later) (next : after ≡ file + 1) where
  left_is : lines_behind file left ≡ lines_from file 0 (lines_of bytes) ++ lines_behind after later
  left_is = let same : suc file ≡ after = omega (arith, next) in ap (λ l. lines_behind file l) is ∙ ap (λ n. lines_from file 0 (lines_of bytes) ++ lines_behind n later) same

  -- the batch of one file more
  pub batches_next : (batches grown : List (List ℕ)) (batch : List ℕ) → IsBatchOf file bytes batch → grown ≡ batches ++ batch ∷ []
      → ((rest : List (List ℕ)) → AreBatches file left rest → AreBatches first contents (batches ++ rest))
      → (rest : List (List ℕ)) → AreBatches after later rest → AreBatches first contents (grown ++ rest)
  batches_next batches grown batch h grew go rest k =
      let same : after ≡ suc file = omega (arith, next) in
      subst (λ l. AreBatches first contents l) (sym (ap (λ l. l ++ rest) grew ∙ append_assoc batches (batch ∷ []) rest))
      (go (batch ∷ rest) (subst (λ (l : List (List ℕ)). AreBatches file l (batch ∷ rest)) (sym is) (h, subst (λ n. AreBatches n later rest) same k)))

  -- a line at fault in a later file
  pub file_next : (batch : List ℕ) → IsBatchOf file bytes batch
      → ((r : RefusedLine) → IsFirstUnreadLine (lines_behind file left) r → IsFirstUnreadLine (lines_behind first contents) r)
      → (r : RefusedLine) → IsFirstUnreadLine (lines_behind after later) r → IsFirstUnreadLine (lines_behind first contents) r
  file_next batch h go r k = go r (subst (λ (l : List FileLine). IsFirstUnreadLine l r) (sym left_is) (first_append (lines_from file 0 (lines_of bytes)) (lines_behind after later) h.0 r h.1 k))

  -- a line of this file is at fault
  pub file_here : ((r : RefusedLine) → IsFirstUnreadLine (lines_behind file left) r → IsFirstUnreadLine (lines_behind first contents) r)
      → (r : RefusedLine) → IsFirstUnreadLine (lines_from file 0 (lines_of bytes)) r → IsFirstUnreadLine (lines_behind first contents) r
  file_here go r h = go r (subst (λ (l : List FileLine). IsFirstUnreadLine l r) (sym left_is) (first_front (lines_from file 0 (lines_of bytes)) (lines_behind after later) r h))

  -- so none of the files has a batch
  pub file_fault : (fault : FeedFault) → IsLineFeedFault (lines_from file 0 (lines_of bytes)) fault
      → ((r : RefusedLine) → IsFirstUnreadLine (lines_behind file left) r → IsFirstUnreadLine (lines_behind first contents) r)
      → IsLineFeedFault (lines_behind first contents) fault
  file_fault feed.OutOfMemory h go = tt
  file_fault (feed.Line r) h go = file_here go r h

-- ---- one text each

batches_length : (first : ℕ) (contents texts : List (List ℕ)) → AreBatches first contents texts → length texts ≡ length contents
batches_length first [] [] h = refl
batches_length first [] (t ∷ texts) h = absurd h
batches_length first (b ∷ contents) [] h = absurd h
batches_length first (b ∷ contents) (t ∷ texts) h = ap suc (batches_length (suc first) contents texts h.1)

pub feeds_length : (has_lines : Bool) (first : ℕ) (contents feeds : List (List ℕ)) → AreFeeds has_lines first contents feeds → length feeds ≡ length contents
feeds_length false first contents feeds h = ap (λ (l : List (List ℕ)). length l) h
feeds_length true first contents feeds h = batches_length first contents feeds h
