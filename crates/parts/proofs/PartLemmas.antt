-- Tests that fix the source see a part as the whole.
use Rattle.std.proofs.Common.{◌≡◌, ℕ, List, [], ◌∷◌, Bool, true, false, cond, not, ◌&&◌, ◌||◌, filter, length, map, nat_lt, refl, sym, ap, ap₂, ◌∙◌, true≢false, is_eq, is_lt}
use Rattle.std.specs.List.{list_any}
use Rattle.std.specs.Ordering.{ordering_then}
use Rattle.std.specs.declared.cmp.Ordering.{Ordering}
use Rattle.std.specs.declared.cmp.Ordering.TheVariants.{Less, Equal, Greater}
use Rattle.std.proofs.lemmas.Map.Lookups.{exact_bytes}
use Rattle.attributes.specs.Bytes.{byte_cmp}
use Rattle.attributes.specs.Event.{EventValue, source_of, id_of}
use Rattle.inbox.specs.Conflicts.{conflict_of, conflicts, is_first_of_several, of_key}
use Rattle.inbox.specs.KeyOrder.{pair_cmp, same_key, text_cmp}
use Rattle.inbox.specs.Shown.{is_shown, shown}
use Rattle.inbox.specs.declared.conflict.Conflict.{Conflict}
use Rattle.parts.specs.Part.{falls_to, part}

pub and_left : (a b : Bool) → (a && b) ≡ true → a ≡ true
and_left true b h = refl
and_left false b h = h

equal_from : (r : Ordering) → is_eq r ≡ true → r ≡ Equal
equal_from Less h = absurd (true≢false (sym h))
equal_from Equal h = refl
equal_from Greater h = absurd (true≢false (sym h))

first_equal : (r s : Ordering) → ordering_then r s ≡ Equal → r ≡ Equal
first_equal Less s h = cc
first_equal Equal s h = refl
first_equal Greater s h = cc

pub key_source : (f e : EventValue) → same_key f e ≡ true → source_of f ≡ source_of e
key_source f e h = exact_bytes (source_of f) (source_of e) (first_equal _ (byte_cmp (id_of f) (id_of e)) (equal_from (pair_cmp f e) h))

module _ {X : Type 0} where
  -- a test that only passes what another passes
  pub filter_narrow : (q b : X → Bool) → ((x : X) → q x ≡ true → b x ≡ true) → (L : List X) → filter q (filter b L) ≡ filter q L
  filter_narrow q b sub [] = refl
  filter_narrow q b sub (x ∷ xs) = by (b x) (q x) refl (λ h. sub x h) refl (filter_narrow q b sub xs)
    where
      by : (c d : Bool) → b x ≡ c → (q x ≡ true → b x ≡ true) → q x ≡ d → filter q (filter b xs) ≡ filter q xs → filter q (cond c (x ∷ filter b xs) (filter b xs)) ≡ cond d (x ∷ filter q xs) (filter q xs)
      by true true h s k r = ap (λ e. cond e (x ∷ filter q (filter b xs)) (filter q (filter b xs))) k ∙ ap (λ l. x ∷ l) r
      by true false h s k r = ap (λ e. cond e (x ∷ filter q (filter b xs)) (filter q (filter b xs))) k ∙ r
      by false true h s k r = absurd (true≢false (sym (s k) ∙ h))
      by false false h s k r = r

  pub any_narrow : (q b : X → Bool) → ((x : X) → q x ≡ true → b x ≡ true) → (L : List X) → list_any q (filter b L) ≡ list_any q L
  any_narrow q b sub [] = refl
  any_narrow q b sub (x ∷ xs) = by (b x) (q x) refl (λ h. sub x h) refl (any_narrow q b sub xs)
    where
      by : (c d : Bool) → b x ≡ c → (q x ≡ true → b x ≡ true) → q x ≡ d → list_any q (filter b xs) ≡ list_any q xs → list_any q (cond c (x ∷ filter b xs) (filter b xs)) ≡ (d || list_any q xs)
      by true d h s k r = ap₂ (λ (x y : Bool). x || y) k r
      by false true h s k r = absurd (true≢false (sym (s k) ∙ h))
      by false false h s k r = r

  pub any_none : (q : X → Bool) → ((x : X) → q x ≡ false) → (L : List X) → list_any q L ≡ false
  any_none q none [] = refl
  any_none q none (x ∷ xs) = ap₂ (λ (a b : Bool). a || b) (none x) (any_none q none xs)

  pub any_split : (q b : X → Bool) (L : List X) → list_any q (filter b L) ≡ list_any (λ x. b x && q x) L
  any_split q b [] = refl
  any_split q b (x ∷ xs) = by (b x) (any_split q b xs)
    where
      by : (c : Bool) → list_any q (filter b xs) ≡ list_any (λ x. b x && q x) xs → list_any q (cond c (x ∷ filter b xs) (filter b xs)) ≡ ((c && q x) || list_any (λ x. b x && q x) xs)
      by true r = ap (λ a. q x || a) r
      by false r = r

  -- two tests one after the other, the first of which is another where the second passes
  pub filter_swap : (a c b : X → Bool) → ((x : X) → b x ≡ true → a x ≡ c x) → (L : List X) → filter a (filter b L) ≡ filter b (filter c L)
  filter_swap a c b same [] = refl
  filter_swap a c b same (x ∷ xs) = by (b x) (c x) refl (same x) refl (filter_swap a c b same xs)
    where
      by : (d e : Bool) → b x ≡ d → (b x ≡ true → a x ≡ c x) → c x ≡ e → filter a (filter b xs) ≡ filter b (filter c xs) → filter a (cond d (x ∷ filter b xs) (filter b xs)) ≡ filter b (cond e (x ∷ filter c xs) (filter c xs))
      by true true h s k r =
          ap (λ t. cond t (x ∷ filter a (filter b xs)) (filter a (filter b xs))) (s h ∙ k) ∙ ap (λ l. x ∷ l) r ∙ sym (ap (λ t. cond t (x ∷ filter b (filter c xs)) (filter b (filter c xs))) h)
      by true false h s k r = ap (λ t. cond t (x ∷ filter a (filter b xs)) (filter a (filter b xs))) (s h ∙ k) ∙ r
      by false true h s k r = r ∙ sym (ap (λ t. cond t (x ∷ filter b (filter c xs)) (filter b (filter c xs))) h)
      by false false h s k r = r

  pub map_passing : {Y : Type 0} (p : X → Bool) (f g : X → Y) → ((x : X) → p x ≡ true → f x ≡ g x) → (xs : List X) → map f (filter p xs) ≡ map g (filter p xs)
  map_passing p f g same [] = refl
  map_passing {Y} p f g same (x ∷ xs) = by (p x) refl (map_passing p f g same xs)
    where
      by : (b : Bool) → p x ≡ b → map f (filter p xs) ≡ map g (filter p xs) → map f (cond b (x ∷ filter p xs) (filter p xs)) ≡ map g (cond b (x ∷ filter p xs) (filter p xs))
      by true e h = (λ k. same x e k ∷ h k)
      by false e h = h

  pub filter_mapped : {Y : Type 0} (f : X → Y) (q : Y → Bool) (xs : List X) → filter q (map f xs) ≡ map f (filter (λ x. q (f x)) xs)
  filter_mapped f q [] = refl
  filter_mapped {Y} f q (x ∷ xs) = by (q (f x)) (filter_mapped f q xs)
    where
      by : (b : Bool) → filter q (map f xs) ≡ map f (filter (λ x. q (f x)) xs) → cond b (f x ∷ filter q (map f xs)) (filter q (map f xs)) ≡ map f (cond b (x ∷ filter (λ x. q (f x)) xs) (filter (λ x. q (f x)) xs))
      by true h = ap (λ l. f x ∷ l) h
      by false h = h

-- what passes a test that is the same for all events of a key
module _ (own : EventValue → Bool) (alike : (e f : EventValue) → same_key f e ≡ true → own f ≡ own e) (E : List EventValue) where
  of_own_key : (e : EventValue) → own e ≡ true → (f : EventValue) → same_key f e ≡ true → own f ≡ true
  of_own_key e h f k = alike e f k ∙ h

  shown_same : (e : EventValue) → own e ≡ true → is_shown (filter own E) e ≡ is_shown E e
  shown_same e h = ap not (any_narrow (λ f. same_key f e && is_lt (text_cmp f e)) own (λ f t. of_own_key e h f (and_left (same_key f e) (is_lt (text_cmp f e)) t)) E)

  pub shown_kept : shown (filter own E) ≡ filter own (shown E)
  shown_kept = filter_swap (is_shown (filter own E)) (is_shown E) own shown_same E

  key_same : (e : EventValue) → own e ≡ true → of_key (filter own E) e ≡ of_key E e
  key_same e h = filter_narrow (λ f. same_key f e) own (of_own_key e h) E

  several_same : (e : EventValue) → own e ≡ true → is_first_of_several (filter own E) e ≡ is_first_of_several E e
  several_same e h = ap₂ (λ (a b : Bool). a && b) (shown_same e h) (ap (λ l. nat_lt 1 (length l)) (key_same e h))

  conflict_same : (e : EventValue) → own e ≡ true → conflict_of (filter own E) e ≡ conflict_of E e
  conflict_same e h = ap (λ l. let c : Conflict = record { source = source_of e; id = id_of e; events = l } in c) (key_same e h)

  pub conflicts_kept : conflicts (filter own E) ≡ map (conflict_of E) (filter own (filter (is_first_of_several E) E))
  conflicts_kept =
      ap (map (conflict_of (filter own E))) (filter_swap (is_first_of_several (filter own E)) (is_first_of_several E) own several_same E)
      ∙ map_passing own (conflict_of (filter own E)) (conflict_of E) conflict_same (filter (is_first_of_several E) E)

module _ (p : List ℕ → ℕ) (i : ℕ) (E : List EventValue) where
  abbrev own : EventValue → Bool
  own e = falls_to p i (source_of e)

  pub own_alike : (e f : EventValue) → same_key f e ≡ true → falls_to p i (source_of f) ≡ falls_to p i (source_of e)
  own_alike e f k = ap (falls_to p i) (key_source f e k)

  pub shown_part : shown (part p i E) ≡ part p i (shown E)
  shown_part = shown_kept own own_alike E

  pub conflicts_part : conflicts (part p i E) ≡ filter (λ c. falls_to p i c.source) (conflicts E)
  conflicts_part =
      conflicts_kept own own_alike E
      ∙ sym (filter_mapped (conflict_of E) (λ c. falls_to p i c.source) (filter (is_first_of_several E) E))
