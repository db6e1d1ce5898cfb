-- What one more event changes of what is shown.
use Rattle.std.proofs.Common.{◌≡◌, ◌≢◌, ℕ, ◌+◌, List, Bool, true, false, not, ◌||◌, ◌&&◌, cond, refl, sym, ap, ap₂, ◌∙◌, arith, Some, slice_get}
use Rattle.std.specs.Prelude.{count_by}
use Rattle.std.specs.declared.cmp.Ordering.{Ordering}
use Rattle.std.specs.declared.cmp.Ordering.TheVariants.{Less, Equal, Greater}
use Rattle.std.specs.Ordering.{is_eq, is_lt, ordering_reverse, ordering_then}
use Rattle.std.specs.List.{list_any}
use Rattle.std.specs.List.Sorted.{IsStrictlySortedBy}
use Rattle.std.specs.BTreeSet.{insert_key}
use Rattle.std.proofs.lemmas.Cmp.{tied_itself, alike_right}
use Rattle.std.proofs.lemmas.Map.Text.{is_eq-slice_cmp}
use mathlib.Core.Bool.{true≢false}
use Rattle.attributes.specs.Bytes.{byte_cmp}
use Rattle.attributes.specs.Event.{EventValue, id_of, source_of}
use Rattle.inbox.specs.KeyOrder.{key_cmp, pair_cmp, same_key, text_cmp}
use Rattle.inbox.specs.Ordered.{has}
use Rattle.inbox.specs.Shown.{IsShownOf, NoneHas, has_key, is_shown, shown}
use Rattle.inbox.proofs.OrderLemmas.{key_cmp_total, pair_cmp_total, text_cmp_total}
use Rattle.kept_views.proofs.ListLemmas.{all_at, any_false, any_inserted, count_alike, count_filter, count_inserted, each_at, none_passes, one_out, one_passes}

-- the first event hides the second
abbrev pub hides : EventValue → EventValue → Bool
hides e f = same_key e f && is_lt (text_cmp e f)

-- ---- tests and orders
pub equal_from : (r : Ordering) → is_eq r ≡ true → r ≡ Equal
equal_from Less h = absurd (cc)
equal_from Equal h = refl
equal_from Greater h = absurd (cc)

less_from : (r : Ordering) → is_lt r ≡ true → r ≡ Less
less_from Less h = refl
less_from Equal h = absurd (cc)
less_from Greater h = absurd (cc)

pub neither_less : (r s : Ordering) → s ≡ ordering_reverse r → is_lt r ≡ false → is_lt s ≡ false → r ≡ Equal
neither_less Less s t h k = absurd (true≢false h)
neither_less Equal s t h k = refl
neither_less Greater s t h k = absurd (true≢false (sym (ap is_lt t) ∙ k))

other_less : (r s : Ordering) → s ≡ ordering_reverse r → is_lt r ≡ false → r ≢ Equal → is_lt s ≡ true
other_less Less s t h n = absurd (true≢false h)
other_less Equal s t h n = absurd (n refl)
other_less Greater s t h n = ap is_lt t

not_true : (b : Bool) → not b ≡ true → b ≡ false
not_true true h = absurd (cc)
not_true false h = refl

and_false : (a b : Bool) → (a ≡ true → b ≡ false) → (a && b) ≡ false
and_false true b f = f refl
and_false false b f = refl

and_right : (a b : Bool) → (a && b) ≡ false → a ≡ true → b ≡ false
and_right true b h t = h
and_right false b h t = absurd (cc)

keep : (a b : Bool) → (a ≡ true → b ≡ false) → (a && not b) ≡ a
keep true b f = ap not (f refl)
keep false b f = refl

-- a key as an event's and as its source and id
pub has_key-is : (e f : EventValue) → has_key (source_of e) (id_of e) f ≡ same_key f e
has_key-is e f =
    sym (both (byte_cmp (source_of f) (source_of e)) (byte_cmp (id_of f) (id_of e)) ∙ (λ k. is_eq-slice_cmp (source_of f) (source_of e) k && is_eq-slice_cmp (id_of f) (id_of e) k))
  where
    both : (a b : Ordering) → is_eq (ordering_then a b) ≡ (is_eq a && is_eq b)
    both Less b = refl
    both Equal b = refl
    both Greater b = refl

pub key_back : (e f : EventValue) → same_key e f ≡ same_key f e
key_back e f = from (pair_cmp e f) refl
  where
    from : (r : Ordering) → pair_cmp e f ≡ r → is_eq r ≡ same_key f e
    from Less h = sym (ap is_eq (pair_cmp_total.antisymm f e ∙ ap ordering_reverse h))
    from Equal h = sym (ap is_eq (pair_cmp_total.antisymm f e ∙ ap ordering_reverse h))
    from Greater h = sym (ap is_eq (pair_cmp_total.antisymm f e ∙ ap ordering_reverse h))

pub one_key : (e f : EventValue) → source_of e ≡ source_of f → id_of e ≡ id_of f → same_key e f ≡ true
one_key e f source id =
    ap₂ (λ (x y : List ℕ). is_eq (ordering_then (byte_cmp (source_of e) x) (byte_cmp (id_of e) y))) (sym source) (sym id) ∙ ap is_eq (tied_itself pair_cmp_total e)

pub same_through : (e f g : EventValue) → same_key e f ≡ true → same_key f g ≡ true → same_key e g ≡ true
same_through e f g h k = ap is_eq (pair_cmp_total.congr e f g (equal_from _ h)) ∙ k

-- no event of the key of a shown one has a lesser text
least : (E : List EventValue) (e : EventValue) → is_shown E e ≡ true → (i : ℕ) (f : EventValue) → slice_get E i ≡ Some f → same_key f e ≡ true → is_lt (text_cmp f e) ≡ false
least E e shows i f here same =
    and_right _ _ (all_at (λ f. (same_key f e && is_lt (text_cmp f e)) ≡ false) E i f (any_false (λ f. same_key f e && is_lt (text_cmp f e)) E (not_true _ shows)) here) same

-- two shown events of one key have one text
pub one_text : (E : List EventValue) (i j : ℕ) (e f : EventValue) → slice_get E i ≡ Some e → slice_get E j ≡ Some f → is_shown E e ≡ true → is_shown E f ≡ true → same_key e f ≡ true → text_cmp e f ≡ Equal
one_text E i j e f at-e at-f shows-e shows-f same =
    neither_less (text_cmp e f) (text_cmp f e) (text_cmp_total.antisymm f e) (least E f shows-f i e at-e same) (least E e shows-e j f at-f (sym (key_back e f) ∙ same))

pub tie_of : (e f : EventValue) → same_key e f ≡ true → text_cmp e f ≡ Equal → key_cmp e f ≡ Equal
tie_of e f h k = ap₂ ordering_then (equal_from _ h) k

module _ (E : List EventValue) (e : EventValue) (fresh : has key_cmp E e ≡ false) where
  abbrev pub E' : List EventValue
  E' = insert_key key_cmp E e

  -- an event that is there is shown from now on if it was, and the new one doesn't hide it
  pub shown_of_new : (f : EventValue) → is_shown E' f ≡ (is_shown E f && not (hides e f))
  shown_of_new f = ap not (any_inserted key_cmp (λ g. same_key g f && is_lt (text_cmp g f)) E e fresh) ∙ turned (hides e f) (list_any (λ g. same_key g f && is_lt (text_cmp g f)) E)
    where
      turned : (a b : Bool) → not (a || b) ≡ (not b && not a)
      turned true true = refl
      turned true false = refl
      turned false true = refl
      turned false false = refl

  -- what is hidden stays so
  pub hidden_stays : (f : EventValue) → is_shown E f ≡ false → is_shown E' f ≡ false
  hidden_stays f h = shown_of_new f ∙ ap (λ b. b && not (hides e f)) h

  count_after : (q : EventValue → Bool) → count_by q (shown E') ≡ cond (is_shown E' e && q e) 1 0 + count_by (λ f. (is_shown E f && not (hides e f)) && q f) E
  count_after q =
      count_filter (is_shown E') q E' ∙ count_inserted key_cmp (λ f. is_shown E' f && q f) E e fresh
      ∙ ap (λ n. cond (is_shown E' e && q e) 1 0 + n) (count_alike _ (λ f. (is_shown E f && not (hides e f)) && q f) E (each_at _ E (λ k f h. ap (λ b. b && q f) (shown_of_new f))))

  -- the new one hides no event of its own text
  itself : hides e e ≡ false
  itself = ap₂ (λ r s. is_eq r && is_lt s) (tied_itself pair_cmp_total e) (tied_itself text_cmp_total e)

  -- ---- no event has its key: it is one more
  module _ (none : NoneHas E (source_of e) (id_of e)) where
    pub apart : (i : ℕ) (f : EventValue) → slice_get E i ≡ Some f → same_key f e ≡ false
    apart i f here = sym (has_key-is e f) ∙ all_at (λ f. has_key (source_of e) (id_of e) f ≡ false) E i f (any_false (has_key (source_of e) (id_of e)) E none) here

    pub first_shows : is_shown E' e ≡ true
    first_shows =
        shown_of_new e ∙ ap₂ (λ (a b : Bool). not a && not b) (none_passes (λ f. same_key f e && is_lt (text_cmp f e)) E (each_at _ E (λ i f h. ap (λ b. b && is_lt (text_cmp f e)) (apart i f h)))) itself

    pub first_counts : (q : EventValue → Bool) → count_by q (shown E') ≡ cond (q e) 1 0 + count_by q (shown E)
    first_counts q =
        count_after q
        ∙ ap₂ (λ (b : Bool) (n : ℕ). cond (b && q e) 1 0 + n) first_shows
        (count_alike _ (λ f. is_shown E f && q f) E (each_at _ E (λ i f h. ap (λ b. b && q f) (keep (is_shown E f) (hides e f) (λ s. ap (λ b. b && is_lt (text_cmp e f)) (key_back e f ∙ apart i f h)))))
        ∙ sym (count_filter (is_shown E) q E))

  -- ---- an event of its key is shown
  module _ (o : EventValue) (there : IsShownOf E (source_of e) (id_of e) o) where
    same-o : same_key o e ≡ true
    same-o = sym (has_key-is e o) ∙ there.of_key

    not_tied : text_cmp e o ≢ Equal
    not_tied h =
        let tied : has key_cmp E e ≡ true = one_passes (λ y. is_eq (key_cmp e y)) E there.place o there.is_there (ap is_eq (tie_of e o (key_back e o ∙ same-o) h)) in
        true≢false (sym tied ∙ fresh)

    -- it is the lesser: nothing changes
    module _ (greater : is_lt (text_cmp e o) ≡ false) where
      pub stays_hidden : is_shown E' e ≡ false
      stays_hidden =
          ap not (any_inserted key_cmp (λ g. same_key g e && is_lt (text_cmp g e)) E e fresh
          ∙ ap (λ b. hides e e || b) (one_passes (λ g. same_key g e && is_lt (text_cmp g e)) E there.place o there.is_there (ap₂ (λ (a b : Bool). a && b) same-o (other_less (text_cmp e o) (text_cmp o e) (text_cmp_total.antisymm o e) greater not_tied)))
          ∙ or_true (hides e e))
        where
          or_true : (a : Bool) → (a || true) ≡ true
          or_true true = refl
          or_true false = refl

      pub hides_none : (i : ℕ) (f : EventValue) → slice_get E i ≡ Some f → is_shown E f ≡ true → hides e f ≡ false
      hides_none i f here shows = and_false (same_key e f) (is_lt (text_cmp e f)) (λ s.
          let one : text_cmp o f ≡ Equal = one_text E there.place i o f there.is_there here there.least shows (same_through o e f same-o s) in
          ap is_lt (sym (alike_right text_cmp_total o f e one)) ∙ greater)

      pub hidden_counts : (q : EventValue → Bool) → count_by q (shown E') ≡ count_by q (shown E)
      hidden_counts q =
          count_after q
          ∙ ap₂ (λ (b : Bool) (n : ℕ). cond (b && q e) 1 0 + n) stays_hidden
          (count_alike _ (λ f. is_shown E f && q f) E (each_at _ E (λ i f h. ap (λ b. b && q f) (keep (is_shown E f) (hides e f) (hides_none i f h))))
          ∙ sym (count_filter (is_shown E) q E))
          ∙ none_more (count_by q (shown E))
        where
          none_more : (n : ℕ) → 0 + n ≡ n
          none_more n = omega arith

    -- it is the greater: the new one takes its place
    module _ (less : is_lt (text_cmp e o) ≡ true) where
      pub replaces_shows : is_shown E' e ≡ true
      replaces_shows =
          shown_of_new e
          ∙ ap₂ (λ (a b : Bool). not a && not b) (none_passes (λ f. same_key f e && is_lt (text_cmp f e)) E (each_at _ E (λ i f h. and_false (same_key f e) (is_lt (text_cmp f e)) (λ s. none_lesser i f h s)))) itself
        where
          none_lesser : (i : ℕ) (f : EventValue) → slice_get E i ≡ Some f → same_key f e ≡ true → is_lt (text_cmp f e) ≡ false
          none_lesser i f h s = by_text (text_cmp f e) refl
            where
              by_text : (r : Ordering) → text_cmp f e ≡ r → is_lt r ≡ false
              by_text Less t =
                  let through : text_cmp f o ≡ Less = text_cmp_total.trans f e o t (less_from _ less) in
                  let low : is_lt (text_cmp f o) ≡ false = least E o there.least i f h (same_through f e o s (key_back e o ∙ same-o)) in
                  absurd (true≢false (sym (ap is_lt through) ∙ low))
              by_text Equal t = refl
              by_text Greater t = refl

      -- of the shown ones it hides that one alone
      pub hides_one : (i : ℕ) (f : EventValue) → slice_get E i ≡ Some f → key_cmp f o ≢ Equal → is_shown E f ≡ true → hides e f ≡ false
      hides_one i f h n shows = and_false (same_key e f) (is_lt (text_cmp e f)) (λ s.
          let same : same_key f o ≡ true = same_through f e o (key_back f e ∙ s) (key_back e o ∙ same-o) in
          absurd (n (tie_of f o same (one_text E i there.place f o h there.is_there shows there.least same))))

      pub hides_it : hides e o ≡ true
      hides_it = ap₂ (λ (a b : Bool). a && b) (key_back e o ∙ same-o) less

      pub replaced_counts : IsStrictlySortedBy key_cmp E → (q : EventValue → Bool) → count_by q (shown E') + cond (q o) 1 0 ≡ cond (q e) 1 0 + count_by q (shown E)
      replaced_counts sorted q =
          let after : count_by q (shown E') ≡ cond (is_shown E' e && q e) 1 0 + count_by (λ f. (is_shown E f && not (hides e f)) && q f) E = count_after q in
          let shows : ◌≡◌ {A = ℕ} (cond (is_shown E' e && q e) 1 0) (cond (q e) 1 0) = ap (λ b. cond (b && q e) 1 0) replaces_shows in
          let rest : count_by (λ f. (is_shown E f && not (hides e f)) && q f) E + cond (is_shown E o && q o) 1 0 ≡ count_by (λ f. is_shown E f && q f) E =
          one_out key_cmp key_cmp_total (λ f. (is_shown E f && not (hides e f)) && q f) (λ f. is_shown E f && q f) E there.place o sorted there.is_there
          (ap₂ (λ (a b : Bool). (a && not b) && q o) there.least hides_it)
          (λ i f h n. ap (λ b. b && q f) (keep (is_shown E f) (hides e f) (hides_one i f h n))) in
          let here : ◌≡◌ {A = ℕ} (cond (is_shown E o && q o) 1 0) (cond (q o) 1 0) = ap (λ b. cond (b && q o) 1 0) there.least in
          let before : count_by q (shown E) ≡ count_by (λ f. is_shown E f && q f) E = count_filter (is_shown E) q E in
          omega (arith, after, shows, rest, here, before)
