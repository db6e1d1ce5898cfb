-- Gossip by digests unites.
use Rattle.std.proofs.Common.{◌≡◌, ℕ, List, Bool, true, false, not, ◌||◌, ◌&&◌, Some, None, if◌then◌else◌, refl, sym, ap, ◌∙◌, inl, inr, eq-eqb}
use Rattle.std.specs.Prelude.{◌⊎◌, ◌==◌, bytes_eq, Contains}
use Rattle.std.specs.List.{AllByRecursion, list_any}
use Rattle.std.specs.Option.{option_map_or}
use Rattle.std.specs.Ordering.{is_eq}
use Rattle.std.specs.declared.cmp.Ordering.{Ordering}
use Rattle.std.specs.declared.cmp.Ordering.TheVariants.{Less, Equal, Greater}
use Rattle.std.specs.List.Sorted.{IsStrictlySortedBy}
use Rattle.std.proofs.lemmas.Slice.Eq.{bytes_eq-Decides}
use mathlib.Core.Bool.{true≢false}
use Rattle.sha2.specs.Sha256.{sha256}
use Rattle.attributes.specs.Event.{EventValue, source_of}
use Rattle.attributes.specs.Fault.{IsEvent}
use Rattle.attributes.specs.Sequence.{number_of}
use Rattle.inbox.specs.KeyOrder.{key_cmp}
use Rattle.inbox.specs.Laws.{SetLaws}
use Rattle.inbox.specs.Ordered.{has}
use Rattle.inbox.specs.Sets.{AreEvents, set_of, union}
use Rattle.inbox.proofs.SetLemmas.{has_alike, has-add_all, same_sets, sorted-add_all, sorted-in_order, all-add_all, all-in_order}
use Rattle.inbox.proofs.OrderLemmas.{key_cmp_total}
use Rattle.block_digests.specs.Block.{block_of, block_text, is_in_block}
use Rattle.block_digests.specs.Digest.{digest_in, is_one_digest}
use Rattle.block_digests.specs.Lacking.{is_missing, is_missing_at, lacking}
use Rattle.block_digests.specs.Laws.{BlockTextsTell}
use Rattle.block_digests.specs.Unite.{Collide, GossipsUnite, Unite, told}
use Rattle.block_digests.specs.Number.{has_number}
use Rattle.block_digests.proofs.ListLemmas.{all_kept, and_both, and_left, and_right, any_filter, either, found, item_is, not_false, not_true, or_false_right, or_left, or_right, passes, same_tests}

bytes_same : (a b : List ℕ) → bytes_eq a b ≡ true → a ≡ b
bytes_same a b h = (bytes_eq-Decides a b).0 h

one_digest : (a b : Bool) (x y : List ℕ) → is_one_digest (if a then Some x else None) (if b then Some y else None) ≡ true → x ≡ y
one_digest true true x y h = bytes_same x y h
one_digest true false x y h = absurd (true≢false (sym h))
one_digest false b x y h = absurd (true≢false (sym h))

-- an event of E that is not sent has a block with the same digest at F
not_sent : (E F : List EventValue) (e : EventValue) (n : ℕ) → number_of e ≡ Some n → is_missing E F e ≡ false
    → sha256 (block_text E (source_of e) (block_of n)) ≡ sha256 (block_text F (source_of e) (block_of n))
not_sent E F e n is m =
    let plain : is_missing_at E F (source_of e) n ≡ false = sym (ap (λ o. option_map_or (is_missing_at E F (source_of e)) o false) is) ∙ m in
    let digests : not (is_one_digest (digest_in F (source_of e) (block_of n)) (digest_in E (source_of e) (block_of n))) ≡ false = or_false_right (not (has_number F (source_of e) n)) (not (is_one_digest (digest_in F (source_of e) (block_of n)) (digest_in E (source_of e) (block_of n)))) plain in
    sym (one_digest (list_any (is_in_block (source_of e) (block_of n)) F) (list_any (is_in_block (source_of e) (block_of n)) E)
    (sha256 (block_text F (source_of e) (block_of n))) (sha256 (block_text E (source_of e) (block_of n)))
    (not_false (is_one_digest (digest_in F (source_of e) (block_of n)) (digest_in E (source_of e) (block_of n))) digests))

self_block : (n : ℕ) → (block_of n == block_of n) ≡ true
self_block n = eq-eqb (block_of n) (block_of n) refl

in_own_block : (e : EventValue) (n : ℕ) → number_of e ≡ Some n → is_in_block (source_of e) (block_of n) e ≡ true
in_own_block e n is =
    and_both _ _ ((bytes_eq-Decides (source_of e) (source_of e)).1 refl)
    (ap (λ o. option_map_or (λ m. block_of m == block_of n) o false) is ∙ self_block n)

is_equal : (r : Ordering) → is_eq r ≡ true → r ≡ Equal
is_equal Less h = absurd (true≢false (sym h))
is_equal Equal h = refl
is_equal Greater h = absurd (true≢false (sym h))

none_at : {X : Type 0} (p : X → Bool) (xs : List X) (x : X) → Contains xs x → list_any p xs ≡ false → p x ≡ false
none_at p xs x c h = by_test (p x) refl
  where
    by_test : (b : Bool) → p x ≡ b → p x ≡ false
    by_test true t = absurd (true≢false (sym (passes p xs x c t) ∙ h))
    by_test false t = t

module _ (sets : SetLaws) (tell : BlockTextsTell) where
  module _ (E F : List EventValue) (a : AreEvents E) (b : AreEvents F)
      (numbered : (e : EventValue) → Contains E e → (n : ℕ) × (number_of e ≡ Some n)) where
    -- an event of E that is neither sent nor there
    lost : EventValue → Bool
    lost e = not (is_missing E F e) && not (has key_cmp F e)

    -- such an event has a block that F has too, with another text and the same digest
    collides : (e : EventValue) → Contains E e → lost e ≡ true → Collide E F
    unfolding lost
    collides e c l =
        let n = numbered e c in
        let other : has key_cmp F e ≡ false = not_true _ (and_right (not (is_missing E F e)) _ l) in
        record {
          source = source_of e;
          block = block_of n.0;
          different = λ same. true≢false (sym (sets.is_found F e (tell E F (source_of e) (block_of n.0) a b same e c (in_own_block e n.0 n.1))) ∙ other);
          digest = not_sent E F e n.0 n.1 (not_true _ (and_left _ (not (has key_cmp F e)) l));
        }

    -- where there is none, what is sent and what was there is all
    brings : list_any lost E ≡ false → (k : EventValue) → (has key_cmp F k || has key_cmp (lacking E F) k) ≡ (has key_cmp E k || has key_cmp F k)
    unfolding lost
    brings none k = same_tests _ _ down up
      where
        down : (has key_cmp F k || has key_cmp (lacking E F) k) ≡ true → (has key_cmp E k || has key_cmp F k) ≡ true
        down h = either (has key_cmp F k) (has key_cmp (lacking E F) k) h (λ t. or_right (has key_cmp E k) (has key_cmp F k) t) (λ t.
            let y = found (λ y. is_missing E F y && is_eq (key_cmp k y)) E (sym (any_filter (λ z. is_eq (key_cmp k z)) (is_missing E F) E) ∙ t) in
            or_left (has key_cmp E k) (has key_cmp F k) (passes (λ z. is_eq (key_cmp k z)) E y.0 y.1.0 (and_right (is_missing E F y.0) _ y.1.1)))

        there : (y : EventValue) → Contains E y → is_eq (key_cmp k y) ≡ true → is_missing E F y ≡ false → has key_cmp F k ≡ true
        there y c t m =
            let kept : not (has key_cmp F y) ≡ false = sym (ap (λ b. not b && not (has key_cmp F y)) m) ∙ none_at lost E y c none in
            has_alike key_cmp_total F k y (is_equal (key_cmp k y) t) ∙ not_false (has key_cmp F y) kept

        up : (has key_cmp E k || has key_cmp F k) ≡ true → (has key_cmp F k || has key_cmp (lacking E F) k) ≡ true
        up h = either (has key_cmp E k) (has key_cmp F k) h (λ t.
            let y = found (λ z. is_eq (key_cmp k z)) E t in
            elim (is_missing E F y.0) as (λ m. is_missing E F y.0 ≡ m → (has key_cmp F k || has key_cmp (lacking E F) k) ≡ true) [
              | true ↦ λ m. or_right (has key_cmp F k) (has key_cmp (lacking E F) k)
                  (any_filter (λ z. is_eq (key_cmp k z)) (is_missing E F) E ∙ passes (λ z. is_missing E F z && is_eq (key_cmp k z)) E y.0 y.1.0 (and_both _ _ m y.1.1))
              | false ↦ λ m. or_left (has key_cmp F k) (has key_cmp (lacking E F) k) (there y.0 y.1.0 y.1.1 m)
            ] refl) (λ t. or_left (has key_cmp F k) (has key_cmp (lacking E F) k) t)

    -- both are sets
    module _ (s : IsStrictlySortedBy key_cmp E) (t : IsStrictlySortedBy key_cmp F)
        (exact : (x y : EventValue) → IsEvent x → IsEvent y → key_cmp x y ≡ Equal → x ≡ y) where
      united : list_any lost E ≡ false → told E F ≡ union E F
      united none =
          same_sets key_cmp_total IsEvent exact (told E F) (union E F)
          (sorted-add_all key_cmp_total F (lacking E F) t) (sorted-add_all key_cmp_total E F s)
          (all-add_all key_cmp_total IsEvent F (lacking E F) b (all_kept IsEvent (is_missing E F) E a)) (all-add_all key_cmp_total IsEvent E F a b)
          (λ k. has-add_all key_cmp_total F (lacking E F) k ∙ brings none k ∙ sym (has-add_all key_cmp_total E F k))

      -- gossip brings all, or two texts collide
      pub brought : (told E F ≡ union E F) ⊎ Collide E F
      brought = by_test (list_any lost E) refl
        where
          by_test : (l : Bool) → list_any lost E ≡ l → (told E F ≡ union E F) ⊎ Collide E F
          by_test true h = let e = found lost E h in inr (collides e.0 e.1.0 e.1.1)
          by_test false h = inl (united h)

or_again : (a b : Bool) → ((a || b) || a) ≡ (a || b)
or_again true b = refl
or_again false true = refl
or_again false false = refl

HasNumber : EventValue → Type 0
HasNumber e = (n : ℕ) × (number_of e ≡ Some n)

pub gossips_unite : SetLaws → BlockTextsTell → ((x y : EventValue) → IsEvent x → IsEvent y → key_cmp x y ≡ Equal → x ≡ y) → GossipsUnite
unfolding HasNumber
gossips_unite sets tell exact A B a b numbered_a numbered_b = by_both first second
  where
    E : List EventValue
    E = set_of A

    F : List EventValue
    F = set_of B

    G : List EventValue
    G = told E F

    events_E : AreEvents E
    events_E = all-in_order key_cmp_total IsEvent A a

    events_F : AreEvents F
    events_F = all-in_order key_cmp_total IsEvent B b

    events_G : AreEvents G
    events_G = all-add_all key_cmp_total IsEvent F (lacking E F) events_F (all_kept IsEvent (is_missing E F) E events_E)

    numbers_E : AllByRecursion HasNumber E
    numbers_E = all-in_order key_cmp_total HasNumber A numbered_a

    numbers_G : AllByRecursion HasNumber G
    numbers_G = all-add_all key_cmp_total HasNumber F (lacking E F) (all-in_order key_cmp_total HasNumber B numbered_b) (all_kept HasNumber (is_missing E F) E numbers_E)

    sorted_E : IsStrictlySortedBy key_cmp E
    sorted_E = sorted-in_order key_cmp_total A

    sorted_F : IsStrictlySortedBy key_cmp F
    sorted_F = sorted-in_order key_cmp_total B

    sorted_G : IsStrictlySortedBy key_cmp G
    sorted_G = sorted-add_all key_cmp_total F (lacking E F) sorted_F

    first : (told E F ≡ union E F) ⊎ Collide E F
    first = brought sets tell E F events_E events_F (λ e c. item_is HasNumber E e numbers_E c) sorted_E sorted_F exact

    second : (told G E ≡ union G E) ⊎ Collide G E
    second = brought sets tell G E events_G events_E (λ e c. item_is HasNumber G e numbers_G c) sorted_G sorted_E exact

    again : union (union E F) E ≡ union E F
    again =
        same_sets key_cmp_total IsEvent exact (union (union E F) E) (union E F)
        (sorted-add_all key_cmp_total (union E F) E (sorted-add_all key_cmp_total E F sorted_E)) (sorted-add_all key_cmp_total E F sorted_E)
        (all-add_all key_cmp_total IsEvent (union E F) E (all-add_all key_cmp_total IsEvent E F events_E events_F) events_E) (all-add_all key_cmp_total IsEvent E F events_E events_F)
        (λ k. has-add_all key_cmp_total (union E F) E k ∙ ap (λ x. x || has key_cmp E k) (has-add_all key_cmp_total E F k) ∙ or_again (has key_cmp E k) (has key_cmp F k) ∙ sym (has-add_all key_cmp_total E F k))

    by_both : (told E F ≡ union E F) ⊎ Collide E F → (told G E ≡ union G E) ⊎ Collide G E → Unite E F ⊎ (Collide E F ⊎ Collide G E)
    by_both (inr c) s = inr (inl c)
    by_both (inl f) (inr d) = inr (inr d)
    by_both (inl f) (inl g) = inl (record { first = f; second = g ∙ ap (λ H. union H E) f ∙ again })
