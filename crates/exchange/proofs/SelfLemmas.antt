-- A site that exchanges events with itself takes nothing.
use Rattle.std.proofs.Common.{◌≡◌, ℕ, suc, List, [], ◌∷◌, Bool, true, false, not, ◌&&◌, ◌||◌, cond, if◌then◌else◌, filter, Some, None, Option, refl, sym, ap, ap₂, ◌∙◌, arith}
use Rattle.std.specs.Prelude.{◌==◌, Contains}
use Rattle.std.specs.Option.{option_map_or}
use Rattle.std.proofs.lemmas.Bool.{eq-eqb}
use Rattle.std.proofs.lemmas.List.Folds.{list_any_at}
use Rattle.std.proofs.lemmas.Slice.Eq.{bytes_eq-Decides}
use Rattle.attributes.specs.Event.{EventValue, source_of}
use Rattle.attributes.specs.Sequence.{number_of}
use Rattle.inbox.specs.KeyOrder.{key_cmp}
use Rattle.inbox.specs.Laws.{SetLaws}
use Rattle.inbox.specs.Ordered.{has}
use Rattle.inbox.specs.Sets.{set_of, union}
use Rattle.sha2.specs.Sha256.{sha256}
use Rattle.block_digests.specs.Block.{block_of, block_text, has_block, is_in_block}
use Rattle.block_digests.specs.Digest.{is_one_digest}
use Rattle.block_digests.specs.Number.{is_number, is_numbered}
use Rattle.exchange.specs.Lacking.{is_missing, is_missing_at, lacking}

later : {X : Type 0} (x : X) (xs : List X) (y : X) → Contains xs y → Contains (x ∷ xs) y
later x xs y c = (suc c.0, omega (arith, c.1), c.2)

filter_none : {X : Type 0} (p : X → Bool) (xs : List X) → ((x : X) → Contains xs x → p x ≡ false) → filter p xs ≡ []
filter_none p [] f = refl
filter_none p (x ∷ xs) f = ap (λ b. cond b (x ∷ filter p xs) (filter p xs)) (f x (0, omega arith, refl)) ∙ filter_none p xs (λ y c. f y (later x xs y c))

-- a digest that is there is one with itself
one_digest : (b : Bool) (d : List ℕ) → b ≡ true → is_one_digest (if b then Some d else None) (if b then Some d else None) ≡ true
one_digest b d there = ap (λ t. is_one_digest (if t then Some d else None) (if t then Some d else None)) there ∙ (bytes_eq-Decides d d).1 refl

-- nothing is missing of what is there
pub lacking-self : (E : List EventValue) → lacking E E ≡ []
lacking-self E = filter_none (is_missing E E) E (λ e c. by_number e c (number_of e) refl)
  where
    by_number : (e : EventValue) → Contains E e → (o : Option ℕ) → number_of e ≡ o → option_map_or (is_missing_at E E (source_of e)) o false ≡ false
    by_number e c None h = refl
    by_number e c (Some n) h =
        let source = (bytes_eq-Decides (source_of e) (source_of e)).1 refl in
        let own : is_numbered e (source_of e) n ≡ true = ap₂ (λ a b. a && b) source (ap (λ o. is_number o n) h ∙ eq-eqb n n refl) in
        let inside : is_in_block (source_of e) (block_of n) e ≡ true = ap₂ (λ a b. a && b) source (ap (λ o. option_map_or (λ m. block_of m == block_of n) o false) h ∙ eq-eqb (block_of n) (block_of n) refl) in
        let held = list_any_at (λ x. is_numbered x (source_of e) n) E c.0 e c.1 (ap (λ x. is_numbered x (source_of e) n) c.2 ∙ own) in
        let there = list_any_at (is_in_block (source_of e) (block_of n)) E c.0 e c.1 (ap (is_in_block (source_of e) (block_of n)) c.2 ∙ inside) in
        ap₂ (λ a b. not a || not b) held (one_digest (has_block E (source_of e) (block_of n)) (sha256 (block_text E (source_of e) (block_of n))) there)

absorbs : SetLaws → (A L : List EventValue) → ((e : EventValue) → Contains L e → has key_cmp A e ≡ true) → union (set_of A) L ≡ set_of A
absorbs sets A [] f = refl
absorbs sets A (x ∷ xs) f = ap (λ E. union E xs) (sym (sets.again A x (f x (0, omega arith, refl)))) ∙ absorbs sets A xs (λ e c. f e (later x xs e c))

-- a set adds nothing to itself
pub union-self : SetLaws → (A : List EventValue) → union (set_of A) (set_of A) ≡ set_of A
union-self sets A = absorbs sets A (set_of A) (λ e c. sym (sets.members A e) ∙ sets.is_found (set_of A) e c)
