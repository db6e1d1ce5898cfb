-- Places of key order among which what a peer lacks is found.
use Rattle.std.proofs.Common.{◌≡◌, ◌<◌, ◌≤◌, ◌+◌, ◌-◌, ◌==◌, ◌||◌, ℕ, zero, suc, List, [], ◌∷◌, ◌++◌, Bool, true, false, Option, Some, None, length, take, drop, map, slice_get, if◌then◌else◌, bytes_eq, refl, sym, ap, ◌∙◌, subst, arith, inl, inr, length-append}
use Rattle.std.specs.Prelude.{Contains, ◌≢◌}
use Rattle.std.specs.BTreeSet.{BTreeSet, contains}
use Rattle.std.specs.List.{AllByRecursion}
use Rattle.std.specs.List.Sorted.{IsStrictlySortedBy}
use Rattle.std.specs.Option.{option_and_then, option_map_or}
use Rattle.std.specs.Ordering.{is_eq, nat_cmp}
use Rattle.std.specs.declared.cmp.Ordering.TheVariants.{Less}
use Rattle.std.proofs.lemmas.Bool.{cases_Bool}
use Rattle.std.proofs.lemmas.Bool.Decides.{Decides-eqb}
use Rattle.std.proofs.lemmas.List.{length-take}
use Rattle.std.proofs.lemmas.Option.{get_or_from_slice_get, slice_get-get_or, slice_get_within}
use Rattle.std.proofs.lemmas.Slice.Eq.{bytes_eq-Decides}
use mathlib.Core.Bool.{true≢false}
use Rattle.attributes.specs.Event.{EventValue, source_of}
use Rattle.attributes.specs.Sequence.{number_of}
use Rattle.block_digests.specs.Block.{block_of, is_in_block}
use Rattle.block_digests.specs.Kept.{IsKeptOf, KeptBlocks, KeptBlock, places_at, places_from, places_of, position_of}
use Rattle.block_digests.specs.Number.{has_number, is_number, is_numbered}
use Rattle.block_digests.proofs.ListLemmas.{and_both, and_left, and_right, item_is, passes}
use Rattle.coverage.specs.Digests.{is_wanted}
use Rattle.coverage.specs.Summary.{Sources, holds_at}
use Rattle.inbox.specs.KeyOrder.{key_cmp}
use Rattle.inbox.specs.Laws.{SetLaws}
use Rattle.inbox.specs.Sets.{AreEvents, set_of}
use Rattle.site.specs.Delta.{AreAll, Tells, is_lacking, is_wanting, lacking_of}
use Rattle.site.specs.steps.Among.{HasPlace, WantsNone}
use Rattle.site.proofs.DeltaLemmas.{filter_left_out}

some_is : {X : Type 0} (a b : X) → Some a ≡ Some b → a ≡ b
some_is a b h = cc

none_is : {X : Type 0} (b : X) → None ≡ Some b → ⊥
none_is b h = cc

-- ---- a set has each event at one place
all_at : {X : Type 0} (P : X → Type 0) (xs : List X) (j : ℕ) (x : X) → AllByRecursion P xs → slice_get xs j ≡ Some x → P x
all_at P [] j x a h = absurd (cc)
all_at P (y ∷ ys) zero x a h = let same : y ≡ x = cc in subst P same a.0
all_at P (y ∷ ys) (suc j) x a h = all_at P ys j x a.1 h

once_in : (E : List EventValue) (i j : ℕ) (e : EventValue) → IsStrictlySortedBy key_cmp E → (key_cmp e e ≡ Less → ⊥) → slice_get E i ≡ Some e → slice_get E j ≡ Some e → i ≡ j
unfolding IsStrictlySortedBy
once_in [] i j e s irr h k = absurd (cc)
once_in (x ∷ xs) zero zero e s irr h k = refl
once_in (x ∷ xs) zero (suc j) e s irr h k =
    let same : x ≡ e = cc in
    absurd (irr (subst (λ y. key_cmp y e ≡ Less) same (all_at (λ y. key_cmp x y ≡ Less) xs j e s.0 k)))
once_in (x ∷ xs) (suc i) zero e s irr h k =
    let same : x ≡ e = cc in
    absurd (irr (subst (λ y. key_cmp y e ≡ Less) same (all_at (λ y. key_cmp x y ≡ Less) xs i e s.0 h)))
once_in (x ∷ xs) (suc i) (suc j) e s irr h k = ap suc (once_in xs i j e s.1 irr h k)

pub once_at : SetLaws → (A : List EventValue) (i j : ℕ) (e : EventValue) → slice_get (set_of A) i ≡ Some e → slice_get (set_of A) j ≡ Some e → i ≡ j
once_at sets A i j e h k =
    once_in (set_of A) i j e (sets.sorted A) (λ l. true≢false (sym (sets.is_found (e ∷ []) e (0, omega arith, refl)) ∙ ap (λ r. is_eq r || false) l)) h k

pub contained_at : {X : Type 0} (xs : List X) (i : ℕ) (x : X) → slice_get xs i ≡ Some x → Contains xs x
contained_at xs i x h = (i, slice_get_within xs i x h, get_or_from_slice_get xs i x x h)

pub place_of_contained : {X : Type 0} (xs : List X) (x : X) → Contains xs x → (p : ℕ) × (slice_get xs p ≡ Some x)
place_of_contained xs x c = (c.0, slice_get-get_or xs c.0 x c.1 ∙ ap Some c.2)

-- what is in the set came
pub came_at : SetLaws → (A : List EventValue) (i : ℕ) (e : EventValue) → AreEvents A → slice_get (set_of A) i ≡ Some e → (p : ℕ) × (slice_get A p ≡ Some e)
came_at sets A i e are h =
    let c = contained_at (set_of A) i e h in
    place_of_contained A e (sets.is_there A e are (item_is _ (set_of A) e (sets.are_events A are) c) (sym (sets.members A e) ∙ sets.is_found (set_of A) e c))

-- ---- the places of a block
there_from : (i : ℕ) (A : List EventValue) (source : List ℕ) (k p : ℕ) (e : EventValue) → slice_get A p ≡ Some e → is_in_block source k e ≡ true → (j : ℕ) × (slice_get (places_from i A source k) j ≡ Some (i + p))
there_from i [] source k p e h t = absurd (cc)
there_from i (x ∷ xs) source k zero e h t =
    let same : x ≡ e = cc in
    let e0 : i ≡ i + 0 = omega arith in
    (0, ap (λ b. slice_get (if b then i ∷ places_from (i + 1) xs source k else places_from (i + 1) xs source k) 0) (ap (is_in_block source k) same ∙ t) ∙ ap Some e0)
there_from i (x ∷ xs) source k (suc p) e h t =
    let later = there_from (i + 1) xs source k p e h t in
    let e0 : (i + 1) + p ≡ i + suc p = omega arith in
    elim (is_in_block source k x) as (λ b. (j : ℕ) × (slice_get (if b then i ∷ places_from (i + 1) xs source k else places_from (i + 1) xs source k) j ≡ Some (i + suc p))) [
      | true ↦ (suc later.0, later.1 ∙ ap Some e0)
      | false ↦ (later.0, later.1 ∙ ap Some e0)
    ]

-- an event of a block stands at one of its places
pub place_there : (A : List EventValue) (source : List ℕ) (k p : ℕ) (e : EventValue) → slice_get A p ≡ Some e → is_in_block source k e ≡ true → (j : ℕ) × (slice_get (places_of A source k) j ≡ Some p)
place_there A source k p e h t = let w = there_from 0 A source k p e h t in let e0 : 0 + p ≡ p = omega arith in (w.0, w.1 ∙ ap Some e0)

abbrev Later : ℕ → List EventValue → List ℕ → ℕ → ℕ → Type 0
Later i xs source k p = (m : ℕ) → slice_get (places_from i xs source k) m ≡ Some p → (q : ℕ) × ((p ≡ i + q) × ((e : EventValue) × ((slice_get xs q ≡ Some e) × (is_in_block source k e ≡ true))))

in_from : (i : ℕ) (A : List EventValue) (source : List ℕ) (k j p : ℕ) → slice_get (places_from i A source k) j ≡ Some p → (q : ℕ) × ((p ≡ i + q) × ((e : EventValue) × ((slice_get A q ≡ Some e) × (is_in_block source k e ≡ true))))
in_from i [] source k j p h = absurd (cc)
in_from i (x ∷ xs) source k j p h = by (λ m g. in_from (i + 1) xs source k m p g) (is_in_block source k x) refl j h
  where
    behind : Later (i + 1) xs source k p → (m : ℕ) → slice_get (places_from (i + 1) xs source k) m ≡ Some p → (q : ℕ) × ((p ≡ i + q) × ((e : EventValue) × ((slice_get (x ∷ xs) q ≡ Some e) × (is_in_block source k e ≡ true))))
    behind later m g = let w = later m g in (suc w.0, (omega (arith, w.1.0), w.1.1))

    by : Later (i + 1) xs source k p → (b : Bool) → is_in_block source k x ≡ b → (m : ℕ) → slice_get (if b then i ∷ places_from (i + 1) xs source k else places_from (i + 1) xs source k) m ≡ Some p
        → (q : ℕ) × ((p ≡ i + q) × ((e : EventValue) × ((slice_get (x ∷ xs) q ≡ Some e) × (is_in_block source k e ≡ true))))
    by later true t zero g = let same : i ≡ p = some_is i p g in (0, (omega arith, (x, (refl, t))))
    by later true t (suc m) g = behind later m g
    by later false t m g = behind later m g

-- at a place of a block stands an event of it
pub place_is : (A : List EventValue) (source : List ℕ) (k j p : ℕ) (e : EventValue) → slice_get (places_of A source k) j ≡ Some p → slice_get A p ≡ Some e → is_in_block source k e ≡ true
place_is A source k j p e h g =
    let w = in_from 0 A source k j p h in
    let q : w.0 ≡ p = omega (arith, w.1.0) in
    let same : w.1.1.0 ≡ e = some_is w.1.1.0 e (sym w.1.1.1.0 ∙ ap (slice_get A) q ∙ g) in
    ap (is_in_block source k) (sym same) ∙ w.1.1.1.1

-- a block without a first place has none
pub none_first : (ps : List ℕ) (j p : ℕ) → slice_get ps 0 ≡ None → slice_get ps j ≡ Some p → ⊥
none_first [] j p h g = cc
none_first (x ∷ xs) j p h g = cc

-- ---- what an event of a block has
block_number : (o : Option ℕ) (k : ℕ) → option_map_or (λ n. block_of n == k) o false ≡ true → (n : ℕ) × ((o ≡ Some n) × (block_of n ≡ k))
block_number None k h = absurd (true≢false (sym h))
block_number (Some n) k h = (n, (refl, (Decides-eqb (block_of n) k).0 h))

pub block_parts : (source : List ℕ) (k : ℕ) (e : EventValue) → is_in_block source k e ≡ true → (source ≡ source_of e) × ((n : ℕ) × ((number_of e ≡ Some n) × (block_of n ≡ k)))
block_parts source k e h = (
  (bytes_eq-Decides source (source_of e)).0 (and_left (bytes_eq source (source_of e)) (option_map_or (λ n. block_of n == k) (number_of e) false) h),
  block_number (number_of e) k (and_right (bytes_eq source (source_of e)) (option_map_or (λ n. block_of n == k) (number_of e) false) h),
)

-- an event with a number stands in the block of it
pub in_own_block : (e : EventValue) (n : ℕ) → number_of e ≡ Some n → is_in_block (source_of e) (block_of n) e ≡ true
in_own_block e n h =
    and_both _ _ ((bytes_eq-Decides (source_of e) (source_of e)).1 refl) (ap (λ o. option_map_or (λ m. block_of m == block_of n) o false) h ∙ (Decides-eqb (block_of n) (block_of n)).1 refl)

pub wanting_number : (peer own : Sources) (e : EventValue) → is_wanting peer own e ≡ true → (n : ℕ) × (number_of e ≡ Some n)
wanting_number peer own e h = by (number_of e) refl h
  where
    by : (o : Option ℕ) → number_of e ≡ o → option_map_or (is_wanted peer own (source_of e)) o false ≡ true → (n : ℕ) × (number_of e ≡ Some n)
    by None g t = absurd (true≢false (sym t))
    by (Some n) g t = (n, g)

numbered : (A : List EventValue) (e : EventValue) (n p : ℕ) → slice_get A p ≡ Some e → number_of e ≡ Some n → has_number A (source_of e) n ≡ true
numbered A e n p h g =
    passes (λ x. is_numbered x (source_of e) n) A e (contained_at A p e h)
    (and_both _ _ ((bytes_eq-Decides (source_of e) (source_of e)).1 refl) (ap (λ o. is_number o n) g ∙ (Decides-eqb n n).1 refl))

-- the peer wants none of a block's events, told by the number of one of them
pub wants_none_of : (A : List EventValue) (peer own numbers : Sources) (source : List ℕ) (k : ℕ) (f : EventValue) (m : ℕ)
    → ((s : List ℕ) (n : ℕ) → holds_at numbers s n ≡ has_number A s n) → is_in_block source k f ≡ true → number_of f ≡ Some m
    → ((n : ℕ) → block_of n ≡ block_of m → holds_at numbers (source_of f) n ≡ true → is_wanted peer own (source_of f) n ≡ false) → WantsNone A peer own source k
wants_none_of A peer own numbers source k f m sums inside is none p e came t =
    let own_parts = block_parts source k f inside in
    let parts = block_parts source k e t in
    let n = parts.1.0 in
    let same_number : own_parts.1.0 ≡ m = some_is own_parts.1.0 m (sym own_parts.1.1.0 ∙ is) in
    let beside : block_of n ≡ block_of m = parts.1.1.1 ∙ sym own_parts.1.1.1 ∙ ap block_of same_number in
    let one : source_of f ≡ source_of e = sym own_parts.0 ∙ parts.0 in
    let held : holds_at numbers (source_of f) n ≡ true = ap (λ s. holds_at numbers s n) one ∙ sums (source_of e) n ∙ numbered A e n p came parts.1.1.0 in
    ap (λ o. option_map_or (is_wanted peer own (source_of e)) o false) parts.1.1.0 ∙ ap (λ s. is_wanted peer own s n) (sym one) ∙ none n beside held

-- ---- blocks, one after another
-- of the first i blocks the places are there of each event that the peer wants
abbrev pub AreHandled : List EventValue → Sources → Sources → List KeptBlock → BTreeSet ℕ → ℕ → Type 0
AreHandled A peer own blocks found i =
    (j : ℕ) (ps : List ℕ) → j < i → slice_get (map (λ b. b.places) blocks) j ≡ Some ps → (source : List ℕ) (k : ℕ) → ps ≡ places_of A source k
    → (p : ℕ) (e : EventValue) → slice_get A p ≡ Some e → is_in_block source k e ≡ true → is_wanting peer own e ≡ true → HasPlace A found p

map_at : (blocks : List KeptBlock) (j : ℕ) (b : KeptBlock) → slice_get blocks j ≡ Some b → slice_get (map (λ b. b.places) blocks) j ≡ Some b.places
map_at [] j b h = absurd (cc)
map_at (x ∷ xs) zero b h = let same : x ≡ b = cc in ap (λ y. Some y.places) same
map_at (x ∷ xs) (suc j) b h = map_at xs j b h

-- a block with places is kept
kept_at : (kept : KeptBlocks) (source : List ℕ) (k j p : ℕ) → slice_get (places_at kept source k) j ≡ Some p → (b : KeptBlock) × ((i : ℕ) × ((slice_get kept.blocks i ≡ Some b) × (b.places ≡ places_at kept source k)))
kept_at kept source k j p h = by (position_of kept.index source k) refl h
  where
    by : (o : Option ℕ) → position_of kept.index source k ≡ o → slice_get (option_map_or (λ b. b.places) (option_and_then (slice_get kept.blocks) o) []) j ≡ Some p
        → (b : KeptBlock) × ((i : ℕ) × ((slice_get kept.blocks i ≡ Some b) × (b.places ≡ places_at kept source k)))
    by None g t = absurd (cc)
    by (Some i) g t = at (slice_get kept.blocks i) refl t
      where
        at : (o : Option KeptBlock) → slice_get kept.blocks i ≡ o → slice_get (option_map_or (λ b. b.places) o []) j ≡ Some p
            → (b : KeptBlock) × ((i : ℕ) × ((slice_get kept.blocks i ≡ Some b) × (b.places ≡ places_at kept source k)))
        at None f t = absurd (cc)
        at (Some b) f t = (b, (i, (f, sym (ap (λ o. option_map_or (λ b. b.places) (option_and_then (slice_get kept.blocks) o) []) g ∙ ap (λ o. option_map_or (λ b. b.places) o []) f))))

-- all blocks are handled
pub all_handled : SetLaws → (A : List EventValue) (peer own : Sources) (kept : KeptBlocks) (found : BTreeSet ℕ) → AreEvents A → IsKeptOf A kept → Tells (set_of A) peer own
    → AreHandled A peer own kept.blocks found (length kept.blocks) → AreAll (set_of A) peer found
all_handled sets A peer own kept found are is tells done i e here lacks =
    let wants : is_wanting peer own e ≡ true = sym (tells e) ∙ lacks in
    let came = came_at sets A i e are here in
    let number = wanting_number peer own e wants in
    let k = block_of number.0 in
    let inside = in_own_block e number.0 number.1 in
    let place = place_there A (source_of e) k came.0 e came.1 inside in
    let block = kept_at kept (source_of e) k place.0 came.0 (ap (λ l. slice_get l place.0) (is.places (source_of e) k) ∙ place.1) in
    done block.1.0 block.0.places (slice_get_within kept.blocks block.1.0 block.0 block.1.1.0) (map_at kept.blocks block.1.0 block.0 block.1.1.0) (source_of e) k (block.1.1.1 ∙ is.places (source_of e) k) came.0 e came.1 inside wants e i came.1 here

-- ---- what is left behind a place
-- places at which nothing stands that the peer lacks are passed
pub skipped : (E : List EventValue) (peer : Sources) (places : BTreeSet ℕ) (d i : ℕ) → AreAll E peer places → i + d ≤ length E → ((q : ℕ) → i ≤ q → q < i + d → contains nat_cmp places q ≡ false)
    → lacking_of E peer (drop i E) ≡ lacking_of E peer (drop (i + d) E)
skipped E peer places zero i all within none = let e0 : i ≡ i + 0 = omega arith in ap (λ n. lacking_of E peer (drop n E)) e0
skipped E peer places (suc d) i all within none =
    let here : i < length E = omega (arith, within) in
    let e = item E i here in
    let out : is_lacking E peer e.0 ≡ false = elim (cases_Bool (is_lacking E peer e.0)) [
      | inl t ↦ absurd (true≢false (sym (all i e.0 e.1 t) ∙ none i (omega arith) (omega arith)))
      | inr f ↦ f
    ] in
    let e0 : (i + 1) + d ≡ i + suc d = omega arith in
    filter_left_out (is_lacking E peer) E i e.0 e.1 out
    ∙ skipped E peer places d (i + 1) all (omega (arith, within)) (λ q low high. none q (omega arith) (omega arith))
    ∙ ap (λ n. lacking_of E peer (drop n E)) e0
  where
    item : (L : List EventValue) (j : ℕ) → j < length L → (x : EventValue) × (slice_get L j ≡ Some x)
    item [] j l = absurd (omega arith)
    item (x ∷ xs) zero l = (x, refl)
    item (x ∷ xs) (suc j) l = item xs j (omega arith)

pub filled : {X : Type 0} (L : List X) (x : X) (rest : List X) → L ≡ x ∷ rest → L ≢ []
filled L x rest h e = cc

pub skipped_to : (E : List EventValue) (peer : Sources) (places : BTreeSet ℕ) (from to : ℕ) → AreAll E peer places → from ≤ to → to ≤ length E → ((q : ℕ) → from ≤ q → q < to → contains nat_cmp places q ≡ false)
    → lacking_of E peer (drop from E) ≡ lacking_of E peer (drop to E)
skipped_to E peer places from to all up within none =
    let e0 : from + (to - from) ≡ to = omega (arith, up) in
    skipped E peer places (to - from) from all (omega (arith, up, within)) (λ q low high. none q low (omega (arith, up, high))) ∙ ap (λ n. lacking_of E peer (drop n E)) e0

-- a page on which there is room, and something to come, isn't empty
pub page_filled : {X : Type 0} (limit : ℕ) (b R T : List X) → length b < limit → b ++ R ≡ T → R ≢ [] → take limit T ≢ []
page_filled limit b R T room whole some empty =
    some_length R some (omega (arith, ap length empty, length-take limit T, ap length whole, length-append b R, room))
  where
    some_length : {X : Type 0} (L : List X) → L ≢ [] → length L ≡ 0 → ⊥
    some_length [] h e = h refl
    some_length (x ∷ xs) h e = omega (arith, e)

-- the block at a place
pub same_places : (blocks : List KeptBlock) (j i : ℕ) (ps qs : List ℕ) → j ≡ i → slice_get (map (λ b. b.places) blocks) j ≡ Some ps → slice_get (map (λ b. b.places) blocks) i ≡ Some qs → ps ≡ qs
same_places blocks j i ps qs e h g = some_is ps qs (sym h ∙ ap (slice_get (map (λ b. b.places) blocks)) e ∙ g)
