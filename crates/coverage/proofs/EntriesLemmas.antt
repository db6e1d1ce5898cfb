-- Entries in byte order of their sources: look-ups, and what one more entry changes.
use Rattle.std.proofs.Common.{is_eq, ◌≡◌, ℕ, zero, suc, ◌+◌, ◌<◌, ◌==◌, Bool, true, false, cond, ◌||◌, ◌&&◌, ◌⊎◌, List, [], ◌∷◌, length, length-append, get_or, ◌++◌, append_assoc, append-nil, Option, Some, None, Result, Ok, Err, Bor, MutBor, rules, refl, sym, ap, ap₂, subst, ◌∙◌, arith, inl, inr, le_of_suc-le-suc, not-suc-le-zero, eq-eqb}
use Rattle.std.proofs.lemmas.Bool.{cases_Bool, both_ways}
use Rattle.std.proofs.lemmas.Slice.Eq.{bytes_eq-Decides}
use Rattle.std.proofs.lemmas.Cmp.{nat_list_cmp_total}
use Rattle.std.proofs.lemmas.Map.Lookups.{exact_bytes}
use Rattle.std.proofs.Math.Bool.{or-false}
use Rattle.std.proofs.lemmas.Map.Text.{is_eq-slice_cmp, text_cmp}
use Rattle.std.specs.Str.{bytes_eq}
use Rattle.std.specs.Cmp.{Equal-is}
use Rattle.std.specs.Ordering.{match_ordering, ordering_reverse}
use Rattle.std.specs.declared.cmp.Ordering.{Ordering}
use Rattle.std.specs.declared.cmp.Ordering.TheVariants.{Less, Equal, Greater}
use Rattle.std.specs.BTreeMap.{BTreeMap, insert_entry, is_at}
use Rattle.std.specs.List.{AllByRecursion, slice_get}
use Rattle.std.specs.Option.{unwrap_or, option_copied, option_copied_mut, MatchOption, IfSome}
use Rattle.std.specs.Result.{OnOk, OnErr}
use Rattle.std.specs.Prelude.{◌≢◌, map}
use Rattle.std.specs.Map.Iter.{deref_pair}
use Rattle.std.proofs.lemmas.Map.Steps.{set_value_same}
use Rattle.std.specs.String.{string_bytes, string_cmp}
use Rattle.std.specs.declared.string.String.{String}
use Rattle.std.specs.List.Sorted.{IsStrictlySortedBy}
use Rattle.std.specs.Map.{keys_of, lookup, set_value}
use Rattle.std.proofs.lemmas.Map.Keys.{sorted_head, sorted_tail}
use Rattle.coverage.specs.Intervals.{Interval, holds, IsCanonical}
use Rattle.coverage.specs.Numbers.{byte_cmp, Entry, Entries, IsEntry, AreEntries, AreSourcesInOrder, AreListed, numbers_in, holds_in, names_in}
use Rattle.coverage.specs.steps.Places.{entry_at, EndsBefore}
use Rattle.coverage.specs.steps.Entries.{entry_in, sources_in}
use Rattle.coverage.proofs.HoldsLemmas.{holds-nil}

-- ---- texts
pub bytes_eq-same : (s : List ℕ) → bytes_eq s s ≡ true
bytes_eq-same s = (bytes_eq-Decides s s).1 refl

pub bytes_eq-equal : (s k : List ℕ) → bytes_eq s k ≡ true → s ≡ k
bytes_eq-equal s k = (bytes_eq-Decides s k).0

pub bytes_eq-other : (s k : List ℕ) → (s ≡ k → ⊥) → bytes_eq s k ≡ false
bytes_eq-other s k h = elim (cases_Bool (bytes_eq s k)) [ inl t ↦ absurd (h (bytes_eq-equal s k t)) | inr f ↦ f ]

pub bytes_eq-apart : (s k : List ℕ) → bytes_eq s k ≡ false → s ≡ k → ⊥
bytes_eq-apart s k f e = both_ways _ f ((bytes_eq-Decides s k).1 e)

pub byte_cmp-same : (s k : List ℕ) → s ≡ k → byte_cmp s k ≡ Equal
byte_cmp-same s k e = (Equal-is _).0 (is_eq-slice_cmp s k ∙ (bytes_eq-Decides s k).1 e)

pub is_one_source : (s k : List ℕ) → is_eq (byte_cmp s k) ≡ bytes_eq s k
is_one_source s k = is_eq-slice_cmp s k

pub byte_cmp-flip : (x y : List ℕ) → byte_cmp x y ≡ ordering_reverse (byte_cmp y x)
byte_cmp-flip x y = nat_list_cmp_total.antisymm x y

pub byte_cmp-chain : (x y z : List ℕ) → byte_cmp x y ≡ Less → byte_cmp y z ≡ Less → byte_cmp x z ≡ Less
byte_cmp-chain x y z = nat_list_cmp_total.trans x y z

less_not_equal : (o : Ordering) → o ≡ Less → o ≡ Equal → ⊥
less_not_equal o p q = cc

greater_not_equal : (o : Ordering) → o ≡ Greater → o ≡ Equal → ⊥
greater_not_equal o p q = cc

pub apart_from_less : (x y : List ℕ) → byte_cmp x y ≡ Less → x ≡ y → ⊥
apart_from_less x y h e = less_not_equal _ h (byte_cmp-same x y e)

pub apart_from_greater : (x y : List ℕ) → byte_cmp x y ≡ Greater → x ≡ y → ⊥
apart_from_greater x y h e = greater_not_equal _ h (byte_cmp-same x y e)

pub greater_from_less : (x y : List ℕ) → byte_cmp x y ≡ Less → byte_cmp y x ≡ Greater
greater_from_less x y h = byte_cmp-flip y x ∙ ap ordering_reverse h

pub less_from_greater : (x y : List ℕ) → byte_cmp x y ≡ Greater → byte_cmp y x ≡ Less
less_from_greater x y h = byte_cmp-flip y x ∙ ap ordering_reverse h

pub cases_order : (o : Ordering) → (o ≡ Less) ⊎ ((o ≡ Equal) ⊎ (o ≡ Greater))
cases_order Less = inl refl
cases_order Equal = inr (inl refl)
cases_order Greater = inr (inr refl)

-- ---- the numbers of a source
pub numbers_in-head : (e : Entry) (es : Entries) (s : List ℕ) → s ≡ e.0 → numbers_in (e ∷ es) s ≡ e.1
numbers_in-head e es s h = ap (λ b. cond b e.1 (numbers_in es s)) ((bytes_eq-Decides s e.0).1 h)

pub numbers_in-tail : (e : Entry) (es : Entries) (s : List ℕ) → (s ≡ e.0 → ⊥) → numbers_in (e ∷ es) s ≡ numbers_in es s
numbers_in-tail e es s h = ap (λ b. cond b e.1 (numbers_in es s)) (bytes_eq-other s e.0 h)

pub numbers_in-nowhere : (es : Entries) (s : List ℕ) → ((k : ℕ) → k < length es → s ≡ (entry_at es k).0 → ⊥) → numbers_in es s ≡ []
numbers_in-nowhere [] s h = refl
numbers_in-nowhere (e ∷ es) s h =
    numbers_in-tail e es s (h zero (omega arith)) ∙ numbers_in-nowhere es s (λ k hk. h (suc k) (omega arith))

-- ---- by places
-- what is below each source of a list is below the one at a place
below_at : (q : List ℕ) (es : Entries) (i : ℕ) → AllByRecursion (λ y. byte_cmp q y ≡ Less) (keys_of es) → i < length es → byte_cmp q (entry_at es i).0 ≡ Less
below_at q [] i h hi = absurd (not-suc-le-zero hi)
below_at q (e ∷ es) zero h hi = h.0
below_at q (e ∷ es) (suc i) h hi = below_at q es i h.1 (le_of_suc-le-suc hi)

pub InOrder-at : (es : Entries) (i j : ℕ) → AreSourcesInOrder es → i < j → j < length es → byte_cmp (entry_at es i).0 (entry_at es j).0 ≡ Less
InOrder-at [] i j h lt hj = absurd (not-suc-le-zero hj)
InOrder-at (e ∷ es) i zero h lt hj = absurd (not-suc-le-zero lt)
InOrder-at (e ∷ es) zero (suc j) h lt hj = below_at e.0 es j (sorted_head _ e.0 (keys_of es) h) (le_of_suc-le-suc hj)
InOrder-at (e ∷ es) (suc i) (suc j) h lt hj = InOrder-at es i j (sorted_tail _ e.0 (keys_of es) h) (le_of_suc-le-suc lt) (le_of_suc-le-suc hj)

-- ---- one more entry
entry_less : {X : Type 0} (e : List ℕ × X) (es : List (List ℕ × X)) (k : List ℕ) (v : X) → byte_cmp k e.0 ≡ Less → insert_entry byte_cmp (e ∷ es) k v ≡ (k, v) ∷ e ∷ es
entry_less e es k v h = ap (λ o. match_ordering o ((k, v) ∷ e ∷ es) ((e.0, v) ∷ es) (e ∷ insert_entry byte_cmp es k v)) h

entry_equal : {X : Type 0} (e : List ℕ × X) (es : List (List ℕ × X)) (k : List ℕ) (v : X) → byte_cmp k e.0 ≡ Equal → insert_entry byte_cmp (e ∷ es) k v ≡ (e.0, v) ∷ es
entry_equal e es k v h = ap (λ o. match_ordering o ((k, v) ∷ e ∷ es) ((e.0, v) ∷ es) (e ∷ insert_entry byte_cmp es k v)) h

entry_greater : {X : Type 0} (e : List ℕ × X) (es : List (List ℕ × X)) (k : List ℕ) (v : X) → byte_cmp k e.0 ≡ Greater → insert_entry byte_cmp (e ∷ es) k v ≡ e ∷ insert_entry byte_cmp es k v
entry_greater e es k v h = ap (λ o. match_ordering o ((k, v) ∷ e ∷ es) ((e.0, v) ∷ es) (e ∷ insert_entry byte_cmp es k v)) h

pub numbers_in-insert_entry : (es : Entries) (k : List ℕ) (v : List Interval) (s : List ℕ) → numbers_in (insert_entry byte_cmp es k v) s ≡ cond (bytes_eq s k) v (numbers_in es s)
numbers_in-insert_entry [] k v s = refl
numbers_in-insert_entry (e ∷ es) k v s = elim (cases_order (byte_cmp k e.0)) [
  | inl less ↦ ap (λ l. numbers_in l s) (entry_less e es k v less)
  | inr (inl equal) ↦
      ap (λ l. numbers_in l s) (entry_equal e es k v equal)
      ∙ ap (λ b. cond b v (numbers_in es s)) (ap (bytes_eq s) (sym (exact_bytes k e.0 equal)))
      ∙ elim (cases_Bool (bytes_eq s k)) [
        | inl t ↦ rw t refl
        | inr f ↦ rw f (sym (numbers_in-tail e es s (λ same. bytes_eq-apart s k f (same ∙ sym (exact_bytes k e.0 equal)))))
      ]
  | inr (inr greater) ↦
      ap (λ l. numbers_in l s) (entry_greater e es k v greater)
      ∙ ap (λ l. cond (bytes_eq s e.0) e.1 l) (numbers_in-insert_entry es k v s)
      ∙ elim (cases_Bool (bytes_eq s k)) [
        | inl t ↦
            let other : bytes_eq s e.0 ≡ false = bytes_eq-other s e.0 (λ same. apart_from_greater k e.0 greater (sym (bytes_eq-equal s k t) ∙ same)) in
            rw (t, other) refl
        | inr f ↦ rw f refl
      ]
]

pub AreEntries-insert_entry : (es : Entries) (k : List ℕ) (v : List Interval) → AreEntries es → IsEntry (k, v) → AreEntries (insert_entry byte_cmp es k v)
AreEntries-insert_entry [] k v h new = (new, tt)
AreEntries-insert_entry (e ∷ es) k v h new = elim (cases_order (byte_cmp k e.0)) [
  | inl less ↦ subst AreEntries (sym (entry_less e es k v less)) (new, h)
  | inr (inl equal) ↦ subst AreEntries (sym (entry_equal e es k v equal)) ((h.0.0, h.0.1, new.2, new.3), h.1)
  | inr (inr greater) ↦ subst AreEntries (sym (entry_greater e es k v greater)) (h.0, AreEntries-insert_entry es k v h.1 new)
]

above_chain : (q k : List ℕ) (ks : List (List ℕ)) → byte_cmp q k ≡ Less → AllByRecursion (λ y. byte_cmp k y ≡ Less) ks → AllByRecursion (λ y. byte_cmp q y ≡ Less) ks
above_chain q k [] h a = tt
above_chain q k (x ∷ xs) h a = (byte_cmp-chain q k x h a.0, above_chain q k xs h a.1)

above_entry : {X : Type 0} (q : List ℕ) (es : List (List ℕ × X)) (k : List ℕ) (v : X) → AllByRecursion (λ y. byte_cmp q y ≡ Less) (keys_of es) → byte_cmp q k ≡ Less →
    AllByRecursion (λ y. byte_cmp q y ≡ Less) (keys_of (insert_entry byte_cmp es k v))
above_entry q [] k v h new = (new, tt)
above_entry {X} q (e ∷ es) k v h new =
    let Above : List (List ℕ × X) → Type 0 = λ l. AllByRecursion (λ y. byte_cmp q y ≡ Less) (keys_of l) in
    elim (cases_order (byte_cmp k e.0)) [
      | inl less ↦ subst Above (sym (entry_less e es k v less)) (new, h)
      | inr (inl equal) ↦ subst Above (sym (entry_equal e es k v equal)) h
      | inr (inr greater) ↦ subst Above (sym (entry_greater e es k v greater)) (h.0, above_entry q es k v h.1 new)
    ]

pub InOrder-cons : {X : Type 0} (e : List ℕ × X) (es : List (List ℕ × X)) → AllByRecursion (λ y. byte_cmp e.0 y ≡ Less) (keys_of es) → IsStrictlySortedBy byte_cmp (keys_of es) → IsStrictlySortedBy byte_cmp (keys_of (e ∷ es))
unfolding IsStrictlySortedBy
InOrder-cons e es h t = (h, t)

pub InOrder-nil : AreSourcesInOrder []
unfolding IsStrictlySortedBy
InOrder-nil = tt

pub InOrder-insert_entry : {X : Type 0} (es : List (List ℕ × X)) (k : List ℕ) (v : X) → IsStrictlySortedBy byte_cmp (keys_of es) → IsStrictlySortedBy byte_cmp (keys_of (insert_entry byte_cmp es k v))
InOrder-insert_entry [] k v h = InOrder-cons (k, v) [] tt InOrder-nil
InOrder-insert_entry {X} (e ∷ es) k v h =
    let Rises : List (List ℕ × X) → Type 0 = λ l. IsStrictlySortedBy byte_cmp (keys_of l) in
    let head = sorted_head byte_cmp e.0 (keys_of es) h in
    let tail = sorted_tail byte_cmp e.0 (keys_of es) h in
    elim (cases_order (byte_cmp k e.0)) [
      | inl less ↦ subst Rises (sym (entry_less e es k v less)) (InOrder-cons (k, v) (e ∷ es) (less, above_chain k e.0 (keys_of es) less head) h)
      | inr (inl equal) ↦ subst Rises (sym (entry_equal e es k v equal)) (InOrder-cons (e.0, v) es head tail)
      | inr (inr greater) ↦ subst Rises (sym (entry_greater e es k v greater)) (InOrder-cons e (insert_entry byte_cmp es k v) (above_entry e.0 es k v head (less_from_greater k e.0 greater)) (InOrder-insert_entry es k v tail))
    ]

pub AreListed-insert_entry : (es : Entries) (k : List ℕ) (v : List Interval) → AreListed es → IsEntry (k, v) → AreListed (insert_entry byte_cmp es k v)
AreListed-insert_entry es k v h new = (AreEntries-insert_entry es k v h.0 new, InOrder-insert_entry es k v h.1)

-- more numbers for the source
pub holds_in-insert_entry : (es : Entries) (k : List ℕ) (v : List Interval) (f : ℕ → Bool) → ((m : ℕ) → holds v m ≡ (holds (numbers_in es k) m || f m))
    → (s : List ℕ) (m : ℕ) → holds_in (insert_entry byte_cmp es k v) s m ≡ (holds_in es s m || (bytes_eq s k && f m))
holds_in-insert_entry es k v f h s m =
    ap (λ l. holds l m) (numbers_in-insert_entry es k v s) ∙ elim (cases_Bool (bytes_eq s k)) [
      | inl t ↦ rw t (h m ∙ ap (λ x. holds_in es x m || f m) (sym (bytes_eq-equal s k t)))
      | inr no_match ↦ rw no_match (sym (or-false _))
    ]

pub holds_some : (ps : List Interval) (n : ℕ) → holds ps n ≡ true → ps ≡ [] → ⊥
holds_some ps n h e = both_ways _ (ap (λ l. holds l n) e ∙ holds-nil n) h

-- where a number is added there is one
pub some_added : (new old : List Interval) (n : ℕ) → ((m : ℕ) → holds new m ≡ (holds old m || (m == n))) → new ≡ [] → ⊥
some_added new old n h = holds_some new n (h n ∙ (elim (cases_Bool (holds old n)) [
  | inl t ↦ rw t refl
  | inr f ↦ rw f (eq-eqb n n refl)
]))

-- where the call failed the numbers are those of before
pub some_after : {T E : Type 0} (r : Result T E) (old new : List Interval) (n : ℕ) → OnOk r ((m : ℕ) → holds new m ≡ (holds old m || (m == n))) → OnErr r (new ≡ old) → (old ≡ [] → ⊥) → new ≡ [] → ⊥
some_after (Ok b) old new n ok err some = some_added new old n ok
some_after (Err e) old new n ok err some = λ none. some (sym err ∙ none)

pub OnOk-along : {T E : Type 0} (r : Result T E) (P Q : Type 0) → (P → Q) → OnOk r P → OnOk r Q
OnOk-along (Ok b) P Q f h = f h
OnOk-along (Err e) P Q f h = h

pub OnErr-along : {T E : Type 0} (r : Result T E) (P Q : Type 0) → (P → Q) → OnErr r P → OnErr r Q
OnErr-along (Ok b) P Q f h = h
OnErr-along (Err e) P Q f h = f h

-- an entry of the list
pub AreEntries-at : (es : Entries) (i : ℕ) → AreEntries es → i < length es → IsEntry (entry_at es i)
AreEntries-at [] i h hi = absurd (not-suc-le-zero hi)
AreEntries-at (e ∷ es) zero h hi = h.0
AreEntries-at (e ∷ es) (suc i) h hi = AreEntries-at es i h.1 (le_of_suc-le-suc hi)

-- ---- a map by source
-- what is below each source, and is not below the source that is looked up, stands before it
found_above : {Y : Type 0} (q bs : List ℕ) (es : List (String Y × List Interval)) (v : List Interval) → AllByRecursion (λ y. byte_cmp q y ≡ Less) (keys_of (sources_in es))
    → lookup (is_at (text_cmp bs)) es ≡ Some v → byte_cmp q bs ≡ Less
found_above q bs [] v h f = absurd (none_is_not_some v f)
  where
    none_is_not_some : (w : List Interval) → None ≡ Some w → ⊥
    none_is_not_some w e = cc
found_above {Y} q bs (e ∷ es) v h f = elim (cases_Bool (bytes_eq bs (string_bytes e.0))) [
  | inl t ↦ subst (λ k. byte_cmp q k ≡ Less) (sym (bytes_eq-equal bs (string_bytes e.0) t)) h.0
  | inr no_match ↦ found_above q bs es v h.1 (sym (ap (λ b. cond b (Some e.1) (lookup (is_at (text_cmp bs)) es)) (is_eq-slice_cmp bs (string_bytes e.0) ∙ no_match)) ∙ f)
]

-- the numbers of a source are those that the map has at it
pub numbers_in-lookup : {Y : Type 0} (es : List (String Y × List Interval)) (bs : List ℕ) → numbers_in (sources_in es) bs ≡ unwrap_or (lookup (is_at (text_cmp bs)) es) []
numbers_in-lookup [] bs = refl
numbers_in-lookup (e ∷ es) bs =
    rw (is_eq-slice_cmp bs (string_bytes e.0)) (elim (cases_Bool (bytes_eq bs (string_bytes e.0))) [
      | inl t ↦ rw t refl
      | inr f ↦ rw f (numbers_in-lookup es bs)
    ])

pub numbers_at : {Y : Type 0} (es : List (String Y × List Interval)) (now : Entries) (bs source : List ℕ) (o : Option (List Interval)) → sources_in es ≡ now → bs ≡ source
    → o ≡ lookup (is_at (text_cmp bs)) es → numbers_in now source ≡ unwrap_or o []
numbers_at es now bs source o seen same found =
    ap₂ numbers_in (sym seen) (sym same) ∙ numbers_in-lookup es bs ∙ ap (λ p. unwrap_or p []) (sym found)

pub entry_found : {Y : Type 0} (es : List (String Y × List Interval)) (bs : List ℕ) (v : List Interval) → AreEntries (sources_in es) → Some v ≡ lookup (is_at (text_cmp bs)) es → (v ≢ []) × IsCanonical v
entry_found [] bs v h f = absurd (some_is_not_none v f)
  where
    some_is_not_none : (w : List Interval) → Some w ≡ None → ⊥
    some_is_not_none w e = cc
entry_found (e ∷ es) bs v h f = elim (cases_Bool (is_at (text_cmp bs) e.0)) [
  | inl t ↦
      let same : v ≡ e.1 = same_some v e.1 (rw t at f) in
      subst (λ w. (w ≢ []) × IsCanonical w) (sym same) (h.0.2, h.0.3)
  | inr no_match ↦ entry_found es bs v h.1 (rw no_match at f)
]
  where
    same_some : (a b : List Interval) → Some a ≡ Some b → a ≡ b
    same_some a b p = cc

-- what a look-up in the map answers
pub numbers_found : {Y : Type 0} (r : Option (Bor (List Interval))) (es : List (String Y × List Interval)) (now : Entries) (bs : List ℕ) → sources_in es ≡ now → option_copied r ≡ lookup (is_at (text_cmp bs)) es
    → MatchOption r (numbers_in now bs ≡ []) (λ i. i.now ≡ numbers_in now bs)
numbers_found None es now bs seen found = numbers_at es now bs bs None seen refl found
numbers_found (Some i) es now bs seen found = sym (numbers_at es now bs bs (Some i.now) seen refl found)

pub some_found : {Y : Type 0} (r : Option (Bor (List Interval))) (es : List (String Y × List Interval)) (bs : List ℕ) → AreListed (sources_in es) → option_copied r ≡ lookup (is_at (text_cmp bs)) es
    → IfSome r (λ i. i.now ≢ [])
some_found None es bs h found = search rules
some_found (Some i) es bs h found = (entry_found es bs i.now h.0 found).0

pub canonical_found : {Y : Type 0} (r : Option (Bor (List Interval))) (es : List (String Y × List Interval)) (bs : List ℕ) → AreListed (sources_in es) → option_copied r ≡ lookup (is_at (text_cmp bs)) es
    → IfSome r (λ i. IsCanonical i.now)
canonical_found None es bs h found = search rules
canonical_found (Some i) es bs h found = (entry_found es bs i.now h.0 found).1

-- an entry that the map takes
pub sources_in-insert_entry : {Y : Type 0} (es : List (String Y × List Interval)) (k : String Y) (v : List Interval) → sources_in (insert_entry string_cmp es k v) ≡ insert_entry byte_cmp (sources_in es) (string_bytes k) v
sources_in-insert_entry [] k v = refl
sources_in-insert_entry (e ∷ es) k v = elim (cases_order (byte_cmp (string_bytes k) (string_bytes e.0))) [
  | inl less ↦ rw less refl
  | inr (inl equal) ↦ rw equal refl
  | inr (inr greater) ↦ rw greater (ap (λ l. entry_in e ∷ l) (sources_in-insert_entry es k v))
]

-- other numbers at a source that the map has
pub sources_in-set_value : {Y : Type 0} (es : List (String Y × List Interval)) (bs : List ℕ) (v w : List Interval) → lookup (is_at (text_cmp bs)) es ≡ Some v → AreSourcesInOrder (sources_in es)
    → sources_in (set_value (is_at (text_cmp bs)) es w) ≡ insert_entry byte_cmp (sources_in es) bs w
sources_in-set_value [] bs v w f h = absurd (none_is_not_some v f)
  where
    none_is_not_some : (w : List Interval) → None ≡ Some w → ⊥
    none_is_not_some w e = cc
sources_in-set_value (e ∷ es) bs v w f h = elim (cases_order (byte_cmp bs (string_bytes e.0))) [
  | inl less ↦
      let later = found_above (string_bytes e.0) bs es v (sorted_head _ (string_bytes e.0) (keys_of (sources_in es)) h) (rw less at f) in
      absurd (less_not_greater _ less (greater_from_less (string_bytes e.0) bs later))
  | inr (inl equal) ↦ rw equal refl
  | inr (inr greater) ↦
      rw greater (ap (λ l. entry_in e ∷ l) (sources_in-set_value es bs v w (rw greater at f) (sorted_tail _ (string_bytes e.0) (keys_of (sources_in es)) h)))
]
  where
    less_not_greater : (o : Ordering) → o ≡ Less → o ≡ Greater → ⊥
    less_not_greater o p q = cc

-- a summary after a change at a source
pub put_found : {Y : Type 0} (m n : List (String Y × List Interval)) (now : Entries) (bs source : List ℕ) (v w : List Interval) → sources_in m ≡ now → bs ≡ source → Some v ≡ lookup (is_at (text_cmp bs)) m
    → AreListed now → n ≡ set_value (is_at (text_cmp bs)) m w → sources_in n ≡ insert_entry byte_cmp now source w
put_found m n now bs source v w seen same found h is =
    ap sources_in is
    ∙ sources_in-set_value m bs v w (sym found) (subst AreSourcesInOrder (sym seen) h.1)
    ∙ ap₂ (λ (l : Entries) (k : List ℕ). insert_entry byte_cmp l k w) seen same

pub put_new : {Y : Type 0} (m n : List (String Y × List Interval)) (now : Entries) (k : String Y) (source : List ℕ) (w : List Interval) → sources_in m ≡ now → string_bytes k ≡ source → n ≡ insert_entry string_cmp m k w
    → sources_in n ≡ insert_entry byte_cmp now source w
put_new m n now k source w seen same is =
    ap sources_in is
    ∙ sources_in-insert_entry m k w
    ∙ ap₂ (λ (l : Entries) (s : List ℕ). insert_entry byte_cmp l s w) seen same

-- where the map has nothing at the source
pub absent_at : {Y : Type 0} (r : Option (MutBor (List Interval))) (m n : BTreeMap (String Y) (List Interval)) (now : Entries) (bs source : List ℕ) → sources_in m.entries ≡ now → bs ≡ source → r ≡ None
    → option_copied_mut r ≡ lookup (is_at (text_cmp bs)) m.entries → n ≡ m → (numbers_in now source ≡ []) × (sources_in n.entries ≡ now)
absent_at r m n now bs source seen same none found kept =
    (numbers_at m.entries now bs source None seen same (sym (ap option_copied_mut none) ∙ found), ap (λ l. sources_in l.entries) kept ∙ seen)

-- what was read, put back
pub put_back : {Y : Type 0} (m n : List (String Y × List Interval)) (now : Entries) (bs : List ℕ) (v w : List Interval) → sources_in m ≡ now → Some v ≡ lookup (is_at (text_cmp bs)) m
    → n ≡ set_value (is_at (text_cmp bs)) m w → w ≡ v → sources_in n ≡ now
put_back m n now bs v w seen found is same =
    ap sources_in (is ∙ ap (set_value (is_at (text_cmp bs)) m) same ∙ set_value_same (is_at (text_cmp bs)) m v (sym found)) ∙ seen

pub AreListed-put : (now new : Entries) (source : List ℕ) (w : List Interval) → AreListed now → new ≡ insert_entry byte_cmp now source w → IsEntry (source, w) → AreListed new
AreListed-put now new source w h put entry = subst AreListed (sym put) (AreListed-insert_entry now source w h entry)

pub holds_in-put : (now new : Entries) (source : List ℕ) (w : List Interval) (f : ℕ → Bool) → new ≡ insert_entry byte_cmp now source w → ((m : ℕ) → holds w m ≡ (holds (numbers_in now source) m || f m))
    → (s : List ℕ) (m : ℕ) → holds_in new s m ≡ (holds_in now s m || (bytes_eq s source && f m))
holds_in-put now new source w f put members s m =
    ap (λ l. holds_in l s m) put ∙ holds_in-insert_entry now source w f members s m

-- an entry behind all others
pub insert_entry-last : (es : Entries) (k : List ℕ) (v : List Interval) → EndsBefore es k → insert_entry byte_cmp es k v ≡ es ++ (k, v) ∷ []
insert_entry-last [] k v h = refl
insert_entry-last (e ∷ es) k v h =
    entry_greater e es k v (greater_from_less e.0 k (h zero (omega arith)))
    ∙ ap (λ l. e ∷ l) (insert_entry-last es k v (λ i hi. h (suc i) (omega arith)))

-- ---- an entry behind all others
ends_before_tail : (e : Entry) (es : Entries) (key : List ℕ) → EndsBefore (e ∷ es) key → EndsBefore es key
ends_before_tail e es key h k hk = h (suc k) (omega arith)

-- an entry at the end, above all others
pub numbers_in-push : (es : Entries) (p : Entry) (s : List ℕ) → EndsBefore es p.0 → numbers_in (es ++ p ∷ []) s ≡ cond (bytes_eq s p.0) p.1 (numbers_in es s)
numbers_in-push [] p s h = refl
numbers_in-push (e ∷ es) p s h =
    ap (λ l. cond (bytes_eq s e.0) e.1 l) (numbers_in-push es p s (ends_before_tail e es p.0 h)) ∙ elim (cases_Bool (bytes_eq s e.0)) [
      | inl t ↦
          let below : byte_cmp e.0 p.0 ≡ Less = h zero (omega arith) in
          let other : bytes_eq s p.0 ≡ false = elim (cases_Bool (bytes_eq s p.0)) [
            | inl u ↦ absurd (apart_from_less e.0 p.0 below (sym (bytes_eq-equal s e.0 t) ∙ bytes_eq-equal s p.0 u))
            | inr f ↦ f
          ] in
          rw (t, other) refl
      | inr f ↦ rw f refl
    ]

-- a source that is below none is absent
numbers_in-before : (es : Entries) (s : List ℕ) → EndsBefore es s → numbers_in es s ≡ []
numbers_in-before [] s h = refl
numbers_in-before (e ∷ es) s h =
    numbers_in-tail e es s (λ same. apart_from_less e.0 s (h zero (omega arith)) (sym same)) ∙ numbers_in-before es s (ends_before_tail e es s h)

pub holds_in-push : (es : Entries) (p : Entry) (s : List ℕ) (n : ℕ) → EndsBefore es p.0 → holds_in (es ++ p ∷ []) s n ≡ (holds_in es s n || (bytes_eq s p.0 && holds p.1 n))
holds_in-push es p s n h =
    ap (λ l. holds l n) (numbers_in-push es p s h) ∙ elim (cases_Bool (bytes_eq s p.0)) [
      | inl t ↦
          let absent : holds_in es s n ≡ false = ap (holds_in es s) refl ∙ ap (λ x. holds_in es x n) (bytes_eq-equal s p.0 t) ∙ ap (λ l. holds l n) (numbers_in-before es p.0 h) ∙ holds-nil n in
          rw (t, absent) refl
      | inr f ↦ rw f (sym (or-false _))
    ]

pub AreEntries-push : (es : Entries) (p : Entry) → AreEntries es → IsEntry p → AreEntries (es ++ p ∷ [])
AreEntries-push [] p h new = (new, tt)
AreEntries-push (e ∷ es) p h new = (h.0, AreEntries-push es p h.1 new)

above_push : (q : List ℕ) (es : Entries) (p : Entry) → AllByRecursion (λ y. byte_cmp q y ≡ Less) (keys_of es) → byte_cmp q p.0 ≡ Less → AllByRecursion (λ y. byte_cmp q y ≡ Less) (keys_of (es ++ p ∷ []))
above_push q [] p h new = (new, tt)
above_push q (e ∷ es) p h new = (h.0, above_push q es p h.1 new)

pub InOrder-push : (es : Entries) (p : Entry) → AreSourcesInOrder es → EndsBefore es p.0 → AreSourcesInOrder (es ++ p ∷ [])
InOrder-push [] p h new = InOrder-cons p [] tt InOrder-nil
InOrder-push (e ∷ es) p h new =
    let head = sorted_head byte_cmp e.0 (keys_of es) h in
    let tail = sorted_tail byte_cmp e.0 (keys_of es) h in
    InOrder-cons e (es ++ p ∷ []) (above_push e.0 es p head (new zero (omega arith))) (InOrder-push es p tail (ends_before_tail e es p.0 new))

pub AreListed-push : (es : Entries) (p : Entry) → AreListed es → IsEntry p → EndsBefore es p.0 → AreListed (es ++ p ∷ [])
AreListed-push es p h new before = (AreEntries-push es p h.0 new, InOrder-push es p h.1 before)

-- ---- a pass over a summary
-- an entry between a front and a rest
pub entry_between : (es : Entries) (e : Entry) (rest : Entries) → AreEntries (es ++ e ∷ rest) → IsEntry e
entry_between [] e rest h = h.0
entry_between (x ∷ es) e rest h = entry_between es e rest h.1

pub before_between : (es : Entries) (e : Entry) (rest : Entries) → AreSourcesInOrder (es ++ e ∷ rest) → EndsBefore es e.0
before_between es e rest h k hk =
    let whole : Entries = es ++ e ∷ rest in
    let length_is : length whole ≡ length es + suc (length rest) = length-append es (e ∷ rest) in
    let at : byte_cmp (entry_at whole k).0 (entry_at whole (length es)).0 ≡ Less = InOrder-at whole k (length es) h hk (omega arith) in
    subst (λ (x : Entry). byte_cmp x.0 e.0 ≡ Less) (get_or-append-left es (e ∷ rest) k ([], []) hk)
    (subst (λ (x : Entry). byte_cmp (entry_at whole k).0 x.0 ≡ Less) (get_or-append-mid es (e ∷ rest)) at)
  where
    get_or-append-left : (xs ys : Entries) (k : ℕ) (d : Entry) → k < length xs → get_or (xs ++ ys) k d ≡ get_or xs k d
    get_or-append-left [] ys k d h = absurd (not-suc-le-zero h)
    get_or-append-left (x ∷ xs) ys zero d h = refl
    get_or-append-left (x ∷ xs) ys (suc k) d h = get_or-append-left xs ys k d (le_of_suc-le-suc h)

    get_or-append-mid : (xs ys : Entries) → get_or (xs ++ ys) (length xs) ([], []) ≡ get_or ys 0 ([], [])
    get_or-append-mid [] ys = refl
    get_or-append-mid (x ∷ xs) ys = get_or-append-mid xs ys

numbers_in-between : (done : Entries) (e : Entry) (rest : Entries) → EndsBefore done e.0 → numbers_in (done ++ e ∷ rest) e.0 ≡ e.1
numbers_in-between [] e rest h = numbers_in-head e rest e.0 refl
numbers_in-between (d ∷ done) e rest h =
    numbers_in-tail d (done ++ e ∷ rest) e.0 (λ same. apart_from_less d.0 e.0 (h zero (omega arith)) (sym same))
    ∙ numbers_in-between done e rest (ends_before_tail d done e.0 h)

-- the next entry of a pass that has done some entries and has others left
pub record IsNext (all done : Entries) (e : Entry) : Type 0 where
  pub is_entry : IsEntry e
  pub before : EndsBefore done e.0
  pub numbers : numbers_in all e.0 ≡ e.1

pub is_next : (all done left : Entries) (e : Entry) (rest : Entries) → AreListed all → done ++ left ≡ all → left ≡ e ∷ rest → IsNext all done e
is_next all done left e rest h split is =
    let whole : done ++ e ∷ rest ≡ all = ap (λ l. done ++ l) (sym is) ∙ split in
    let summary : AreListed (done ++ e ∷ rest) = subst AreListed (sym whole) h in
    let before : EndsBefore done e.0 = before_between done e rest summary.1 in record {
      is_entry = entry_between done e rest summary.0;
      before = before;
      numbers = ap (λ l. numbers_in l e.0) (sym whole) ∙ numbers_in-between done e rest before;
    }

-- one entry more is done
pub split_more : (all done left : Entries) (e : Entry) (rest : Entries) → done ++ left ≡ all → left ≡ e ∷ rest → (done ++ e ∷ []) ++ rest ≡ all
split_more all done left e rest split is = append_assoc done (e ∷ []) rest ∙ ap (λ l. done ++ l) (sym is) ∙ split

-- all entries are done
pub split_all : (all done left : Entries) → done ++ left ≡ all → left ≡ [] → done ≡ all
split_all all done left split none = sym (append-nil done) ∙ ap (λ l. done ++ l) (sym none) ∙ split

pub IsEntry-along : (s t : List ℕ) (v w : List Interval) → s ≡ t → v ≡ w → IsEntry (t, w) → IsEntry (s, v)
IsEntry-along s t v w p q h = subst IsEntry (sym (ap₂ (λ (a : List ℕ) (b : List Interval). (a, b)) p q)) h

-- an entry more in a copy
pub copied_more : (all own new left : Entries) (s t : List ℕ) (v w : List Interval) (rest : Entries) → own ++ left ≡ all → left ≡ (t, w) ∷ rest → s ≡ t → v ≡ w → new ≡ own ++ (s, v) ∷ [] → new ++ rest ≡ all
copied_more all own new left s t v w rest split is p q made =
    ap (λ l. l ++ rest) (made ∙ ap₂ (λ (a : List ℕ) (b : List Interval). own ++ (a, b) ∷ []) p q) ∙ split_more all own left (t, w) rest split is

-- an entry more in a list of references
pub listed_more : {Y : Type 0} (all : Entries) (items new : List (Bor (List ℕ) × Bor (List Interval))) (left : Entries) (x : Bor (List ℕ) × Bor (List Interval)) (k : String Y) (rest : Entries)
    → map deref_pair items ++ left ≡ all → left ≡ (string_bytes k, x.1.now) ∷ rest → x.0.now ≡ string_bytes k → new ≡ items ++ x ∷ [] → map deref_pair new ++ rest ≡ all
listed_more all items new left x k rest split is same made =
    ap (λ l. map deref_pair l ++ rest) made
    ∙ ap (λ l. l ++ rest) (map-push items)
    ∙ copied_more all (map deref_pair items) (map deref_pair items ++ deref_pair x ∷ []) left x.0.now (string_bytes k) x.1.now x.1.now rest split is same refl refl
  where
    map-push : (xs : List (Bor (List ℕ) × Bor (List Interval))) → map deref_pair (xs ++ x ∷ []) ≡ map deref_pair xs ++ deref_pair x ∷ []
    map-push [] = refl
    map-push (y ∷ ys) = ap (λ l. deref_pair y ∷ l) (map-push ys)

-- the key at a place is the source there
pub source_at_key : {Y : Type 0} (es : List (String Y × List Interval)) (now : Entries) (i : ℕ) (key : Bor (String Y)) (text : List ℕ) → sources_in es ≡ now → Some key.now ≡ slice_get (keys_of es) i → text ≡ string_bytes key.now
    → slice_get (names_in now) i ≡ Some text
source_at_key es now i key text seen at same =
    ap (λ l. slice_get (names_in l) i) (sym seen) ∙ go es i key.now (sym at) ∙ ap (λ t. Some t) (sym same)
  where
    same_key : {Z : Type 0} (x y : String Z) → Some x ≡ Some y → x ≡ y
    same_key x y p = cc

    none_is_some : {Z : Type 0} (x : String Z) → None ≡ Some x → ⊥
    none_is_some x p = cc

    go : {Z : Type 0} (ds : List (String Z × List Interval)) (k : ℕ) (x : String Z) → slice_get (keys_of ds) k ≡ Some x → slice_get (names_in (sources_in ds)) k ≡ Some (string_bytes x)
    go [] k x h = absurd (none_is_some x h)
    go (d ∷ ds) zero x h = ap (λ y. Some (string_bytes y)) (same_key d.0 x h)
    go (d ∷ ds) (suc k) x h = go ds k x h
