-- Digests of blocks out of a JSON value: what has been read, and what is left.
use Rattle.std.proofs.Common.{◌≡◌, ℕ, zero, suc, ◌+◌, ◌*◌, ◌≤◌, Bool, true, false, ◌==◌, ◌||◌, List, [], ◌∷◌, ◌++◌, Option, Some, None, is_some, Result, Ok, Err, if◌then◌else◌, cond, Global, option_map, length, true≢false, inl, inr, refl, sym, ap, ap₂, subst, ◌∙◌, arith, append_assoc, append-nil}
use Rattle.std.specs.Prelude.{◌↔◌, IsTrue}
use Rattle.std.proofs.lemmas.Bool.{cases_Bool}
use Rattle.std.proofs.lemmas.Bool.Decides.{nat_tests}
use Rattle.std.proofs.lemmas.Cmp.{nat_cmp_total, nat_list_cmp_total, tied_itself}
use Rattle.std.specs.List.{AllByRecursion}
use Rattle.std.specs.List.Sorted.{IsStrictlySortedBy}
use Rattle.std.specs.Map.{keys_of, lookup, remove_entry}
use Rattle.std.specs.Prelude.{codes}
use Rattle.std.specs.String.{string_bytes}
use Rattle.std.specs.declared.string.String.{String}
use Rattle.serde_json.specs.View.{view, members_view}
use Rattle.serde_json.specs.declared.value.Value.{Value}
use Rattle.serde_json.proofs.Views.{member_later, view-lookup}
use Rattle.coverage.specs.NumbersText.{sources_members}
use Rattle.coverage.proofs.ShapeLemmas.{object_of}
use Rattle.std.specs.BTreeMap.{insert_entry, is_at}
use Rattle.std.specs.Option.{IsSomeAnd}
use Rattle.std.specs.Ordering.{is_eq, match_ordering, nat_cmp}
use Rattle.std.specs.declared.cmp.Ordering.{Ordering}
use Rattle.std.specs.declared.cmp.Ordering.TheVariants.{Less}
use Rattle.hex.specs.Hex.{decode_sized, encode_lower, lower_digits}
use Rattle.hex.specs.declared.error.FromHexError.{FromHexError}
use Rattle.hex.proofs.HexLemmas.{decode_of-encode_lower, decode_of-ok, decode_sized-ok, decode_sized-twice, length-encode_with}
use Rattle.serde_json.specs.Data.{Data, array, object, Items, no_items, item, Members}
use Rattle.serde_json.specs.Find.{as_object, get, get_member}
use Rattle.coverage.specs.BlockDigests.{Blocks, IsDigest, SourceBlocks, block_digest}
use Rattle.coverage.specs.DigestsText.{block_data, blocks_items, blocks_members, digests_data}
use Rattle.coverage.specs.Intervals.{Interval, IsCanonical, holds, max_sequence}
use Rattle.coverage.specs.Numbers.{byte_cmp, AreListed, Entries, Entry}
use Rattle.coverage.specs.SummaryShape.{block_in}
use Rattle.coverage.specs.steps.Fits.{AllFit, AreAscending, AreJust, Fits, HoldsIn}
use Rattle.coverage.proofs.BlockLemmas.{EndsBelow, ends_below, put_last}
use Rattle.coverage.proofs.EntriesLemmas.{byte_cmp-same, bytes_eq-apart, bytes_eq-equal, cases_order, greater_from_less, is_one_source}
use Rattle.coverage.proofs.FitLemmas.{held_bound}
use Rattle.coverage.proofs.HoldsLemmas.{holds-below}

-- ---- one block
-- a text that decodes to 32 bytes has a digest
pub digest_read : (text d : List ℕ) → decode_sized text 32 ≡ Ok d → IsDigest d
digest_read text d h =
    let twice : length text ≡ 2 * 32 = decode_sized-ok text 32 d h in
    let parts = decode_of-ok text d (sym (decode_sized-twice text 32 twice) ∙ h) in
    let len : length text ≡ 2 * length d = parts.2 in
    (omega (arith, twice, len), parts.3)

digest_back : (d : List ℕ) → IsDigest d → decode_sized (encode_lower d) 32 ≡ Ok d
digest_back d h =
    let len = length-encode_with lower_digits d in
    let bytes = h.0 in
    decode_sized-twice (encode_lower d) 32 (omega (arith, len, bytes)) ∙ decode_of-encode_lower d h.1

same_ok : (x y : List ℕ) → ◌≡◌ {A = Result (List ℕ) FromHexError} (Ok x) (Ok y) → x ≡ y
same_ok x y h = cc h

ok_or_err : (x : List ℕ) (e : FromHexError) → ◌≡◌ {A = Result (List ℕ) FromHexError} (Err e) (Ok x) → ⊥
ok_or_err x e h = cc h

pub digest_only : (text d : List ℕ) → decode_sized text 32 ≡ Ok d → (e : List ℕ) → IsDigest e → text ≡ encode_lower e → d ≡ e
digest_only text d h e digest is = same_ok d e (sym h ∙ ap (λ t. decode_sized t 32) is ∙ digest_back e digest)

pub no_digest : (text : List ℕ) (f : FromHexError) → decode_sized text 32 ≡ Err f → (e : List ℕ) → IsDigest e → text ≡ encode_lower e → ⊥
no_digest text f h e digest is = ok_or_err e f (sym h ∙ ap (λ t. decode_sized t 32) is ∙ digest_back e digest)

abbrev pub IsRead : Data → Option (ℕ × List ℕ) → Type 0
IsRead v o = (k : ℕ) (d : List ℕ) → IsDigest d → v ≡ block_data (k, d) → IsSomeAnd o (λ b. (b.0 ≡ k) × (b.1 ≡ d))

no_pair : (p : ℕ × List ℕ) → ◌≡◌ {A = Option (ℕ × List ℕ)} None (Some p) → ⊥
no_pair p h = cc h

same_pair : (p q : ℕ × List ℕ) → Some p ≡ Some q → p ≡ q
same_pair p q h = cc h

pub read_none : (v : Data) → None ≡ block_in v → IsRead v None
read_none v none k d h is = no_pair (k, encode_lower d) (none ∙ ap block_in is)

pub read_other : (v : Data) (k : ℕ) (text : List ℕ) → Some (k, text) ≡ block_in v → ((d : List ℕ) → IsDigest d → text ≡ encode_lower d → ⊥) → IsRead v None
read_other v k text found other j d h is = other d h (ap (λ p. p.1) (same_pair (k, text) (j, encode_lower d) (found ∙ ap block_in is)))

pub read_some : (v : Data) (k : ℕ) (text r : List ℕ) → Some (k, text) ≡ block_in v → ((d : List ℕ) → IsDigest d → text ≡ encode_lower d → r ≡ d) → IsRead v (Some (k, r))
read_some v k text r found only j d h is =
    let both = same_pair (k, text) (j, encode_lower d) (found ∙ ap block_in is) in
    (ap (λ p. p.0) both, only d h (ap (λ p. p.1) both))

-- ---- the blocks of a source
pub record ReadsUpTo (items : Items) (blocks : Blocks) (left : Items) : Type 0 where
  pub sorted : IsStrictlySortedBy nat_cmp (keys_of blocks)
  pub digests : AllByRecursion (λ b. IsDigest b.1) blocks
  pub rest : (bs : Blocks) → AreAscending bs → items ≡ blocks_items bs → (qs : Blocks) × ((bs ≡ blocks ++ qs) × (left ≡ blocks_items qs))

sorted_none : IsStrictlySortedBy nat_cmp []
unfolding IsStrictlySortedBy
sorted_none = tt

pub reads_none : (items : Items) (blocks : Blocks) → blocks ≡ [] → ReadsUpTo items blocks items
reads_none items blocks e = subst (λ l. ReadsUpTo items l items) (sym e) (record {
  sorted = sorted_none;
  digests = tt;
  rest = λ bs h is. (bs, (refl, is));
})

next_item : (d : Data) (ds : Items) (qs : Blocks) → item d ds ≡ blocks_items qs → (q : ℕ × List ℕ) × ((rest : Blocks) × ((qs ≡ q ∷ rest) × (d ≡ block_data q) × (ds ≡ blocks_items rest)))
next_item d ds [] h = absurd (cc)
next_item d ds (q ∷ qs) h = (q, (qs, (refl, cc, cc)))

digest_between : (done : Blocks) (q : ℕ × List ℕ) (rest : Blocks) → AllByRecursion (λ b. IsDigest b.1) (done ++ q ∷ rest) → IsDigest q.1
digest_between [] q rest h = h.0
digest_between (b ∷ done) q rest h = digest_between done q rest h.1

-- what is known of the next block of each such list
next_block : (items : Items) (blocks : Blocks) (left : Items) (d : Data) (ds : Items) → ReadsUpTo items blocks left → left ≡ item d ds → (bs : Blocks) → AreAscending bs → items ≡ blocks_items bs
    → (q : ℕ × List ℕ) × ((rest : Blocks) × ((bs ≡ blocks ++ q ∷ rest) × (d ≡ block_data q) × (ds ≡ blocks_items rest) × IsDigest q.1))
next_block items blocks left d ds r is bs h e =
    let w = r.rest bs h e in
    let n = next_item d ds w.0 (sym is ∙ w.1.1) in
    let split : bs ≡ blocks ++ n.0 ∷ n.1.0 = w.1.0 ∙ ap (λ l. blocks ++ l) n.1.1.0 in
    (n.0, (n.1.0, (split, n.1.1.1, n.1.1.2, digest_between blocks n.0 n.1.0 (subst (AllByRecursion (λ b. IsDigest b.1)) split h.1))))

all_inserted : (P : ℕ × List ℕ → Type 0) (bs : Blocks) (k : ℕ) (v : List ℕ) → AllByRecursion P bs → P (k, v) → ((j : ℕ) (w : List ℕ) → P (j, w) → P (j, v)) → AllByRecursion P (insert_entry nat_cmp bs k v)
all_inserted P [] k v h p f = (p, tt)
all_inserted P (b ∷ bs) k v h p f = elim (cases_order (nat_cmp k b.0)) [
  | inl less ↦ rw less (p, h)
  | inr (inl equal) ↦ rw equal (f b.0 b.1 h.0, h.1)
  | inr (inr greater) ↦ rw greater (h.0, all_inserted P bs k v h.1 p f)
]

pub reads_more : (items : Items) (blocks new : Blocks) (left : Items) (d : Data) (ds : Items) (k : ℕ) (v : List ℕ) → ReadsUpTo items blocks left → left ≡ item d ds → IsRead d (Some (k, v)) → IsDigest v
    → new ≡ insert_entry nat_cmp blocks k v → IsStrictlySortedBy nat_cmp (keys_of new) → ReadsUpTo items new ds
reads_more items blocks new left d ds k v r is read digest made sorted = record {
  sorted = sorted;
  digests = subst (AllByRecursion (λ b. IsDigest b.1)) (sym made) (all_inserted (λ b. IsDigest b.1) blocks k v r.digests digest (λ j w h. digest));
  rest = λ bs h e.
      let w = next_block items blocks left d ds r is bs h e in
      let found = read w.0.0 w.0.1 w.1.1.3 w.1.1.1 in
      let same : (k, v) ≡ w.0 = ap₂ (λ (a : ℕ) (b : List ℕ). (a, b)) found.0 found.1 in
      let whole : bs ≡ blocks ++ (k, v) ∷ w.1.0 = w.1.1.0 ∙ ap (λ (q : ℕ × List ℕ). blocks ++ q ∷ w.1.0) (sym same) in
      let last : new ≡ blocks ++ (k, v) ∷ [] = made ∙ put_last nat_cmp_total blocks k v (ends_below nat_cmp_total blocks (k, v) w.1.0 (subst (λ l. IsStrictlySortedBy nat_cmp (keys_of l)) whole h.0)) in
      (w.1.0, (whole ∙ sym (append_assoc blocks ((k, v) ∷ []) w.1.0) ∙ ap (λ l. l ++ w.1.0) (sym last), w.1.1.2));
}

pub reads_no_block : (items : Items) (blocks : Blocks) (left : Items) (d : Data) (ds : Items) → ReadsUpTo items blocks left → left ≡ item d ds → IsRead d None → (bs : Blocks) → AreAscending bs → items ≡ blocks_items bs → ⊥
reads_no_block items blocks left d ds r is read bs h e =
    let w = next_block items blocks left d ds r is bs h e in read w.0.0 w.0.1 w.1.1.3 w.1.1.1

pub reads_all : (items : Items) (blocks : Blocks) (left : Items) → ReadsUpTo items blocks left → left ≡ no_items → (bs : Blocks) → AreAscending bs → items ≡ blocks_items bs → blocks ≡ bs
reads_all items blocks left r is bs h e =
    let w = r.rest bs h e in
    sym (w.1.0 ∙ ap (λ l. blocks ++ l) (no_more w.0 (sym is ∙ w.1.1)) ∙ append-nil blocks)
  where
    no_more : (qs : Blocks) → no_items ≡ blocks_items qs → qs ≡ []
    no_more [] g = refl
    no_more (q ∷ qs) g = absurd (cc)

-- ---- just the blocks of the numbers
-- the places of the blocks that come before those that are left
pub record ArePlacesUpTo (all left : Blocks) (found : List Interval) : Type 0 where
  pub done : Blocks
  pub split : done ++ left ≡ all
  pub canonical : IsCanonical found
  pub members : (k : ℕ) → holds found (k + 1) ≡ is_some (block_digest done k)

pub places_none : (all left : Blocks) (found : List Interval) → left ≡ all → IsCanonical found → ((n : ℕ) → holds found n ≡ false) → ArePlacesUpTo all left found
places_none all left found is canonical none = record { done = []; split = is; canonical = canonical; members = λ k. none (k + 1) }

some_pushed : (done : Blocks) (b : ℕ × List ℕ) (k : ℕ) → is_some (block_digest (done ++ b ∷ []) k) ≡ (is_some (block_digest done k) || (k == b.0))
some_pushed [] b k = one (nat_cmp k b.0) (tells k b.0)
  where
    one : (r : Ordering) → is_eq r ≡ (k == b.0) → is_some (if is_eq r then Some b.1 else None) ≡ (k == b.0)
    one r same = by_test (is_eq r) same
      where
        by_test : (c : Bool) → c ≡ (k == b.0) → is_some (if c then Some b.1 else None) ≡ (k == b.0)
        by_test true h = h
        by_test false h = h

    tells : (x y : ℕ) → is_eq (nat_cmp x y) ≡ (x == y)
    tells x y = grind (arith, nat_tests)
some_pushed (a ∷ done) b k = elim (cases_Bool (is_at (nat_cmp k) a.0)) [
  | inl t ↦
      ap (λ c. is_some (if c then Some a.1 else lookup (is_at (nat_cmp k)) (done ++ b ∷ []))) t
      ∙ sym (ap (λ c. is_some (if c then Some a.1 else lookup (is_at (nat_cmp k)) done) || (k == b.0)) t)
  | inr f ↦
      ap (λ c. is_some (if c then Some a.1 else lookup (is_at (nat_cmp k)) (done ++ b ∷ []))) f ∙ some_pushed done b k
      ∙ sym (ap (λ c. is_some (if c then Some a.1 else lookup (is_at (nat_cmp k)) done) || (k == b.0)) f)
]

pub places_more : (all left : Blocks) (old new : List Interval) (b : ℕ × List ℕ) (rest : Blocks) (n : ℕ) → ArePlacesUpTo all left old → left ≡ b ∷ rest → n ≡ b.0 + 1 → IsCanonical new
    → ((m : ℕ) → holds new m ≡ (holds old m || (m == n))) → ArePlacesUpTo all rest new
places_more all left old new b rest n p is place canonical members = record {
  done = p.done ++ b ∷ [];
  split = append_assoc p.done (b ∷ []) rest ∙ ap (λ l. p.done ++ l) (sym is) ∙ p.split;
  canonical = canonical;
  members = λ k. members (k + 1) ∙ ap₂ (λ x y. x || y) (p.members k) (shifted k) ∙ sym (some_pushed p.done b k);
}
  where
    shifted : (k : ℕ) → ((k + 1) == n) ≡ (k == b.0)
    shifted k = grind (arith, nat_tests, place)

pub places_all : (all left : Blocks) (found : List Interval) → ArePlacesUpTo all left found → left ≡ [] → (k : ℕ) → holds found (k + 1) ≡ is_some (block_digest all k)
places_all all left found p is k = p.members k ∙ ap (λ l. is_some (block_digest l k)) (sym (append-nil p.done) ∙ ap (λ l. p.done ++ l) (sym is) ∙ p.split)

some_between : (done : Blocks) (b : ℕ × List ℕ) (rest : Blocks) → is_some (block_digest (done ++ b ∷ rest) b.0) ≡ true
some_between [] b rest = ap (λ r. is_some (if is_eq r then Some b.1 else lookup (is_at (nat_cmp b.0)) rest)) (tied_itself nat_cmp_total b.0)
some_between (a ∷ done) b rest = elim (cases_Bool (is_at (nat_cmp b.0) a.0)) [
  | inl t ↦ ap (λ c. is_some (if c then Some a.1 else lookup (is_at (nat_cmp b.0)) (done ++ b ∷ rest))) t
  | inr f ↦ ap (λ c. is_some (if c then Some a.1 else lookup (is_at (nat_cmp b.0)) (done ++ b ∷ rest))) f ∙ some_between done b rest
]

pub past_last : (all left : Blocks) (found : List Interval) (b : ℕ × List ℕ) (rest : Blocks) → ArePlacesUpTo all left found → left ≡ b ∷ rest → max_sequence ≤ b.0
    → (k : ℕ) × ((max_sequence ≤ k) × (is_some (block_digest all k) ≡ true))
past_last all left found b rest p is high =
    let split : p.done ++ b ∷ rest ≡ all = ap (λ l. p.done ++ l) (sym is) ∙ p.split in
    (b.0, (high, ap (λ l. is_some (block_digest l b.0)) (sym split) ∙ some_between p.done b rest))

same_truth : (a b : Bool) → (IsTrue a → IsTrue b) → (IsTrue b → IsTrue a) → a ≡ b
same_truth true true f g = refl
same_truth true false f g = sym (f refl)
same_truth false true f g = g refl
same_truth false false f g = refl

pub just_by_sets : (ps : List Interval) (bs : Blocks) (due found : List Interval) (b : Bool) → IsCanonical due → IsCanonical found → ((k : ℕ) → IsTrue (holds due (k + 1)) ↔ HoldsIn ps k)
    → ((k : ℕ) → holds found (k + 1) ≡ is_some (block_digest bs k)) → IsTrue b ↔ ((n : ℕ) → holds due n ≡ holds found n) → IsTrue b ↔ AreJust ps bs
just_by_sets ps bs due found b cd cf spans there is = (
  λ yes k. (
    λ t. (spans k).0 (is.0 yes (k + 1) ∙ there k ∙ t),
    λ w. sym (there k) ∙ sym (is.0 yes (k + 1)) ∙ (spans k).1 w,
  ),
  λ just. is.1 (λ n. at n just),
)
  where
    at_next : (k : ℕ) → AreJust ps bs → holds due (k + 1) ≡ holds found (k + 1)
    at_next k just = same_truth (holds due (k + 1)) (holds found (k + 1)) (λ t. there k ∙ (just k).1 ((spans k).0 t)) (λ t. (spans k).1 ((just k).0 (sym (there k) ∙ t)))

    at : (n : ℕ) → AreJust ps bs → holds due n ≡ holds found n
    at zero just = holds-below 1 due 0 cd (omega arith) ∙ sym (holds-below 1 found 0 cf (omega arith))
    at (suc k) just = let next : k + 1 ≡ suc k = omega arith in subst (λ m. holds due m ≡ holds found m) next (at_next k just)

pub not_just : (ps : List Interval) (bs : Blocks) (k : ℕ) → IsCanonical ps → max_sequence ≤ k → is_some (block_digest bs k) ≡ true → IsTrue false ↔ AreJust ps bs
not_just ps bs k h high there = (λ t. absurd (true≢false (sym t)), λ just. absurd (apart ((just k).0 there)))
  where
    apart : HoldsIn ps k → ⊥
    apart w = let le = held_bound ps w.0 h w.1.0 in let is = w.1.1 in omega (arith, le, is, high)

-- ---- sources
-- digests of the sources before those that are left, which every such digests begin with
pub record FitsUpTo (all left : Entries) (v : Data) (ds : SourceBlocks) : Type 0 where
  pub done : Entries
  pub split : done ++ left ≡ all
  pub fit : AllFit done ds
  pub rest : (fs : SourceBlocks) → AllFit all fs → v ≡ object (blocks_members fs) → (rs : SourceBlocks) × ((fs ≡ ds ++ rs) × AllFit left rs)

pub fits_none : (all left : Entries) (v : Data) (ds : SourceBlocks) → left ≡ all → ds ≡ [] → FitsUpTo all left v ds
fits_none all left v ds is none = record {
  done = [];
  split = is;
  fit = subst (AllFit []) (sym none) tt;
  rest = λ fs f e. (fs, (ap (λ l. l ++ fs) (sym none), subst (λ l. AllFit l fs) (sym is) f));
}

fit-push : (es : Entries) (ds : SourceBlocks) (e : Entry) (d : List ℕ × Blocks) → AllFit es ds → d.0 ≡ e.0 → Fits e.1 d.1 → AllFit (es ++ e ∷ []) (ds ++ d ∷ [])
fit-push [] [] e d f key fits = (key, fits, tt)
fit-push [] (x ∷ ds) e d f key fits = absurd f
fit-push (x ∷ es) [] e d f key fits = absurd f
fit-push (x ∷ es) (y ∷ ds) e d f key fits = (f.0, f.1, fit-push es ds e d f.2 key fits)

keys_below : (es : Entries) (ds : SourceBlocks) (k : List ℕ) → AllFit es ds → AllByRecursion (λ y. byte_cmp y k ≡ Less) (keys_of es) → AllByRecursion (λ y. byte_cmp y k ≡ Less) (keys_of ds)
keys_below [] [] k f h = tt
keys_below [] (x ∷ ds) k f h = absurd f
keys_below (x ∷ es) [] k f h = absurd f
keys_below (x ∷ es) (y ∷ ds) k f h = (subst (λ z. byte_cmp z k ≡ Less) (sym f.0) h.0, keys_below es ds k f.2 h.1)

-- the sources that were read come before the next
before_next : (all left : Entries) (v : Data) (ds : SourceBlocks) (e : Entry) (more : Entries) → AreListed all → FitsUpTo all left v ds → left ≡ e ∷ more → AllByRecursion (λ y. byte_cmp y e.0 ≡ Less) (keys_of ds)
unfolding EndsBelow
before_next all left v ds e more h r is =
    let split : all ≡ r.done ++ e ∷ more = sym r.split ∙ ap (λ l. r.done ++ l) is in
    keys_below r.done ds e.0 r.fit (ends_below nat_list_cmp_total r.done e more (subst (λ l. IsStrictlySortedBy byte_cmp (keys_of l)) split h.1))

found_member : (ds rs : SourceBlocks) (d : List ℕ × Blocks) → AllByRecursion (λ y. byte_cmp y d.0 ≡ Less) (keys_of ds) → get_member d.0 (blocks_members (ds ++ d ∷ rs)) ≡ Some (array (blocks_items d.1))
found_member [] rs d h =
    ap (λ o. match_ordering o (get_member d.0 (blocks_members rs)) (Some (array (blocks_items d.1))) (get_member d.0 (blocks_members rs))) (byte_cmp-same d.0 d.0 refl)
found_member (x ∷ ds) rs d h =
    ap (λ o. match_ordering o (get_member d.0 (blocks_members (ds ++ d ∷ rs))) (Some (array (blocks_items x.1))) (get_member d.0 (blocks_members (ds ++ d ∷ rs)))) (greater_from_less x.0 d.0 h.0)
    ∙ found_member ds rs d h.1

-- what is known of the next source of each such digests
next_source : (all left : Entries) (v : Data) (ds : SourceBlocks) (e : Entry) (more : Entries) → AreListed all → FitsUpTo all left v ds → left ≡ e ∷ more → (fs : SourceBlocks) → AllFit all fs → v ≡ object (blocks_members fs)
    → (bs : Blocks) × ((rs : SourceBlocks) × ((fs ≡ ds ++ (e.0, bs) ∷ rs) × Fits e.1 bs × (get e.0 v ≡ Some (array (blocks_items bs))) × AllFit more rs))
next_source all left v ds e more h r is fs f shown =
    let w = r.rest fs f shown in
    first w.0 w.1.0 (subst (λ l. AllFit l w.0) is w.1.1)
  where
    first : (rs : SourceBlocks) → fs ≡ ds ++ rs → AllFit (e ∷ more) rs
        → (bs : Blocks) × ((qs : SourceBlocks) × ((fs ≡ ds ++ (e.0, bs) ∷ qs) × Fits e.1 bs × (get e.0 v ≡ Some (array (blocks_items bs))) × AllFit more qs))
    first [] split g = absurd g
    first (d ∷ qs) split g =
        let key : d ≡ (e.0, d.1) = ap (λ (k : List ℕ). (k, d.1)) g.0 in
        let whole : fs ≡ ds ++ (e.0, d.1) ∷ qs = split ∙ ap (λ (x : List ℕ × Blocks). ds ++ x ∷ qs) key in
        let there : get e.0 v ≡ Some (array (blocks_items d.1)) = ap (get e.0) shown ∙ ap (λ l. get_member e.0 (blocks_members l)) whole ∙ found_member ds qs (e.0, d.1) (before_next all left v ds e more h r is) in
        (d.1, (qs, (whole, g.1, there, g.2)))

some_value : (a b : Data) → Some a ≡ Some b → a ≡ b
some_value a b h = cc

abbrev pub IsComplete : Data → List Interval → Option Blocks → Type 0
IsComplete d ps o = (bs : Blocks) → Fits ps bs → d ≡ array (blocks_items bs) → IsSomeAnd o (λ b. b ≡ bs)

pub fits_more : (all left : Entries) (v : Data) (old new : SourceBlocks) (e : Entry) (more : Entries) (d : Data) (bs : Blocks) → AreListed all → FitsUpTo all left v old → left ≡ e ∷ more → Some d ≡ get e.0 v
    → Fits e.1 bs → IsComplete d e.1 (Some bs) → new ≡ insert_entry byte_cmp old e.0 bs → FitsUpTo all more v new
unfolding EndsBelow
fits_more all left v old new e more d bs h r is found fits complete made =
    let last : new ≡ old ++ (e.0, bs) ∷ [] = made ∙ put_last nat_list_cmp_total old e.0 bs (before_next all left v old e more h r is) in record {
      done = r.done ++ e ∷ [];
      split = append_assoc r.done (e ∷ []) more ∙ ap (λ l. r.done ++ l) (sym is) ∙ r.split;
      fit = subst (AllFit (r.done ++ e ∷ [])) (sym last) (fit-push r.done old e (e.0, bs) r.fit refl fits);
      rest = λ fs f shown.
          let w = next_source all left v old e more h r is fs f shown in
          let same : bs ≡ w.0 = complete w.0 w.1.1.1 (some_value d _ (found ∙ w.1.1.2)) in
          let whole : fs ≡ new ++ w.1.0 =
          w.1.1.0 ∙ ap (λ (x : Blocks). old ++ (e.0, x) ∷ w.1.0) (sym same) ∙ sym (append_assoc old ((e.0, bs) ∷ []) w.1.0) ∙ ap (λ l. l ++ w.1.0) (sym last) in
          (w.1.0, (whole, w.1.1.3));
    }

pub fits_no_source : (all left : Entries) (v : Data) (ds : SourceBlocks) (e : Entry) (more : Entries) → AreListed all → FitsUpTo all left v ds → left ≡ e ∷ more → None ≡ get e.0 v → (fs : SourceBlocks) → AllFit all fs → v ≡ object (blocks_members fs) → ⊥
fits_no_source all left v ds e more h r is none fs f shown =
    let w = next_source all left v ds e more h r is fs f shown in none_is_not_some (get e.0 v) _ (sym none) w.1.1.2
  where
    none_is_not_some : (o : Option Data) (d : Data) → o ≡ None → o ≡ Some d → ⊥
    none_is_not_some o d p q = cc

pub fits_no_blocks : (all left : Entries) (v : Data) (ds : SourceBlocks) (e : Entry) (more : Entries) (d : Data) → AreListed all → FitsUpTo all left v ds → left ≡ e ∷ more → Some d ≡ get e.0 v → IsComplete d e.1 None
    → (fs : SourceBlocks) → AllFit all fs → v ≡ object (blocks_members fs) → ⊥
fits_no_blocks all left v ds e more d h r is found complete fs f shown =
    let w = next_source all left v ds e more h r is fs f shown in complete w.0 w.1.1.1 (some_value d _ (found ∙ w.1.1.2))

pub fits_all : (all left : Entries) (v : Data) (ds : SourceBlocks) → FitsUpTo all left v ds → left ≡ [] → AllFit all ds
fits_all all left v ds r is = subst (λ l. AllFit l ds) (sym (append-nil r.done) ∙ ap (λ l. r.done ++ l) (sym is) ∙ r.split) r.fit

pub fits_only : (all left : Entries) (v : Data) (ds : SourceBlocks) → FitsUpTo all left v ds → left ≡ [] → (fs : SourceBlocks) → AllFit all fs → v ≡ object (blocks_members fs) → ds ≡ fs
fits_only all left v ds r is fs f shown =
    let w = r.rest fs f shown in
    sym (w.1.0 ∙ ap (λ l. ds ++ l) (nothing w.0 (subst (λ l. AllFit l w.0) is w.1.1)) ∙ append-nil ds)
  where
    nothing : (rs : SourceBlocks) → AllFit [] rs → rs ≡ []
    nothing [] g = refl
    nothing (x ∷ rs) g = absurd g

-- ---- the members `blocks` and `sources`
pub digests_data-object : (d : Data) (es : Entries) (ds : SourceBlocks) → None ≡ as_object d → d ≡ digests_data es ds → ⊥
digests_data-object d es ds none is = let clash : None ≡ as_object (digests_data es ds) = none ∙ ap as_object is in cc clash

pub blocks_member : (d : Data) (es : Entries) (ds : SourceBlocks) (ms : Members) → Some ms ≡ as_object d → d ≡ digests_data es ds → get_member (codes "blocks") ms ≡ Some (object (blocks_members ds))
blocks_member d es ds ms members is = ap (get (codes "blocks")) (sym (object_of d ms members) ∙ is)

pub sources_member : (d : Data) (es : Entries) (ds : SourceBlocks) (ms : Members) → Some ms ≡ as_object d → d ≡ digests_data es ds → get_member (codes "sources") ms ≡ Some (object (sources_members es))
sources_member d es ds ms members is = ap (get (codes "sources")) (sym (object_of d ms members) ∙ is)

pub blocks_taken : (ds : SourceBlocks) (ms : List (String Global × Value)) (o : Option Value) → o ≡ lookup (is_at (λ (k : String Global). byte_cmp (codes "blocks") (string_bytes k))) ms
    → get_member (codes "blocks") (members_view ms) ≡ Some (object (blocks_members ds)) → option_map view o ≡ Some (object (blocks_members ds))
blocks_taken ds ms o taken there = ap (option_map view) taken ∙ view-lookup (codes "blocks") ms ∙ there

pub no_blocks_taken : (ds : SourceBlocks) (o : Option Value) → None ≡ o → option_map view o ≡ Some (object (blocks_members ds)) → ⊥
no_blocks_taken ds o none taken = let clash : None ≡ Some (object (blocks_members ds)) = ap (option_map view) none ∙ taken in cc clash

pub value_taken : (ds : SourceBlocks) (v : Value) → option_map view (Some v) ≡ Some (object (blocks_members ds)) → view v ≡ object (blocks_members ds)
value_taken ds v taken = cc taken

-- taking `blocks` out leaves `sources`
pub sources_left : (ms left : List (String Global × Value)) → left ≡ remove_entry (is_at (λ (k : String Global). byte_cmp (codes "blocks") (string_bytes k))) ms
    → get_member (codes "sources") (members_view left) ≡ get_member (codes "sources") (members_view ms)
sources_left ms left removed = ap (λ l. get_member (codes "sources") (members_view l)) removed ∙ kept ms
  where
    kept : (es : List (String Global × Value)) → get_member (codes "sources") (members_view (remove_entry (is_at (λ (k : String Global). byte_cmp (codes "blocks") (string_bytes k))) es)) ≡ get_member (codes "sources") (members_view es)
    kept [] = refl
    kept (e ∷ es) = elim (cases_Bool (is_eq (byte_cmp (codes "blocks") (string_bytes e.0)))) [
      | inl t ↦
          let key : codes "blocks" ≡ string_bytes e.0 = bytes_eq-equal (codes "blocks") (string_bytes e.0) (sym (is_one_source (codes "blocks") (string_bytes e.0)) ∙ t) in
          let other : codes "sources" ≡ string_bytes e.0 → ⊥ = λ same. bytes_eq-apart (codes "sources") (codes "blocks") refl (same ∙ sym key) in
          ap (λ b. get_member (codes "sources") (members_view (cond b es (e ∷ remove_entry (is_at (λ (k : String Global). byte_cmp (codes "blocks") (string_bytes k))) es)))) t
          ∙ sym (member_later (codes "sources") e es other)
      | inr f ↦
          ap (λ b. get_member (codes "sources") (members_view (cond b es (e ∷ remove_entry (is_at (λ (k : String Global). byte_cmp (codes "blocks") (string_bytes k))) es)))) f
          ∙ ap (λ x. match_ordering (byte_cmp (codes "sources") (string_bytes e.0)) x (Some (view e.1)) x) (kept es)
    ]
