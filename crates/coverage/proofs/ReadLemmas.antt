-- A summary out of a JSON value: what has been read, and what is left.
use Rattle.std.proofs.Common.{◌≡◌, ℕ, zero, suc, ◌+◌, ◌<◌, ◌≤◌, true, false, ◌&&◌, List, [], ◌∷◌, ◌++◌, Option, Some, None, Global, length, drop, drop-cons, add-one, get_or, option_map, inl, inr, ◌-◌, refl, sym, ap, ap₂, subst, ◌∙◌, arith, append_assoc, append-nil}
use Rattle.std.proofs.Math.Bool.{and_assoc}
use Rattle.std.proofs.lemmas.Bool.{and_parts, and_from, both_ways, cases_lt}
use Rattle.std.specs.declared.cmp.Ordering.TheVariants.{Less}
use Rattle.coverage.specs.steps.Places.{entry_at, EndsBefore}
use Rattle.coverage.specs.steps.Entries.{entry_in, sources_in}
use Rattle.coverage.proofs.EntriesLemmas.{byte_cmp-chain, InOrder-at, InOrder-nil, AreListed-push, entry_between, before_between}
use Rattle.std.specs.List.{slice_get}
use Rattle.std.specs.String.{string_bytes}
use Rattle.std.specs.declared.string.String.{String}
use Rattle.std.specs.Option.{IsSomeAnd}
use Rattle.std.specs.Prelude.{◌≢◌, codes}
use Rattle.std.specs.Map.{lookup}
use Rattle.std.specs.BTreeMap.{is_at}
use Rattle.attributes.specs.Character.{is_filled}
use Rattle.serde_json.specs.Data.{Data, array, object, Items, no_items, item, Members, no_members, member}
use Rattle.serde_json.specs.Find.{get, get_member, as_object}
use Rattle.serde_json.specs.View.{view, members_view}
use Rattle.serde_json.specs.declared.value.Value.{Value}
use Rattle.serde_json.proofs.Views.{view-lookup}
use Rattle.coverage.specs.Intervals.{Interval, max_sequence, fits_from, rises_from, IsCanonical}
use Rattle.coverage.specs.Numbers.{byte_cmp, Entry, Entries, IsEntry, AreListed}
use Rattle.coverage.specs.NumbersText.{interval_data, intervals_items, sources_members, numbers_data}
use Rattle.coverage.specs.SummaryShape.{interval_in}
use Rattle.coverage.proofs.ShapeLemmas.{object_of}
use Rattle.coverage.proofs.HoldsLemmas.{next_free, next_free-push, next_free-nil, rises_from-nil, rises_from-cons, rises_from-push, fits_from-true}

-- the rest of a canonical list rises after its front
rises_from-append : (n : ℕ) (xs ys : List Interval) → rises_from n (xs ++ ys) ≡ (rises_from n xs && rises_from (next_free n xs) ys)
unfolding rises_from next_free
rises_from-append n [] ys = refl
rises_from-append n (x ∷ xs) ys =
    ap (λ b. fits_from n x && b) (rises_from-append (x.1 + 2) xs ys) ∙ sym (and_assoc (fits_from n x) (rises_from (x.1 + 2) xs) (rises_from (next_free (x.1 + 2) xs) ys))

-- the pairs that were read, and that they are the front of every canonical list of which the items
-- are the JSON
pub record ReadsUpTo (items : Items) (pairs : List Interval) (from : ℕ) (left : Items) : Type 0 where
  pub canonical : IsCanonical pairs
  pub from_is : from ≡ next_free 1 pairs
  pub low : 1 ≤ from
  pub high : from ≤ max_sequence + 2
  pub rest : (ps : List Interval) → IsCanonical ps → items ≡ intervals_items ps → (qs : List Interval) × ((ps ≡ pairs ++ qs) × (left ≡ intervals_items qs))

pub reads_none : (items : Items) (pairs : List Interval) → pairs ≡ [] → ReadsUpTo items pairs 1 items
reads_none items pairs e = subst (λ l. ReadsUpTo items l 1 items) (sym e) (record {
  canonical = rises_from-nil 1;
  from_is = sym (next_free-nil 1);
  low = omega arith;
  high = omega arith;
  rest = λ ps h is. (ps, (refl, is));
})

-- the next of the items that are left is the JSON of the next interval
next_item : (d : Data) (ds : Items) (qs : List Interval) → item d ds ≡ intervals_items qs → (q : Interval) × ((rest : List Interval) × ((qs ≡ q ∷ rest) × (d ≡ interval_data q) × (ds ≡ intervals_items rest)))
next_item d ds [] h = absurd (cc)
next_item d ds (q ∷ qs) h = (q, (qs, (refl, cc, cc)))

some_item : (d : Data) (ds : Items) (h : item d ds ≡ no_items) → ⊥
some_item d ds h = cc

-- what is known of the next interval of each such list
next_fits : (items : Items) (pairs : List Interval) (from : ℕ) (left : Items) (d : Data) (ds : Items) → ReadsUpTo items pairs from left → left ≡ item d ds
    → (ps : List Interval) → IsCanonical ps → items ≡ intervals_items ps
    → (q : Interval) × ((rest : List Interval) × ((ps ≡ pairs ++ q ∷ rest) × (interval_in d ≡ Some q) × (fits_from from q ≡ true) × (ds ≡ intervals_items rest)))
next_fits items pairs from left d ds r is ps h e =
    let w = r.rest ps h e in
    let n = next_item d ds w.0 (sym is ∙ w.1.1) in
    let split : ps ≡ pairs ++ n.0 ∷ n.1.0 = w.1.0 ∙ ap (λ l. pairs ++ l) n.1.1.0 in
    let rises : (rises_from 1 pairs && rises_from (next_free 1 pairs) (n.0 ∷ n.1.0)) ≡ true = sym (rises_from-append 1 pairs (n.0 ∷ n.1.0)) ∙ sym (ap (rises_from 1) split) ∙ h in
    let after = (and_parts _ _ rises).1 in
    let fits = (and_parts _ _ (sym (rises_from-cons (next_free 1 pairs) n.0 n.1.0) ∙ after)).0 in
    (n.0, (n.1.0, (split, ap interval_in n.1.1.1, ap (λ k. fits_from k n.0) r.from_is ∙ fits, n.1.1.2)))

same_pair : (a b : Interval) → Some a ≡ Some b → a ≡ b
same_pair a b h = cc

none_is_not_some : (o : Option Interval) (q : Interval) → o ≡ None → o ≡ Some q → ⊥
none_is_not_some o q p h = cc

pub reads_more : (items : Items) (pairs new : List Interval) (from : ℕ) (left : Items) (d : Data) (ds : Items) (pair : Interval) → ReadsUpTo items pairs from left → left ≡ item d ds
    → Some pair ≡ interval_in d → true ≡ fits_from from pair → new ≡ pairs ++ pair ∷ [] → ReadsUpTo items new (pair.1 + 2) ds
reads_more items pairs new from left d ds pair r is found passes made =
    let fits = fits_from-true from pair (sym passes) in
    subst (λ l. ReadsUpTo items l (pair.1 + 2) ds) (sym made) (record {
      canonical = rises_from-push 1 pairs pair ∙ and_from _ _ r.canonical (ap (λ k. fits_from k pair) (sym r.from_is) ∙ sym passes);
      from_is = sym (next_free-push 1 pairs pair);
      low = omega arith;
      high = omega arith;
      rest = λ ps h e.
          let w = next_fits items pairs from left d ds r is ps h e in
          let same : pair ≡ w.0 = same_pair pair w.0 (found ∙ w.1.1.1) in
          (w.1.0, (w.1.1.0 ∙ ap (λ (q : Interval). pairs ++ q ∷ w.1.0) (sym same) ∙ sym (append_assoc pairs (pair ∷ []) w.1.0), w.1.1.3));
    })

-- no list has these items
pub reads_no_pair : (items : Items) (pairs : List Interval) (from : ℕ) (left : Items) (d : Data) (ds : Items) → ReadsUpTo items pairs from left → left ≡ item d ds → None ≡ interval_in d
    → (ps : List Interval) → IsCanonical ps → items ≡ intervals_items ps → ⊥
reads_no_pair items pairs from left d ds r is none ps h e =
    let w = next_fits items pairs from left d ds r is ps h e in none_is_not_some _ w.0 (sym none) w.1.1.1

pub reads_no_fit : (items : Items) (pairs : List Interval) (from : ℕ) (left : Items) (d : Data) (ds : Items) (pair : Interval) → ReadsUpTo items pairs from left → left ≡ item d ds → Some pair ≡ interval_in d
    → false ≡ fits_from from pair → (ps : List Interval) → IsCanonical ps → items ≡ intervals_items ps → ⊥
reads_no_fit items pairs from left d ds pair r is found fails ps h e =
    let w = next_fits items pairs from left d ds r is ps h e in
    both_ways _ (sym fails) (ap (fits_from from) (same_pair pair w.0 (found ∙ w.1.1.1)) ∙ w.1.1.2)

pub reads_all : (items : Items) (pairs : List Interval) (from : ℕ) (left : Items) → ReadsUpTo items pairs from left → left ≡ no_items → (ps : List Interval) → IsCanonical ps → items ≡ intervals_items ps → pairs ≡ ps
reads_all items pairs from left r is ps h e =
    let w = r.rest ps h e in
    sym (w.1.0 ∙ ap (λ l. pairs ++ l) (no_more w.0 (sym is ∙ w.1.1)) ∙ append-nil pairs)
  where
    no_more : (qs : List Interval) → no_items ≡ intervals_items qs → qs ≡ []
    no_more [] g = refl
    no_more (q ∷ qs) g = absurd (cc)

-- ---- lists by place
pub drop_at : {X : Type 0} (xs : List X) (i : ℕ) (x : X) → i < length xs → x ≡ get_or xs i x → drop i xs ≡ x ∷ drop (i + 1) xs
drop_at xs i x h is = drop-cons xs i x h ∙ ap₂ ◌∷◌ (sym is) (ap (λ k. drop k xs) (sym (add-one i)))

-- the last source of a map stands for all
at_place : {Y : Type 0} (es : List (String Y × List Interval)) (i : ℕ) (e : String Y × List Interval) → slice_get es i ≡ Some e → (i < length (sources_in es)) × (entry_at (sources_in es) i ≡ entry_in e)
at_place [] i e h = absurd (none_is_some e h)
  where
    none_is_some : {X : Type 0} (x : X) → None ≡ Some x → ⊥
    none_is_some x p = cc
at_place {Y} (d ∷ es) zero e h = (omega arith, ap entry_in (same_entry d e h))
  where
    same_entry : (x y : String Y × List Interval) → Some x ≡ Some y → x ≡ y
    same_entry x y p = cc
at_place (d ∷ es) (suc i) e h = let later = at_place es i e h in let lt = later.0 in (omega arith, later.1)

length-sources_in : {Y : Type 0} (es : List (String Y × List Interval)) → length (sources_in es) ≡ length es
length-sources_in [] = refl
length-sources_in (e ∷ es) = ap suc (length-sources_in es)

pub ends_before_last : {Y : Type 0} (es : List (String Y × List Interval)) (now : Entries) (e : String Y × List Interval) (key : List ℕ) → sources_in es ≡ now → AreListed now → slice_get es (length es - 1) ≡ Some e
    → byte_cmp (string_bytes e.0) key ≡ Less → EndsBefore now key
ends_before_last es now e key seen h last less k hk =
    let at = at_place es (length es - 1) e last in
    let inside = at.0 in
    let n : length (sources_in es) ≡ length es = length-sources_in es in
    let here : byte_cmp (entry_at now (length es - 1)).0 key ≡ Less = subst (λ (x : Entry). byte_cmp x.0 key ≡ Less) (sym at.1 ∙ ap (λ l. entry_at l (length es - 1)) seen) less in
    let m : length now ≡ length es = ap length (sym seen) ∙ n in
    elim (cases_lt k (length es - 1)) [
      | inl lt ↦ byte_cmp-chain (entry_at now k).0 (entry_at now (length es - 1)).0 key (InOrder-at now k (length es - 1) h.1 lt (omega arith)) here
      | inr ge ↦ let same : length es - 1 ≡ k = omega arith in subst (λ j. byte_cmp (entry_at now j).0 key ≡ Less) same here
    ]

pub last_before : {Y : Type 0} (es : List (String Y × List Interval)) (now : Entries) (e : String Y × List Interval) (key : List ℕ) → sources_in es ≡ now → slice_get es (length es - 1) ≡ Some e → EndsBefore now key
    → byte_cmp (string_bytes e.0) key ≡ Less
last_before es now e key seen last before =
    let at = at_place es (length es - 1) e last in
    let inside : length es - 1 < length now = subst (λ n. length es - 1 < n) (ap length seen) at.0 in
    subst (λ (x : Entry). byte_cmp x.0 key ≡ Less) (ap (λ l. entry_at l (length es - 1)) (sym seen) ∙ at.1) (before (length es - 1) inside)

pub ends_before_none : {Y : Type 0} (es : List (String Y × List Interval)) (now : Entries) (key : List ℕ) → sources_in es ≡ now → (0 < length es → ⊥) → EndsBefore now key
ends_before_none es now key seen none k hk =
    let n : length now ≡ length es = ap length (sym seen) ∙ length-sources_in es in
    absurd (none (omega arith))

-- ---- the member `sources`
-- a summary is an object
pub numbers_data-object : (d : Data) (s : Entries) → None ≡ as_object d → d ≡ numbers_data s → ⊥
numbers_data-object d s none is = let clash : None ≡ as_object (numbers_data s) = none ∙ ap as_object is in cc clash

-- its members have its sources
pub numbers_member : (d : Data) (s : Entries) (ms : Members) → Some ms ≡ as_object d → d ≡ numbers_data s → get_member (codes "sources") ms ≡ Some (object (sources_members s))
numbers_member d s ms members is = ap (get (codes "sources")) (sym (object_of d ms members) ∙ is)

-- and so has the one that is taken out of them
pub sources_taken : (s : Entries) (ms : List (String Global × Value)) (o : Option Value) → o ≡ lookup (is_at (λ (k : String Global). byte_cmp (codes "sources") (string_bytes k))) ms
    → get_member (codes "sources") (members_view ms) ≡ Some (object (sources_members s)) → option_map view o ≡ Some (object (sources_members s))
sources_taken s ms o taken there = ap (option_map view) taken ∙ view-lookup (codes "sources") ms ∙ there

pub some_taken : (s : Entries) (o : Option Value) → None ≡ o → option_map view o ≡ Some (object (sources_members s)) → ⊥
some_taken s o none taken = let clash : None ≡ Some (object (sources_members s)) = ap (option_map view) none ∙ taken in cc clash

pub object_taken : (s : Entries) (v : Value) → None ≡ as_object (view v) → option_map view (Some v) ≡ Some (object (sources_members s)) → ⊥
object_taken s v none taken =
    let is : view v ≡ object (sources_members s) = cc taken in
    let clash : None ≡ Some (sources_members s) = none ∙ ap as_object is in
    cc clash

pub members_taken : (s : Entries) (v : Value) (ms : Members) → Some ms ≡ as_object (view v) → option_map view (Some v) ≡ Some (object (sources_members s)) → ms ≡ sources_members s
members_taken s v ms some taken =
    let is : view v ≡ object (sources_members s) = cc taken in
    let same : Some ms ≡ Some (sources_members s) = some ∙ ap as_object is in
    cc same

-- ---- entries
-- the entries that were read, and that they are the front of every summary of which the members
-- are the JSON
pub record ReadsEntriesUpTo (all_members : Members) (entries : Entries) (left : Members) : Type 0 where
  pub summary : AreListed entries
  pub rest : (s : Entries) → AreListed s → all_members ≡ sources_members s → (t : Entries) × ((s ≡ entries ++ t) × (left ≡ sources_members t))

pub entries_none : (all_members : Members) (entries : Entries) (left : Members) → entries ≡ [] → left ≡ all_members → ReadsEntriesUpTo all_members entries left
entries_none all_members entries left e same = subst (λ l. ReadsEntriesUpTo all_members l left) (sym e) (record {
  summary = (tt, InOrder-nil);
  rest = λ s h is. (s, (refl, same ∙ is));
})

next_member : (k : List ℕ) (d : Data) (ms : Members) (t : Entries) → member k d ms ≡ sources_members t → (e : Entry) × ((rest : Entries) × ((t ≡ e ∷ rest) × (k ≡ e.0) × (d ≡ array (intervals_items e.1)) × (ms ≡ sources_members rest)))
next_member k d ms [] h = absurd (cc)
next_member k d ms (e ∷ t) h = (e, (t, (refl, cc, cc, cc)))

-- what is known of the next entry of each such summary
pub next_entry : (all_members : Members) (entries : Entries) (left : Members) (k : List ℕ) (d : Data) (ms : Members) → ReadsEntriesUpTo all_members entries left → left ≡ member k d ms
    → (s : Entries) → AreListed s → all_members ≡ sources_members s
    → (e : Entry) × ((rest : Entries) × ((s ≡ entries ++ e ∷ rest) × (k ≡ e.0) × (d ≡ array (intervals_items e.1)) × (ms ≡ sources_members rest) × IsEntry e × EndsBefore entries e.0))
next_entry all_members entries left k d ms r is s h e =
    let w = r.rest s h e in
    let n = next_member k d ms w.0 (sym is ∙ w.1.1) in
    let split : s ≡ entries ++ n.0 ∷ n.1.0 = w.1.0 ∙ ap (λ l. entries ++ l) n.1.1.0 in
    let whole : AreListed (entries ++ n.0 ∷ n.1.0) = subst AreListed split h in
    (n.0, (n.1.0, (split, n.1.1.1, n.1.1.2, n.1.1.3, entry_between entries n.0 n.1.0 whole.0, before_between entries n.0 n.1.0 whole.1)))

-- an answer about the intervals of which the data is the JSON
abbrev pub IsCompleteFor : Data → Option (List Interval) → Type 0
IsCompleteFor d o = (ps : List Interval) → IsCanonical ps → d ≡ array (intervals_items ps) → IsSomeAnd o (λ i. i ≡ ps)

pub entries_more : (all_members : Members) (entries new : Entries) (left : Members) (k : List ℕ) (d : Data) (ms : Members) (p : Entry) → ReadsEntriesUpTo all_members entries left → left ≡ member k d ms
    → IsCompleteFor d (Some p.1) → p.0 ≡ k → IsEntry p → EndsBefore entries p.0 → new ≡ entries ++ p ∷ [] → ReadsEntriesUpTo all_members new ms
entries_more all_members entries new left k d ms p r is complete key entry before made = subst (λ l. ReadsEntriesUpTo all_members l ms) (sym made) (record {
  summary = AreListed-push entries p r.summary entry before;
  rest = λ s h e.
      let w = next_entry all_members entries left k d ms r is s h e in
      let found = w.1.1 in
      let numbers : p.1 ≡ w.0.1 = complete w.0.1 found.4.3 found.2 in
      let same : p ≡ w.0 = ap₂ (λ (a : List ℕ) (b : List Interval). (a, b)) (key ∙ found.1) numbers in
      (w.1.0, (found.0 ∙ ap (λ (q : Entry). entries ++ q ∷ w.1.0) (sym same) ∙ sym (append_assoc entries (p ∷ []) w.1.0), found.3));
})

-- no summary has these members
pub entries_no_numbers : (all_members : Members) (entries : Entries) (left : Members) (k : List ℕ) (d : Data) (ms : Members) → ReadsEntriesUpTo all_members entries left → left ≡ member k d ms → IsCompleteFor d None
    → (s : Entries) → AreListed s → all_members ≡ sources_members s → ⊥
entries_no_numbers all_members entries left k d ms r is complete s h e =
    let w = next_entry all_members entries left k d ms r is s h e in complete w.0.1 w.1.1.4.3 w.1.1.2

pub entries_no_next : (all_members : Members) (entries : Entries) (left : Members) (k : List ℕ) (d : Data) (ms : Members) (p : Entry) → ReadsEntriesUpTo all_members entries left → left ≡ member k d ms → IsCompleteFor d (Some p.1) → p.0 ≡ k
    → ((is_filled p.0 ≡ true) × (p.1 ≢ []) × EndsBefore entries p.0 → ⊥) → (s : Entries) → AreListed s → all_members ≡ sources_members s → ⊥
entries_no_next all_members entries left k d ms p r is complete key wrong s h e =
    let w = next_entry all_members entries left k d ms r is s h e in
    let found = w.1.1 in
    let same : w.0 ≡ p = ap₂ (λ (a : List ℕ) (b : List Interval). (a, b)) (sym found.1 ∙ sym key) (sym (complete w.0.1 found.4.3 found.2)) in
    let entry : IsEntry p = subst IsEntry same found.4 in
    wrong (entry.1, entry.2, subst (λ (q : Entry). EndsBefore entries q.0) same found.5)

pub entries_all : (all_members : Members) (entries : Entries) (left : Members) → ReadsEntriesUpTo all_members entries left → left ≡ no_members → (s : Entries) → AreListed s → all_members ≡ sources_members s → entries ≡ s
entries_all all_members entries left r is s h e =
    let w = r.rest s h e in
    sym (w.1.0 ∙ ap (λ l. entries ++ l) (no_more w.0 (sym is ∙ w.1.1)) ∙ append-nil entries)
  where
    no_more : (t : Entries) → no_members ≡ sources_members t → t ≡ []
    no_more [] g = refl
    no_more (q ∷ t) g = absurd (cc)
