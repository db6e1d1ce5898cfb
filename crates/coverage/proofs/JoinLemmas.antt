-- Two lists by source joined, and the summary that two summaries make.
use Rattle.std.proofs.Common.{◌≡◌, ℕ, List, [], ◌∷◌, Bool, true, false, Option, Some, None, is_some, if◌then◌else◌, subst, refl, sym, ap, ap₂, ◌∙◌, ◌⊎◌, inl, inr, ◌↔◌, IsTrue, Result, Ok, Err}
use Rattle.std.specs.Prelude.{◌≢◌, map}
use Rattle.std.specs.List.Sorted.{IsStrictlySortedBy}
use Rattle.std.specs.Map.{keys_of, lookup}
use Rattle.std.specs.BTreeMap.{insert_entry, is_at}
use Rattle.std.specs.Option.{option_map, option_map_or, option_or}
use Rattle.std.specs.Ordering.{match_ordering}
use Rattle.std.specs.Result.{OnErr}
use Rattle.std.specs.String.{string_bytes}
use Rattle.std.specs.declared.cmp.Ordering.{Ordering}
use Rattle.std.specs.declared.cmp.Ordering.TheVariants.{Less, Equal, Greater}
use Rattle.std.specs.declared.string.String.{String}
use Rattle.std.proofs.lemmas.Bool.{both_ways, cases_Bool}
use Rattle.std.proofs.lemmas.Cmp.{nat_list_cmp_total}
use Rattle.std.proofs.lemmas.Map.Lookups.{exact_bytes}
use Rattle.std.proofs.lemmas.Map.Text.{text_cmp}
use Rattle.coverage.specs.Intervals.{Interval}
use Rattle.coverage.specs.Numbers.{AreListed, Entries, IsEntry, byte_cmp, numbers_in}
use Rattle.coverage.specs.BlockDigests.{AreBlocks, AreDigests, Blocks, HasDigests, SourceBlocks, block_digest, blocks_of}
use Rattle.coverage.specs.Join.{chosen}
use Rattle.coverage.specs.steps.Fits.{HoldsIn}
use Rattle.coverage.specs.steps.Joins.{IsJoinOf}
use Rattle.coverage.proofs.DigestedLemmas.{all_looked, entry_of, numbers_looked, same_keys}
use Rattle.coverage.proofs.EntriesLemmas.{InOrder-insert_entry, apart_from_greater}
use Rattle.coverage.proofs.FormLemmas.{at_head, is_equal}

-- ---- look-ups by source
-- a source that is found is the one that was looked up
is_source : (q k : List ℕ) → is_at (byte_cmp q) k ≡ true → q ≡ k
is_source q k t = exact_bytes q k (is_equal (byte_cmp q k) t)

-- what is looked up once an entry was set
looked_put : {X : Type 0} (es : List (List ℕ × X)) (k : List ℕ) (v : X) (q : List ℕ)
    → lookup (is_at (byte_cmp q)) (insert_entry byte_cmp es k v) ≡ (if is_at (byte_cmp q) k then Some v else lookup (is_at (byte_cmp q)) es)
looked_put [] k v q = refl
looked_put {X} (e ∷ es) k v q = by (byte_cmp k e.0) refl (looked_put es k v q)
  where
    by : (o : Ordering) → byte_cmp k e.0 ≡ o → lookup (is_at (byte_cmp q)) (insert_entry byte_cmp es k v) ≡ (if is_at (byte_cmp q) k then Some v else lookup (is_at (byte_cmp q)) es)
        → lookup (is_at (byte_cmp q)) (match_ordering o ((k, v) ∷ e ∷ es) ((e.0, v) ∷ es) (e ∷ insert_entry byte_cmp es k v)) ≡ (if is_at (byte_cmp q) k then Some v else lookup (is_at (byte_cmp q)) (e ∷ es))
    by Less p later = refl
    by Equal p later =
        let one : is_at (byte_cmp q) k ≡ is_at (byte_cmp q) e.0 = ap (is_at (byte_cmp q)) (exact_bytes k e.0 p) in
        elim (cases_Bool (is_at (byte_cmp q) k)) [
          | inl t ↦ rw (t, sym one ∙ t) refl
          | inr f ↦ rw (f, sym one ∙ f) refl
        ]
    by Greater p later = ap (λ o. if is_at (byte_cmp q) e.0 then Some e.1 else o) later ∙ elim (cases_Bool (is_at (byte_cmp q) k)) [
      | inl t ↦
          elim (cases_Bool (is_at (byte_cmp q) e.0)) [
            | inl u ↦ absurd (apart_from_greater k e.0 p (sym (is_source q k t) ∙ is_source q e.0 u))
            | inr f ↦ rw (t, f) refl
          ]
      | inr f ↦ rw f refl
    ]

-- a map by source, seen by the bytes of its sources
looked_text : {Y V X : Type 0} (f : V → X) (es : List (String Y × V)) (q : List ℕ)
    → lookup (is_at (byte_cmp q)) (map (λ (e : String Y × V). (string_bytes e.0, f e.1)) es) ≡ option_map f (lookup (is_at (text_cmp q)) es)
looked_text f [] q = refl
looked_text {Y} {V} {X} f (e ∷ es) q =
    elim (is_at (byte_cmp q) (string_bytes e.0)) as (λ b.
    (if b then Some (f e.1) else lookup (is_at (byte_cmp q)) (map (λ (d : String Y × V). (string_bytes d.0, f d.1)) es)) ≡ option_map f (if b then Some e.1 else lookup (is_at (text_cmp q)) es)) [
      | true ↦ refl
      | false ↦ looked_text f es q
    ]

some_map : {V X : Type 0} (f : V → X) (o : Option V) → is_some o ≡ is_some (option_map f o)
some_map f None = refl
some_map f (Some v) = refl

-- whether a map has a source
pub source_had : {Y V X : Type 0} (f : V → X) (es : List (String Y × V)) (now : List (List ℕ × X)) (q : List ℕ) → map (λ (e : String Y × V). (string_bytes e.0, f e.1)) es ≡ now
    → is_some (lookup (is_at (text_cmp q)) es) ≡ is_some (lookup (is_at (byte_cmp q)) now)
source_had f es now q seen =
    some_map f (lookup (is_at (text_cmp q)) es) ∙ ap is_some (sym (looked_text f es q)) ∙ ap (λ l. is_some (lookup (is_at (byte_cmp q)) l)) seen

-- ---- two lists joined, an entry of the second at a time
pub wanted : {T E : Type 0} (r : Result T E) (P : Type 0) → P → OnErr r P
wanted (Ok t) P p = tt
wanted (Err e) P p = p

none_if : {X : Type 0} (o : Option X) → is_some o ≡ false → o ≡ None
none_if None h = refl
none_if (Some x) h = absurd (both_ways _ h refl)

first_wins : {X : Type 0} (o a b : Option X) → is_some o ≡ true → option_or o a ≡ option_or o b
first_wins None a b h = absurd (both_ways _ refl h)
first_wins (Some x) a b h = refl

own_alone : {X : Type 0} (a b : Option X) → is_some a ≡ true → option_or a b ≡ a
own_alone None b h = absurd (both_ways _ refl h)
own_alone (Some x) b h = refl

-- what was joined, and else what is left, is what the one has, and else what the other has
pub record IsJoinedUpTo {X : Type 0} (own all left both : List (List ℕ × X)) : Type 0 where
  pub looked : (q : List ℕ) → option_or (lookup (is_at (byte_cmp q)) both) (lookup (is_at (byte_cmp q)) left)
      ≡ option_or (lookup (is_at (byte_cmp q)) own) (lookup (is_at (byte_cmp q)) all)
  pub order : IsStrictlySortedBy byte_cmp (keys_of own) → IsStrictlySortedBy byte_cmp (keys_of both)

module _ {X : Type 0} (own all : List (List ℕ × X)) where
  pub joined_none : (left both : List (List ℕ × X)) → left ≡ all → both ≡ own → IsJoinedUpTo own all left both
  joined_none left both whole copied = record {
    looked = λ q. ap₂ (λ b l. option_or (lookup (is_at (byte_cmp q)) b) (lookup (is_at (byte_cmp q)) l)) copied whole;
    order = λ s. subst (λ l. IsStrictlySortedBy byte_cmp (keys_of l)) (sym copied) s;
  }

  -- a source that stands there already is passed over
  pub joined_kept : (left both : List (List ℕ × X)) (e : List ℕ × X) (rest : List (List ℕ × X)) → IsJoinedUpTo own all left both → left ≡ e ∷ rest → is_some (lookup (is_at (byte_cmp e.0)) both) ≡ true
      → IsJoinedUpTo own all rest both
  joined_kept left both e rest u is had = record {
    looked = λ q. same q ∙ ap (λ l. option_or (lookup (is_at (byte_cmp q)) both) (lookup (is_at (byte_cmp q)) l)) (sym is) ∙ u.looked q;
    order = u.order;
  }
    where
      same : (q : List ℕ) → option_or (lookup (is_at (byte_cmp q)) both) (lookup (is_at (byte_cmp q)) rest) ≡ option_or (lookup (is_at (byte_cmp q)) both) (lookup (is_at (byte_cmp q)) (e ∷ rest))
      same q = elim (cases_Bool (is_at (byte_cmp q) e.0)) [
        | inl t ↦ first_wins _ _ _ (ap (λ s. is_some (lookup (is_at (byte_cmp s)) both)) (is_source q e.0 t) ∙ had)
        | inr f ↦ rw f refl
      ]

  pub joined_put : (left both new : List (List ℕ × X)) (e : List ℕ × X) (rest : List (List ℕ × X)) → IsJoinedUpTo own all left both → left ≡ e ∷ rest → is_some (lookup (is_at (byte_cmp e.0)) both) ≡ false
      → new ≡ insert_entry byte_cmp both e.0 e.1 → IsJoinedUpTo own all rest new
  joined_put left both new e rest u is absent made = record {
    looked = λ q. ap (λ l. option_or (lookup (is_at (byte_cmp q)) l) (lookup (is_at (byte_cmp q)) rest)) made
        ∙ ap (λ o. option_or o (lookup (is_at (byte_cmp q)) rest)) (looked_put both e.0 e.1 q)
        ∙ same q ∙ ap (λ l. option_or (lookup (is_at (byte_cmp q)) both) (lookup (is_at (byte_cmp q)) l)) (sym is) ∙ u.looked q;
    order = λ s. subst (λ l. IsStrictlySortedBy byte_cmp (keys_of l)) (sym made) (InOrder-insert_entry both e.0 e.1 (u.order s));
  }
    where
      same : (q : List ℕ) → option_or (if is_at (byte_cmp q) e.0 then Some e.1 else lookup (is_at (byte_cmp q)) both) (lookup (is_at (byte_cmp q)) rest)
          ≡ option_or (lookup (is_at (byte_cmp q)) both) (lookup (is_at (byte_cmp q)) (e ∷ rest))
      same q = elim (cases_Bool (is_at (byte_cmp q) e.0)) [
        | inl t ↦
            let none : lookup (is_at (byte_cmp q)) both ≡ None = none_if _ (ap (λ s. is_some (lookup (is_at (byte_cmp s)) both)) (is_source q e.0 t) ∙ absent) in
            rw (t, none) refl
        | inr f ↦ rw f refl
      ]

  pub joined_all : (left both : List (List ℕ × X)) → IsJoinedUpTo own all left both → left ≡ [] → IsJoinOf both own all
  joined_all left both u done q =
      sym (or_none (lookup (is_at (byte_cmp q)) both)) ∙ ap (λ l. option_or (lookup (is_at (byte_cmp q)) both) (lookup (is_at (byte_cmp q)) l)) (sym done) ∙ u.looked q
    where
      or_none : (o : Option X) → option_or o None ≡ o
      or_none None = refl
      or_none (Some x) = refl

  -- where an entry is left, one of the lists has one
  pub joined_some : (left both : List (List ℕ × X)) (e : List ℕ × X) (rest : List (List ℕ × X)) → IsJoinedUpTo own all left both → left ≡ e ∷ rest → (own ≢ []) ⊎ (all ≢ [])
  joined_some left both e rest u is = at own all (sym (u.looked e.0) ∙ ap (λ l. option_or (lookup (is_at (byte_cmp e.0)) both) (lookup (is_at (byte_cmp e.0)) l)) is)
    where
      or_some : (o : Option X) → is_some (option_or o (lookup (is_at (byte_cmp e.0)) (e ∷ rest))) ≡ true
      or_some None = ap is_some (at_head nat_list_cmp_total exact_bytes e rest)
      or_some (Some x) = refl

      at : (es fs : List (List ℕ × X))
          → option_or (lookup (is_at (byte_cmp e.0)) es) (lookup (is_at (byte_cmp e.0)) fs) ≡ option_or (lookup (is_at (byte_cmp e.0)) both) (lookup (is_at (byte_cmp e.0)) (e ∷ rest)) → (es ≢ []) ⊎ (fs ≢ [])
      at (x ∷ es) fs h = inl (λ none. absurd (cc))
      at [] (x ∷ fs) h = inr (λ none. absurd (cc))
      at [] [] h = absurd (both_ways _ refl (ap is_some h ∙ or_some (lookup (is_at (byte_cmp e.0)) both)))

-- ---- two summaries joined
chosen_some : {X : Type 0} (ps : List Interval) (own other : X) → ps ≢ [] → chosen ps own other ≡ own
chosen_some [] own other h = absurd (h refl)
chosen_some (p ∷ ps) own other h = refl

is_among : (List ℕ → Bool) → List (List ℕ) → Bool
is_among p [] = false
is_among p (k ∷ ks) = if p k then true else is_among p ks

-- whether a source is there is told by the sources alone
there_by_keys : {X : Type 0} (p : List ℕ → Bool) (es : List (List ℕ × X)) → is_some (lookup p es) ≡ is_among p (keys_of es)
unfolding is_among
there_by_keys p [] = refl
there_by_keys p (e ∷ es) = elim (cases_Bool (p e.0)) [
  | inl t ↦ rw t refl
  | inr f ↦ rw f (there_by_keys p es)
]

pub alike_there : {X Z : Type 0} (es : List (List ℕ × X)) (fs : List (List ℕ × Z)) (p : List ℕ → Bool) → keys_of es ≡ keys_of fs → is_some (lookup p es) ≡ is_some (lookup p fs)
alike_there es fs p same = there_by_keys p es ∙ ap (is_among p) same ∙ sym (there_by_keys p fs)

or_there : {X Z : Type 0} (a b : Option X) (c d : Option Z) → is_some a ≡ is_some c → is_some b ≡ is_some d → is_some (option_or a b) ≡ is_some (option_or c d)
or_there None b None d h k = k
or_there None b (Some z) d h k = absurd (both_ways _ (sym h) refl)
or_there (Some x) b None d h k = absurd (both_ways _ h refl)
or_there (Some x) b (Some z) d h k = refl

-- ds digests es, bs digests fs; rs and cs are what they make together
module _ (es fs rs : Entries) (l : AreListed es) (j : IsJoinOf rs es fs) where
  -- a source that the first has, or hasn't
  own_case : (q : List ℕ) → ((numbers_in es q ≡ []) × (lookup (is_at (byte_cmp q)) es ≡ None)) ⊎ ((numbers_in es q ≢ []) × (is_some (lookup (is_at (byte_cmp q)) es) ≡ true))
  own_case q = at (lookup (is_at (byte_cmp q)) es) refl
    where
      at : (o : Option (List Interval)) → lookup (is_at (byte_cmp q)) es ≡ o → ((numbers_in es q ≡ []) × (lookup (is_at (byte_cmp q)) es ≡ None)) ⊎ ((numbers_in es q ≢ []) × (is_some (lookup (is_at (byte_cmp q)) es) ≡ true))
      at None t = inl (numbers_looked es q ∙ ap (λ o. option_map_or (λ v. v) o []) t, t)
      at (Some v) t =
          let own : numbers_in es q ≡ v = numbers_looked es q ∙ ap (λ o. option_map_or (λ v. v) o []) t in
          inr (λ none. (entry_of IsEntry es q v l.0 t).1.2 (sym own ∙ none), ap is_some t)

  numbers_other : (q : List ℕ) → lookup (is_at (byte_cmp q)) es ≡ None → numbers_in rs q ≡ numbers_in fs q
  numbers_other q none =
      numbers_looked rs q ∙ ap (λ o. option_map_or (λ v. v) o []) (j q ∙ ap (λ o. option_or o (lookup (is_at (byte_cmp q)) fs)) none) ∙ sym (numbers_looked fs q)

  numbers_own : (q : List ℕ) → is_some (lookup (is_at (byte_cmp q)) es) ≡ true → numbers_in rs q ≡ numbers_in es q
  numbers_own q there =
      numbers_looked rs q
      ∙ ap (λ o. option_map_or (λ v. v) o []) (j q ∙ own_alone (lookup (is_at (byte_cmp q)) es) (lookup (is_at (byte_cmp q)) fs) there)
      ∙ sym (numbers_looked es q)

  pub joined_numbers : (q : List ℕ) → numbers_in rs q ≡ chosen (numbers_in es q) (numbers_in es q) (numbers_in fs q)
  joined_numbers q = elim (own_case q) [
    | inl w ↦ numbers_other q w.1 ∙ sym (ap (λ ps. chosen ps (numbers_in es q) (numbers_in fs q)) w.0)
    | inr w ↦ numbers_own q w.1 ∙ sym (chosen_some (numbers_in es q) (numbers_in es q) (numbers_in fs q) w.0)
  ]

  module _ (ds bs cs : SourceBlocks) (p : AreDigests es ds) (k : IsJoinOf cs ds bs) where
    blocks_other : (q : List ℕ) → lookup (is_at (byte_cmp q)) es ≡ None → blocks_of cs q ≡ blocks_of bs q
    blocks_other q none =
        let absent : lookup (is_at (byte_cmp q)) ds ≡ None = none_if _ (alike_there ds es (is_at (byte_cmp q)) p.sources ∙ ap is_some none) in
        ap (λ o. option_map_or (λ v. v) o []) (k q ∙ ap (λ o. option_or o (lookup (is_at (byte_cmp q)) bs)) absent)

    blocks_own : (q : List ℕ) → is_some (lookup (is_at (byte_cmp q)) es) ≡ true → blocks_of cs q ≡ blocks_of ds q
    blocks_own q there =
        ap (λ o. option_map_or (λ v. v) o []) (k q ∙ own_alone (lookup (is_at (byte_cmp q)) ds) (lookup (is_at (byte_cmp q)) bs) (alike_there ds es (is_at (byte_cmp q)) p.sources ∙ there))

    pub joined_digests : (q : List ℕ) (n : ℕ) → block_digest (blocks_of cs q) n ≡ chosen (numbers_in es q) (block_digest (blocks_of ds q) n) (block_digest (blocks_of bs q) n)
    joined_digests q n = elim (own_case q) [
      | inl w ↦ ap (λ b. block_digest b n) (blocks_other q w.1) ∙ sym (ap (λ ps. chosen ps (block_digest (blocks_of ds q) n) (block_digest (blocks_of bs q) n)) w.0)
      | inr w ↦ ap (λ b. block_digest b n) (blocks_own q w.1) ∙ sym (chosen_some (numbers_in es q) (block_digest (blocks_of ds q) n) (block_digest (blocks_of bs q) n) w.0)
    ]

    module _ (m : AreListed rs) (r : AreDigests fs bs) (s : IsStrictlySortedBy byte_cmp (keys_of cs)) where
      alike : (q : List ℕ) → is_some (lookup (is_at (byte_cmp q)) cs) ≡ is_some (lookup (is_at (byte_cmp q)) rs)
      alike q =
          ap is_some (k q)
          ∙ or_there (lookup (is_at (byte_cmp q)) ds) (lookup (is_at (byte_cmp q)) bs) (lookup (is_at (byte_cmp q)) es) (lookup (is_at (byte_cmp q)) fs) (alike_there ds es (is_at (byte_cmp q)) p.sources) (alike_there bs fs (is_at (byte_cmp q)) r.sources)
          ∙ ap is_some (sym (j q))

      own_blocks : (q : List ℕ) (v : Blocks) → lookup (is_at (byte_cmp q)) cs ≡ Some v → AreBlocks (q, v)
      own_blocks q v h = at (lookup (is_at (byte_cmp q)) ds) refl (sym (k q) ∙ h)
        where
          at : (o : Option Blocks) → lookup (is_at (byte_cmp q)) ds ≡ o → option_or (lookup (is_at (byte_cmp q)) ds) (lookup (is_at (byte_cmp q)) bs) ≡ Some v → AreBlocks (q, v)
          at None t g = (entry_of AreBlocks bs q v r.blocks (sym (ap (λ o. option_or o (lookup (is_at (byte_cmp q)) bs)) t) ∙ g)).1
          at (Some b) t g = (entry_of AreBlocks ds q v p.blocks (t ∙ sym (ap (λ o. option_or o (lookup (is_at (byte_cmp q)) bs)) t) ∙ g)).1

      just : (q : List ℕ) (n : ℕ) → IsTrue (is_some (block_digest (blocks_of cs q) n)) ↔ HoldsIn (numbers_in rs q) n
      just q n = elim (own_case q) [
        | inl w ↦
            subst (λ b. IsTrue (is_some (block_digest b n)) ↔ HoldsIn (numbers_in rs q) n) (sym (blocks_other q w.1))
            (subst (λ ps. IsTrue (is_some (block_digest (blocks_of bs q) n)) ↔ HoldsIn ps n) (sym (numbers_other q w.1)) (r.exact q n))
        | inr w ↦
            subst (λ b. IsTrue (is_some (block_digest b n)) ↔ HoldsIn (numbers_in rs q) n) (sym (blocks_own q w.1))
            (subst (λ ps. IsTrue (is_some (block_digest (blocks_of ds q) n)) ↔ HoldsIn ps n) (sym (numbers_own q w.1)) (p.exact q n))
      ]

      pub joined_form : AreDigests rs cs
      joined_form = record {
        blocks = all_looked nat_list_cmp_total exact_bytes AreBlocks cs s own_blocks;
        sources = same_keys cs rs s m.1 (λ q h. sym (alike q) ∙ h) (λ q h. alike q ∙ h);
        exact = just;
      }

-- ---- the digests of either version
-- digests joined where both are there, and else none
abbrev pub AreJoined : Option SourceBlocks → Option SourceBlocks → Option SourceBlocks → Type 0
AreJoined None p r = r ≡ None
AreJoined (Some ds) None r = r ≡ None
AreJoined (Some ds) (Some bs) r = (cs : SourceBlocks) × ((r ≡ Some cs) × IsJoinOf cs ds bs × (IsStrictlySortedBy byte_cmp (keys_of ds) → IsStrictlySortedBy byte_cmp (keys_of cs)))

pub both_joined : (o p r : Option SourceBlocks) (ds bs cs : SourceBlocks) → o ≡ Some ds → p ≡ Some bs → r ≡ Some cs → IsJoinOf cs ds bs
    → (IsStrictlySortedBy byte_cmp (keys_of ds) → IsStrictlySortedBy byte_cmp (keys_of cs)) → AreJoined o p r
both_joined o p r ds bs cs one other made k s = subst (λ x. AreJoined x p r) (sym one) (subst (λ y. AreJoined (Some ds) y r) (sym other) (cs, (made, k, s)))

pub own_missing : (o p r : Option SourceBlocks) → o ≡ None → r ≡ None → AreJoined o p r
own_missing o p r one none = subst (λ x. AreJoined x p r) (sym one) none

pub other_missing : (o p r : Option SourceBlocks) → p ≡ None → r ≡ None → AreJoined o p r
other_missing None p r other none = none
other_missing (Some ds) p r other none = subst (λ y. AreJoined (Some ds) y r) (sym other) none

module _ (es fs rs : Entries) (l : AreListed es) (m : AreListed rs) (j : IsJoinOf rs es fs) where
  pub joined_has : (o p r : Option SourceBlocks) → AreJoined o p r → HasDigests es o → HasDigests fs p → HasDigests rs r
  joined_has None p r a h g = subst (HasDigests rs) (sym a) tt
  joined_has (Some ds) None r a h g = subst (HasDigests rs) (sym a) tt
  joined_has (Some ds) (Some bs) r a h g =
      let sorted = a.1.2 (subst (IsStrictlySortedBy byte_cmp) (sym h.sources) l.1) in
      subst (HasDigests rs) (sym a.1.0) (joined_form es fs rs l j ds bs a.0 h a.1.1 m g sorted)

  pub joined_told : (o p r : Option SourceBlocks) → AreJoined o p r → HasDigests es o → is_some o ≡ true → is_some p ≡ true → (q : List ℕ) (n : ℕ)
      → option_map_or (λ cs. block_digest (blocks_of cs q) n) r None
      ≡ chosen (numbers_in es q) (option_map_or (λ ds. block_digest (blocks_of ds q) n) o None) (option_map_or (λ bs. block_digest (blocks_of bs q) n) p None)
  joined_told None p r a h one other q n = absurd (both_ways _ refl one)
  joined_told (Some ds) None r a h one other q n = absurd (both_ways _ refl other)
  joined_told (Some ds) (Some bs) r a h one other q n =
      ap (λ x. option_map_or (λ cs. block_digest (blocks_of cs q) n) x None) a.1.0 ∙ joined_digests es fs rs l j ds bs a.0 h a.1.1 q n
