-- Covers of parts, and what they say of the whole.
use Rattle.std.proofs.Common.{◌≡◌, ◌<◌, ◌+◌, below_more, Bor, ℕ, Option, None, subst, zero, suc, List, [], ◌∷◌, ◌++◌, Bool, true, false, cond, ◌||◌, if◌then◌else◌, bytes_eq, get_or, length, map, take, String, Some, slice_get, option_map, refl, sym, ap, ap₂, ◌∙◌, true≢false, arith}
use Rattle.std.specs.BTreeSet.{BTreeSet, contains_text}
use Rattle.std.specs.declared.alloc.Global.{Global}
use Rattle.std.specs.List.{AllByRecursion, list_any}
use Rattle.std.proofs.lemmas.List.{map-append, take_more}
use Rattle.std.proofs.lemmas.Option.{slice_get-get_or, slice_get-map, slice_get_read, slice_get_within}
use Rattle.std.specs.Option.{IfNone, IfSome}
use Rattle.std.proofs.lemmas.Slice.Eq.{bytes_eq-Decides}
use Rattle.coverage.specs.Intervals.{holds}
use Rattle.coverage.specs.Summary.{Entries, Entry, Sources, entries_of, holds_in, numbers_in, numbers_of}
use Rattle.views.specs.Line.{cover_line}
use Rattle.parts.specs.Lines.{AreJoined}
use Rattle.parts.proofs.LineLemmas.{joined_more}
use Rattle.parts.specs.Combined.{AreCovers, HasSource, IsNoCover, IsOfFirstVersion, KeepsSources, ShareNone}

pub some_is : {X : Type 0} (y x : X) → Some y ≡ Some x → y ≡ x
some_is y x h = cc

pub no_numbers : (s : Sources) (source : List ℕ) → numbers_of s source ≡ [] → HasSource s source → ⊥
unfolding holds
no_numbers s source none h = true≢false (sym h.1 ∙ ap (λ l. holds l h.0) none)

pub all_more : {X : Type 0} (P : X → Type 0) (xs : List X) (x : X) → AllByRecursion P xs → P x → AllByRecursion P (xs ++ x ∷ [])
all_more P [] x a h = (h, tt)
all_more P (y ∷ ys) x a h = (a.0, all_more P ys x a.1 h)

pub cover_more : (texts : List (List ℕ)) (summaries : List Sources) (text : List ℕ) (s : Sources) → AreCovers texts summaries → IsOfFirstVersion s → text ≡ cover_line s
    → AreCovers (texts ++ text ∷ []) (summaries ++ s ∷ [])
cover_more texts summaries text s are first is = record {
  first = all_more IsOfFirstVersion summaries s are.first first;
  written = map-append cover_line summaries (s ∷ []) ∙ ap₂ (λ l t. l ++ t ∷ []) are.written (sym is);
}

-- ---- lists

pub map_taken : {X Y : Type 0} (f : X → Y) (xs : List X) (i : ℕ) (d : X) → i < length xs → map f (take (i + 1) xs) ≡ map f (take i xs) ++ f (get_or xs i d) ∷ []
map_taken f xs i d lt = ap (map f) (take_more xs i d lt) ∙ map-append f (take i xs) (get_or xs i d ∷ [])

pub map_got : {X Y : Type 0} (f : X → Y) (xs : List X) (i : ℕ) (d : X) → i < length xs → slice_get (map f xs) i ≡ Some (f (get_or xs i d))
map_got f xs i d lt = slice_get-map f xs i ∙ ap (option_map f) (slice_get-get_or xs i d lt)

-- what stands at a place
pub at_place : {X : Type 0} (xs : List X) (i : ℕ) (x y : X) → i < length xs → x ≡ get_or xs i x → slice_get xs i ≡ Some y → x ≡ y
at_place xs i x y lt is got = some_is x y (sym (slice_get_read xs (length xs) i x refl lt is) ∙ got)

pub any_at : {X : Type 0} (q : X → Bool) (xs : List X) (i : ℕ) (x : X) → slice_get xs i ≡ Some x → q x ≡ true → list_any q xs ≡ true
any_at q [] i x got h = cc
any_at {X} q (y ∷ ys) zero x got h = ap (λ b. b || list_any q ys) (ap q (some_is y x got) ∙ h)
any_at q (y ∷ ys) (suc i) x got h = ap (λ b. q y || b) (any_at q ys i x got h) ∙ or-true (q y)
  where
    or-true : (b : Bool) → (b || true) ≡ true
    or-true true = refl
    or-true false = refl

pub any_found : {X : Type 0} (q : X → Bool) (xs : List X) → list_any q xs ≡ true → (i : ℕ) × (x : X) × (slice_get xs i ≡ Some x) × (q x ≡ true)
any_found q [] h = absurd (true≢false (sym h))
any_found {X} q (y ∷ ys) h = by (q y) refl h (any_found q ys)
  where
    by : (b : Bool) → q y ≡ b → (b || list_any q ys) ≡ true → (list_any q ys ≡ true → (i : ℕ) × (x : X) × (slice_get ys i ≡ Some x) × (q x ≡ true))
        → (i : ℕ) × (x : X) × (slice_get (y ∷ ys) i ≡ Some x) × (q x ≡ true)
    by true e g later = (0, y, refl, e)
    by false e g later = let r = later g in (suc r.0, r.1, r.2, r.3)

-- ---- sources of a summary

pub entry_of : (es : Entries) (source : List ℕ) (n : ℕ) → holds_in es source n ≡ true → (k : ℕ) × (e : Entry) × (slice_get es k ≡ Some e) × (e.0 ≡ source)
unfolding holds
entry_of [] source n h = absurd (true≢false (sym h))
entry_of (e ∷ es) source n h = by (bytes_eq source e.0) refl h (entry_of es source n)
  where
    by : (b : Bool) → bytes_eq source e.0 ≡ b → holds (if b then e.1 else numbers_in es source) n ≡ true
        → (holds_in es source n ≡ true → (k : ℕ) × (f : Entry) × (slice_get es k ≡ Some f) × (f.0 ≡ source))
        → (k : ℕ) × (f : Entry) × (slice_get (e ∷ es) k ≡ Some f) × (f.0 ≡ source)
    by true eq g later = (0, e, refl, sym ((bytes_eq-Decides source e.0).0 eq))
    by false eq g later = let r = later g in (suc r.0, r.1, r.2, r.3)

-- a fact of the source of one row more
pub row_more : {X : Type 0} (f : X → Entry) (xs : List X) (es : Entries) (i : ℕ) (x : X) (P : List ℕ → Type 0) → map f xs ≡ es → i < length xs → x ≡ get_or xs i x
    → ((k : ℕ) → k < i → (e : Entry) → slice_get es k ≡ Some e → P e.0) → P ((f x).0) → (k : ℕ) → k < i + 1 → (e : Entry) → slice_get es k ≡ Some e → P e.0
row_more f xs es i x P is lt at before here =
    below_more _ _ before
    (λ e got.
    let there = ap (λ y. Some (f y)) at ∙ sym (map_got f xs i x lt) ∙ ap (λ l. slice_get l i) is ∙ got in
    subst (λ (y : Entry). P y.0) (some_is (f x) e there) here)

-- ---- sources that were met

pub source_put : (old new : BTreeSet (String Global)) (bs : List ℕ) → ((cs : List ℕ) → contains_text new cs ≡ cond (bytes_eq bs cs) true (contains_text old cs)) → (contains_text new bs ≡ true) × KeepsSources old new
source_put old new bs h = (
  h bs ∙ ap (λ b. cond b true (contains_text old bs)) ((bytes_eq-Decides bs bs).1 refl),
  λ cs was. h cs ∙ ap (cond (bytes_eq bs cs) true) was ∙ both (bytes_eq bs cs),
)
  where
    both : (b : Bool) → cond b true true ≡ true
    both true = refl
    both false = refl

-- each source of a summary is that of a row
pub each_source : (s : Sources) (P : List ℕ → Type 0) → ((k : ℕ) → k < length (entries_of s) → (e : Entry) → slice_get (entries_of s) k ≡ Some e → P e.0) → (source : List ℕ) → HasSource s source → P source
each_source s P rows source has =
    let found = entry_of (entries_of s) source has.0 has.1 in
    subst P found.3 (rows found.0 (slice_get_within (entries_of s) found.0 found.1 found.2) found.1 found.2)

-- a part none of whose sources was met shares none with those before
pub none_met : (all : List Sources) (met : BTreeSet (String Global)) (i : ℕ) (t : Sources) → slice_get all i ≡ Some t → ((source : List ℕ) → HasSource t source → contains_text met source ≡ false)
    → ((k : ℕ) → k < i → (s : Sources) → slice_get all k ≡ Some s → (source : List ℕ) → HasSource s source → contains_text met source ≡ true)
    → (k : ℕ) → k < i → (s u : Sources) → slice_get all k ≡ Some s → slice_get all i ≡ Some u → ShareNone s u
none_met all met i t at new were k lt s u first second source a b =
    let same : t ≡ u = some_is t u (sym at ∙ second) in
    true≢false (sym (were k lt s first source a) ∙ new source (subst (λ v. HasSource v source) (sym same) b))

-- ---- lists, one behind the other

-- what stands at a place of two lists, one behind the other
pub in_first : {X : Type 0} (xs ys : List X) (i : ℕ) (x : X) → slice_get xs i ≡ Some x → slice_get (xs ++ ys) i ≡ Some x
in_first [] ys i x got = cc
in_first (y ∷ xs) ys zero x got = got
in_first (y ∷ xs) ys (suc i) x got = in_first xs ys i x got

pub from_first : {X : Type 0} (xs ys : List X) (i : ℕ) → i < length xs → slice_get (xs ++ ys) i ≡ slice_get xs i
from_first [] ys i lt = absurd (omega (arith, lt))
from_first (y ∷ xs) ys zero lt = refl
from_first (y ∷ xs) ys (suc i) lt = from_first xs ys i (omega (arith, lt))

pub in_rest : {X : Type 0} (xs ys : List X) (j : ℕ) → slice_get (xs ++ ys) (length xs + j) ≡ slice_get ys j
in_rest [] ys j = (let e : 0 + j ≡ j = omega arith in ap (slice_get ys) e)
in_rest (y ∷ xs) ys j = (let e : suc (length xs) + j ≡ suc (length xs + j) = omega arith in ap (slice_get (y ∷ (xs ++ ys))) e ∙ in_rest xs ys j)

-- ---- what is read

pub read_more : (covers : List (Bor (List ℕ))) (i : ℕ) (d : Bor (List ℕ)) (o : Option Sources) (s : Sources) (ss items : List Sources) → i < length covers → o ≡ Some s
    → IfSome o (λ t. IsOfFirstVersion t × ((get_or covers i d).now ≡ cover_line t)) → items ≡ ss ++ s ∷ [] → AreCovers (map (λ t. t.now) (take i covers)) ss
    → AreCovers (map (λ t. t.now) (take (i + 1) covers)) items
read_more covers i d o s ss items lt some told pushed are =
    let now : Bor (List ℕ) → List ℕ = λ t. t.now in
    let h = subst (λ m. IfSome m (λ t. IsOfFirstVersion t × ((get_or covers i d).now ≡ cover_line t))) some told in
    subst (AreCovers (map now (take (i + 1) covers))) (sym pushed)
    (subst (λ l. AreCovers l (ss ++ s ∷ [])) (sym (map_taken now covers i d lt)) (cover_more (map now (take i covers)) ss (get_or covers i d).now s are h.0 h.1))

pub none_read : (covers : List (Bor (List ℕ))) (i : ℕ) (d : Bor (List ℕ)) (o : Option Sources) → i < length covers → o ≡ None → IfNone o (IsNoCover (get_or covers i d).now)
    → (text : List ℕ) × (slice_get (map (λ t. t.now) covers) i ≡ Some text) × IsNoCover text
none_read covers i d o lt none told =
    ((get_or covers i d).now, map_got (λ t. t.now) covers i d lt, subst (λ m. IfNone m (IsNoCover (get_or covers i d).now)) none told)

-- rows of one text more
pub joined_next : {X : Type 0} (Tells : List ℕ → List X → Type 0) (texts : List (Bor (List ℕ))) (i : ℕ) (d : Bor (List ℕ)) (o : Option (List X)) (rows all new : List X) → i < length texts → o ≡ Some rows
    → IfSome o (Tells (get_or texts i d).now) → AreJoined Tells (map (λ t. t.now) (take i texts)) all → new ≡ all ++ rows → AreJoined Tells (map (λ t. t.now) (take (i + 1) texts)) new
joined_next Tells texts i d o rows all new lt some told are added =
    let now : Bor (List ℕ) → List ℕ = λ t. t.now in
    let own = subst (λ m. IfSome m (Tells (get_or texts i d).now)) some told in
    subst (AreJoined Tells (map now (take (i + 1) texts))) (sym added)
    (subst (λ l. AreJoined Tells l (all ++ rows)) (sym (map_taken now texts i d lt)) (joined_more Tells (map now (take i texts)) all (get_or texts i d).now rows are own))

-- what is true of the text at a place where nothing was read
pub none_there : {X : Type 0} {P : List ℕ → Type 0} (texts : List (Bor (List ℕ))) (i : ℕ) (d : Bor (List ℕ)) (o : Option X) → i < length texts → o ≡ None → IfNone o (P (get_or texts i d).now)
    → (text : List ℕ) × (slice_get (map (λ t. t.now) texts) i ≡ Some text) × P text
none_there {X} {P} texts i d o lt none told =
    ((get_or texts i d).now, map_got (λ t. t.now) texts i d lt, subst (λ m. IfNone m (P (get_or texts i d).now)) none told)
