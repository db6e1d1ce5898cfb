-- From the gaps of a summary to those of the events whose numbers it holds.
use Rattle.std.proofs.Common.{◌≡◌, ◌≢◌, ℕ, List, [], ◌∷◌, ◌++◌, Bool, true, false, ◌&&◌, ◌||◌, refl, sym, subst, ap, ap₂, ◌∙◌, if◌then◌else◌}
use Rattle.std.specs.Prelude.{bytes_eq, filter, cond, ◌↔◌, ◌==◌, None, Some}
use Rattle.std.specs.Map.{keys_of}
use Rattle.std.specs.Str.{IsUtf8}
use Rattle.std.proofs.lemmas.Cmp.{nat_list_cmp_total, tied_itself}
use Rattle.attributes.specs.Bytes.{byte_cmp}
use Rattle.attributes.specs.Character.{is_filled}
use Rattle.std.specs.declared.cmp.Ordering.{Ordering}
use Rattle.std.specs.declared.cmp.Ordering.TheVariants.{Less, Equal}
use Rattle.std.specs.List.{AllByRecursion}
use Rattle.std.specs.List.Sorted.{IsStrictlySortedBy}
use Rattle.std.proofs.lemmas.Slice.Eq.{bytes_eq-Decides}
use mathlib.Core.Bool.{true≢false}
use Rattle.std.proofs.lemmas.List.Elements.{filter-append}
use Rattle.std.proofs.lemmas.List.Folds.{list_any-append}
use Rattle.attributes.specs.Event.{EventValue, source_of}
use Rattle.attributes.specs.Sequence.{number_of}
use Rattle.coverage.specs.Intervals.{Interval, Forms, IsMissing, holds, rises_from}
use Rattle.coverage.specs.Summary.{Entry, Entries, Sources, AreEntries, IsSummary, holds_at, holds_in, numbers_in, version_of}
use Rattle.views.specs.Number.{AreGaps, HasNumbers, IsGap, has_number, is_number, is_numbered}
use Rattle.views.specs.steps.Gaps.{AreGapsOf, AreMissing, has_any, has_gap}

module _ {X : Type 0} (p : X → Bool) where
  pub all_kept : (P : X → Type 0) (xs : List X) → AllByRecursion P xs → AllByRecursion P (filter p xs)
  all_kept P [] a = tt
  all_kept P (x ∷ xs) a = elim (p x) as (λ b. AllByRecursion P (cond b (x ∷ filter p xs) (filter p xs))) [
    | true ↦ (a.0, all_kept P xs a.1)
    | false ↦ all_kept P xs a.1
  ]

  pub all_pass : (xs : List X) → AllByRecursion (λ x. p x ≡ true) (filter p xs)
  all_pass [] = tt
  all_pass (x ∷ xs) = elim (p x) as (λ b. p x ≡ b → AllByRecursion (λ x. p x ≡ true) (cond b (x ∷ filter p xs) (filter p xs))) [
    | true ↦ λ e. (e, all_pass xs)
    | false ↦ λ e. all_pass xs
  ] refl

keys_kept : (P : List ℕ → Type 0) (p : Entry → Bool) (es : Entries) → AllByRecursion P (keys_of es) → AllByRecursion P (keys_of (filter p es))
keys_kept P p [] a = tt
keys_kept P p (e ∷ es) a = elim (p e) as (λ b. AllByRecursion P (keys_of (cond b (e ∷ filter p es) (filter p es)))) [
  | true ↦ (a.0, keys_kept P p es a.1)
  | false ↦ keys_kept P p es a.1
]

keys_rise : (p : Entry → Bool) (es : Entries) → IsStrictlySortedBy byte_cmp (keys_of es) → IsStrictlySortedBy byte_cmp (keys_of (filter p es))
unfolding IsStrictlySortedBy
keys_rise p [] s = tt
keys_rise p (e ∷ es) s = elim (p e) as (λ b. IsStrictlySortedBy byte_cmp (keys_of (cond b (e ∷ filter p es) (filter p es)))) [
  | true ↦ (keys_kept (λ k. byte_cmp e.0 k ≡ Less) p es s.0, keys_rise p es s.1)
  | false ↦ keys_rise p es s.1
]

-- no interval
none_of : (ps : List Interval) → has_any ps ≡ false → ps ≡ []
none_of [] h = refl
none_of (p ∷ ps) h = absurd (true≢false h)

pub not_none : (ps : List Interval) → has_any ps ≡ true → ps ≢ []
not_none [] h = absurd (true≢false (sym h))
not_none (p ∷ ps) h = λ e. cc

-- ---- what the entries of a summary lack

keys_of_missing : (es all : Entries) → AreMissing es all → keys_of all ≡ keys_of es
keys_of_missing [] [] a = refl
keys_of_missing (e ∷ es) (row ∷ rows) a = ap₂ (λ k ks. k ∷ ks) a.0 (keys_of_missing es rows a.2)
keys_of_missing [] (row ∷ rows) a = absurd a
keys_of_missing (e ∷ es) [] a = absurd a

rows_are_entries : (es all : Entries) → AreMissing es all → AreEntries es → AreEntries (filter has_gap all)
rows_are_entries [] [] a h = tt
rows_are_entries (e ∷ es) (row ∷ rows) a h =
    elim (has_gap row) as (λ g. has_gap row ≡ g → AreEntries (cond g (row ∷ filter has_gap rows) (filter has_gap rows))) [
      | true ↦ λ g. ((subst IsUtf8 (sym a.0) h.0.0, ap is_filled a.0 ∙ h.0.1, not_none row.1 g, a.1.0), rows_are_entries es rows a.2 h.1)
      | false ↦ λ g. rows_are_entries es rows a.2 h.1
    ] refl
rows_are_entries [] (row ∷ rows) a h = absurd a
rows_are_entries (e ∷ es) [] a h = absurd a

-- no number is missing of none
none_missing : Forms [] (IsMissing [])
unfolding holds rises_from
none_missing = (refl, λ n. ((λ t. absurd (true≢false (sym t))), (λ m. absurd (true≢false (sym m.2.1.1)))))

all_missing : (es all : Entries) (s : List ℕ) → AreMissing es all → Forms (numbers_in all s) (IsMissing (numbers_in es s))
all_missing [] [] s a = none_missing
all_missing (e ∷ es) (row ∷ rows) s a =
    subst (λ k. Forms (if bytes_eq s k then row.1 else numbers_in rows s) (IsMissing (if bytes_eq s e.0 then e.1 else numbers_in es s))) (sym a.0)
    (elim (bytes_eq s e.0) as (λ b. Forms (if b then row.1 else numbers_in rows s) (IsMissing (if b then e.1 else numbers_in es s))) [
      | true ↦ a.1
      | false ↦ all_missing es rows s a.2
    ])
all_missing [] (row ∷ rows) s a = absurd a
all_missing (e ∷ es) [] s a = absurd a

-- a source below all others is none of them
none_later : (s : List ℕ) (es : Entries) → AllByRecursion (λ k. byte_cmp s k ≡ Less) (keys_of es) → numbers_in es s ≡ []
none_later s [] a = refl
none_later s (e ∷ es) a =
    elim (bytes_eq s e.0) as (λ b. bytes_eq s e.0 ≡ b → (if b then e.1 else numbers_in es s) ≡ []) [
      | true ↦ λ h. absurd (no_less (byte_cmp s e.0) a.0 (ap (byte_cmp s) (sym ((bytes_eq-Decides s e.0).0 h)) ∙ tied_itself nat_list_cmp_total s))
      | false ↦ λ h. none_later s es a.1
    ] refl
  where
    no_less : (r : Ordering) → r ≡ Less → r ≡ Equal → ⊥
    no_less r l e = cc

-- the rows that are left out hold nothing
numbers_in-kept : (all : Entries) (s : List ℕ) → IsStrictlySortedBy byte_cmp (keys_of all) → numbers_in (filter has_gap all) s ≡ numbers_in all s
unfolding IsStrictlySortedBy
numbers_in-kept [] s o = refl
numbers_in-kept (row ∷ rows) s o =
    elim (has_gap row) as (λ g. has_gap row ≡ g → numbers_in (cond g (row ∷ filter has_gap rows) (filter has_gap rows)) s ≡ (if bytes_eq s row.0 then row.1 else numbers_in rows s)) [
      | true ↦ λ g. ap (λ ps. if bytes_eq s row.0 then row.1 else ps) (numbers_in-kept rows s o.1)
      | false ↦ λ g. numbers_in-kept rows s o.1 ∙ elim (bytes_eq s row.0) as (λ b. bytes_eq s row.0 ≡ b → numbers_in rows s ≡ (if b then row.1 else numbers_in rows s)) [
        | true ↦ λ h. none_later s rows (subst (λ k. AllByRecursion (λ l. byte_cmp k l ≡ Less) (keys_of rows)) (sym ((bytes_eq-Decides s row.0).0 h)) o.0) ∙ sym (none_of row.1 g)
        | false ↦ λ h. refl
      ] refl
    ] refl

-- the gaps of a summary are those of the events whose numbers it holds
pub gaps_from : (E : List EventValue) (summary : Sources) (rows : Entries) → HasNumbers E summary → IsSummary summary → AreGapsOf summary.entries rows → AreGaps E rows
gaps_from E summary rows has is gaps =
    let all = gaps.0 in
    let rise : IsStrictlySortedBy byte_cmp (keys_of all) = subst (λ k. IsStrictlySortedBy byte_cmp k) (sym (keys_of_missing summary.entries all gaps.1)) is.listed.1 in
    let missing_is : (s : List ℕ) (n : ℕ) → IsMissing (numbers_in summary.entries s) n ↔ IsGap E s n = λ s n.
    ((λ m. (m.0, sym (has s n) ∙ m.1, (m.2.0, (m.2.1.0, sym (has s m.2.0) ∙ m.2.1.1)))), (λ g. (g.0, has s n ∙ g.1, (g.2.0, (g.2.1.0, has s g.2.0 ∙ g.2.1.1))))) in
    let kept : (s : List ℕ) → Forms (numbers_in rows s) (IsMissing (numbers_in summary.entries s)) = λ s.
    subst (λ ps. Forms ps (IsMissing (numbers_in summary.entries s))) (sym (ap (λ r. numbers_in r s) gaps.2 ∙ numbers_in-kept all s rise)) (all_missing summary.entries all s gaps.1) in
    record {
      in_form = (
        subst AreEntries (sym gaps.2) (rows_are_entries summary.entries all gaps.1 is.listed.0),
        subst (λ r. IsStrictlySortedBy byte_cmp (keys_of r)) (sym gaps.2) (keys_rise has_gap all rise),
      );
      exact = λ s n. ((λ t. (missing_is s n).0 (((kept s).1 n).0 t)), (λ g. ((kept s).1 n).1 ((missing_is s n).1 g)));
    }

-- an event more was summed
pub has_number-more : (E : List EventValue) (e : EventValue) (s : List ℕ) (n : ℕ) → has_number (E ++ e ∷ []) s n ≡ (has_number E s n || is_numbered e s n)
has_number-more E e s n = list_any-append (λ x. is_numbered x s n) E (e ∷ []) ∙ ap (λ b. has_number E s n || b) (or_false (is_numbered e s n))
  where
    or_false : (b : Bool) → (b || false) ≡ b
    or_false true = refl
    or_false false = refl

pub is_numbered-Some : (e : EventValue) (text s : List ℕ) (m n : ℕ) → text ≡ source_of e → number_of e ≡ Some m → (bytes_eq s text && (n == m)) ≡ is_numbered e s n
is_numbered-Some e text s m n named numbered =
    ap (λ t. bytes_eq s t && (n == m)) named ∙ ap (λ o. bytes_eq s (source_of e) && is_number o n) (sym numbered)

-- an entry more
pub rows_more : (es rows : Entries) (e : Entry) (ps : List Interval) → AreGapsOf es rows → Forms ps (IsMissing e.1)
    → AreGapsOf (es ++ e ∷ []) (rows ++ filter has_gap ((e.0, ps) ∷ []))
rows_more es rows e ps g f = (
  g.0 ++ (e.0, ps) ∷ [],
  missing_more es g.0 g.1,
  ap (λ l. l ++ filter has_gap ((e.0, ps) ∷ [])) g.2 ∙ sym (filter-append has_gap g.0 ((e.0, ps) ∷ [])),
)
  where
    missing_more : (es all : Entries) → AreMissing es all → AreMissing (es ++ e ∷ []) (all ++ (e.0, ps) ∷ [])
    missing_more [] [] a = (refl, f, tt)
    missing_more (x ∷ es) (row ∷ rows) a = (a.0, a.1, missing_more es rows a.2)
    missing_more [] (row ∷ rows) a = absurd a
    missing_more (x ∷ es) [] a = absurd a

bool_same : (a b : Bool) → (a ≡ true → b ≡ true) → (b ≡ true → a ≡ true) → a ≡ b
bool_same true b f g = sym (f refl)
bool_same false true f g = g refl
bool_same false false f g = refl

-- the gaps of events are one list, where the numbers of a summary tell it
pub gaps_are_one : ((s t : Sources) → IsSummary s → IsSummary t → version_of s ≡ 1 → version_of t ≡ 1 → ((source : List ℕ) (n : ℕ) → holds_at s source n ≡ holds_at t source n) → s ≡ t)
    → (E : List EventValue) (rows others : Entries) → AreGaps E rows → AreGaps E others → rows ≡ others
gaps_are_one told E rows others g h =
    ap (λ summary. summary.entries) (told (record { entries = rows; digests = None }) (record { entries = others; digests = None }) (record { listed = g.in_form; digests = tt }) (record { listed = h.in_form; digests = tt })
    refl refl (λ s n. bool_same (holds_in rows s n) (holds_in others s n) (λ t. (h.exact s n).1 ((g.exact s n).0 t)) (λ t. (g.exact s n).1 ((h.exact s n).0 t))))
