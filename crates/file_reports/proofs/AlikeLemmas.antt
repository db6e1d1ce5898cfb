-- Files that hold the same events have the same report.
use Rattle.std.proofs.Common.{◌≡◌, ◌⊎◌, ◌||◌, ◌<◌, ℕ, zero, suc, List, [], ◌∷◌, Bool, true, false, true≢false, length, refl, sym, ap, ap₂, subst, ◌∙◌, inl, inr, arith}
use Rattle.std.specs.Prelude.{All, Contains, slice_index_or}
use Rattle.std.specs.Cmp.{both_ways}
use Rattle.std.specs.List.{AllByRecursion, list_any}
use Rattle.std.specs.Ordering.{is_eq}
use Rattle.attributes.specs.Event.{EventValue}
use Rattle.attributes.specs.Fault.{IsEvent}
use Rattle.event_json.specs.Reading.{Reads}
use Rattle.inbox.specs.KeyOrder.{key_cmp}
use Rattle.inbox.specs.Ordered.{has}
use Rattle.inbox.specs.Sets.{AreEvents, set_of}
use Rattle.views.specs.Law.{AnswersAreAlike}
use Rattle.views.specs.Question.{IsAnswer}
use Rattle.views.specs.declared.query.Query.{Query}
use Rattle.event_files.specs.Files.{EachReads, joined}
use Rattle.file_reports.specs.Reports.{HoldsEvent, HoldSameEvents, IsReport}
use Rattle.file_reports.specs.Reports.{KeepsFiles}

or_true : (b : Bool) → (b || true) ≡ true
or_true true = refl
or_true false = refl

at_places : {X : Type 0} (P : X → Type 0) (xs : List X) → AllByRecursion P xs → All P xs
at_places P [] h k d lt = absurd (omega arith)
at_places P (x ∷ xs) h zero d lt = h.0
at_places P (x ∷ xs) h (suc k) d lt = at_places P xs h.1 k d (omega arith)

-- ---- elements of lists
-- each element of the first list is one of the second
abbrev Among : {X : Type 0} → List X → List X → Type 0
Among {X} xs ys = (x : X) → Contains xs x → Contains ys x

all_at : {X : Type 0} (P : X → Type 0) (xs : List X) (x : X) → All P xs → Contains xs x → P x
all_at P xs x all c = subst P c.2 (all c.0 x c.1)

first_there : {X : Type 0} (x : X) (xs : List X) → Contains (x ∷ xs) x
first_there x xs = (0, omega arith, refl)

later_there : {X : Type 0} (x y : X) (ys : List X) → Contains ys x → Contains (y ∷ ys) x
later_there x y ys c = (suc c.0, omega (arith, c.1), c.2)

none_there : {X : Type 0} (x : X) → Contains [] x → ⊥
none_there x c = omega (arith, c.1)

first_or_later : {X : Type 0} (y : X) (ys : List X) (x : X) → Contains (y ∷ ys) x → (y ≡ x) ⊎ Contains ys x
first_or_later {X} y ys x c = from c.0 c.1 c.2
  where
    from : (k : ℕ) → k < length (y ∷ ys) → slice_index_or (y ∷ ys) k x ≡ x → (y ≡ x) ⊎ Contains ys x
    from zero lt at = inl at
    from (suc k) lt at = inr (k, omega arith, at)

any_of : {X : Type 0} (p : X → Bool) (xs : List X) → list_any p xs ≡ true → (x : X) × Contains xs x × (p x ≡ true)
any_of {X} p [] t = absurd (true≢false (sym t))
any_of {X} p (x ∷ xs) t = step (p x) refl (any_of p xs)
  where
    step : (b : Bool) → p x ≡ b → (list_any p xs ≡ true → (y : X) × Contains xs y × (p y ≡ true)) → (y : X) × Contains (x ∷ xs) y × (p y ≡ true)
    step true e later = (x, first_there x xs, e)
    step false e later =
        let found = later (sym (ap (λ b. b || list_any p xs) e) ∙ t) in
        (found.0, later_there found.0 x xs found.1, found.2)

any_from : {X : Type 0} (p : X → Bool) (xs : List X) (x : X) → Contains xs x → p x ≡ true → list_any p xs ≡ true
any_from p [] x c t = absurd (none_there x c)
any_from p (y ∷ ys) x c t = elim (first_or_later y ys x c) [
  | inl e ↦ ap (λ b. b || list_any p ys) (ap p e ∙ t)
  | inr d ↦ ap (λ b. p y || b) (any_from p ys x d t) ∙ or_true (p y)
]

any_alike : {X : Type 0} (p : X → Bool) (xs ys : List X) → Among xs ys → Among ys xs → list_any p xs ≡ list_any p ys
any_alike {X} p xs ys f g = both_ways (list_any p xs) (list_any p ys) (λ t. moved xs ys f t) (λ t. moved ys xs g t)
  where
    moved : (zs ws : List X) → Among zs ws → list_any p zs ≡ true → list_any p ws ≡ true
    moved zs ws among t = let found = any_of p zs t in any_from p ws found.0 (among found.0 found.1) found.2

-- ---- events that are in both of two lists

-- what has the one has the other
has_alike : (es fs : List EventValue) → Among es fs → Among fs es → (e : EventValue) → has key_cmp es e ≡ has key_cmp fs e
has_alike es fs f g e = any_alike (λ y. is_eq (key_cmp e y)) es fs f g

-- elements of a list of events are events
events_along : (es fs : List EventValue) → Among fs es → AreEvents es → AreEvents fs
events_along es [] g h = tt
events_along es (x ∷ xs) g h = (
  all_at IsEvent es x (at_places IsEvent es h) (g x (first_there x xs)),
  events_along es xs (λ y c. g y (later_there y x xs c)) h,
)

-- ---- reports
-- what is known of the readings of bytes
abbrev ReadingsAreOne : Type 0
ReadingsAreOne = (b : List ℕ) (es fs : List EventValue) → Reads b es → Reads b fs → es ≡ fs

lists_alike : ReadingsAreOne → (files : List (List ℕ)) (ls ms : List (List EventValue)) → EachReads files ls → EachReads files ms → ls ≡ ms
lists_alike one [] [] [] r s = refl
lists_alike one [] [] (m ∷ ms) r s = absurd s
lists_alike one [] (l ∷ ls) ms r s = absurd r
lists_alike one (f ∷ fs) [] ms r s = absurd r
lists_alike one (f ∷ fs) (l ∷ ls) [] r s = absurd s
lists_alike one (f ∷ fs) (l ∷ ls) (m ∷ ms) r s = ap₂ ◌∷◌ (one f l m r.0 s.0) (lists_alike one fs ls ms r.2 s.2)

-- the events of the lists that files spell are those of other files with the same events
events_among : ReadingsAreOne → (files others : List (List ℕ)) (ls ms : List (List EventValue)) → EachReads files ls → EachReads others ms
    → ((e : EventValue) → HoldsEvent files e → HoldsEvent others e) → Among (joined ls) (joined ms)
events_among one files others ls ms r s hold e c =
    let held = hold e (ls, r, c) in
    subst (λ l. Contains (joined l) e) (lists_alike one others held.0 ms held.1 s) held.2

pub report_alike : ReadingsAreOne → AnswersAreAlike → (query : Query) (files others : List (List ℕ)) (site : List EventValue) (text other : List ℕ)
    → KeepsFiles files site → IsAnswer query (set_of site) text → HoldSameEvents files others → IsReport query others other → other ≡ text
report_alike one alike query files others site text other k a same s =
    let here : List EventValue = joined k.0 in
    let there : List EventValue = joined s.0 in
    let f = events_among one files others k.0 s.0 k.1 s.1 (λ e. (same e).0) in
    let g = events_among one others files s.0 k.0 s.1 k.1 (λ e. (same e).1) in
    sym (alike query here there text other k.2 (events_along here there g k.2) (has_alike here there f g)
    (subst (λ E. IsAnswer query E text) k.3 a) s.2)
