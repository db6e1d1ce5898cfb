-- Counts of a list that grows.
use Rattle.std.proofs.Common.{◌≡◌, ◌⊎◌, inl, inr, ℕ, zero, suc, ◌+◌, ◌<◌, ◌≤◌, List, [], ◌∷◌, ◌++◌, length, take, slice_get, Bool, true, false, cond, ◌||◌, bytes_eq, if◌then◌else◌, Some, None, unwrap_or, refl, sym, ap, ap₂, subst, ◌∙◌, arith, true≢false, is_eq}
use Rattle.std.specs.declared.cmp.Ordering.{Ordering}
use Rattle.std.specs.declared.cmp.Ordering.TheVariants.{Less, Equal, Greater}
use Rattle.std.specs.Ordering.{ordering_then}
use Rattle.std.specs.List.{AllByRecursion}
use Rattle.std.proofs.lemmas.Map.Lookups.{exact_bytes}
use Rattle.std.proofs.lemmas.Map.Text.{is_eq-slice_cmp}
use Rattle.attributes.specs.Event.{EventValue, source_of, text}
use Rattle.attributes.specs.Fault.{IsEvent}
use Rattle.attributes.specs.Members.{value_at, with_value}
use Rattle.attributes.specs.Sequence.{max_sequence}
use Rattle.attributes.proofs.LawLemmas.{same_text}
use Rattle.inbox.specs.KeyOrder.{key_cmp, pair_cmp, text_cmp}
use Rattle.inbox.specs.Ordered.{has}
use Rattle.inbox.proofs.OrderLemmas.{key_cmp_total}
use Rattle.inbox.proofs.ReadLemmas.{take_next}
use Rattle.inbox.proofs.SetLemmas.{append_new-append}
use Rattle.numbers.specs.Counts.{Counts, IsCountOf, IsCountOfRows, IsCounted, KeepsKnown, Knows, KnowsOnly, TextNumbers, next}
use Rattle.numbers.specs.Filter.{MayHave}
use Rattle.numbers.specs.Numbered.{AreBare, HasNoOther, HasNumber, HaveNumbers, IsBare}
use Rattle.numbers.specs.Numberer.{IsEachOnce, is_of_source, number, of_source, taken, up_to}
use Rattle.numbers.proofs.BatchLemmas.{all_more}
use Rattle.numbers.proofs.ListLemmas.{all_map, all_there, has-append, itself, stays_once}
use Rattle.numbers.proofs.NumberLemmas.{number_stays, only_none, only_stays}
use Rattle.numbers.proofs.NumberedLemmas.{at_name, elsewhere}

pub bytes_same : (a b : List ℕ) → bytes_eq a b ≡ true → a ≡ b
bytes_same a b h = exact_bytes a b (equal_from _ (is_eq-slice_cmp a b ∙ h))
  where
    equal_from : (r : Ordering) → is_eq r ≡ true → r ≡ Equal
    equal_from Less g = absurd (true≢false (sym g))
    equal_from Equal g = refl
    equal_from Greater g = absurd (true≢false (sym g))

bytes_turned : (a b : List ℕ) → bytes_eq a b ≡ false → bytes_eq b a ≡ false
bytes_turned a b h = by (bytes_eq b a) refl
  where
    by : (c : Bool) → bytes_eq b a ≡ c → bytes_eq b a ≡ false
    by true e = absurd (true≢false (sym e ∙ ap (λ x. bytes_eq x a) (bytes_same b a e) ∙ sym (ap (λ x. bytes_eq a x) (bytes_same b a e)) ∙ h))
    by false e = e

untied : (r s : Ordering) → is_eq s ≡ false → is_eq (ordering_then r s) ≡ false
untied Less s h = refl
untied Equal s h = h
untied Greater s h = refl

-- events of different texts don't tie
pub apart : (e f : EventValue) → bytes_eq (text e) (text f) ≡ false → is_eq (key_cmp e f) ≡ false
apart e f h = untied (pair_cmp e f) (text_cmp e f) (is_eq-slice_cmp (text e) (text f) ∙ h)

-- ---- one event more

pub grown_by : (A : List EventValue) (e : EventValue) → has key_cmp A e ≡ false → taken A (e ∷ []) ≡ A ++ e ∷ []
grown_by A e h = ap (λ b. if b then A else A ++ e ∷ []) h

up_to_new : (A : List EventValue) (e : EventValue) → has key_cmp A e ≡ false → up_to e (A ++ e ∷ []) ≡ A ++ e ∷ []
up_to_new [] e h = by (is_eq (key_cmp e e))
  where
    by : (b : Bool) → e ∷ (if b then [] else []) ≡ e ∷ []
    by true = refl
    by false = refl
up_to_new (x ∷ xs) e h = by (is_eq (key_cmp e x)) h (up_to_new xs e)
  where
    by : (b : Bool) → (b || has key_cmp xs e) ≡ false → (has key_cmp xs e ≡ false → up_to e (xs ++ e ∷ []) ≡ xs ++ e ∷ []) → x ∷ (if b then [] else up_to e (xs ++ e ∷ [])) ≡ x ∷ (xs ++ e ∷ [])
    by true g f = absurd (true≢false g)
    by false g f = ap (λ l. x ∷ l) (f g)

one_more : (s : List ℕ) (A : List EventValue) (e : EventValue) → length (of_source s (A ++ e ∷ [])) ≡ length (of_source s A) + (if is_of_source s e then 1 else 0)
one_more s [] e = by (is_of_source s e)
  where
    by : (b : Bool) → length (cond b (e ∷ []) []) ≡ 0 + (if b then 1 else 0)
    by true = refl
    by false = refl
one_more s (x ∷ xs) e = by (is_of_source s x) (one_more s xs e)
  where
    by : (b : Bool) → length (of_source s (xs ++ e ∷ [])) ≡ length (of_source s xs) + (if is_of_source s e then 1 else 0)
        → length (cond b (x ∷ of_source s (xs ++ e ∷ [])) (of_source s (xs ++ e ∷ []))) ≡ length (cond b (x ∷ of_source s xs) (of_source s xs)) + (if is_of_source s e then 1 else 0)
    by true f = omega (arith, f)
    by false f = f

itself_of : (e : EventValue) → is_of_source (source_of e) e ≡ true
itself_of e = Rattle.numbers.proofs.NumberedLemmas.itself (source_of e)

-- the number of an event that is new
pub new_number : (base : List ℕ → ℕ) (A : List EventValue) (e : EventValue) → has key_cmp A e ≡ false → number base (taken A (e ∷ [])) e ≡ suc (base (source_of e) + length (of_source (source_of e) A))
new_number base A e h =
    let s = source_of e in
    let all : up_to e (taken A (e ∷ [])) ≡ A ++ e ∷ [] = ap (up_to e) (grown_by A e h) ∙ up_to_new A e h in
    let count : length (of_source s (A ++ e ∷ [])) ≡ length (of_source s A) + 1 = one_more s A e ∙ ap (λ (b : Bool). length (of_source s A) + (if b then 1 else 0)) (itself_of e) in
    ap (λ l. base s + length (of_source s l)) all ∙ omega (arith, count)

some_is : (m n : ℕ) → Some m ≡ Some n → m ≡ n
some_is m n h = cc

-- ---- what is known of its text

-- a known text has been taken, and no text is known that hasn't
pub told : (base : List ℕ → ℕ) (A : List EventValue) (K : TextNumbers) (e : EventValue) (n : ℕ) → value_at (text e) K ≡ Some n → Knows base A K e → (has key_cmp A e ≡ true) × (n ≡ number base A e)
told base A K e n found knows = by (has key_cmp A e) (sym knows ∙ found)
  where
    by : (b : Bool) → (if b then Some (number base A e) else None) ≡ Some n → (b ≡ true) × (n ≡ number base A e)
    by true is = (refl, sym (some_is _ n is))
    by false is = absurd (cc)

pub is_new : (base : List ℕ → ℕ) (A : List EventValue) (K : TextNumbers) (e : EventValue) → value_at (text e) K ≡ None → Knows base A K e → has key_cmp A e ≡ false
is_new base A K e none knows = by (has key_cmp A e) (sym knows ∙ none)
  where
    by : (b : Bool) → (if b then Some (number base A e) else None) ≡ None → b ≡ false
    by true is = absurd (cc)
    by false is = refl

-- what surely has no number, or isn't known, has none
pub none_known : (base : List ℕ → ℕ) (A : List EventValue) (c : Counts) (K : TextNumbers) (e : EventValue) (t : List ℕ) → t ≡ text e → (MayHave c.seen t → ⊥) ⊎ (value_at t K ≡ None) → IsCountOf base A c → Knows base A K e → value_at (text e) K ≡ None
none_known base A c K e t is (inr none) counts knows = ap (λ u. value_at u K) (sym is) ∙ none
none_known base A c K e t is (inl never) counts knows = by (has key_cmp A e) refl
  where
    by : (b : Bool) → has key_cmp A e ≡ b → value_at (text e) K ≡ None
    by true there = absurd (never (subst (MayHave c.seen) (sym is) (counts.seen e there)))
    by false lacks = knows ∙ ap (λ (b : Bool). if b then Some (number base A e) else None) lacks

pub found_step : (base : List ℕ → ℕ) (A : List EventValue) (c : Counts) (K : TextNumbers) (e : EventValue) (n : ℕ) → value_at (text e) K ≡ Some n → Knows base A K e → IsCountOf base A c
    → (n ≡ number base (taken A (e ∷ [])) e) × IsCountOf base (taken A (e ∷ [])) c
found_step base A c K e n found knows counts =
    let it = told base A K e n found knows in
    let same : taken A (e ∷ []) ≡ A = ap (λ b. if b then A else A ++ e ∷ []) it.0 in
    (it.1 ∙ ap (λ T. number base T e) (sym same), subst (λ T. IsCountOf base T c) (sym same) counts)

pub found_known : (base : List ℕ → ℕ) (A : List EventValue) (K : TextNumbers) (e : EventValue) (n : ℕ) → value_at (text e) K ≡ Some n → Knows base A K e → KeepsKnown base A (taken A (e ∷ [])) K K
found_known base A K e n found knows =
    let it = told base A K e n found knows in
    let same : taken A (e ∷ []) ≡ A = ap (λ b. if b then A else A ++ e ∷ []) it.0 in
    subst (λ T. KeepsKnown base A T K K) (sym same) (λ f is h. h)

pub next_is : (base : List ℕ → ℕ) (A : List EventValue) (c : Counts) (K : TextNumbers) (e : EventValue) → value_at (text e) K ≡ None → Knows base A K e → IsCountOf base A c → next c (source_of e) ≡ number base (taken A (e ∷ [])) e
next_is base A c K e none knows counts = ap suc (counts.last (source_of e)) ∙ sym (new_number base A e (is_new base A K e none knows))

module _ (base : List ℕ → ℕ) (A : List EventValue) (c : Counts) (K : TextNumbers) (e : EventValue) (event : IsEvent e) (none : value_at (text e) K ≡ None) (knows : Knows base A K e) (counts : IsCountOf base A c) where
  abbrev T : List EventValue
  T = taken A (e ∷ [])

  abbrev n : ℕ
  n = next c (source_of e)

  lacks : has key_cmp A e ≡ false
  lacks = is_new base A K e none knows

  in_all : (f : EventValue) → has key_cmp T f ≡ (has key_cmp A f || (is_eq (key_cmp f e) || false))
  in_all f = ap (λ l. has key_cmp l f) (grown_by A e lacks) ∙ has-append key_cmp_total A (e ∷ []) f

  here : has key_cmp T e ≡ true
  here = in_all e ∙ ap₂ (λ (a b : Bool). a || b) lacks (itself key_cmp_total e [])

  or_none : (b : Bool) → (b || (false || false)) ≡ b
  or_none true = refl
  or_none false = refl

  none_here : (f : EventValue) → bytes_eq (text f) (text e) ≡ false → has key_cmp T f ≡ has key_cmp A f
  none_here f h = in_all f ∙ ap (λ (b : Bool). has key_cmp A f || (b || false)) (apart f e h) ∙ or_none (has key_cmp A f)

  pub new_known : KeepsKnown base A (taken A (e ∷ [])) K (with_value (text e) (next c (source_of e)) K)
  new_known f is before = by (bytes_eq (text f) (text e)) refl
    where
      own : Knows base T (with_value (text e) n K) e
      own =
          at_name (text e) n K ∙ ap (λ m. Some m) (next_is base A c K e none knows counts)
          ∙ sym (ap (λ (b : Bool). if b then Some (number base T e) else None) here)

      alike : (b : Bool) → (if b then Some (number base A f) else None) ≡ (if b then Some (number base T f) else None) → (if has key_cmp A f then Some (number base A f) else None) ≡ (if b then Some (number base A f) else None)
          → b ≡ has key_cmp T f → (if has key_cmp A f then Some (number base A f) else None) ≡ (if has key_cmp T f then Some (number base T f) else None)
      alike b p q r = q ∙ p ∙ ap (λ (b : Bool). if b then Some (number base T f) else None) r

      stays : (b : Bool) → has key_cmp A f ≡ b → (if b then Some (number base A f) else None) ≡ (if b then Some (number base T f) else None)
      stays true h = ap (λ m. Some m) (sym (number_stays base A (e ∷ []) f h))
      stays false h = refl

      by : (b : Bool) → bytes_eq (text f) (text e) ≡ b → value_at (text f) (with_value (text e) n K) ≡ (if has key_cmp T f then Some (number base T f) else None)
      by true h =
          let same : f ≡ e = same_text f e is event (bytes_same (text f) (text e) h) in
          subst (λ (g : EventValue). value_at (text g) (with_value (text e) n K) ≡ (if has key_cmp T g then Some (number base T g) else None)) (sym same) own
      by false h =
          elsewhere (text e) n (text f) h K ∙ before
          ∙ alike (has key_cmp A f) (stays (has key_cmp A f) refl) refl (sym (none_here f h))

  module _ (d : Counts) (more : IsCounted c d (text e) (source_of e)) where
    new_last : (s : List ℕ) → unwrap_or (value_at s d.last) d.base ≡ base s + length (of_source s T)
    new_last s = ap₂ (λ (l : List (List ℕ × ℕ)) (b : ℕ). unwrap_or (value_at s l) b) more.last more.base ∙ by (bytes_eq s (source_of e)) refl
      where
        count : length (of_source s T) ≡ length (of_source s A) + (if is_of_source s e then 1 else 0)
        count = ap (λ l. length (of_source s l)) (grown_by A e lacks) ∙ one_more s A e

        by : (b : Bool) → bytes_eq s (source_of e) ≡ b → unwrap_or (value_at s (with_value (source_of e) n c.last)) c.base ≡ base s + length (of_source s T)
        by true h =
            let same : s ≡ source_of e = bytes_same s (source_of e) h in
            let own : is_of_source s e ≡ true = ap (λ t. bytes_eq (source_of e) t) same ∙ itself_of e in
            let long : length (of_source s T) ≡ length (of_source s A) + 1 = count ∙ ap (λ (b : Bool). length (of_source s A) + (if b then 1 else 0)) own in
            let first : unwrap_or (value_at s (with_value (source_of e) n c.last)) c.base ≡ n = ap (λ t. unwrap_or (value_at t (with_value (source_of e) n c.last)) c.base) same ∙ ap (λ o. unwrap_or o c.base) (at_name (source_of e) n c.last) in
            let was : n ≡ suc (base s + length (of_source s A)) = ap suc (counts.last (source_of e)) ∙ ap (λ t. suc (base t + length (of_source t A))) (sym same) in
            first ∙ was ∙ omega (arith, long)
        by false h =
            let other : is_of_source s e ≡ false = bytes_turned s (source_of e) h in
            let long : length (of_source s T) ≡ length (of_source s A) + 0 = count ∙ ap (λ (b : Bool). length (of_source s A) + (if b then 1 else 0)) other in
            ap (λ o. unwrap_or o c.base) (elsewhere (source_of e) n s h c.last) ∙ counts.last s ∙ omega (arith, long)

    new_seen : (f : EventValue) → has key_cmp T f ≡ true → MayHave d.seen (text f)
    new_seen f there = by (bytes_eq (text f) (text e)) refl
      where
        by : (b : Bool) → bytes_eq (text f) (text e) ≡ b → MayHave d.seen (text f)
        by true h = subst (MayHave d.seen) (sym (bytes_same (text f) (text e) h)) more.has
        by false h = more.keeps (text f) (counts.seen f (sym (none_here f h) ∙ there))

    pub new_step : IsCountOf base (taken A (e ∷ [])) d
    new_step = record { last = new_last; seen = new_seen; recent = subst (KnowsOnly base T) (sym more.recent) (only_stays base A (e ∷ []) c.recent counts.recent) }

pub too_many : (base : List ℕ → ℕ) (A : List EventValue) (c : Counts) (K : TextNumbers) (e : EventValue) → value_at (text e) K ≡ None → max_sequence < next c (source_of e) → IsCountOf base A c → Knows base A K e → max_sequence < number base (taken A (e ∷ [])) e
too_many base A c K e none over counts knows = subst (λ n. max_sequence < n) (next_is base A c K e none knows counts) over

-- ---- a batch

have_same : (m k : EventValue → ℕ) (P X : List EventValue) → AllByRecursion (λ e. m e ≡ k e) P → HaveNumbers m P X → HaveNumbers k P X
have_same m k [] [] a h = h
have_same m k [] (x ∷ X) a h = absurd h
have_same m k (e ∷ P) [] a h = absurd h
have_same m k (e ∷ P) (x ∷ X) a h = (subst (λ n. HasNumber n e x) a.0 h.0, have_same m k P X a.1 h.1)

have_more : (m : EventValue → ℕ) (P X : List EventValue) (e x : EventValue) → HaveNumbers m P X → HasNumber (m e) e x → HaveNumbers m (P ++ e ∷ []) (X ++ x ∷ [])
have_more m [] [] e x h one = (one, tt)
have_more m [] (y ∷ X) e x h one = absurd h
have_more m (f ∷ P) [] e x h one = absurd h
have_more m (f ∷ P) (y ∷ X) e x h one = (h.0, have_more m P X e x h.1 one)

pub turn_step : (base : List ℕ → ℕ) (A L X : List EventValue) (i n : ℕ) (e x : EventValue) (c : Counts) → slice_get L i ≡ Some e
    → HaveNumbers (number base (taken A (take i L))) (take i L) X → n ≡ number base (taken (taken A (take i L)) (e ∷ [])) e → IsCountOf base (taken (taken A (take i L)) (e ∷ [])) c → HasNumber n e x
    → HaveNumbers (number base (taken A (take (i + 1) L))) (take (i + 1) L) (X ++ x ∷ []) × IsCountOf base (taken A (take (i + 1) L)) c
turn_step base A L X i n e x c at have is counts one =
    let P = take i L in
    let T = taken A P in
    let more : take (i + 1) L ≡ P ++ e ∷ [] = take_next L i e at in
    let all : taken A (take (i + 1) L) ≡ taken T (e ∷ []) = ap (taken A) more ∙ append_new-append key_cmp_total A P (e ∷ []) in
    let before = all_map (λ p. has key_cmp T p ≡ true) (λ p. number base T p ≡ number base (taken T (e ∷ [])) p) (λ p h. sym (number_stays base T (e ∷ []) p h)) P (all_there key_cmp_total A P) in
    let had = have_more (number base (taken T (e ∷ []))) P X e x (have_same (number base T) (number base (taken T (e ∷ []))) P X before have) (subst (λ k. HasNumber k e x) is one) in
    (subst (λ Q. HaveNumbers (number base Q) (take (i + 1) L) (X ++ x ∷ [])) (sym all) (subst (λ Q. HaveNumbers (number base (taken T (e ∷ []))) Q (X ++ x ∷ [])) (sym more) had), subst (λ Q. IsCountOf base Q c) (sym all) counts)

-- one event more, with what is known
pub known_step : (base : List ℕ → ℕ) (A L : List EventValue) (i : ℕ) (e : EventValue) (K M N : TextNumbers) → slice_get L i ≡ Some e → KeepsKnown base A (taken A (take i L)) K M → KeepsKnown base (taken A (take i L)) (taken (taken A (take i L)) (e ∷ [])) M N
    → KeepsKnown base A (taken A (take (i + 1) L)) K N
known_step base A L i e K M N at before after =
    let more : take (i + 1) L ≡ take i L ++ e ∷ [] = take_next L i e at in
    let all : taken A (take (i + 1) L) ≡ taken (taken A (take i L)) (e ∷ []) = ap (taken A) more ∙ append_new-append key_cmp_total A (take i L) (e ∷ []) in
    subst (λ Q. KeepsKnown base A Q K N) (sym all) (λ f is h. after f is (before f is h))

pub only_step : (base : List ℕ → ℕ) (A L : List EventValue) (i : ℕ) (e : EventValue) (N : TextNumbers) → slice_get L i ≡ Some e → KnowsOnly base (taken (taken A (take i L)) (e ∷ [])) N → KnowsOnly base (taken A (take (i + 1) L)) N
only_step base A L i e N at after =
    let more : take (i + 1) L ≡ take i L ++ e ∷ [] = take_next L i e at in
    let all : taken A (take (i + 1) L) ≡ taken (taken A (take i L)) (e ∷ []) = ap (taken A) more ∙ append_new-append key_cmp_total A (take i L) (e ∷ []) in
    subst (λ Q. KnowsOnly base Q N) (sym all) after

-- one of those that are known
pub knows_at : {X : Type 0} (P : X → Type 0) (xs : List X) (i : ℕ) (x : X) → AllByRecursion P xs → slice_get xs i ≡ Some x → P x
knows_at P [] i x a h = absurd (cc)
knows_at {X} P (y ∷ xs) zero x a h = (let same : y ≡ x = cc in subst P same a.0)
knows_at P (y ∷ xs) (suc i) x a h = knows_at P xs i x a.1 h

-- ---- rows that are counted

none_counted : (b : ℕ) (c : Counts) → c.last ≡ [] → c.base ≡ b → c.recent ≡ [] → IsCountOf (λ _. b) [] c
none_counted b c none is forgotten = record {
  last = λ s. ap₂ (λ (l : List (List ℕ × ℕ)) (k : ℕ). unwrap_or (value_at s l) k) none is ∙ (let e : b ≡ b + 0 = omega arith in e);
  seen = λ e there. absurd (true≢false (sym there));
  recent = subst (KnowsOnly (λ _. b) []) (sym forgotten) (only_none (λ _. b) []);
}

pub nothing_counted : (b : ℕ) (c : Counts) → c.last ≡ [] → c.base ≡ b → c.recent ≡ [] → IsCountOfRows (λ _. b) [] c
nothing_counted b c none is forgotten = record { events = []; bare = tt; once = refl; numbers = tt; whole = tt; counts = none_counted b c none is forgotten }

bare_more : (A : List EventValue) (e : EventValue) → AreBare A → IsBare e → AreBare (A ++ e ∷ [])
bare_more [] e a is = (is, tt)
bare_more (x ∷ A) e a is = (a.0, bare_more A e a.1 is)

nothing_known : (base : List ℕ → ℕ) (A : List EventValue) (e : EventValue) → has key_cmp A e ≡ false → Knows base A [] e
nothing_known base A e lacks = sym (ap (λ (b : Bool). if b then Some (number base A e) else None) lacks)

-- a new event's number is the next of its source
pub next_new : (base : List ℕ → ℕ) (A : List EventValue) (c : Counts) (e : EventValue) → has key_cmp A e ≡ false → IsCountOf base A c → next c (source_of e) ≡ number base (taken A (e ∷ [])) e
next_new base A c e lacks counts = next_is base A c [] e refl (nothing_known base A e lacks) counts

-- the row of a new event, with its source's next number, stands behind those that are counted
pub row_step : (base : List ℕ → ℕ) (rows : List EventValue) (e x : EventValue) (c d : Counts) (was : IsCountOfRows base rows c) → IsEvent x → IsBare e → HasNumber (next c (source_of e)) e x → has key_cmp was.events e ≡ false → IsCounted c d (text e) (source_of e)
    → IsCountOfRows base (rows ++ x ∷ []) d
row_step base rows e x c d was event is one lacks more =
    let A = was.events in
    let T = taken A (e ∷ []) in
    let grown : T ≡ A ++ e ∷ [] = grown_by A e lacks in
    let stays : AllByRecursion (λ a. number base A a ≡ number base T a) A = all_map (λ a. has key_cmp A a ≡ true) (λ a. number base A a ≡ number base T a) (λ a h. sym (number_stays base A (e ∷ []) a h)) A each_in in
    let had = have_more (number base T) A rows e x (have_same (number base A) (number base T) A rows stays was.numbers) (subst (λ m. HasNumber m e x) (next_new base A c e lacks was.counts) one) in
    record {
      events = T;
      bare = subst AreBare (sym grown) (bare_more A e was.bare is);
      once = stays_once key_cmp_total A (e ∷ []) was.once;
      numbers = subst (λ Q. HaveNumbers (number base T) Q (rows ++ x ∷ [])) (sym grown) had;
      whole = all_more rows x was.whole event;
      counts = new_step base A c [] e is.event refl (nothing_known base A e lacks) was.counts d more;
    }
  where
    each_in : AllByRecursion (λ a. has key_cmp was.events a ≡ true) was.events
    each_in = subst (λ B. AllByRecursion (λ a. has key_cmp B a ≡ true) was.events) was.once (all_there key_cmp_total [] was.events)

-- no number of a source is above how many events it has
at_most : (s : List ℕ) (A : List EventValue) (e : EventValue) → length (of_source s (up_to e A)) ≤ length (of_source s A)
at_most s [] e = omega arith
at_most s (x ∷ xs) e = by (is_eq (key_cmp e x)) (is_of_source s x) (at_most s xs e)
  where
    by : (b c : Bool) → length (of_source s (up_to e xs)) ≤ length (of_source s xs)
        → length (cond c (x ∷ of_source s (if b then [] else up_to e xs)) (of_source s (if b then [] else up_to e xs))) ≤ length (cond c (x ∷ of_source s xs) (of_source s xs))
    by true true h = omega arith
    by true false h = omega arith
    by false true h = omega (arith, h)
    by false false h = h

-- where the list has the event, its row has its number
its_number : (m : EventValue → ℕ) (k : ℕ) (A X : List EventValue) (e : EventValue) → IsEvent e → AreBare A → HaveNumbers m A X → has key_cmp A e ≡ true → AllByRecursion (HasNoOther k e) X → m e ≡ k
its_number m k [] X e event bare have there all = absurd (true≢false (sym there))
its_number m k (f ∷ A) [] e event bare have there all = absurd have
its_number m k (f ∷ A) (x ∷ X) e event bare have there all = by (bytes_eq (text e) (text f)) refl (λ later. its_number m k A X e event bare.1 have.1 later all.1)
  where
    by : (b : Bool) → bytes_eq (text e) (text f) ≡ b → (has key_cmp A e ≡ true → m e ≡ k) → m e ≡ k
    by true h rest =
        let same : e ≡ f = same_text e f event bare.0.event (bytes_same (text e) (text f) h) in
        all.0 (m e) (subst (λ g. HasNumber (m g) g x) (sym same) have.0)
    by false h rest = rest (sym (ap (λ b. b || has key_cmp A e) (apart e f h)) ∙ there)

-- an event whose rows have none but its source's next number is new, since each number of the list
-- is below that
pub surely_lacks : (base : List ℕ → ℕ) (rows : List EventValue) (e : EventValue) (c : Counts) (was : IsCountOfRows base rows c) → IsEvent e → AllByRecursion (HasNoOther (next c (source_of e)) e) rows → has key_cmp was.events e ≡ false
surely_lacks base rows e c was event all = by (has key_cmp was.events e) refl
  where
    by : (b : Bool) → has key_cmp was.events e ≡ b → has key_cmp was.events e ≡ false
    by true there =
        let A = was.events in
        let s = source_of e in
        let its : base s + length (of_source s (up_to e A)) ≡ next c s = its_number (number base A) (next c s) A rows e event was.bare was.numbers there all in
        let last : next c s ≡ suc (base s + length (of_source s A)) = ap suc (was.counts.last s) in
        let below = at_most s A e in
        absurd (omega (arith, its, last, below))
    by false lacks = lacks

-- further events leave the numbers that were given
pub rows_stay : (base : List ℕ → ℕ) (A L D : List EventValue) → IsEachOnce A → HaveNumbers (number base A) A D → HaveNumbers (number base (taken A L)) A D
rows_stay base A L D once have =
    have_same (number base A) (number base (taken A L)) A D
    (all_map (λ a. has key_cmp A a ≡ true) (λ a. number base A a ≡ number base (taken A L) a) (λ a h. sym (number_stays base A L a h)) A each) have
  where
    each : AllByRecursion (λ a. has key_cmp A a ≡ true) A
    each = subst (λ B. AllByRecursion (λ a. has key_cmp B a ≡ true) A) once (all_there key_cmp_total [] A)
