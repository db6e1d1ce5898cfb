-- What is known of texts, and what a numberer's rows tell of an event.
use Rattle.std.proofs.Common.{◌≡◌, ◌⊎◌, inl, inr, ◌≤◌, ◌+◌, ℕ, zero, suc, List, [], ◌∷◌, ◌++◌, length, slice_get, take, take_all, Bool, true, false, ◌||◌, is_eq, bytes_eq, is_some, if◌then◌else◌, Option, Some, None, refl, sym, ap, ap₂, subst, ◌∙◌, true≢false}
use Rattle.std.specs.List.{AllByRecursion}
use Rattle.attributes.specs.Event.{EventValue, source_of, text}
use Rattle.attributes.specs.Fault.{IsEvent}
use Rattle.attributes.specs.Members.{value_at, with_value}
use Rattle.attributes.specs.Sequence.{number_of}
use Rattle.attributes.proofs.LawLemmas.{same_text}
use Rattle.inbox.specs.KeyOrder.{key_cmp}
use Rattle.inbox.specs.Ordered.{has}
use Rattle.inbox.proofs.OrderLemmas.{key_cmp_total}
use Rattle.inbox.proofs.ReadLemmas.{take_next}
use Rattle.numbers.specs.Counts.{Counts, HasText, IsCountOf, Knows, KnowsIfThere, KnowsOnly, Learns, TextNumbers, next}
use Rattle.numbers.specs.Numbered.{AreBare, HasNumber, HaveNumbers, IsBare}
use Rattle.numbers.specs.Numberer.{number, taken}
use Rattle.numbers.proofs.BatchLemmas.{bare_in}
use Rattle.numbers.proofs.CountLemmas.{apart, bytes_same, next_is}
use Rattle.numbers.proofs.ListLemmas.{itself, or_true, there}
use Rattle.numbers.proofs.NumberLemmas.{only_none, only_stays}
use Rattle.numbers.proofs.NumberedLemmas.{at_name, elsewhere, numbered_events}
use Rattle.numbers.proofs.UncountedLemmas.{its_own}

some_is : (m n : ℕ) → Some m ≡ Some n → m ≡ n
some_is m n h = cc

pub all_then : {X : Type 0} (P : X → Type 0) (xs : List X) (x : X) → AllByRecursion P xs → P x → AllByRecursion P (xs ++ x ∷ [])
all_then P [] x a is = (is, tt)
all_then P (y ∷ xs) x a is = (a.0, all_then P xs x a.1 is)

-- what holds of each row up to one, and of that
pub more_at : (P : EventValue → Type 0) (X : List EventValue) (i : ℕ) (x : EventValue) → slice_get X i ≡ Some x → AllByRecursion P (take i X) → P x → AllByRecursion P (take (i + 1) X)
more_at P X i x at were is = subst (AllByRecursion P) (sym (take_next X i x at)) (all_then P (take i X) x were is)

pub all_of : (P : EventValue → Type 0) (X : List EventValue) (i : ℕ) → length X ≤ i → AllByRecursion P (take i X) → AllByRecursion P X
all_of P X i past were = subst (AllByRecursion P) (take_all i X past) were

-- ---- the rows tell of an event

-- the event of a row
at_row : (m : EventValue → ℕ) (E X : List EventValue) (i : ℕ) (x : EventValue) → HaveNumbers m E X → slice_get X i ≡ Some x → (e : EventValue) × (slice_get E i ≡ Some e) × HasNumber (m e) e x
at_row m [] [] i x h at = absurd (cc)
at_row m [] (y ∷ X) i x h at = absurd h
at_row m (e ∷ E) [] i x h at = absurd h
at_row m (e ∷ E) (y ∷ X) zero x h at = (let same : y ≡ x = cc in (e, refl, subst (HasNumber (m e) e) same h.0))
at_row m (e ∷ E) (y ∷ X) (suc i) x h at = at_row m E X i x h.1 at

has_at : (E : List EventValue) (i : ℕ) (e : EventValue) → slice_get E i ≡ Some e → has key_cmp E e ≡ true
has_at [] i e at = absurd (cc)
has_at (x ∷ E) zero e at = (let same : x ≡ e = cc in subst (λ y. has key_cmp (y ∷ E) e ≡ true) (sym same) (itself key_cmp_total e E))
has_at (x ∷ E) (suc i) e at = ap (λ b. is_eq (key_cmp e x) || b) (has_at E i e at) ∙ or_true (is_eq (key_cmp e x))

-- a row is this event with a number
pub found_among : (m : EventValue → ℕ) (E X : List EventValue) (i : ℕ) (e x : EventValue) (n k : ℕ) → slice_get X i ≡ Some x → IsBare e → HasNumber n e x → number_of x ≡ Some k → AreBare E → HaveNumbers m E X → Some k ≡ (if has key_cmp E e then Some (m e) else None)
found_among m E X i e x n k at bare one own are have =
    let it = at_row m E X i x have at in
    let f = it.0 in
    let two = its_own f e x (m f) n bare one (bare_in E i f are it.1) it.2 in
    let given : k ≡ n = some_is k n (sym own ∙ ap number_of one.is ∙ numbered_events.number e one.digits n one.number) in
    let there : has key_cmp E e ≡ true = subst (λ g. has key_cmp E g ≡ true) (sym two.0) (has_at E i f it.1) in
    ap (λ j. Some j) (given ∙ two.1 ∙ ap m (sym two.0)) ∙ sym (ap (λ (b : Bool). if b then Some (m e) else None) there)

-- no row is
abbrev pub AreOthers : EventValue → List EventValue → Type 0
AreOthers e X = AllByRecursion (λ x. (n : ℕ) → HasNumber n e x → ⊥) X

lacks_all : (m : EventValue → ℕ) (E X : List EventValue) (e : EventValue) → IsBare e → AreOthers e X → AreBare E → HaveNumbers m E X → has key_cmp E e ≡ false
lacks_all m [] X e bare others are have = refl
lacks_all m (f ∷ E) [] e bare others are have = absurd have
lacks_all m (f ∷ E) (x ∷ X) e bare others are have = by (bytes_eq (text e) (text f)) refl (lacks_all m E X e bare others.1 are.1 have.1)
  where
    by : (b : Bool) → bytes_eq (text e) (text f) ≡ b → has key_cmp E e ≡ false → (is_eq (key_cmp e f) || has key_cmp E e) ≡ false
    by true h rest =
        let same : e ≡ f = same_text e f bare.event are.0.event (bytes_same (text e) (text f) h) in
        absurd (others.0 (m f) (subst (λ g. HasNumber (m f) g x) (sym same) have.0))
    by false h rest = ap₂ (λ (a b : Bool). a || b) (apart e f h) rest

pub none_among : (m : EventValue → ℕ) (E X : List EventValue) (e : EventValue) → IsBare e → AreOthers e X → AreBare E → HaveNumbers m E X → None ≡ (if has key_cmp E e then Some (m e) else None)
none_among m E X e bare others are have = sym (ap (λ (b : Bool). if b then Some (m e) else None) (lacks_all m E X e bare others are have))

pub others_more : (X : List EventValue) (i : ℕ) (e x : EventValue) → slice_get X i ≡ Some x → AreOthers e (take i X) → ((n : ℕ) → HasNumber n e x → ⊥) → AreOthers e (take (i + 1) X)
others_more X i e x at were none = more_at (λ y. (n : ℕ) → HasNumber n e y → ⊥) X i x at were none

pub all_others : (X : List EventValue) (i : ℕ) (e : EventValue) → length X ≤ i → AreOthers e (take i X) → AreOthers e X
all_others X i e past were = all_of (λ x. (n : ℕ) → HasNumber n e x → ⊥) X i past were

-- ---- what is known

put_here : (K : TextNumbers) (e : EventValue) (n : ℕ) → is_some (value_at (text e) (with_value (text e) n K)) ≡ true
put_here K e n = ap is_some (at_name (text e) n K)

put_stays : (K : TextNumbers) (e : EventValue) (n : ℕ) (t : List ℕ) → is_some (value_at t K) ≡ true → is_some (value_at t (with_value (text e) n K)) ≡ true
put_stays K e n t was = by (bytes_eq t (text e)) refl
  where
    by : (b : Bool) → bytes_eq t (text e) ≡ b → is_some (value_at t (with_value (text e) n K)) ≡ true
    by true h = subst (λ u. is_some (value_at u (with_value (text e) n K)) ≡ true) (sym (bytes_same t (text e) h)) (put_here K e n)
    by false h = ap is_some (elsewhere (text e) n t h K) ∙ was

module _ (base : List ℕ → ℕ) (A : List EventValue) where
  pub put_only : (K : TextNumbers) (e : EventValue) → IsEvent e → has key_cmp A e ≡ true → KnowsOnly base A K → KnowsOnly base A (with_value (text e) (number base A e) K)
  put_only K e event there only f n is at = by (bytes_eq (text f) (text e)) refl
    where
      by : (b : Bool) → bytes_eq (text f) (text e) ≡ b → (has key_cmp A f ≡ true) × (n ≡ number base A f)
      by true h =
          let same : f ≡ e = same_text f e is event (bytes_same (text f) (text e) h) in
          let here : value_at (text e) (with_value (text e) (number base A e) K) ≡ Some n = subst (λ (g : EventValue). value_at (text g) (with_value (text e) (number base A e) K) ≡ Some n) same at in
          (ap (has key_cmp A) same ∙ there, some_is n (number base A e) (sym here ∙ at_name (text e) (number base A e) K) ∙ ap (number base A) (sym same))
      by false h = only f n is (sym (elsewhere (text e) (number base A e) (text f) h K) ∙ at)

  -- it is known of one event more
  pub learnt_one : (K : TextNumbers) (e : EventValue) → IsEvent e → has key_cmp A e ≡ true → KnowsOnly base A K → Learns base A (e ∷ []) K (with_value (text e) (number base A e) K)
  learnt_one K e event there only = record {
    only = put_only K e event there only;
    stays = put_stays K e (number base A e);
    each = (λ _. put_here K e (number base A e), tt);
  }

  -- what is known tells of an event
  pub knows_from : (K : TextNumbers) (e : EventValue) → IsEvent e → KnowsOnly base A K → KnowsIfThere A K e → Knows base A K e
  knows_from K e event only there = by (has key_cmp A e) refl (value_at (text e) K) refl
    where
      by : (b : Bool) → has key_cmp A e ≡ b → (o : Option ℕ) → value_at (text e) K ≡ o → value_at (text e) K ≡ (if has key_cmp A e then Some (number base A e) else None)
      by true h None at = absurd (true≢false (sym (there h) ∙ ap is_some at))
      by true h (Some n) at = at ∙ ap (λ m. Some m) (only e n event at).1 ∙ sym (ap (λ (b : Bool). if b then Some (number base A e) else None) h)
      by false h None at = at ∙ sym (ap (λ (b : Bool). if b then Some (number base A e) else None) h)
      by false h (Some n) at = absurd (true≢false (sym (only e n event at).0 ∙ h))

-- known with its number is what came new
pub new_only : (base : List ℕ → ℕ) (A : List EventValue) (c : Counts) (K M : TextNumbers) (e : EventValue) → IsEvent e → value_at (text e) K ≡ None → Knows base A K e → IsCountOf base A c → M ≡ with_value (text e) (next c (source_of e)) K → KnowsOnly base A K → KnowsOnly base (taken A (e ∷ [])) M
new_only base A c K M e event none knows counts is only =
    let T = taken A (e ∷ []) in
    let here : has key_cmp T e ≡ true = there key_cmp_total A (e ∷ []) e (itself key_cmp_total e []) in
    let put : M ≡ with_value (text e) (number base T e) K = is ∙ ap (λ n. with_value (text e) n K) (next_is base A c K e none knows counts) in
    subst (KnowsOnly base T) (sym put) (put_only base T K e event here (only_stays base A (e ∷ []) K only))

-- whether each text of events is known

pub texts_more : (K : TextNumbers) (L : List EventValue) (i : ℕ) (e : EventValue) → slice_get L i ≡ Some e → AllByRecursion (HasText K) (take i L) → HasText K e → AllByRecursion (HasText K) (take (i + 1) L)
texts_more K L i e at were is = subst (AllByRecursion (HasText K)) (sym (take_next L i e at)) (all_then (HasText K) (take i L) e were is)

pub texts_there : (base : List ℕ → ℕ) (A L : List EventValue) (K : TextNumbers) → KnowsOnly base A K → AllByRecursion IsEvent L → AllByRecursion (HasText K) L → AllByRecursion (λ e. has key_cmp A e ≡ true) L
texts_there base A [] K only events all = tt
texts_there base A (e ∷ L) K only events all = (by (value_at (text e) K) refl all.0, texts_there base A L K only events.1 all.1)
  where
    by : (o : Option ℕ) → value_at (text e) K ≡ o → is_some o ≡ true → has key_cmp A e ≡ true
    by None at is = absurd (true≢false (sym is))
    by (Some n) at is = (only e n events.0 at).0

-- ---- what is left known from call to call

pub counts_with : (base : List ℕ → ℕ) (A : List EventValue) (c d : Counts) (K : TextNumbers) → d ≡ record c { recent = K } → KnowsOnly base A K → IsCountOf base A c → IsCountOf base A d
counts_with base A c d K is only counts = subst (IsCountOf base A) (sym is) (record { last = counts.last; seen = counts.seen; recent = only })

pub counts_put : (base : List ℕ → ℕ) (A : List EventValue) (c d : Counts) (K : TextNumbers) → (d ≡ record c { recent = K }) ⊎ (d ≡ record c { recent = [] }) → KnowsOnly base A K → IsCountOf base A c → IsCountOf base A d
counts_put base A c d K (inl is) only counts = counts_with base A c d K is only counts
counts_put base A c d K (inr is) only counts = counts_with base A c d [] is (only_none base A) counts
