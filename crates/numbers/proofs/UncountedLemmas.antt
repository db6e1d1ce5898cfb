-- Rows that no numberer leaves.
use Rattle.std.proofs.Common.{◌≡◌, ◌≢◌, ℕ, ◌+◌, List, [], ◌∷◌, ◌++◌, append_assoc, length, true, false, Some, refl, sym, ap, ap₂, subst, ◌∙◌}
use Rattle.std.specs.List.{AllByRecursion}
use Rattle.attributes.specs.Event.{EventValue, source_of}
use Rattle.attributes.specs.Sequence.{number_of}
use Rattle.inbox.specs.KeyOrder.{key_cmp}
use Rattle.inbox.specs.Ordered.{append_new, has}
use Rattle.inbox.proofs.OrderLemmas.{key_cmp_total}
use Rattle.inbox.proofs.SetLemmas.{append_new-append}
use Rattle.numbers.specs.Counts.{Counts, IsCountOfRows, next}
use Rattle.numbers.specs.Numbered.{AreBare, HasNoOther, HasNumber, HaveNumbers, IsBare}
use Rattle.numbers.specs.Numberer.{IsEachOnce, number, of_source, taken, up_to}
use Rattle.numbers.proofs.CountLemmas.{grown_by, next_new}
use Rattle.numbers.proofs.ListLemmas.{distinct_from, itself, there}
use Rattle.numbers.proofs.NumberLemmas.{up_to_stays}
use Rattle.numbers.proofs.NumberedLemmas.{numbered_events}

-- one event with its number is that of one without
same_bare : (e f x : EventValue) (m n : ℕ) → IsBare e → IsBare f → HasNumber m e x → HasNumber n f x → e ≡ f
same_bare e f x m n one other h g = (numbered_events.injective e f h.digits g.digits one.none other.none (sym h.is ∙ g.is)).0

some_is : (m n : ℕ) → Some m ≡ Some n → m ≡ n
some_is m n h = cc

-- and its number is that
pub its_own : (e f x : EventValue) (n m : ℕ) → IsBare f → HasNumber m f x → IsBare e → HasNumber n e x → (f ≡ e) × (m ≡ n)
its_own e f x n m other g one h = (
  same_bare f e x m n other one g h,
  some_is m n (sym (numbered_events.number f g.digits m g.number) ∙ ap number_of (sym g.is ∙ h.is) ∙ numbered_events.number e h.digits n h.number),
)

-- the number of an event's row
pub number_is : (e x : EventValue) (n k : ℕ) → HasNumber n e x → number_of x ≡ Some k → n ≡ k
number_is e x n k one own = some_is n k (sym (ap number_of one.is ∙ numbered_events.number e one.digits n one.number) ∙ own)

same_rows : (m k : EventValue → ℕ) (P A X : List EventValue) → AreBare P → AreBare A → HaveNumbers m P X → HaveNumbers k A X → P ≡ A
same_rows m k [] [] X p a h g = refl
same_rows m k [] (f ∷ A) [] p a h g = absurd g
same_rows m k [] (f ∷ A) (x ∷ X) p a h g = absurd h
same_rows m k (e ∷ P) [] [] p a h g = absurd h
same_rows m k (e ∷ P) [] (x ∷ X) p a h g = absurd g
same_rows m k (e ∷ P) (f ∷ A) [] p a h g = absurd h
same_rows m k (e ∷ P) (f ∷ A) (x ∷ X) p a h g = ap₂ (λ (y : EventValue) l. y ∷ l) (same_bare e f x (m e) (k f) p.0 a.0 h.0 g.0) (same_rows m k P A X p.1 a.1 h.1 g.1)

-- the events of some rows, that of the next, and the others
rows_split : (m : EventValue → ℕ) (E done rest : List EventValue) (x : EventValue) → HaveNumbers m E (done ++ x ∷ rest)
    → (P : List EventValue) × (e : EventValue) × (R : List EventValue) × (E ≡ P ++ e ∷ R) × HaveNumbers m P done × HasNumber (m e) e x
rows_split m [] [] rest x h = absurd h
rows_split m (e ∷ E) [] rest x h = ([], e, E, refl, tt, h.0)
rows_split m [] (d ∷ done) rest x h = absurd h
rows_split m (e ∷ E) (d ∷ done) rest x h =
    let r = rows_split m E done rest x h.1 in
    (e ∷ r.0, r.1, r.2, ap (λ l. e ∷ l) r.3, (h.0, r.4), r.5)

bare_split : (P R : List EventValue) (e : EventValue) → AreBare (P ++ e ∷ R) → AreBare P × IsBare e
bare_split [] R e a = (tt, a.0)
bare_split (x ∷ P) R e a = let r = bare_split P R e a.1 in ((a.0, r.0), r.1)

-- where the next row isn't that of an event with its source's next number, no numberer leaves the rows
pub no_next : (base : List ℕ → ℕ) (done rest : List EventValue) (x : EventValue) (c : Counts) → IsCountOfRows base done c → ((e : EventValue) (n : ℕ) → IsBare e → HasNumber n e x → n ≢ next c (source_of e))
    → (events : List EventValue) → AreBare events → IsEachOnce events → HaveNumbers (number base events) events (done ++ x ∷ rest) → ⊥
no_next base done rest x c was refused events bare once have =
    let m = number base events in
    let s = rows_split m events done rest x have in
    let e = s.1 in
    let R = s.2 in
    let own = bare_split s.0 R e (subst AreBare s.3 bare) in
    let A = was.events in
    let all_is : events ≡ A ++ e ∷ R = s.3 ∙ ap (λ P. P ++ e ∷ R) (same_rows m (number base A) s.0 A done own.0 was.bare s.4 was.numbers) in
    let put : append_new key_cmp A (e ∷ R) ≡ A ++ e ∷ R =
    ap (λ B. append_new key_cmp B (e ∷ R)) (sym was.once) ∙ sym (append_new-append key_cmp_total [] A (e ∷ R))
    ∙ ap (append_new key_cmp []) (sym all_is) ∙ once ∙ all_is in
    let lacks : has key_cmp A e ≡ false = (distinct_from key_cmp_total A (e ∷ R) put).0.0 in
    let T = taken A (e ∷ []) in
    let more : events ≡ T ++ R = all_is ∙ sym (append_assoc A (e ∷ []) R) ∙ ap (λ l. l ++ R) (sym (grown_by A e lacks)) in
    let stands : has key_cmp T e ≡ true = there key_cmp_total A (e ∷ []) e (itself key_cmp_total e []) in
    let its : m e ≡ number base T e =
    ap (λ l. base (source_of e) + length (of_source (source_of e) l)) (ap (up_to e) more ∙ up_to_stays T R e stands) in
    refused e (m e) own.1 s.5 (its ∙ sym (next_new base A c e lacks was.counts))

-- all rows of a numberer that are an event have its number
all_own : (m : EventValue → ℕ) (E X : List EventValue) (e : EventValue) → IsBare e → AreBare E → HaveNumbers m E X → AllByRecursion (HasNoOther (m e) e) X
all_own m [] [] e bare are have = tt
all_own m [] (x ∷ X) e bare are have = absurd have
all_own m (f ∷ E) [] e bare are have = absurd have
all_own m (f ∷ E) (x ∷ X) e bare are have = (own, all_own m E X e bare are.1 have.1)
  where
    own : (k : ℕ) → HasNumber k e x → k ≡ m e
    own k one = (let two = its_own f e x (m f) k bare one are.0 have.0 in two.1 ∙ ap m (sym two.0))

middle : (P : EventValue → Type 0) (done rest : List EventValue) (x : EventValue) → AllByRecursion P (done ++ x ∷ rest) → P x
middle P [] rest x all = all.0
middle P (y ∷ done) rest x all = middle P done rest x all.1

-- where two rows are an event with different numbers, no numberer leaves the rows
pub no_other : (base : List ℕ → ℕ) (done rest : List EventValue) (e x : EventValue) (n : ℕ) → IsBare e → HasNumber n e x → (AllByRecursion (HasNoOther n e) (done ++ x ∷ rest) → ⊥)
    → (events : List EventValue) → AreBare events → IsEachOnce events → HaveNumbers (number base events) events (done ++ x ∷ rest) → ⊥
no_other base done rest e x n bare one other events are once have =
    let m = number base events in
    let all = all_own m events (done ++ x ∷ rest) e bare are have in
    let its : n ≡ m e = middle (HasNoOther (m e) e) done rest x all n one in
    other (subst (λ (k : ℕ). AllByRecursion (HasNoOther k e) (done ++ x ∷ rest)) (sym its) all)
