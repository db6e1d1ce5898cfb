-- What a numberer's table tells of events.
use Rattle.std.proofs.Common.{◌≡◌, ◌≤◌, ◌+◌, ℕ, zero, suc, List, [], ◌∷◌, ◌++◌, slice_get, take, Bool, true, false, cond, ◌&&◌, bytes_eq, filter, ◌||◌, if◌then◌else◌, is_eq, Option, Some, None, Ok, IsTrue, inl, refl, sym, ap, ap₂, subst, ◌∙◌, arith, true≢false, is_some}
use Rattle.std.specs.List.{AllByRecursion}
use Rattle.sqlite_trees.specs.View.{doubt}
use Rattle.sqlite.specs.State.{State, HasCleanDisk, Survives}
use Rattle.sqlite.proofs.StateLemmas.{survives_then}
use Rattle.attributes.specs.Event.{EventValue, id_of, source_of, text}
use Rattle.attributes.specs.Fault.{IsEvent}
use Rattle.inbox.specs.KeyOrder.{key_cmp}
use Rattle.inbox.specs.Ordered.{append_new, has}
use Rattle.inbox.proofs.OrderLemmas.{key_cmp_total}
use Rattle.inbox.proofs.ReadLemmas.{take_next}
use Rattle.inbox_table.specs.Calls.{ReadEffect, joined}
use Rattle.inbox.specs.Shown.{has_key}
use Rattle.inbox_table.specs.Rows.{IsInbox, events_named}
use Rattle.numbers.specs.Counts.{Counts, HasText, IsCountOf, KeepsKnown, KnowsEach, KnowsIfThere, KnowsOnly, Learns, TextNumbers}
use Rattle.numbers.specs.Filter.{MayHave}
use Rattle.attributes.specs.Members.{value_at, with_value}
use Rattle.numbers.specs.Numbered.{AreBare, HasNumber, HaveNumbers, IsBare}
use Rattle.numbers.specs.Numberer.{number, taken}
use Rattle.numbers.proofs.KnownLemmas.{counts_with, knows_from, learnt_one}
use Rattle.numbers.proofs.ListLemmas.{all_map, none_new}
use Rattle.numbers.proofs.NumberLemmas.{only_none}
use Rattle.numbers.proofs.NumberedLemmas.{itself, numbered_events}
use Rattle.number_table.specs.Calls.{StandsNumbered, from}
use Rattle.number_table.specs.Each.{AnswersEach}
use Rattle.number_table.specs.Lookups.{LearnsNumbers, LooksUp}
use Rattle.number_table.proofs.EachLemmas.{joined_more}
use Rattle.number_table.proofs.KeepLemmas.{one_event}
use Rattle.number_table.proofs.StandLemmas.{known_still, was_clean}

-- ---- the database stays

pub looks_none : (s : State) → LooksUp s s
looks_none s = record {
  survives = record { clean = (let e : doubt s.is_clean ≤ doubt s.is_clean = omega arith in e); shield = λ h. h; counts = (let e : s.faults ≤ s.faults = omega arith in e); limit = refl; closes = λ clean still. inl still; crash = λ clean db may. inl may };
  was_open = λ clean still. still;
  same = λ clean still. refl;
}

pub looks_then : (a b c : State) → LooksUp a b → LooksUp b c → LooksUp a c
looks_then a b c one two =
    let mid = λ (clean : HasCleanDisk c). was_clean b c (λ _. ⊥) two.survives clean in
    record {
      survives = survives_then a b c _ _ _ (λ _ db none. none) (λ _ db none. none) one.survives two.survives;
      was_open = λ clean still. one.was_open (mid clean) (two.was_open clean still);
      same = λ clean still. two.same clean still ∙ one.same (mid clean) (two.was_open clean still);
    }

-- the numberer stands as it did
pub stands_still : (base : ℕ) (events rows : List EventValue) (old new : State) (c : Option Counts) → LooksUp old new → StandsNumbered base events rows old c → StandsNumbered base events rows new c
stands_still base events rows old new c looks was = record {
  bare = was.bare;
  once = was.once;
  numbers = was.numbers;
  whole = was.whole;
  counts = was.counts;
  table = λ clean still. subst (λ db. IsInbox db rows) (sym (looks.same clean still)) (was.table (was_clean old new (λ _. ⊥) looks.survives clean) (looks.was_open clean still));
}

-- ---- lists

pub all_filter : {X : Type 0} (P : X → Type 0) (p : X → Bool) (xs : List X) → AllByRecursion P xs → AllByRecursion P (filter p xs)
all_filter P p [] a = tt
all_filter {X} P p (x ∷ xs) a = by (p x) (all_filter P p xs a.1)
  where
    by : (b : Bool) → AllByRecursion P (filter p xs) → AllByRecursion P (cond b (x ∷ filter p xs) (filter p xs))
    by true rest = (a.0, rest)
    by false rest = rest

all_both : {X : Type 0} (P : X → Type 0) (xs ys : List X) → AllByRecursion P xs → AllByRecursion P ys → AllByRecursion P (xs ++ ys)
all_both P [] ys a b = b
all_both P (x ∷ xs) ys a b = (a.0, all_both P xs ys a.1 b)

pub all_left : {X : Type 0} (P : X → Type 0) (xs ys : List X) → AllByRecursion P (xs ++ ys) → AllByRecursion P xs
all_left P [] ys a = tt
all_left P (x ∷ xs) ys a = (a.0, all_left P xs ys a.1)

all_right : {X : Type 0} (P : X → Type 0) (xs ys : List X) → AllByRecursion P (xs ++ ys) → AllByRecursion P ys
all_right P [] ys a = a
all_right P (x ∷ xs) ys a = all_right P xs ys a.1

-- what holds of each event of all lists holds of those of one
pub joined_at : (P : EventValue → Type 0) (lists : List (List EventValue)) (i : ℕ) (L : List EventValue) → AllByRecursion P (joined lists) → slice_get lists i ≡ Some L → AllByRecursion P L
joined_at P [] i L a at = absurd (cc)
joined_at P (M ∷ lists) zero L a at = (let same : M ≡ L = cc in subst (AllByRecursion P) same (all_left P M (joined lists) a))
joined_at P (M ∷ lists) (suc i) L a at = joined_at P lists i L (all_right P M (joined lists) a) at

-- ---- rows of a source with an id

pub same_name : (s t : List ℕ) (n : ℕ) (e x : EventValue) → HasNumber n e x → has_key s t e ≡ has_key s t x
same_name s t n e x one =
    sym (ap (has_key s t) one.is ∙ ap₂ (λ (a b : List ℕ). bytes_eq a s && bytes_eq b t) (numbered_events.source e one.digits) (numbered_events.id e one.digits))

rows_named : (m : EventValue → ℕ) (s t : List ℕ) (A D : List EventValue) → HaveNumbers m A D → HaveNumbers m (filter (has_key s t) A) (filter (has_key s t) D)
rows_named m s t [] [] h = tt
rows_named m s t [] (x ∷ D) h = absurd h
rows_named m s t (e ∷ A) [] h = absurd h
rows_named m s t (e ∷ A) (x ∷ D) h =
    subst (λ b. HaveNumbers m (cond (has_key s t e) (e ∷ filter (has_key s t) A) (filter (has_key s t) A)) (cond b (x ∷ filter (has_key s t) D) (filter (has_key s t) D))) (same_name s t (m e) e x h.0) (by (has_key s t e) (rows_named m s t A D h.1))
  where
    by : (b : Bool) → HaveNumbers m (filter (has_key s t) A) (filter (has_key s t) D) → HaveNumbers m (cond b (e ∷ filter (has_key s t) A) (filter (has_key s t) A)) (cond b (x ∷ filter (has_key s t) D) (filter (has_key s t) D))
    by true rest = (h.0, rest)
    by false rest = rest

-- whether the list has an event tells among those that pass as the event does
filtered : (p : EventValue → Bool) (A : List EventValue) (e : EventValue) → IsEvent e → AreBare A → p e ≡ true → has key_cmp (filter p A) e ≡ has key_cmp A e
filtered p [] e event bare pass = refl
filtered p (a ∷ A) e event bare pass = by (p a) refl (filtered p A e event bare.1 pass)
  where
    apart : p a ≡ false → (b : Bool) → is_eq (key_cmp e a) ≡ b → b ≡ false
    apart fails true tie = absurd (true≢false (sym pass ∙ ap p (one_event e a event bare.0.event tie) ∙ fails))
    apart fails false tie = refl

    by : (b : Bool) → p a ≡ b → has key_cmp (filter p A) e ≡ has key_cmp A e → has key_cmp (cond b (a ∷ filter p A) (filter p A)) e ≡ (is_eq (key_cmp e a) || has key_cmp A e)
    by true passes rest = ap (λ b. is_eq (key_cmp e a) || b) rest
    by false fails rest = rest ∙ sym (ap (λ b. b || has key_cmp A e) (apart fails (is_eq (key_cmp e a)) refl))

-- ---- one event

-- it is known
pub known_already : (K : TextNumbers) (e : EventValue) (n : ℕ) (s : State) (c : Counts) → value_at (text e) K ≡ Some n → LearnsNumbers (e ∷ []) s c K K
known_already K e n s c at base events rows was only = record { only = only; stays = λ t h. h; each = (λ there. ap is_some at, tt) }

-- it is new
pub surely_new : (K : TextNumbers) (e : EventValue) (s : State) (c : Counts) → (MayHave c.seen (text e) → ⊥) → LearnsNumbers (e ∷ []) s c K K
surely_new K e s c none base events rows was only = record { only = only; stays = λ t h. h; each = (λ there. absurd (none (was.counts.seen e there)), tt) }

-- what was found among the rows of its source and id is what the numberer has of it
pub told_of : (e : EventValue) (o : Option ℕ) (n : ℕ) (old new : State) (X : List EventValue) → IsBare e → HasCleanDisk new → Survives old new (λ _. ⊥) → ReadEffect (events_named (source_of e) (id_of e)) n old new (Ok X) → (IsTrue new.is_open → IsTrue old.is_open)
    → ((m : EventValue → ℕ) (E : List EventValue) → AreBare E → HaveNumbers m E X → o ≡ (if has key_cmp E e then Some (m e) else None))
    → (c : Counts) (base : ℕ) (events rows : List EventValue) → StandsNumbered base events rows old (Some c) → o ≡ (if has key_cmp events e then Some (number (from base) events e) else None)
told_of e o n old new X bare clean survives effect was_open among c base events rows was =
    let s = source_of e in
    let t = id_of e in
    let m = number (from base) events in
    let still : IsTrue old.is_open = was_open effect.stays_open in
    let told : X ≡ events_named s t rows = effect.only rows (was.table (was_clean old new (λ _. ⊥) survives clean) still) in
    let found = filter (has_key s t) events in
    let have : HaveNumbers m found X = subst (HaveNumbers m found) (sym told) (rows_named m s t events rows was.numbers) in
    let pass : has_key s t e ≡ true = ap₂ (λ (a b : Bool). a && b) (itself s) (itself t) in
    among m found (all_filter IsBare (has_key s t) events was.bare) have
    ∙ ap (λ (b : Bool). if b then Some (m e) else None) (filtered (has_key s t) events e bare.event was.bare pass)

none_there : (b : Bool) (n : ℕ) → None ≡ (if b then Some n else None) → b ≡ true → ⊥
none_there true n h is = cc
none_there false n h is = true≢false (sym is)

some_there : (b : Bool) (k n : ℕ) → Some k ≡ (if b then Some n else None) → (b ≡ true) × (k ≡ n)
some_there true k n h = (refl, cc)
some_there false k n h = absurd (cc)

pub looked_none : (e : EventValue) (o : Option ℕ) (K : TextNumbers) (s : State) (c : Counts) → o ≡ None → ((base : ℕ) (events rows : List EventValue) → StandsNumbered base events rows s (Some c) → o ≡ (if has key_cmp events e then Some (number (from base) events e) else None)) → LearnsNumbers (e ∷ []) s c K K
looked_none e o K s c is told base events rows was only = record {
  only = only;
  stays = λ t h. h;
  each = (λ there. absurd (none_there (has key_cmp events e) (number (from base) events e) (sym is ∙ told base events rows was) there), tt);
}

pub looked_some : (e : EventValue) (o : Option ℕ) (k : ℕ) (K M : TextNumbers) (s : State) (c : Counts) → IsEvent e → o ≡ Some k → M ≡ with_value (text e) k K → ((base : ℕ) (events rows : List EventValue) → StandsNumbered base events rows s (Some c) → o ≡ (if has key_cmp events e then Some (number (from base) events e) else None))
    → LearnsNumbers (e ∷ []) s c K M
looked_some e o k K M s c event is put told base events rows was only =
    let its = some_there (has key_cmp events e) k (number (from base) events e) (sym is ∙ told base events rows was) in
    let given : M ≡ with_value (text e) (number (from base) events e) K = put ∙ ap (λ (n : ℕ). with_value (text e) n K) its.1 in
    subst (λ (Q : TextNumbers). Learns (from base) events (e ∷ []) K Q) (sym given) (learnt_one (from base) events K e event its.0 only)

-- ---- one after the other

learns_join : (base : List ℕ → ℕ) (A L P : List EventValue) (K M N : TextNumbers) → Learns base A L K M → Learns base A P M N → Learns base A (L ++ P) K N
learns_join base A L P K M N one two = record {
  only = two.only;
  stays = λ t h. two.stays t (one.stays t h);
  each = all_both (KnowsIfThere A N) L P (all_map (KnowsIfThere A M) (KnowsIfThere A N) (λ f h there. two.stays (text f) (h there)) L one.each) two.each;
}

pub learns_none : (K : TextNumbers) (s : State) (c : Counts) → LearnsNumbers [] s c K K
learns_none K s c base events rows was only = record { only = only; stays = λ t h. h; each = tt }

learns_then : (L P : List EventValue) (K M N : TextNumbers) (old mid : State) (c : Counts) → LooksUp old mid → LearnsNumbers L old c K M → LearnsNumbers P mid c M N → LearnsNumbers (L ++ P) old c K N
learns_then L P K M N old mid c looks one two base events rows was only =
    let first = one base events rows was only in
    learns_join (from base) events L P K M N first (two base events rows (stands_still base events rows old mid (Some c) looks was) first.only)

pub learns_more : (L : List EventValue) (i : ℕ) (e : EventValue) (K M N : TextNumbers) (old mid : State) (c : Counts) → slice_get L i ≡ Some e → LooksUp old mid → LearnsNumbers (take i L) old c K M → LearnsNumbers (e ∷ []) mid c M N → LearnsNumbers (take (i + 1) L) old c K N
learns_more L i e K M N old mid c at looks one two = subst (λ P. LearnsNumbers P old c K N) (sym (take_next L i e at)) (learns_then (take i L) (e ∷ []) K M N old mid c looks one two)

pub learns_list : (lists : List (List EventValue)) (i : ℕ) (L : List EventValue) (K M N : TextNumbers) (old mid : State) (c : Counts) → slice_get lists i ≡ Some L → LooksUp old mid → LearnsNumbers (joined (take i lists)) old c K M → LearnsNumbers L mid c M N
    → LearnsNumbers (joined (take (i + 1) lists)) old c K N
learns_list lists i L K M N old mid c at looks one two =
    subst (λ P. LearnsNumbers P old c K N) (sym (ap joined (take_next lists i L at) ∙ joined_more (take i lists) L)) (learns_then (joined (take i lists)) L K M N old mid c looks one two)

-- ---- what is known then

events_known : (base : List ℕ → ℕ) (A L : List EventValue) (K : TextNumbers) → KnowsOnly base A K → AllByRecursion IsEvent L → AllByRecursion (KnowsIfThere A K) L → KnowsEach base A K L
events_known base A [] K only events each = tt
events_known base A (e ∷ L) K only events each = (knows_from base A K e events.0 only each.0, events_known base A L K only events.1 each.1)

-- what was known, and what was learnt, tells of each
pub record Tells (base : ℕ) (A L : List EventValue) (c : Counts) (K : TextNumbers) : Type 0 where
  pub counts : IsCountOf (from base) A c
  pub only : KnowsOnly (from base) A K
  pub each : KnowsEach (from base) A K L

-- what was left known is lent, and more is learnt
pub tells : (base : ℕ) (A L rows : List EventValue) (s : State) (c d : Counts) (K M : TextNumbers) → K ≡ c.recent → d ≡ record c { recent = [] } → AllByRecursion IsEvent L → LearnsNumbers L s d K M → StandsNumbered base A rows s (Some c) → Tells base A L d M
tells base A L rows s c d K M lent left events learns was =
    let counts = counts_with (from base) A c d [] left (only_none (from base) A) was.counts in
    let it = learns base A rows (record { bare = was.bare; once = was.once; numbers = was.numbers; whole = was.whole; counts = counts; table = was.table }) (subst (KnowsOnly (from base) A) (sym lent) was.counts.recent) in
    record { counts = counts; only = it.only; each = events_known (from base) A L M it.only events it.each }

pub are_events : (L : List EventValue) → AreBare L → AllByRecursion IsEvent L
are_events L bare = all_map IsBare IsEvent (λ e is. is.event) L bare

pub all_events : (lists : List (List EventValue)) → AllByRecursion AreBare lists → AllByRecursion IsEvent (joined lists)
all_events [] bare = tt
all_events (L ∷ lists) bare = all_both IsEvent L (joined lists) (are_events L bare.0) (all_events lists bare.1)

-- and tells of each still
pub keeps_each : (base : List ℕ → ℕ) (A B L : List EventValue) (K M : TextNumbers) → KeepsKnown base A B K M → AreBare L → KnowsEach base A K L → KnowsEach base B M L
keeps_each base A B [] K M keeps bare each = tt
keeps_each base A B (e ∷ L) K M keeps bare each = (keeps e bare.0.event each.0, keeps_each base A B L K M keeps bare.1 each.1)

-- ---- each was known

pub texts_list : (K : TextNumbers) (lists : List (List EventValue)) (i : ℕ) (L : List EventValue) → slice_get lists i ≡ Some L → AllByRecursion (HasText K) (joined (take i lists)) → AllByRecursion (HasText K) L → AllByRecursion (HasText K) (joined (take (i + 1) lists))
texts_list K lists i L at were are = subst (AllByRecursion (HasText K)) (sym (ap joined (take_next lists i L at) ∙ joined_more (take i lists) L)) (all_both (HasText K) (joined (take i lists)) L were are)

have_both : (m : EventValue → ℕ) (L X P Y : List EventValue) → HaveNumbers m L X → HaveNumbers m P Y → HaveNumbers m (L ++ P) (X ++ Y)
have_both m [] [] P Y one two = two
have_both m [] (x ∷ X) P Y one two = absurd one
have_both m (e ∷ L) [] P Y one two = absurd one
have_both m (e ∷ L) (x ∷ X) P Y one two = (one.0, have_both m L X P Y one.1 two)

-- lists whose events all have their numbers are answered as one list of them
each_there : (base : List ℕ → ℕ) (A : List EventValue) (lists answers : List (List EventValue)) → AnswersEach base A lists answers → AllByRecursion (λ e. has key_cmp A e ≡ true) (joined lists) → HaveNumbers (number base A) (joined lists) (joined answers)
each_there base A [] [] each there = tt
each_there base A [] (X ∷ answers) each there = absurd each
each_there base A (L ∷ lists) [] each there = absurd each
each_there base A (L ∷ lists) (X ∷ answers) each there =
    let same : taken A L ≡ A = none_new key_cmp_total A L (all_left (λ e. has key_cmp A e ≡ true) L (joined lists) there) in
    have_both (number base A) L X (joined lists) (joined answers) (subst (λ B. HaveNumbers (number base B) L X) same each.0)
    (each_there base A lists answers (subst (λ B. AnswersEach base B lists answers) same each.1) (all_right (λ e. has key_cmp A e ≡ true) L (joined lists) there))

all_joined : (P : EventValue → Type 0) (lists : List (List EventValue)) → AllByRecursion (AllByRecursion P) lists → AllByRecursion P (joined lists)
all_joined P [] all = tt
all_joined P (L ∷ lists) all = all_both P L (joined lists) all.0 (all_joined P lists all.1)

pub known_each : (base : ℕ) (lists : List (List EventValue)) (events rows : List EventValue) (answers : List (List EventValue)) (s : State) (c k : Counts) → StandsNumbered base events rows s (Some c) → AllByRecursion AreBare lists → AllByRecursion (AllByRecursion IsEvent) answers
    → AnswersEach (from base) events lists answers → IsCountOf (from base) (taken events (joined lists)) k → AllByRecursion (λ e. has key_cmp events e ≡ true) (joined lists) → StandsNumbered base (taken events (joined lists)) (append_new key_cmp rows (joined answers)) s (Some k)
known_each base lists events rows answers s c k was bare whole each counts there =
    known_still base (joined lists) events rows (joined answers) s c k was (all_joined IsBare lists bare) (all_joined IsEvent answers whole) (each_there (from base) events lists answers each there) counts there
