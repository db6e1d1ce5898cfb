-- Rows of a numberer's table that are counted, a page at a time.
use Rattle.std.proofs.Common.{◌≡◌, ◌⊎◌, inl, inr, ◌≤◌, ◌+◌, ℕ, zero, suc, List, [], ◌∷◌, ◌++◌, append_assoc, append-nil, slice_get, take, drop, take_all, length, Bool, true, false, cond, ◌&&◌, Some, Ok, IsTrue, refl, sym, ap, ap₂, subst, ◌∙◌, arith, true≢false, Option, None, IfNone, IfSome}
use Rattle.std.specs.List.{AllByRecursion}
use Rattle.std.proofs.lemmas.List.{take-append-drop, take-take, drop-take}
use Rattle.sqlite.specs.State.{State, HasCleanDisk, Survives}
use Rattle.sqlite.proofs.StateLemmas.{survives_then}
use Rattle.attributes.specs.Event.{EventValue, id_of, source_of, text}
use Rattle.attributes.specs.Fault.{IsEvent}
use Rattle.inbox.specs.KeyOrder.{key_cmp}
use Rattle.inbox.specs.Ordered.{has}
use Rattle.inbox.specs.Shown.{has_key}
use Rattle.inbox.proofs.ReadLemmas.{take_next}
use Rattle.inbox_table.specs.Calls.{IsMade, IsSettled, ReadEffect}
use Rattle.inbox_table.specs.Beside.{UpgradesTables}
use Rattle.inbox_table.specs.Opening.{LeavesOpening, MayOpen, Opens}
use Rattle.inbox_table.specs.Rows.{IsInbox, events_after, events_named}
use Rattle.numbers.specs.Counts.{Counts, IsCountOfRows, IsCounted, next}
use Rattle.numbers.specs.Filter.{MayHave}
use Rattle.numbers.specs.Numbered.{HasNoOther, HasNumber, IsBare}
use Rattle.numbers.proofs.CountLemmas.{row_step, surely_lacks}
use Rattle.numbers.proofs.NumberedLemmas.{itself}
use Rattle.numbers.proofs.UncountedLemmas.{no_next, no_other}
use Rattle.number_table.specs.Calls.{NoneLeaves, from}
use Rattle.number_table.specs.Counting.{CountsRows, HasRows, RefusesRows}
use Rattle.number_table.specs.Lookups.{LooksUp}
use Rattle.number_table.proofs.LookLemmas.{all_filter, all_left, same_name}
use Rattle.number_table.proofs.StandLemmas.{was_clean}

-- what a clause says of an answer that is known
pub of_some : {X : Type 0} (o : Option X) (x : X) (P : X → Type 0) → o ≡ Some x → IfSome o P → P x
of_some o x P is h = subst (λ q. IfSome q P) is h

pub of_none : {X : Type 0} (o : Option X) (P : Type 0) → o ≡ None → IfNone o P → P
of_none o P is h = subst (λ q. IfNone q P) is h

-- a look leaves the rows
pub rows_still : (old new : State) (rows : List EventValue) → LooksUp old new → HasRows old rows → HasRows new rows
rows_still old new rows looks was clean still =
    subst (λ db. IsInbox db rows) (sym (looks.same clean still)) (was (was_clean old new (λ _. ⊥) looks.survives clean) (looks.was_open clean still))

-- ---- what a reading shows of them

-- a reading that was done shows its part of the rows
pub shown_rows : (shown : List EventValue → List EventValue) (n : ℕ) (old new : State) (X rows : List EventValue) → HasCleanDisk new → Survives old new (λ _. ⊥) → ReadEffect shown n old new (Ok X) → (IsTrue new.is_open → IsTrue old.is_open) → HasRows old rows → X ≡ shown rows
shown_rows shown n old new X rows clean survives effect was_open was = effect.only rows (was (was_clean old new (λ _. ⊥) survives clean) (was_open effect.stays_open))

-- what holds of the rows of its source and id holds of all, where it speaks of that event
all_named : (n : ℕ) (e : EventValue) (rows : List EventValue) → AllByRecursion (HasNoOther n e) (events_named (source_of e) (id_of e) rows) → AllByRecursion (HasNoOther n e) rows
all_named n e [] all = tt
all_named n e (x ∷ rows) all = by (has_key (source_of e) (id_of e) x) refl all (all_named n e rows)
  where
    named : List EventValue
    named = events_named (source_of e) (id_of e) rows

    by : (b : Bool) → has_key (source_of e) (id_of e) x ≡ b → AllByRecursion (HasNoOther n e) (cond b (x ∷ named) named) → (AllByRecursion (HasNoOther n e) named → AllByRecursion (HasNoOther n e) rows) → AllByRecursion (HasNoOther n e) (x ∷ rows)
    by true h all rest = (all.0, rest all.1)
    by false h all rest =
        let own : has_key (source_of e) (id_of e) e ≡ true = ap₂ (λ (a b : Bool). a && b) (itself (source_of e)) (itself (id_of e)) in
        ((λ m one. absurd (true≢false (sym own ∙ same_name (source_of e) (id_of e) m e x one ∙ h))), rest all)

pub none_other : (n : ℕ) (e : EventValue) (X rows : List EventValue) → X ≡ events_named (source_of e) (id_of e) rows → AllByRecursion (HasNoOther n e) X → AllByRecursion (HasNoOther n e) rows
none_other n e X rows told all = all_named n e rows (subst (AllByRecursion (HasNoOther n e)) told all)

pub some_other : (n : ℕ) (e : EventValue) (X rows : List EventValue) → X ≡ events_named (source_of e) (id_of e) rows → AllByRecursion (HasNoOther n e) rows → AllByRecursion (HasNoOther n e) X
some_other n e X rows told all = subst (AllByRecursion (HasNoOther n e)) (sym told) (all_filter (HasNoOther n e) (has_key (source_of e) (id_of e)) rows all)

-- ---- one row

pub counts_row : (x e : EventValue) (s : State) (c d : Counts) → IsEvent x → IsBare e → HasNumber (next c (source_of e)) e x
    → (MayHave c.seen (text e) → ⊥) ⊎ ((rows : List EventValue) → HasRows s rows → AllByRecursion (HasNoOther (next c (source_of e)) e) rows) → IsCounted c d (text e) (source_of e) → CountsRows (x ∷ []) s c d
counts_row x e s c d event bare one new more base done rest has_rows counted = row_step (from base) done e x c d counted event bare one (lacks new) more
  where
    lacks : (MayHave c.seen (text e) → ⊥) ⊎ ((rows : List EventValue) → HasRows s rows → AllByRecursion (HasNoOther (next c (source_of e)) e) rows) → has key_cmp counted.events e ≡ false
    lacks (inl never) = by (has key_cmp counted.events e) refl
      where
        by : (b : Bool) → has key_cmp counted.events e ≡ b → has key_cmp counted.events e ≡ false
        by true there = absurd (never (counted.counts.seen e there))
        by false none = none
    lacks (inr all) = surely_lacks (from base) done e c counted bare.event (all_left (HasNoOther (next c (source_of e)) e) done (x ∷ rest) (all (done ++ x ∷ rest) has_rows))

pub refuses_next : (x : EventValue) (s : State) (c : Counts) → ((e : EventValue) (n : ℕ) → IsBare e → HasNumber n e x → n ≡ next c (source_of e) → ⊥) → RefusesRows (x ∷ []) s c
refuses_next x s c refused base done rest has_rows counted = no_next (from base) done rest x c counted refused

pub refuses_other : (x e : EventValue) (n : ℕ) (s : State) (c : Counts) → IsBare e → HasNumber n e x → ((rows : List EventValue) → HasRows s rows → AllByRecursion (HasNoOther n e) rows → ⊥) → RefusesRows (x ∷ []) s c
refuses_other x e n s c bare one other base done rest has_rows counted = no_other (from base) done rest e x n bare one (other (done ++ x ∷ rest) has_rows)

-- ---- one behind the other

pub counts_none : (s : State) (c : Counts) → CountsRows [] s c c
counts_none s c base done rest has_rows counted = subst (λ P. IsCountOfRows (from base) P c) (sym (append-nil done)) counted

split : (done P Q rest : List EventValue) → done ++ ((P ++ Q) ++ rest) ≡ (done ++ P) ++ (Q ++ rest)
split done P Q rest = ap (λ l. done ++ l) (append_assoc P Q rest) ∙ sym (append_assoc done P (Q ++ rest))

counts_then : (P Q : List EventValue) (a b : State) (c d e : Counts) → LooksUp a b → CountsRows P a c d → CountsRows Q b d e → CountsRows (P ++ Q) a c e
counts_then P Q a b c d e looks one two base done rest has_rows counted =
    let first = one base done (Q ++ rest) (subst (HasRows a) (ap (λ l. done ++ l) (append_assoc P Q rest)) has_rows) counted in
    subst (λ l. IsCountOfRows (from base) l e) (append_assoc done P Q) (two base (done ++ P) rest (rows_still a b ((done ++ P) ++ (Q ++ rest)) looks (subst (HasRows a) (split done P Q rest) has_rows)) first)

refuses_then : (P Q : List EventValue) (a b : State) (c d : Counts) → LooksUp a b → CountsRows P a c d → RefusesRows Q b d → RefusesRows (P ++ Q) a c
refuses_then P Q a b c d looks one refused base done rest has_rows counted =
    let first = one base done (Q ++ rest) (subst (HasRows a) (ap (λ l. done ++ l) (append_assoc P Q rest)) has_rows) counted in
    subst (NoneLeaves base) (sym (split done P Q rest)) (refused base (done ++ P) rest (rows_still a b ((done ++ P) ++ (Q ++ rest)) looks (subst (HasRows a) (split done P Q rest) has_rows)) first)

-- rows before which those are refused that begin them
refuses_more : (P Q : List EventValue) (s : State) (c : Counts) → RefusesRows P s c → RefusesRows (P ++ Q) s c
refuses_more P Q s c refused base done rest has_rows counted =
    let whole = ap (λ l. done ++ l) (append_assoc P Q rest) in
    subst (NoneLeaves base) (sym whole) (refused base done (Q ++ rest) (subst (HasRows s) whole has_rows) counted)

parts_at : (X : List EventValue) (i : ℕ) (x : EventValue) → slice_get X i ≡ Some x → (rest : List EventValue) × (take i X ++ ((x ∷ []) ++ rest) ≡ X)
parts_at [] i x at = absurd (cc)
parts_at (y ∷ X) zero x at = (let same : y ≡ x = cc in (X, ap (λ z. z ∷ X) (sym same)))
parts_at (y ∷ X) (suc i) x at = (let it = parts_at X i x at in (it.0, ap (λ l. y ∷ l) it.1))

pub counts_more : (X : List EventValue) (i : ℕ) (x : EventValue) (a b : State) (c d e : Counts) → slice_get X i ≡ Some x → LooksUp a b → CountsRows (take i X) a c d → CountsRows (x ∷ []) b d e → CountsRows (take (i + 1) X) a c e
counts_more X i x a b c d e at looks one two = subst (λ P. CountsRows P a c e) (sym (take_next X i x at)) (counts_then (take i X) (x ∷ []) a b c d e looks one two)

pub refuses_at : (X : List EventValue) (i : ℕ) (x : EventValue) (a b : State) (c d : Counts) → slice_get X i ≡ Some x → LooksUp a b → CountsRows (take i X) a c d → RefusesRows (x ∷ []) b d → RefusesRows X a c
refuses_at X i x a b c d at looks one refused =
    let it = parts_at X i x at in
    subst (λ P. RefusesRows P a c) it.1 (refuses_then (take i X) ((x ∷ []) ++ it.0) a b c d looks one (refuses_more (x ∷ []) it.0 b d refused))

-- ---- one page behind the other

two_parts : (m n : ℕ) (rows : List EventValue) → take (m + n) rows ≡ take m rows ++ take n (drop m rows)
two_parts m n rows =
    sym (take-append-drop m (take (m + n) rows))
    ∙ ap₂ (λ (a b : List EventValue). a ++ b) (take-take m (m + n) rows (omega arith)) (drop-take m n rows)

-- a page and what stands before and behind it
about : (m n : ℕ) (rows : List EventValue) → take m rows ++ (events_after m n rows ++ drop n (drop m rows)) ≡ rows
about m n rows = ap (λ l. take m rows ++ l) (take-append-drop n (drop m rows)) ∙ take-append-drop m rows

pub page_counted : (base m n : ℕ) (rows X : List EventValue) (s : State) (c d : Counts) → X ≡ events_after m n rows → HasRows s rows → IsCountOfRows (from base) (take m rows) c → CountsRows X s c d → IsCountOfRows (from base) (take (m + n) rows) d
page_counted base m n rows X s c d is has_rows counted counts =
    subst (λ l. IsCountOfRows (from base) l d) (ap (λ l. take m rows ++ l) is ∙ sym (two_parts m n rows))
    (counts base (take m rows) (drop n (drop m rows)) (subst (HasRows s) (sym (about m n rows) ∙ ap (λ l. take m rows ++ (l ++ drop n (drop m rows))) (sym is)) has_rows) counted)

pub page_refused : (base m n : ℕ) (rows X : List EventValue) (s : State) (c : Counts) → X ≡ events_after m n rows → HasRows s rows → IsCountOfRows (from base) (take m rows) c → RefusesRows X s c → NoneLeaves base rows
page_refused base m n rows X s c is has_rows counted refused =
    let whole : rows ≡ take m rows ++ (X ++ drop n (drop m rows)) = sym (about m n rows) ∙ ap (λ l. take m rows ++ (l ++ drop n (drop m rows))) (sym is) in
    subst (NoneLeaves base) (sym whole) (refused base (take m rows) (drop n (drop m rows)) (subst (HasRows s) whole has_rows) counted)

pub all_counted : (base m : ℕ) (rows : List EventValue) (c : Counts) → length rows ≤ m → IsCountOfRows (from base) (take m rows) c → IsCountOfRows (from base) rows c
all_counted base m rows c past counted = subst (λ l. IsCountOfRows (from base) l c) (take_all m rows past) counted

-- ---- the opening behind looks

settled_still : (b c : State) → LooksUp b c → HasCleanDisk c → IsTrue c.is_open → IsSettled b → IsSettled c
settled_still b c looks clean still was opened db may = by (looks.survives.crash clean db may)
  where
    by : b.may_leave db ⊎ ⊥ → db ≡ c.now.trees
    by (inl before) = was (looks.was_open clean still) db before ∙ ap (λ d. d.trees) (sym (looks.same clean still))
    by (inr none) = absurd none

pub opens_still : (tells : ℕ → ℕ → Type 0) (a b c : State) (rows : List EventValue) → Opens tells a b rows → LooksUp b c → HasCleanDisk c → IsTrue c.is_open → Opens tells a c rows
opens_still tells a b c rows was looks clean still =
    let same : c.now ≡ b.now = looks.same clean still in
    record {
      adopts = λ h. let it = was.adopts h in record {
        found = it.found;
        only = it.only;
        is = subst (λ db. IsInbox db rows) (sym same) it.is;
        same = λ present. same ∙ it.same present;
        upgraded = λ old. subst (UpgradesTables a.now) (sym same) (it.upgraded old);
        stays_open = still;
        settled = settled_still b c looks clean still it.settled;
      };
      told = was.told;
      creates = λ h. let it = was.creates h in record {
        made = subst (IsMade a.now) (sym same) it.made;
        stays_open = still;
        settled = settled_still b c looks clean still it.settled;
      };
      none = was.none;
      is = subst (λ db. IsInbox db rows) (sym same) was.is;
      stays_open = still;
      settled = settled_still b c looks clean still was.settled;
    }

pub leaves_still : (a b c : State) → LeavesOpening a b → LooksUp b c → LeavesOpening a c
leaves_still a b c was looks = survives_then a b c (MayOpen a.now) (λ _. ⊥) (MayOpen a.now) (λ _ db may. may) (λ _ db none. absurd none) was looks.survives
