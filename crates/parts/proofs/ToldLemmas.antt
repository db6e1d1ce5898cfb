-- What the parts of a set tell of their events is what the set tells.
use Rattle.std.proofs.Common.{◌≡◌, ◌≤◌, ◌<◌, ◌+◌, ◌++◌, ℕ, zero, suc, List, [], ◌∷◌, Bool, true, false, cond, ◌&&◌, ◌||◌, length, map, nat_lt, take, get_or, Bor, Option, Some, None, slice_get, string_bytes, Result, Ok, Err, refl, sym, ap, ◌∙◌, subst, arith, eqb-true, is_eq, true≢false}
use Rattle.std.specs.List.{AllByRecursion, range_with_len}
use Rattle.std.specs.List.Sorted.{IsStrictlySortedBy}
use Rattle.std.specs.Option.{IfNone, IfSome}
use Rattle.std.specs.Result.{IfErr, OnErr}
use Rattle.attributes.specs.Event.{EventValue, source_of, text}
use Rattle.attributes.specs.Fault.{IsEvent}
use Rattle.attributes.specs.Sequence.{number_of}
use Rattle.attributes.proofs.LineLemmas.{text_line}
use Rattle.block_digests.proofs.ListLemmas.{by_recursion}
use Rattle.coverage.specs.Summary.{Sources}
use Rattle.inbox.specs.KeyOrder.{key_cmp}
use Rattle.inbox.specs.Kept.{Kept, events}
use Rattle.inbox.specs.Ordered.{has}
use Rattle.inbox.specs.Sets.{AreEvents, set_of, union}
use Rattle.inbox.specs.Shown.{is_shown, shown}
use Rattle.inbox.proofs.OrderLemmas.{key_cmp_total, tied_events}
use Rattle.inbox.proofs.SetLemmas.{add_all-append, all-add_all, all-in_order, all_append, has-add_all, has-in_order, same_sets, sets_are_members, sorted-add_all, sorted-in_order}
use Rattle.views.specs.Latest.{latest}
use Rattle.views.specs.Line.{conflict_lines, event_lines}
use Rattle.views.specs.Number.{Sums, has_number}
use Rattle.views.specs.Question.{IsAnswer}
use Rattle.views.specs.declared.query.Query.{Query}
use Rattle.views.specs.declared.query.Query.TheVariants as query
use Rattle.views.proofs.GreatestLemmas.{each_there}
use Rattle.parts.specs.Combined.{AreAnswers, HasAt, RefusesRead}
use Rattle.parts.specs.Conflict.{IsSequenced}
use Rattle.parts.specs.Lines.{AreJoined, AreLinesOf, IsOneLine}
use Rattle.parts.specs.Part.{FallsBelow, falls_to, of_parts, part}
use Rattle.parts.specs.Told.{AreGathered, AreToldBy, IsHeld, IsNoAnswer, IsOfEvents, IsToldTogether, RefusesTold, TellsEvents, TellsSet, events_told}
use Rattle.parts.specs.declared.fault.CombineFault.{CombineFault}
use Rattle.parts.specs.declared.fault.CombineFault.TheVariants.{OutOfMemory, NotACover, NotAnAnswer, CoverCount, TooMany, Overlap}
use Rattle.parts.proofs.AgainLemmas.{at_place, in_shown, kept_in, latest_again, latest_events, shown_again}
use Rattle.parts.proofs.ConflictLemmas.{conflict_events, conflicts_again, conflicts_own}
use Rattle.parts.proofs.CoverLemmas.{map_got, map_taken}
use Rattle.parts.proofs.LatestLemmas.{latest_part}
use Rattle.parts.proofs.LineLemmas.{joined_more, joined_parts, lines_are, seen_plain}
use Rattle.parts.proofs.MergeLemmas.{all_left, all_parts, sorted_left}
use Rattle.parts.proofs.PartLemmas.{own_alike, shown_part}
use Rattle.parts.proofs.RowLemmas.{numbers}
use Rattle.parts.proofs.SumLemmas.{any_counts, whole}
use Rattle.parts.proofs.TakeLemmas.{sets}

pub told_more : (q : Query) (texts : List (List ℕ)) (ss : List Sources) (t : List ℕ) (s : Sources) (L : List EventValue) → AreToldBy q texts ss → TellsEvents q t L → Sums (set_of L) s
    → AreToldBy q (texts ++ t ∷ []) (ss ++ s ∷ [])
told_more q [] [] t s L by own sums = ((L, own, sums), tt)
told_more q [] (r ∷ ss) t s L by own sums = absurd by
told_more q (u ∷ texts) [] t s L by own sums = absurd by
told_more q (u ∷ texts) (r ∷ ss) t s L by own sums = (by.0, told_more q texts ss t s L by.1 own sums)

told_at : (q : Query) (texts : List (List ℕ)) (ss : List Sources) (i : ℕ) (s : Sources) → AreToldBy q texts ss → slice_get ss i ≡ Some s
    → (t : List ℕ) × (slice_get texts i ≡ Some t) × ((L : List EventValue) × TellsEvents q t L × Sums (set_of L) s)
told_at q [] [] i s by got = cc
told_at q [] (r ∷ ss) i s by got = absurd by
told_at q (u ∷ texts) [] i s by got = absurd by
told_at q (u ∷ texts) (r ∷ ss) zero s by got = let same : r ≡ s = cc in (u, refl, (by.0.0, by.0.1, subst (Sums (set_of by.0.0)) same by.0.2))
told_at q (u ∷ texts) (r ∷ ss) (suc i) s by got = told_at q texts ss i s by.1 got

joined_events : (q : Query) (texts : List (List ℕ)) (L : List EventValue) → AreJoined (TellsEvents q) texts L → AreEvents L
joined_events q [] L none = subst AreEvents (sym none) tt
joined_events q (t ∷ texts) L (rows, rest, own, more, is) = subst AreEvents (sym is) (all_append IsEvent rows rest own.are_events (joined_events q texts rest more))

pub none_at : (q : Query) (texts : List (Bor (List ℕ))) (i : ℕ) (d : Bor (List ℕ)) (o : Option Kept) → i < length texts → o ≡ None → IfNone o (IsNoAnswer q (get_or texts i d).now)
    → (t : List ℕ) × (slice_get (map (λ t. t.now) texts) i ≡ Some t) × IsNoAnswer q t
none_at q texts i d o lt none own =
    ((get_or texts i d).now, map_got (λ t. t.now) texts i d lt, subst (λ m. IfNone m (IsNoAnswer q (get_or texts i d).now)) none own)

pub told_together : (q : Query) (texts : List (List ℕ)) (E : List EventValue) (ss : List Sources) (t : List ℕ) → AreGathered q texts E ss → IsAnswer q E t → IsToldTogether q texts t
told_together q texts E ss t g answer = (g.events, g.joined, subst (λ F. IsAnswer q F t) g.set answer)

pub none_gathered : (q : Query) (E : List EventValue) (ss : List Sources) → E ≡ [] → ss ≡ [] → AreGathered q [] E ss
none_gathered q E ss none empty = record { events = []; joined = refl; set = none; covers = subst (AreToldBy q []) (sym empty) tt }

pub told_refuses : (q : Query) (texts : List (List ℕ)) (ss : List Sources) → AreToldBy q texts ss → (f : CombineFault) → RefusesRead ss f → RefusesTold q texts f
told_refuses q texts ss by OutOfMemory r = tt
told_refuses q texts ss by (NotACover i) r = absurd r
told_refuses q texts ss by (NotAnAnswer i) r = absurd r
told_refuses q texts ss by (CoverCount m n) r = absurd r
told_refuses q texts ss by TooMany r = absurd r
told_refuses q texts ss by (Overlap name i j) r = (ss, by, r.0, r.1, r.2)

-- ---- parts of a set

pub held_part : (p : List ℕ → ℕ) (i : ℕ) (E : List EventValue) → IsHeld E → IsHeld (part p i E)
held_part p i E held = record {
  events = all_left IsEvent (λ e. falls_to p i (source_of e)) E held.events;
  numbered = all_left (λ e. (n : ℕ) × (number_of e ≡ Some n)) (λ e. falls_to p i (source_of e)) E held.numbered;
  sorted = sorted_left key_cmp (λ e. falls_to p i (source_of e)) E held.sorted;
}

pub told_part : (p : List ℕ → ℕ) (i : ℕ) (q : Query) → IsOfEvents q → (E : List EventValue) → events_told q (part p i E) ≡ part p i (events_told q E)
told_part p i query.Cover is E = absurd is
told_part p i query.Shown is E = shown_part p i E
told_part p i query.Conflicts is E = conflicts_own (λ e. falls_to p i (source_of e)) (own_alike p i E) E
told_part p i query.Latest is E = latest_part p i E
told_part p i query.Kinds is E = absurd is
told_part p i query.Days is E = absurd is
told_part p i query.Gaps is E = absurd is

module _ (tells : (e f : EventValue) → IsEvent e → IsEvent f → text e ≡ text f → e ≡ f) where
  merged : (p : List ℕ → ℕ) (n : ℕ) → FallsBelow p n → (X : List EventValue) → AreEvents X → set_of (of_parts n (λ i. part p i X)) ≡ set_of X
  merged p n falls X a =
      let J = of_parts n (λ i. part p i X) in
      let test : EventValue → EventValue → Bool = λ k y. is_eq (key_cmp k y) in
      sets_are_members key_cmp_total IsEvent (tied_events tells) J X (all_parts IsEvent (λ i. part p i X) (λ i. all_left IsEvent (λ e. falls_to p i (source_of e)) X a) (range_with_len 0 n)) a
      (λ k. any_counts (test k) J ∙ ap (nat_lt 0) (whole p n falls (λ x. cond (test k x) 1 0) X) ∙ sym (any_counts (test k) X))

  join_sets : (A L : List EventValue) → AreEvents A → AreEvents L → union (set_of A) (set_of L) ≡ set_of (A ++ L)
  join_sets A L a b =
      same_sets key_cmp_total IsEvent (tied_events tells) (union (set_of A) (set_of L)) (set_of (A ++ L))
      (sorted-add_all key_cmp_total (set_of A) (set_of L) (sorted-in_order key_cmp_total A)) (sorted-in_order key_cmp_total (A ++ L))
      (all-add_all key_cmp_total IsEvent (set_of A) (set_of L) (all-in_order key_cmp_total IsEvent A a) (all-in_order key_cmp_total IsEvent L b))
      (all-in_order key_cmp_total IsEvent (A ++ L) (all_append IsEvent A L a b))
      (λ k.
      has-add_all key_cmp_total (set_of A) (set_of L) k ∙ ap (λ b. has key_cmp (set_of A) k || b) (has-in_order key_cmp_total L k)
      ∙ sym (ap (λ E. has key_cmp E k) (add_all-append key_cmp_total [] A L) ∙ has-add_all key_cmp_total (set_of A) L k))

  -- the events of one more text
  pub gather_more : (q : Query) (texts : List (List ℕ)) (E T F : List EventValue) (ss items : List Sources) (t : List ℕ) (s : Sources) → AreGathered q texts E ss → TellsSet q t T → Sums T s
      → F ≡ union E T → items ≡ ss ++ s ∷ [] → AreGathered q (texts ++ t ∷ []) F items
  gather_more q texts E T F ss items t s g (L, own, is) sums added pushed = record {
    events = g.events ++ L;
    joined = joined_more (TellsEvents q) texts g.events t L g.joined own;
    set = added ∙ ap (λ x. union x T) g.set ∙ ap (union (set_of g.events)) is ∙ join_sets g.events L (joined_events q texts g.events g.joined) own.are_events;
    covers = subst (AreToldBy q (texts ++ t ∷ [])) (sym pushed) (told_more q texts ss t s L g.covers own (subst (λ X. Sums X s) is sums));
  }

  pub gathered_next : (q : Query) (texts : List (Bor (List ℕ))) (i : ℕ) (d : Bor (List ℕ)) (o : Option Kept) (inbox all new : Kept) (ss items : List Sources) (s : Sources) → i < length texts → o ≡ Some inbox
      → IfSome o (λ k. TellsSet q (get_or texts i d).now (events k)) → AreGathered q (map (λ t. t.now) (take i texts)) (events all) ss → Sums (events inbox) s
      → events new ≡ union (events all) (events inbox) → items ≡ ss ++ s ∷ [] → AreGathered q (map (λ t. t.now) (take (i + 1) texts)) (events new) items
  gathered_next q texts i d o inbox all new ss items s lt some own g sums added pushed =
      let now : Bor (List ℕ) → List ℕ = λ t. t.now in
      let tells = subst (λ m. IfSome m (λ k. TellsSet q (get_or texts i d).now (events k))) some own in
      subst (λ l. AreGathered q l (events new) items) (sym (map_taken now texts i d lt))
      (gather_more q (map now (take i texts)) (events all) (events inbox) (events new) ss items (get_or texts i d).now s g tells sums added pushed)

  -- a set is the set of its events
  pub set_again : (X : List EventValue) → AreEvents X → IsStrictlySortedBy key_cmp X → set_of X ≡ X
  set_again X a s = same_sets key_cmp_total IsEvent (tied_events tells) (set_of X) X (sorted-in_order key_cmp_total X) s (all-in_order key_cmp_total IsEvent X a) a (has-in_order key_cmp_total X)

  pub told_events : (q : Query) → IsOfEvents q → (E : List EventValue) → AreEvents E → AreEvents (events_told q E)
  told_events query.Cover is E a = absurd is
  told_events query.Shown is E a = all_left IsEvent (is_shown E) E a
  told_events query.Conflicts is E a = conflict_events E a
  told_events query.Latest is E a = latest_events tells E a
  told_events query.Kinds is E a = absurd is
  told_events query.Days is E a = absurd is
  told_events query.Gaps is E a = absurd is

  -- what is told of a set, asked again
  pub again : (q : Query) → IsOfEvents q → (E : List EventValue) → IsHeld E → (t : List ℕ) → IsAnswer q (set_of (events_told q E)) t → IsAnswer q E t
  again query.Cover is E held t h = absurd is
  again query.Shown is E held t h =
      let X = shown E in
      let same : set_of X ≡ X = set_again X (all_left IsEvent (is_shown E) E held.events) (sorted_left key_cmp (is_shown E) E held.sorted) in
      h ∙ ap (λ l. event_lines (shown l)) same ∙ ap event_lines (shown_again tells E X (λ e c. c))
  again query.Conflicts is E held t h = h ∙ ap conflict_lines (conflicts_again E tells held.events held.sorted)
  again query.Latest is E held t h = h ∙ ap event_lines (latest_again tells E held.events)
  again query.Kinds is E held t h = absurd is
  again query.Days is E held t h = absurd is
  again query.Gaps is E held t h = absurd is

  both : {X : Type 0} (P Q : X → Type 0) (xs : List X) → AllByRecursion P xs → AllByRecursion Q xs → AllByRecursion (λ x. P x × Q x) xs
  both P Q [] a b = tt
  both P Q (x ∷ xs) a b = ((a.0, b.0), both P Q xs a.1 b.1)

  abbrev is_line : EventValue → List ℕ → Type 0
  is_line e l = IsSequenced e × (l ≡ text e)

  plain_text : (e : EventValue) → IsSequenced e → IsOneLine (text e)
  plain_text e own = seen_plain (text e) (by_recursion (λ b. 32 ≤ b) (text e) (text_line e own.0))

  pub all_sequenced : (E : List EventValue) → IsHeld E → AllByRecursion IsSequenced E
  all_sequenced E held = both IsEvent (λ e. (n : ℕ) × (number_of e ≡ Some n)) E held.events held.numbered

  -- the lines of an answer are those of the events that it tells, but for conflicts
  pub lines_told : (q : Query) → IsOfEvents q → (q ≡ query.Conflicts → ⊥) → (E : List EventValue) → IsHeld E → (t : List ℕ) → IsAnswer q E t → AreLinesOf is_line (events_told q E) t
  lines_told query.Cover is other E held t h = absurd is
  lines_told query.Shown is other E held t h =
      subst (AreLinesOf is_line (shown E)) (sym h) (lines_are IsSequenced text plain_text (shown E) (all_left IsSequenced (is_shown E) E (all_sequenced E held)))
  lines_told query.Conflicts is other E held t h = absurd (other refl)
  lines_told query.Latest is other E held t h =
      subst (AreLinesOf is_line (latest E)) (sym h)
      (lines_are IsSequenced text plain_text (latest E)
      (each_there IsSequenced (latest E) (λ e c. at_place IsSequenced E e (all_sequenced E held) (kept_in (is_shown E) E e (in_shown tells E held.events e c)).0)))
  lines_told query.Kinds is other E held t h = absurd is
  lines_told query.Days is other E held t h = absurd is
  lines_told query.Gaps is other E held t h = absurd is

  module _ (q : Query) (is : IsOfEvents q) (p : List ℕ → ℕ) (E : List EventValue) (held : IsHeld E) (texts : List (List ℕ)) (answers : AreAnswers q p E texts) where
    abbrev X : List EventValue
    X = events_told q E

    of_part : (i : ℕ) (t : List ℕ) (rows : List EventValue) → slice_get texts i ≡ Some t → TellsEvents q t rows → rows ≡ part p i (set_of X)
    of_part i t rows got own =
        own.own (part p i E) (held_part p i E held) (answers.each i t got) ∙ ap set_of (told_part p i q is E) ∙ sets p i tells X (told_events q is E held.events)

    pub together : (t : List ℕ) → IsToldTogether q texts t → IsAnswer q E t
    together t (L, joined, answer) =
        let Y = set_of X in
        let events = told_events q is E held.events in
        let in_set = all-in_order key_cmp_total IsEvent X events in
        let parts = joined_parts (TellsEvents q) (λ i. part p i Y) 0 texts L joined (λ i s rows got own. of_part i s rows got own ∙ ap (λ k. part p k Y) (let e : i ≡ 0 + i = omega arith in e)) in
        let all = ap set_of parts ∙ merged p (length texts) answers.below Y in_set ∙ set_again Y in_set (sorted-in_order key_cmp_total X) in
        again q is E held t (subst (λ l. IsAnswer q l t) all answer)

    falls : (ss : List Sources) (i : ℕ) (source : List ℕ) → AreToldBy q texts ss → HasAt ss i source → p source ≡ i
    falls ss i source by there =
        let at = told_at q texts ss i there.0 by there.1 in
        let L = at.2.0 in
        let n = there.2.0 in
        let own = of_part i at.0 L at.1 at.2.1 in
        let same : set_of L ≡ part p i (set_of (set_of X)) = ap set_of own ∙ sets p i tells (set_of X) (all-in_order key_cmp_total IsEvent X (told_events q is E held.events)) in
        let both : (has_number (set_of (set_of X)) source n && falls_to p i source) ≡ true =
        sym (numbers p i (set_of (set_of X)) source n) ∙ ap (λ l. has_number l source n) (sym same) ∙ sym (at.2.2.exact source n) ∙ there.2.1 in
        eqb-true (p source) i (right (has_number (set_of (set_of X)) source n) (falls_to p i source) both)
      where
        right : (a b : Bool) → (a && b) ≡ true → b ≡ true
        right true b h = h
        right false b h = absurd (true≢false (sym h))

    pub told_memory : (e : CombineFault) → RefusesTold q texts e → e ≡ OutOfMemory
    told_memory OutOfMemory r = refl
    told_memory (NotACover i) r = absurd r
    told_memory (NotAnAnswer i) r = absurd (r.2 (part p i E) (held_part p i E held) (answers.each i r.0 r.1))
    told_memory (CoverCount m n) r = absurd r
    told_memory TooMany r = absurd r
    told_memory (Overlap name i j) r =
        let below : i < j = r.2 in
        let first : p (string_bytes name) ≡ i = falls r.0 i (string_bytes name) r.1 r.3 in
        let second : p (string_bytes name) ≡ j = falls r.0 j (string_bytes name) r.1 r.4 in absurd (omega (arith, below, first, second))

    pub taken : (r : Result (List ℕ) CombineFault) → IfErr r (RefusesTold q texts) → OnErr r (r ≡ Err OutOfMemory)
    taken (Ok t) h = tt
    taken (Err e) h = ap Err (told_memory e h)
