-- Streams of pages that are cut short.
use Rattle.std.proofs.Common.{◌≡◌, ◌++◌, ◌||◌, ◌&&◌, ℕ, zero, suc, List, [], ◌∷◌, None, Some, Bool, true, false, map, take, length, refl, sym, ap, ◌∙◌, subst, arith, inl, inr, append_assoc}
use Rattle.std.specs.Prelude.{◌⊎◌}
use Rattle.std.specs.List.{AllByRecursion, list_any}
use Rattle.std.specs.List.Sorted.{IsStrictlySortedBy}
use Rattle.std.specs.Ordering.{is_eq}
use Rattle.std.specs.declared.cmp.Ordering.TheVariants.{Equal}
use Rattle.std.proofs.lemmas.Grind.{flat_map-append}
use Rattle.std.proofs.lemmas.List.Sums.{sum_by-cons}
use lib.Seq.{take-append_seam}
use Rattle.attributes.specs.Event.{EventValue}
use Rattle.attributes.specs.Fault.{IsEvent}
use Rattle.event_json.specs.BatchText.{batch_text}
use Rattle.inbox.specs.KeyOrder.{key_cmp}
use Rattle.inbox.specs.Ordered.{append_new, has}
use Rattle.inbox.specs.Sets.{AreEvents, set_of, union}
use Rattle.inbox.proofs.OrderLemmas.{key_cmp_total}
use Rattle.inbox.proofs.SetLemmas.{all-add_all, all-in_order, append_new-append, has-add_all, has-in_order, in_order-append_new, same_sets, sorted-add_all, sorted-in_order}
use Rattle.inbox_table.specs.Calls.{joined}
use Rattle.block_digests.specs.Lacking.{is_missing, lacking}
use Rattle.block_digests.specs.Number.{HaveEachNumber}
use Rattle.block_digests.specs.Laws.{BlockTextsTell}
use Rattle.block_digests.specs.Unite.{Collide, told}
use Rattle.block_digests.proofs.UniteLemmas.{brought}
use Rattle.inbox.specs.Laws.{SetLaws}
use Rattle.block_digests.proofs.ListLemmas.{all_kept, any_filter, found, item_is, or_left, passes, and_right, either, or_right}
use Rattle.line_intake.specs.Follow.{AreKept, AreTurns, StreamPlace, Turn, faults_of}
use Rattle.line_intake.specs.Judged.{AreJudged, TakesLines, faults_in}
use Rattle.line_intake.specs.declared.answer.Told.{Told}
use Rattle.databases.specs.Pages.{pages_text}
use Rattle.stream_laws.specs.Stream.{CommandsTell, IsLineTold, PagesAreTaken, parts}
use Rattle.stream_laws.specs.Part.{AllPagesCome, CutsHeal, FrontsAreTaken, OverlapsBring, ScrubsBring}
use Rattle.stream_laws.proofs.LineLemmas.{Splits, TextIsOneLine, lines_of, plain_batch, splits}
use Rattle.stream_laws.proofs.PageLemmas.{IsGood, PartsMakeEvents, ReadsApart, ReadsBack, ReadsOnce, all_take, judged_pages, pages_are, parts_good, parts_join, sequenced}
use Rattle.stream_laws.proofs.StreamLemmas.{HasNumber, all_back, all_events, all_front, all_new}

-- ---- there are such streams

come : TextIsOneLine → (ps : List (List EventValue)) → AllByRecursion IsGood ps → TakesLines (Some (lines_of ps)) (map batch_text ps) (Some [])
come one [] g = refl
come one (p ∷ ps) g = (Some (lines_of ps), record { plain = plain_batch one p g.0.events; taken = inl refl }, come one ps g.1)

judge : (before : ℕ) (ps : List (List EventValue)) → AllByRecursion IsGood ps → (tells : List Told) × AreJudged before (map batch_text ps) tells ps
judge before [] g = ([], tt)
judge before (p ∷ ps) g =
    let more = judge (suc before) ps g.1 in
    (record { line = suc before; fault = None } ∷ more.0, (refl, (g.0.reads, sequenced p g.0.numbers), more.1))

pub all_pages_come : TextIsOneLine → PartsMakeEvents → ReadsBack → AllPagesCome
all_pages_come one again back es a b =
    let good = parts_good again back (length es) es a b in
    record {
      taken = subst (λ t. TakesLines (Some t) (map batch_text (parts es)) (Some [])) (sym (pages_are (length es) es)) (come one (parts es) good);
      judged = λ before. judge before (parts es) good;
    }

-- ---- turns that stop anywhere

record Front (ps : List (List EventValue)) (held events : List EventValue) (turns : List Turn) : Type 0 where
  taken : List (List EventValue)
  left : List (List EventValue)
  all : ps ≡ taken ++ left
  are : events ≡ append_new key_cmp held (joined taken)
  faultless : faults_of turns ≡ 0

module _ (one : TextIsOneLine) (once : ReadsOnce) (apart : ReadsApart) where
  front_of : (turns : List Turn) (start last : StreamPlace) (ps : List (List EventValue)) (held events : List EventValue) → AllByRecursion IsGood ps → start.left ≡ Some (lines_of ps) → AreTurns start turns last → AreKept held turns events → Front ps held events turns
  front_of [] start last ps held events g is are kept = record { taken = []; left = ps; all = refl; are = kept; faultless = refl }
  front_of (turn ∷ turns) start last ps held events g is (mid, it, later) (fresh, kept) =
      let s : Splits ps it.lines.lines mid.left = splits one ps (all_events ps g) it.lines.lines mid.left (subst (λ l. TakesLines l it.lines.lines mid.left) is it.lines.taken) in
      let good : AllByRecursion IsGood (s.taken ++ s.left) = subst (AllByRecursion IsGood) s.all g in
      let here = judged_pages once apart start.lines s.taken (all_front IsGood s.taken s.left good) turn.tells turn.lists (subst (λ ls. AreJudged start.lines ls turn.tells turn.lists) s.are it.lines.judged) in
      let more = front_of turns mid last s.left (append_new key_cmp held (joined turn.lists)) events (all_back IsGood s.taken s.left good) s.rest later kept in
      record {
        taken = s.taken ++ more.taken;
        left = more.left;
        all = s.all ∙ ap (λ l. s.taken ++ l) more.all ∙ sym (append_assoc s.taken more.taken more.left);
        are =
            more.are
            ∙ ap (λ ls. append_new key_cmp (append_new key_cmp held (joined ls)) (joined more.taken)) here.0
            ∙ sym (append_new-append key_cmp_total held (joined s.taken) (joined more.taken))
            ∙ ap (append_new key_cmp held) (sym (flat_map-append (λ (l : List EventValue). l) s.taken more.taken));
        faultless = (let e : faults_of (turn ∷ turns) ≡ 0 = omega (arith, sum_by-cons (λ (t : Turn). faults_in t.tells) turn turns, here.1, more.faultless) in e);
      }

  pub fronts_are_taken : PartsMakeEvents → ReadsBack → FrontsAreTaken
  fronts_are_taken again back held es events a b lines out turns last are kept =
      let good = parts_good again back (length es) es a b in
      let f = front_of turns (record { lines = lines; left = Some (pages_text es); out = out }) last (parts es) held events good (ap Some (pages_are (length es) es)) are kept in
      let whole : es ≡ joined f.taken ++ joined f.left = sym (parts_join (length es) es (omega arith)) ∙ ap joined f.all ∙ flat_map-append (λ (l : List EventValue). l) f.taken f.left in
      let front : joined f.taken ≡ take (length (joined f.taken)) es = sym (take-append_seam (joined f.taken) (joined f.left)) ∙ ap (take (length (joined f.taken))) (sym whole) in
      (length (joined f.taken), f.are ∙ ap (append_new key_cmp held) front, f.faultless)

-- ---- done again

any_taken : {X : Type 0} (p : X → Bool) (n : ℕ) (xs : List X) → list_any p (take n xs) ≡ true → list_any p xs ≡ true
any_taken p zero xs h = absurd (cc)
any_taken p (suc n) [] h = h
any_taken p (suc n) (x ∷ xs) h = either (p x) (list_any p (take n xs)) h (λ t. or_left (p x) (list_any p xs) t) (λ t. or_right (p x) (list_any p xs) (any_taken p n xs t))

-- an item of what is lacking is one of the set
of_lacking : (E F : List EventValue) (n : ℕ) (k : EventValue) → has key_cmp (take n (lacking E F)) k ≡ true → has key_cmp E k ≡ true
of_lacking E F n k h =
    let some = any_taken (λ z. is_eq (key_cmp k z)) n (lacking E F) h in
    let y = found (λ y. is_missing E F y && is_eq (key_cmp k y)) E (sym (any_filter (λ z. is_eq (key_cmp k z)) (is_missing E F) E) ∙ some) in
    passes (λ z. is_eq (key_cmp k z)) E y.0 y.1.0 (and_right (is_missing E F y.0) _ y.1.1)

absorbed : (a b c : Bool) → (c ≡ true → a ≡ true) → (a || (b || c)) ≡ (a || b)
absorbed true b c h = refl
absorbed false true c h = refl
absorbed false false true h = sym (h refl)
absorbed false false false h = refl

module _ (exact : (x y : EventValue) → IsEvent x → IsEvent y → key_cmp x y ≡ Equal → x ≡ y) where
  heal : (A B part : List EventValue) (n : ℕ) → AreEvents A → AreEvents B → part ≡ append_new key_cmp A (take n (lacking (set_of B) (set_of A))) → union (set_of B) (set_of part) ≡ union (set_of B) (set_of A)
  heal A B part n a b is =
      let E = set_of B in
      let F = set_of A in
      let T = take n (lacking E F) in
      let events_E : AreEvents E = all-in_order key_cmp_total IsEvent B b in
      let events_F : AreEvents F = all-in_order key_cmp_total IsEvent A a in
      let events_T : AreEvents T = all_take IsEvent n (lacking E F) (all_kept IsEvent (is_missing E F) E events_E) in
      let grown : set_of part ≡ union F T = ap set_of is ∙ in_order-append_new key_cmp_total A T in
      ap (union E) grown
      ∙ same_sets key_cmp_total IsEvent exact (union E (union F T)) (union E F)
      (sorted-add_all key_cmp_total E (union F T) (sorted-in_order key_cmp_total B)) (sorted-add_all key_cmp_total E F (sorted-in_order key_cmp_total B))
      (all-add_all key_cmp_total IsEvent E (union F T) events_E (all-add_all key_cmp_total IsEvent F T events_F events_T)) (all-add_all key_cmp_total IsEvent E F events_E events_F)
      (λ k. has-add_all key_cmp_total E (union F T) k ∙ ap (λ x. has key_cmp E k || x) (has-add_all key_cmp_total F T k)
      ∙ absorbed (has key_cmp E k) (has key_cmp F k) (has key_cmp T k) (of_lacking E F n k)
      ∙ sym (has-add_all key_cmp_total E F k))

  pub cuts_heal : CommandsTell → SetLaws → BlockTextsTell → CutsHeal
  cuts_heal tell sets texts A B part new n a b numbers_a numbers_b is sends =
      let E = set_of B in
      let F = set_of A in
      let sent : AreEvents (take n (lacking E F)) = all_take IsEvent n (lacking E F) (all_kept IsEvent (is_missing E F) E (all-in_order key_cmp_total IsEvent B b)) in
      let numbered : HaveEachNumber (take n (lacking E F)) = all_take HasNumber n (lacking E F) (all_kept HasNumber (is_missing E F) E (all-in_order key_cmp_total HasNumber B numbers_b)) in
      let events : AreEvents part = subst AreEvents (sym is) (all_new IsEvent A (take n (lacking E F)) a sent) in
      let numbers : HaveEachNumber part = subst HaveEachNumber (sym is) (all_new HasNumber A (take n (lacking E F)) numbers_a numbered) in
      let it : IsLineTold part B new sends.faults = tell part B new b numbers_b sends in
      by_law (heal A B part n a b is) it.set
      (brought sets texts E (set_of part) (all-in_order key_cmp_total IsEvent B b) (all-in_order key_cmp_total IsEvent part events)
      (λ e c. item_is HasNumber E e (all-in_order key_cmp_total HasNumber B numbers_b) c) (sorted-in_order key_cmp_total B) (sorted-in_order key_cmp_total part) exact)
    where
      by_law : union (set_of B) (set_of part) ≡ union (set_of B) (set_of A) → set_of new ≡ told (set_of B) (set_of part) → (told (set_of B) (set_of part) ≡ union (set_of B) (set_of part)) ⊎ Collide (set_of B) (set_of part)
          → (set_of new ≡ union (set_of B) (set_of A)) ⊎ Collide (set_of B) (set_of part)
      by_law same s (inl u) = inl (s ∙ u ∙ same)
      by_law same s (inr c) = inr c

-- ---- scrubs, and lines of shell that overlap

pub scrubs_bring : PagesAreTaken → ScrubsBring
scrubs_bring taken A B new b numbers out out' faults f =
    let it = taken A (set_of B) new (all-in_order key_cmp_total IsEvent B b) (all-in_order key_cmp_total HasNumber B numbers) 0 out f.turns f.last f.are f.over f.kept in
    (it.0, ap set_of it.0 ∙ in_order-append_new key_cmp_total A (set_of B), f.faulty ∙ it.1)

or_turned : (a b : Bool) → (a || b) ≡ (b || a)
or_turned true true = refl
or_turned true false = refl
or_turned false true = refl
or_turned false false = refl

-- h has what f has, and with t as much as f and e
spread : (h t e f : Bool) → (f ≡ true → h ≡ true) → (f || t) ≡ (e || f) → (h || t) ≡ (e || h)
spread true t e f in_h same = sym (or_turned e true)
spread false t e true in_h same = absurd (let no : false ≡ true = in_h refl in cc)
spread false t e false in_h same = same

module _ (exact : (x y : EventValue) → IsEvent x → IsEvent y → key_cmp x y ≡ Equal → x ≡ y) where
  pub overlaps_bring : PagesAreTaken → SetLaws → BlockTextsTell → OverlapsBring
  overlaps_bring taken sets texts A B held new a b h numbers more out out' faults f =
      by_law (brought sets texts E F events_E events_F (λ e c. item_is HasNumber E e numbers_E c) sorted_E (sorted-in_order key_cmp_total A) exact)
    where
      E : List EventValue
      E = set_of B

      F : List EventValue
      F = set_of A

      events_E : AreEvents E
      events_E = all-in_order key_cmp_total IsEvent B b

      events_F : AreEvents F
      events_F = all-in_order key_cmp_total IsEvent A a

      events_H : AreEvents (set_of held)
      events_H = all-in_order key_cmp_total IsEvent held h

      numbers_E : AllByRecursion HasNumber E
      numbers_E = all-in_order key_cmp_total HasNumber B numbers

      sorted_E : IsStrictlySortedBy key_cmp E
      sorted_E = sorted-in_order key_cmp_total B

      events_L : AreEvents (lacking E F)
      events_L = all_kept IsEvent (is_missing E F) E events_E

      is : new ≡ append_new key_cmp held (lacking E F)
      is = (taken held (lacking E F) new events_L (all_kept HasNumber (is_missing E F) E numbers_E) 0 out f.turns f.last f.are f.over f.kept).0

      in_held : (k : EventValue) → has key_cmp F k ≡ true → has key_cmp (set_of held) k ≡ true
      in_held k there = has-in_order key_cmp_total held k ∙ more k (sym (has-in_order key_cmp_total A k) ∙ there)

      by_law : (told E F ≡ union E F) ⊎ Collide E F → (set_of new ≡ union E (set_of held)) ⊎ Collide E F
      by_law (inr c) = inr c
      by_law (inl u) = inl (
          ap set_of is ∙ in_order-append_new key_cmp_total held (lacking E F)
          ∙ same_sets key_cmp_total IsEvent exact (union (set_of held) (lacking E F)) (union E (set_of held))
          (sorted-add_all key_cmp_total (set_of held) (lacking E F) (sorted-in_order key_cmp_total held)) (sorted-add_all key_cmp_total E (set_of held) sorted_E)
          (all-add_all key_cmp_total IsEvent (set_of held) (lacking E F) events_H events_L) (all-add_all key_cmp_total IsEvent E (set_of held) events_E events_H)
          (λ k. has-add_all key_cmp_total (set_of held) (lacking E F) k
          ∙ spread (has key_cmp (set_of held) k) (has key_cmp (lacking E F) k) (has key_cmp E k) (has key_cmp F k) (in_held k)
          (sym (has-add_all key_cmp_total F (lacking E F) k) ∙ ap (λ G. has key_cmp G k) u ∙ has-add_all key_cmp_total E F k)
          ∙ sym (has-add_all key_cmp_total E (set_of held) k))
          )
