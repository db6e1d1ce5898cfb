-- Turns that take the text of pages.
use Rattle.std.proofs.Common.{◌≡◌, ◌++◌, ℕ, List, [], ◌∷◌, Option, Some, map, length, refl, sym, ap, ap₂, ◌∙◌, subst, arith, inl, inr, Bool, true, false, if◌then◌else◌, length-append}
use Rattle.std.specs.Prelude.{◌⊎◌}
use Rattle.std.specs.Io.KnownBytes.{IsAtEnd}
use Rattle.std.specs.List.{AllByRecursion}
use Rattle.std.proofs.lemmas.Grind.{flat_map-append}
use Rattle.std.proofs.lemmas.List.Sums.{sum_by-cons}
use Rattle.attributes.specs.Event.{EventValue}
use Rattle.attributes.specs.Fault.{IsEvent}
use Rattle.attributes.specs.Sequence.{number_of}
use Rattle.event_json.specs.BatchText.{batch_text}
use Rattle.inbox.specs.KeyOrder.{key_cmp}
use Rattle.inbox.specs.Ordered.{append_new, has}
use Rattle.inbox.specs.Sets.{AreEvents, set_of}
use Rattle.inbox.proofs.OrderLemmas.{key_cmp_total}
use Rattle.inbox.proofs.SetLemmas.{all-in_order, append_new-append, in_order-append_new}
use Rattle.inbox_table.specs.Calls.{joined}
use Rattle.block_digests.specs.Lacking.{is_missing, lacking}
use Rattle.block_digests.specs.Number.{HaveEachNumber}
use Rattle.block_digests.specs.Unite.{Collide, GossipsUnite, Unite, told}
use Rattle.block_digests.proofs.ListLemmas.{all_append, all_kept}
use Rattle.coverage.specs.Digests.{DeltaIsLacking, Digests, is_lacking}
use Rattle.coverage.specs.Summary.{IsSummary, Sources}
use Rattle.coverage.specs.SummaryText.{summary_text}
use Rattle.line_intake.specs.Follow.{AreKept, AreTurns, StreamPlace, Turn, faults_of}
use Rattle.line_intake.specs.Judged.{AreJudged, TakesLines, faults_in}
use Rattle.site.specs.Delta.{delta}
use Rattle.databases.specs.Pages.{pages_text}
use Rattle.databases.specs.Print.{WithoutLineEnd}
use Rattle.stream_laws.specs.Stream.{AreUnited, CommandsTell, CommandsUnite, IsLineTold, PagesAreLines, PagesAreTaken, parts}
use Rattle.stream_laws.proofs.LineLemmas.{Splits, TextIsOneLine, at_end, head_or, lines_of, splits, tail_of}
use Rattle.stream_laws.proofs.PageLemmas.{IsGood, PartsMakeEvents, ReadsApart, ReadsBack, ReadsOnce, judged_pages, pages_are, parts_good, parts_join}

pub all_events : (ps : List (List EventValue)) → AllByRecursion IsGood ps → AllByRecursion AreEvents ps
all_events [] g = tt
all_events (p ∷ ps) g = (g.0.events, all_events ps g.1)

pub all_front : {X : Type 0} (P : X → Type 0) (xs ys : List X) → AllByRecursion P (xs ++ ys) → AllByRecursion P xs
all_front P [] ys h = tt
all_front P (x ∷ xs) ys h = (h.0, all_front P xs ys h.1)

pub all_back : {X : Type 0} (P : X → Type 0) (xs ys : List X) → AllByRecursion P (xs ++ ys) → AllByRecursion P ys
all_back P [] ys h = h
all_back P (x ∷ xs) ys h = all_back P xs ys h.1

no_more : {X : Type 0} (xs ys : List X) → ys ≡ [] → xs ++ ys ≡ xs
no_more [] ys h = h
no_more (x ∷ xs) ys h = ap (λ l. x ∷ l) (no_more xs ys h)

module _ (one : TextIsOneLine) (once : ReadsOnce) (apart : ReadsApart) where
  -- lines that are taken to the end are those of all pages
  pub lines_are : (ps : List (List EventValue)) → AllByRecursion IsGood ps → (lines : List (List ℕ)) (left : Option (List ℕ)) → TakesLines (Some (lines_of ps)) lines left → IsAtEnd left → lines ≡ map batch_text ps
  lines_are ps g lines left t end =
      let s = splits one ps (all_events ps g) lines left t in
      s.are ∙ ap (map batch_text) (sym (s.all ∙ no_more s.taken s.left (at_end s.left left s.rest end)))

  pub turns_keep : (turns : List Turn) (start last : StreamPlace) (ps : List (List EventValue)) (held events : List EventValue) → AllByRecursion IsGood ps → start.left ≡ Some (lines_of ps) → AreTurns start turns last → IsAtEnd last.left → AreKept held turns events
      → (events ≡ append_new key_cmp held (joined ps)) × (faults_of turns ≡ 0)
  turns_keep [] start last ps held events g is are end kept =
      let none : ps ≡ [] = at_end ps last.left (sym (ap (λ (p : StreamPlace). p.left) are) ∙ is) end in
      (kept ∙ ap (λ qs. append_new key_cmp held (joined qs)) (sym none), refl)
  turns_keep (turn ∷ turns) start last ps held events g is (mid, it, later) end (fresh, kept) =
      let s : Splits ps it.lines.lines mid.left = splits one ps (all_events ps g) it.lines.lines mid.left (subst (λ l. TakesLines l it.lines.lines mid.left) is it.lines.taken) in
      let good : AllByRecursion IsGood (s.taken ++ s.left) = subst (AllByRecursion IsGood) s.all g in
      let here = judged_pages once apart start.lines s.taken (all_front IsGood s.taken s.left good) turn.tells turn.lists (subst (λ ls. AreJudged start.lines ls turn.tells turn.lists) s.are it.lines.judged) in
      let more = turns_keep turns mid last s.left (append_new key_cmp held (joined turn.lists)) events (all_back IsGood s.taken s.left good) s.rest later end kept in (
        more.0
            ∙ ap (λ ls. append_new key_cmp (append_new key_cmp held (joined ls)) (joined s.left)) here.0
            ∙ sym (append_new-append key_cmp_total held (joined s.taken) (joined s.left))
            ∙ ap (append_new key_cmp held) (sym (flat_map-append (λ (l : List EventValue). l) s.taken s.left) ∙ ap joined (sym s.all)),
        (let e : faults_of (turn ∷ turns) ≡ 0 = omega (arith, sum_by-cons (λ (t : Turn). faults_in t.tells) turn turns, here.1, more.1) in e),
      )

  module _ (again : PartsMakeEvents) (back : ReadsBack) where
    pub pages_are_lines : PagesAreLines
    pages_are_lines es a b lines left t end =
        let good = parts_good again back (length es) es a b in
        let are = lines_are (parts es) good lines left (subst (λ x. TakesLines (Some x) lines left) (pages_are (length es) es) t) end in
        (are, λ before tells lists j. judged_pages once apart before (parts es) good tells lists (subst (λ ls. AreJudged before ls tells lists) are j))

    pub pages_are_taken : PagesAreTaken
    pages_are_taken held es events a b lines out turns last are end kept =
        let good = parts_good again back (length es) es a b in
        let it = turns_keep turns (record { lines = lines; left = Some (pages_text es); out = out }) last (parts es) held events good (ap Some (pages_are (length es) es)) are end kept in
        (it.0 ∙ ap (append_new key_cmp held) (parts_join (length es) es (omega arith)), it.1)

-- ---- the commands

abbrev pub TextsTell : Type 0
TextsTell = (s t : Sources) → IsSummary s → IsSummary t → summary_text s ≡ summary_text t → s ≡ t

abbrev pub HasNumber : EventValue → Type 0
HasNumber e = (n : ℕ) × (number_of e ≡ Some n)

-- one byte at the end is the same, and so is what is before
pub same_front : (xs ys : List ℕ) → xs ++ 10 ∷ [] ≡ ys ++ 10 ∷ [] → xs ≡ ys
same_front [] [] h = refl
same_front [] (y ∷ ys) h = absurd (let n : 1 ≡ length ((y ∷ ys) ++ 10 ∷ []) = ap length h in omega (arith, n, length-append ys (10 ∷ [])))
same_front (x ∷ xs) [] h = absurd (let n : length ((x ∷ xs) ++ 10 ∷ []) ≡ 1 = ap length h in omega (arith, n, length-append xs (10 ∷ [])))
same_front (x ∷ xs) (y ∷ ys) h =
    let both : (x ≡ y) × (xs ++ 10 ∷ [] ≡ ys ++ 10 ∷ []) = (ap (head_or 0) h, ap tail_of h) in
    ap₂ (λ z l. z ∷ l) both.0 (same_front xs ys both.1)

-- a line without its end
pub line_ended : (line text whole : List ℕ) → line ≡ whole ++ 10 ∷ [] → WithoutLineEnd line text → text ≡ whole
line_ended line text whole is (inl h) = same_front text whole (sym h ∙ is)
line_ended line text whole is (inr h) = absurd (h.1 whole is)

pub all_new : (P : EventValue → Type 0) (A xs : List EventValue) → AllByRecursion P A → AllByRecursion P xs → AllByRecursion P (append_new key_cmp A xs)
all_new P A [] a h = a
all_new P A (x ∷ xs) a h = all_new P (if has key_cmp A x then A else A ++ x ∷ []) xs (by_test (has key_cmp A x)) h.1
  where
    by_test : (b : Bool) → AllByRecursion P (if b then A else A ++ x ∷ [])
    by_test true = a
    by_test false = all_append P A (x ∷ []) a (h.0, tt)

pub commands_tell : PagesAreTaken → DeltaIsLacking → TextsTell → CommandsTell
commands_tell taken lacks texts A B new b numbers sends =
    let E = set_of B in
    let F = set_of A in
    let told_by : sends.text ≡ summary_text sends.says.0 = line_ended sends.line sends.text (summary_text sends.says.0) sends.says.2 sends.without in
    let same : sends.peer ≡ sends.says.0 = texts sends.peer sends.says.0 sends.in_form sends.says.1.in_form (sym sends.read ∙ told_by) in
    let digests : Digests F sends.peer = subst (Digests F) (sym same) sends.says.1 in
    let less : delta E sends.peer ≡ lacking E F = lacks E F sends.peer digests in
    let events : AreEvents (delta E sends.peer) = all_kept IsEvent (is_lacking E sends.peer) E (all-in_order key_cmp_total IsEvent B b) in
    let numbered : HaveEachNumber (delta E sends.peer) = all_kept HasNumber (is_lacking E sends.peer) E (all-in_order key_cmp_total HasNumber B numbers) in
    let f = sends.followed in
    let it = taken A (delta E sends.peer) new events numbered 0 sends.out f.turns f.last f.are f.over f.kept in
    let list : new ≡ append_new key_cmp A (lacking E F) = it.0 ∙ ap (append_new key_cmp A) less in
    record {
      list = list;
      set = ap set_of list ∙ in_order-append_new key_cmp_total A (lacking E F);
      faultless = f.faulty ∙ it.1;
    }

pub commands_unite : CommandsTell → GossipsUnite → CommandsUnite
commands_unite tell unite A B A' B' a b numbers_a numbers_b one two =
    let E = set_of B in
    let F = set_of A in
    let first : IsLineTold A B A' one.faults = tell A B A' b numbers_b one in
    let sent : AreEvents (lacking E F) = all_kept IsEvent (is_missing E F) E (all-in_order key_cmp_total IsEvent B b) in
    let numbered : HaveEachNumber (lacking E F) = all_kept HasNumber (is_missing E F) E (all-in_order key_cmp_total HasNumber B numbers_b) in
    let events' : AreEvents A' = subst AreEvents (sym first.list) (all_new IsEvent A (lacking E F) a sent) in
    let numbers' : HaveEachNumber A' = subst HaveEachNumber (sym first.list) (all_new HasNumber A (lacking E F) numbers_a numbered) in
    let second : IsLineTold B A' B' two.faults = tell B A' B' events' numbers' two in
    by_law first.set second.set (unite B A b a numbers_b numbers_a)
  where
    by_law : set_of A' ≡ told (set_of B) (set_of A) → set_of B' ≡ told (set_of A') (set_of B) → Unite (set_of B) (set_of A) ⊎ (Collide (set_of B) (set_of A) ⊎ Collide (told (set_of B) (set_of A)) (set_of B))
        → AreUnited A B A' B' ⊎ (Collide (set_of B) (set_of A) ⊎ Collide (set_of A') (set_of B))
    by_law f s (inl u) = inl (record { first = f ∙ u.first; second = s ∙ ap (λ G. told G (set_of B)) f ∙ u.second })
    by_law f s (inr (inl c)) = inr (inl c)
    by_law f s (inr (inr c)) = inr (inr (subst (λ G. Collide G (set_of B)) (sym f) c))
