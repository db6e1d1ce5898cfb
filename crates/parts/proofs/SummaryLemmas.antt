-- Summaries of the parts of a set, joined, are that of the set.
use Rattle.std.proofs.Common.{◌≡◌, ◌≢◌, ◌⊎◌, inl, inr, ◌<◌, ◌≤◌, ◌+◌, ◌-◌, nat_lt, Bor, ℕ, List, [], ◌∷◌, ◌++◌, Bool, true, false, ◌&&◌, if◌then◌else◌, bytes_eq, get_or, length, map, take, IsTrue, Option, Some, None, is_some, slice_get, option_map, string_bytes, Result, Ok, Err, refl, sym, ap, ap₂, ◌∙◌, subst, true≢false, arith, eqb-true, eq-eqb}
use Rattle.std.specs.List.{AllByRecursion}
use Rattle.std.specs.Option.{IfSome, option_map_or}
use Rattle.std.specs.Result.{IfErr, OnErr}
use Rattle.std.proofs.lemmas.List.{length-append, length-map, map-append}
use Rattle.std.proofs.lemmas.Option.{slice_get-get_or, slice_get-map, slice_get_read}
use Rattle.attributes.specs.Event.{EventValue}
use Rattle.coverage.specs.BlockDigests.{HasDigests, HasNumberIn, SourceBlocks, block_digest, blocks_of}
use Rattle.coverage.specs.Digests.{Digests, block_digest_at}
use Rattle.coverage.specs.Intervals.{Interval, IsCanonical, holds}
use Rattle.coverage.specs.Join.{chosen}
use Rattle.coverage.specs.Summary.{AreEntries, Entries, IsSummary, Sources, holds_at, numbers_in, numbers_of}
use Rattle.coverage.specs.SummaryText.{summary_text}
use Rattle.coverage.proofs.HoldsLemmas.{holds-nil, holds_first, rises_from-nil}
use Rattle.views.specs.Number.{has_number}
use Rattle.parts.specs.Combined.{HasAt, RefusesRead}
use Rattle.parts.specs.Part.{falls_to, part}
use Rattle.parts.specs.Summaries.{AreSummaries, AreSummaryLines, IsAlone, IsJoined, IsSecond, RefusesSummaries, TellAlike, summary_line}
use Rattle.parts.specs.declared.fault.CombineFault.{CombineFault}
use Rattle.parts.specs.declared.fault.CombineFault.TheVariants.{OutOfMemory, NotACover, NotAnAnswer, CoverCount, TooMany, Overlap}
use Rattle.parts.proofs.CoverLemmas.{all_more, at_place, from_first, in_first, in_rest, map_taken}
use Rattle.parts.proofs.DigestLemmas.{digest_own}
use Rattle.parts.proofs.RowLemmas.{numbers}
use Rattle.parts.proofs.WholeLemmas.{all_at, and_right, same_front}

-- ---- what is read

pub no_lines : (items : List Sources) → items ≡ [] → AreSummaryLines [] items
no_lines items none = subst (AreSummaryLines []) (sym none) (record { second = tt; written = refl })

line_more : (texts : List (List ℕ)) (ss : List Sources) (text : List ℕ) (s : Sources) → AreSummaryLines texts ss → IsSecond s → text ≡ summary_line s
    → AreSummaryLines (texts ++ text ∷ []) (ss ++ s ∷ [])
line_more texts ss text s are second is = record {
  second = all_more IsSecond ss s are.second second;
  written = map-append summary_line ss (s ∷ []) ∙ ap₂ (λ l t. l ++ t ∷ []) are.written (sym is);
}

pub read_more : (texts : List (Bor (List ℕ))) (i : ℕ) (d : Bor (List ℕ)) (o : Option Sources) (s : Sources) (ss items : List Sources) → i < length texts → o ≡ Some s
    → IfSome o (λ t. IsSecond t × ((get_or texts i d).now ≡ summary_line t)) → items ≡ ss ++ s ∷ [] → AreSummaryLines (map (λ t. t.now) (take i texts)) ss
    → AreSummaryLines (map (λ t. t.now) (take (i + 1) texts)) items
read_more texts i d o s ss items lt some told pushed are =
    let now : Bor (List ℕ) → List ℕ = λ t. t.now in
    let h = subst (λ m. IfSome m (λ t. IsSecond t × ((get_or texts i d).now ≡ summary_line t))) some told in
    subst (AreSummaryLines (map now (take (i + 1) texts))) (sym pushed)
    (subst (λ l. AreSummaryLines l (ss ++ s ∷ [])) (sym (map_taken now texts i d lt)) (line_more (map now (take i texts)) ss (get_or texts i d).now s are h.0 h.1))

-- ---- one summary more

chosen_own : {X : Type 0} (ps : List Interval) (own other : X) → (ps ≡ [] → other ≡ own) → chosen ps own other ≡ own
chosen_own [] own other h = h refl
chosen_own (p ∷ ps) own other h = refl

chosen_other : {X : Type 0} (ps : List Interval) (own other : X) → ps ≡ [] → chosen ps own other ≡ other
chosen_other [] own other h = refl
chosen_other (p ∷ ps) own other h = cc

no_option : {X : Type 0} (o : Option X) → (IsTrue (is_some o) → ⊥) → o ≡ None
no_option None h = refl
no_option (Some x) h = absurd (h refl)

-- a source without numbers has no digests
no_digest : (s : Sources) → IsSummary s → (source : List ℕ) (k : ℕ) → numbers_of s source ≡ [] → block_digest_at s source k ≡ None
no_digest s is source k none = by s.digests is.digests
  where
    no_number : HasNumberIn s.entries source k → ⊥
    no_number g = true≢false (sym g.1.0 ∙ ap (λ l. holds l g.0) none ∙ holds-nil g.0)

    by : (m : Option SourceBlocks) → HasDigests s.entries m → option_map_or (λ ds. block_digest (blocks_of ds source) k) m None ≡ None
    by None h = refl
    by (Some ds) h = no_option (block_digest (blocks_of ds source) k) (λ some. no_number ((h.exact source k).0 some))

-- the one summary there is
pub joined_one : (summaries : List Sources) (x : Sources) → length summaries ≡ 1 → x ≡ get_or summaries 0 x → IsJoined summaries (length summaries) x
joined_one summaries x one at = record {
  alone = λ i lt t source got only.
      let first : i ≡ 0 = omega (arith, lt, one) in
      let there : slice_get summaries 0 ≡ Some t = ap (slice_get summaries) (sym first) ∙ got in
      subst (λ u. TellAlike x u source) (at_place summaries 0 x t (omega (arith, one)) at there) (refl, λ k. refl);
  none = λ source only. only 0 x (omega (arith, one)) (λ e. absurd (omega (arith, one, e))) (slice_get_read summaries (length summaries) 0 x refl (omega (arith, one)) at);
}

module _ (next all new : Sources) (is_next : IsSummary next) (is_all : IsSummary all)
    (numbers_are : (source : List ℕ) → numbers_of new source ≡ chosen (numbers_of all source) (numbers_of all source) (numbers_of next source))
    (digests_are : (source : List ℕ) (k : ℕ) → block_digest_at new source k ≡ chosen (numbers_of all source) (block_digest_at all source k) (block_digest_at next source k)) where
  -- what was there before
  kept : (source : List ℕ) → numbers_of next source ≡ [] → TellAlike new all source
  kept source none = (
    numbers_are source ∙ chosen_own (numbers_of all source) (numbers_of all source) (numbers_of next source) (λ e. none ∙ sym e),
    λ k. digests_are source k ∙ chosen_own (numbers_of all source) (block_digest_at all source k) (block_digest_at next source k) (λ e. no_digest next is_next source k none ∙ sym (no_digest all is_all source k e)),
  )

  -- what comes
  taken_over : (source : List ℕ) → numbers_of all source ≡ [] → TellAlike new next source
  taken_over source none = (
    numbers_are source ∙ chosen_other (numbers_of all source) (numbers_of all source) (numbers_of next source) none,
    λ k. digests_are source k ∙ chosen_other (numbers_of all source) (block_digest_at all source k) (block_digest_at next source k) none,
  )

  -- both halves
  module _ (summaries first rest : List Sources) (parts : summaries ≡ first ++ rest) (one : IsJoined first (length first) all) (two : IsJoined rest (length rest) next) where
    count : length summaries ≡ length first + length rest
    count = ap length parts ∙ length-append first rest

    in_halves : (j : ℕ) (u : Sources) → slice_get first j ≡ Some u → slice_get summaries j ≡ Some u
    in_halves j u got = ap (λ l. slice_get l j) parts ∙ in_first first rest j u got

    behind : (j : ℕ) (u : Sources) → slice_get rest j ≡ Some u → slice_get summaries (length first + j) ≡ Some u
    behind j u got = ap (λ l. slice_get l (length first + j)) parts ∙ in_rest first rest j ∙ got

    alone_first : (i : ℕ) (source : List ℕ) → IsAlone summaries (length summaries) i source → IsAlone first (length first) i source
    alone_first i source only j u below other got = only j u (omega (arith, count, below)) other (in_halves j u got)

    alone_rest : (i k : ℕ) (source : List ℕ) → (i ≡ length first + k) ⊎ (i < length first) → IsAlone summaries (length summaries) i source → IsAlone rest (length rest) k source
    alone_rest i k source place only j u below other got = only (length first + j) u (omega (arith, count, below)) (differs place) (behind j u got)
      where
        differs : (i ≡ length first + k) ⊎ (i < length first) → length first + j ≢ i
        differs (inl e) same = other (omega (arith, e, same))
        differs (inr lt) same = absurd (omega (arith, lt, same))

    none_first : (i : ℕ) (source : List ℕ) → length first ≤ i → IsAlone summaries (length summaries) i source → numbers_of all source ≡ []
    none_first i source past only = one.none source (λ j u below other got. only j u (omega (arith, count, below)) (λ e. absurd (omega (arith, past, below, e))) (in_halves j u got))

    none_rest : (i : ℕ) (source : List ℕ) → i < length first → IsAlone summaries (length summaries) i source → numbers_of next source ≡ []
    none_rest i source lt only = two.none source (alone_rest i (length rest) source (inr lt) only)

    either : (i : ℕ) (t : Sources) (source : List ℕ) → i < length summaries → slice_get summaries i ≡ Some t → IsAlone summaries (length summaries) i source → (b : Bool) → nat_lt i (length first) ≡ b → TellAlike new t source
    either i t source lt got only true h =
        let below : i < length first = grind (arith, h) in
        let there : slice_get first i ≡ Some t = sym (from_first first rest i below) ∙ ap (λ l. slice_get l i) (sym parts) ∙ got in
        let told = one.alone i below t source there (alone_first i source only) in
        let own = kept source (none_rest i source below only) in (own.0 ∙ told.0, λ k. own.1 k ∙ told.1 k)
    either i t source lt got only false h =
        let past : length first ≤ i = grind (arith, h) in
        let k = i - length first in
        let place : i ≡ length first + k = omega (arith, past) in
        let there : slice_get rest k ≡ Some t = sym (in_rest first rest k) ∙ ap (slice_get (first ++ rest)) (sym place) ∙ ap (λ l. slice_get l i) (sym parts) ∙ got in
        let told = two.alone k (omega (arith, lt, count, place)) t source there (alone_rest i k source (inl place) only) in
        let own = taken_over source (none_first i source past only) in (own.0 ∙ told.0, λ j. own.1 j ∙ told.1 j)

    pub joined_halves : IsJoined summaries (length summaries) new
    joined_halves = record {
      alone = λ i lt t source got only. either i t source lt got only (nat_lt i (length first)) refl;
      none = λ source only.
          let past : length first ≤ length summaries = omega (arith, count) in
          (taken_over source (none_first (length summaries) source past only)).0 ∙ two.none source (λ j u below other got. only (length first + j) u (omega (arith, count, below)) (λ e. absurd (omega (arith, count, below, e))) (behind j u got));
    }

canonical : (es : Entries) (source : List ℕ) → AreEntries es → IsCanonical (numbers_in es source)
canonical [] source h = rises_from-nil 1
canonical (e ∷ es) source h = by (bytes_eq source e.0) (canonical es source h.1)
  where
    by : (b : Bool) → IsCanonical (numbers_in es source) → IsCanonical (if b then e.1 else numbers_in es source)
    by true later = h.0.3
    by false later = later

-- a source of which no number is held has none
unheld : (ps : List Interval) → IsCanonical ps → ((n : ℕ) → holds ps n ≡ true → ⊥) → ps ≡ []
unheld [] is none = refl
unheld (q ∷ ps) is none = let h = holds_first (q ∷ ps) (λ e. cc) is in absurd (none h.0 h.1)

-- none yet
pub no_numbers_of : (all : Sources) → Digests [] all → (source : List ℕ) → numbers_of all source ≡ []
no_numbers_of all is source = unheld (numbers_of all source) (canonical all.entries source is.in_form.listed.0) (λ n h. true≢false (sym h ∙ is.numbers source n))

pub none_joined : (summaries : List Sources) (all : Sources) → length summaries ≡ 0 → Digests [] all → IsJoined summaries (length summaries) all
none_joined summaries all empty is = record {
  alone = λ i lt. absurd (omega (arith, lt, empty));
  none = λ source only. no_numbers_of all is source;
}

-- those of halves are of version 2
pub all_first : (first rest : List Sources) → AllByRecursion IsSecond (first ++ rest) → AllByRecursion IsSecond first
all_first [] rest a = tt
all_first (s ∷ first) rest a = (a.0, all_first first rest a.1)

pub all_rest : (first rest : List Sources) → AllByRecursion IsSecond (first ++ rest) → AllByRecursion IsSecond rest
all_rest [] rest a = a
all_rest (s ∷ first) rest a = all_rest first rest a.1

-- ---- the whole

pub refuses : (texts : List (List ℕ)) (ss : List Sources) → AreSummaryLines texts ss → (e : CombineFault) → RefusesRead ss e → RefusesSummaries texts e
refuses texts ss are OutOfMemory r = tt
refuses texts ss are (NotACover i) r = absurd r
refuses texts ss are (NotAnAnswer i) r = absurd r
refuses texts ss are (CoverCount m n) r = absurd r
refuses texts ss are TooMany r = absurd r
refuses texts ss are (Overlap name i j) r = (ss, are, r.0, r.1, r.2)

and-true : (a : Bool) → (a && true) ≡ a
and-true true = refl
and-true false = refl

module _ (tells : (s t : Sources) → IsSummary s → IsSummary t → summary_text s ≡ summary_text t → s ≡ t)
    (p : List ℕ → ℕ) (E : List EventValue) (texts : List (List ℕ)) (given : AreSummaries p E texts) where
  pub own : (ss : List Sources) → AreSummaryLines texts ss → (i : ℕ) (s : Sources) → slice_get ss i ≡ Some s → Digests (part p i E) s
  own ss are i s got =
      let there : slice_get texts i ≡ Some (summary_line s) = sym (ap (λ l. slice_get l i) are.written) ∙ slice_get-map summary_line ss i ∙ ap (option_map summary_line) got in
      let a = given.each i (summary_line s) there in
      let second = all_at IsSecond ss i s are.second got in
      subst (Digests (part p i E)) (sym (tells s a.0 second.0 a.1.in_form (same_front 10 (summary_text s) (summary_text a.0) a.2))) a.1

  -- a source that the summary of a part has falls to the part
  falls : (ss : List Sources) → AreSummaryLines texts ss → (i : ℕ) (s : Sources) → slice_get ss i ≡ Some s → (source : List ℕ) (n : ℕ) → holds_at s source n ≡ true → p source ≡ i
  falls ss are i s got source n h =
      eqb-true (p source) i (and_right (has_number E source n) (falls_to p i source) (sym (numbers p i E source n) ∙ sym ((own ss are i s got).numbers source n) ∙ h))

  alone : (ss : List Sources) → AreSummaryLines texts ss → (source : List ℕ) → IsAlone ss (length ss) (p source) source
  alone ss are source j t below other got =
      unheld (numbers_of t source) (canonical t.entries source (own ss are j t got).in_form.listed.0) (λ n h. other (sym (falls ss are j t got source n h)))

  pub whole : (ss : List Sources) → AreSummaryLines texts ss → (all : Sources) → IsSecond all → IsJoined ss (length ss) all → Digests E all
  whole ss are all second joined = record {
    version = second.1;
    in_form = second.0;
    numbers = λ source n.
        ap (λ l. holds l n) (alike source).0 ∙ (told source).numbers source n ∙ numbers p (p source) E source n
        ∙ ap (λ b. has_number E source n && b) (here source) ∙ and-true (has_number E source n);
    blocks = λ source k. (alike source).1 k ∙ (told source).blocks source k ∙ digest_own p (p source) E source k (here source);
  }
    where
      nothing : Sources
      nothing = record { entries = []; digests = None }

      count : length texts ≡ length ss
      count = sym (ap length are.written) ∙ length-map ss summary_line

      below : (source : List ℕ) → p source < length ss
      below source = subst (λ m. p source < m) count (given.below source)

      here : (source : List ℕ) → falls_to p (p source) source ≡ true
      here source = eq-eqb (p source) (p source) refl

      told : (source : List ℕ) → Digests (part p (p source) E) (get_or ss (p source) nothing)
      told source = own ss are (p source) (get_or ss (p source) nothing) (slice_get-get_or ss (p source) nothing (below source))

      alike : (source : List ℕ) → TellAlike all (get_or ss (p source) nothing) source
      alike source = joined.alone (p source) (below source) (get_or ss (p source) nothing) source (slice_get-get_or ss (p source) nothing (below source)) (alone ss are source)

  memory_alone : (e : CombineFault) → RefusesSummaries texts e → e ≡ OutOfMemory
  memory_alone OutOfMemory r = refl
  memory_alone (NotACover i) r = absurd r
  memory_alone (NotAnAnswer i) r = absurd (let a = given.each i r.0 r.1 in r.2 a.0 (a.1.in_form, a.1.version) a.2)
  memory_alone (CoverCount m n) r = absurd r
  memory_alone TooMany r = absurd r
  memory_alone (Overlap name i j) r =
      let below : i < j = r.2 in
      let in_first : p (string_bytes name) ≡ i = at r.0 r.1 i r.3 in
      let in_second : p (string_bytes name) ≡ j = at r.0 r.1 j r.4 in absurd (omega (arith, below, in_first, in_second))
    where
      at : (ss : List Sources) → AreSummaryLines texts ss → (k : ℕ) → HasAt ss k (string_bytes name) → p (string_bytes name) ≡ k
      at ss are k has = falls ss are k has.0 has.1 (string_bytes name) has.2.0 has.2.1

  pub taken : (r : Result (List ℕ) CombineFault) → IfErr r (RefusesSummaries texts) → OnErr r (r ≡ Err OutOfMemory)
  taken (Ok text) h = tt
  taken (Err e) h = ap Err (memory_alone e h)
