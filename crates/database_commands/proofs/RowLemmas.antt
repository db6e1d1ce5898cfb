-- The rows of a service, page after page.
use Rattle.std.proofs.Common.{◌≡◌, ◌∙◌, ◌≤◌, ◌<◌, ◌+◌, ◌*◌, ◌-◌, ◌++◌, ℕ, zero, suc, List, [], ◌∷◌, IsTrue, ap, arith, drop, length, refl, subst, sym, take, append_assoc, append-nil, length-append, take-append-drop, add-one, slice_get, Bool, true, false}
use Rattle.std.specs.Prelude.{Option, None, Some}
use Rattle.std.proofs.lemmas.List.{drop-append-le, drop-drop, drop_all, length-drop, take-append-le, take_all}
use Rattle.std.specs.List.{AllByRecursion}
use Rattle.sqlite.specs.Effect.{Database}
use Rattle.sqlite.specs.State.{State, HasCleanDisk}
use Rattle.attributes.specs.Event.{EventValue}
use Rattle.database_layout.specs.Layout.{has_name}
use Rattle.outbox.specs.Call.{IsServiceReading, IsSettled, Leaves, LeavesAsBefore, ShowsAfter}
use Rattle.outbox.specs.Layout.{schema_in_layout}
use Rattle.outbox.specs.Order.{Accepted}
use Rattle.outbox.specs.Row.{rows_of}
use Rattle.outbox.specs.Service.{IsService}
use Rattle.outbox.specs.Shown.{HasNoOther, StandsForService}
use Rattle.outbox.proofs.FoundLemmas.{has_all}
use Rattle.relay.proofs.ReadLemmas.{same_none, same_then, service_then}
use Rattle.databases.specs.Held.{ForAllRows, IsBehind, ShowsAllRows}
use Rattle.databases.specs.Pages.{max_page, pages_below, pages_text}
use Rattle.databases.specs.Print.{batch_line}
use Rattle.database_commands.specs.steps.Sent.{IsNextPage}
use Rattle.database_commands.specs.steps.Served.{LeavesRead}
use Rattle.databases.proofs.PageLemmas.{all_pages}

-- ---- the texts of pages

none_below : (n : ℕ) → pages_below n [] ≡ []
none_below zero = refl
none_below (suc n) = refl

-- events that fit into a page are one line, and none where there are none
pub one_line : (rows : List EventValue) → length rows ≤ max_page → (length rows ≡ 0 → ⊥) → pages_text rows ≡ batch_line rows
one_line [] few some = absurd (some refl)
one_line (e ∷ es) few some =
    ap (λ l. batch_line l ++ pages_below (length es) (drop max_page (e ∷ es))) (take_all max_page (e ∷ es) few)
    ∙ ap (λ l. batch_line (e ∷ es) ++ pages_below (length es) l) (drop_all max_page (e ∷ es) few)
    ∙ ap (λ l. batch_line (e ∷ es) ++ l) (none_below (length es))
    ∙ append-nil (batch_line (e ∷ es))

-- the first page and the others
first_line : (e : EventValue) (es : List EventValue) → pages_text (e ∷ es) ≡ batch_line (take max_page (e ∷ es)) ++ pages_text (drop max_page (e ∷ es))
first_line e es =
    let fewer : length (drop max_page (e ∷ es)) ≡ length (e ∷ es) - max_page = length-drop max_page (e ∷ es) in
    ap (λ l. batch_line (take max_page (e ∷ es)) ++ l) (sym (all_pages (length es) (drop max_page (e ∷ es)) (omega (arith, fewer))))

-- behind full pages the lines of what comes are those of all
pub lines_more : (full : ℕ) (events rows : List EventValue) → length events ≡ 100 * full → pages_text (events ++ rows) ≡ pages_text events ++ pages_text rows
lines_more full [] rows even = refl
lines_more zero (e ∷ es) rows even = absurd (omega (arith, even))
lines_more (suc full) (e ∷ es) rows even =
    let within : 100 ≤ length (e ∷ es) = omega (arith, even) in
    let left : length (drop max_page (e ∷ es)) ≡ 100 * full = omega (arith, even, length-drop max_page (e ∷ es)) in
    let head = batch_line (take max_page (e ∷ es)) in
    first_line e (es ++ rows)
    ∙ ap (λ l. batch_line l ++ pages_text (drop max_page ((e ∷ es) ++ rows))) (take-append-le max_page (e ∷ es) rows within)
    ∙ ap (λ l. head ++ pages_text l) (drop-append-le max_page (e ∷ es) rows within)
    ∙ ap (λ l. head ++ l) (lines_more full (drop max_page (e ∷ es)) rows left)
    ∙ sym (append_assoc head (pages_text (drop max_page (e ∷ es))) (pages_text rows))
    ∙ ap (λ l. l ++ pages_text rows) (sym (first_line e es))

-- a page that isn't full is all that was left
short_page : {X : Type 0} (n : ℕ) (xs : List X) → length (take n xs) < n → take n xs ≡ xs
short_page zero xs few = absurd (omega (arith, few))
short_page (suc n) [] few = refl
short_page (suc n) (x ∷ xs) few = ap (λ l. x ∷ l) (short_page n xs (omega (arith, few)))

-- ---- the numbers of rows

-- what holds of each event before a place, and of the one that stands there
module _ (P : EventValue → Type 0) where
  each_step : (i : ℕ) (es : List EventValue) (e : EventValue) → slice_get es i ≡ Some e → P e → AllByRecursion P (take i es) → AllByRecursion P (take (suc i) es)
  each_step zero [] e here is before = absurd (cc)
  each_step (suc i) [] e here is before = absurd (cc)
  each_step zero (x ∷ xs) e here is before = (let same : e ≡ x = cc in subst P same is, tt)
  each_step (suc i) (x ∷ xs) e here is before = (before.0, each_step i xs e here is before.1)

  pub each_next : (i : ℕ) (es : List EventValue) (e : EventValue) → slice_get es i ≡ Some e → P e → AllByRecursion P (take i es) → AllByRecursion P (take (i + 1) es)
  each_next i es e here is before = subst (λ k. AllByRecursion P (take k es)) (sym (add-one i)) (each_step i es e here is before)

  pub each_all : (i : ℕ) (es : List EventValue) → length es ≤ i → AllByRecursion P (take i es) → AllByRecursion P es
  each_all i es past h = subst (AllByRecursion P) (take_all i es past) h

behind_both : (after : ℕ) (es ds : List EventValue) → AllByRecursion (IsBehind after) es → AllByRecursion (IsBehind after) ds → AllByRecursion (IsBehind after) (es ++ ds)
behind_both after [] ds h k = k
behind_both after (e ∷ es) ds h k = (h.0, behind_both after es ds h.1 k)

-- events behind a number are behind each lesser one
behind_less : (after mark : ℕ) (es : List EventValue) → after ≤ mark → AllByRecursion (IsBehind mark) es → AllByRecursion (IsBehind after) es
behind_less after mark [] less h = tt
behind_less after mark (e ∷ es) less h = ((h.0.0, h.0.1, omega (arith, less, h.0.2)), behind_less after mark es less h.1)

-- ---- rows that were put behind one another

-- the text has the rows up to the mark, in full pages, and those behind it are left; meanwhile the
-- database was only read
pub record IsSent (source : List ℕ) (base after : ℕ) (start now : State) (text : List ℕ) (mark : ℕ) : Type 0 where
  pub events : List EventValue
  pub lines : text ≡ pages_text events
  pub full : ℕ
  pub even : length events ≡ 100 * full
  pub ahead : base ≤ mark
  pub far : after ≤ mark
  pub behind : AllByRecursion (IsBehind after) events
  pub same : IsServiceReading start now
  pub rest : HasCleanDisk now → (commands : List Accepted) → IsService start.now source base commands
      → events ++ drop (mark - base) (rows_of source base commands) ≡ drop (after - base) (rows_of source base commands)

-- nothing was read yet
pub sent_none : (source : List ℕ) (base after mark : ℕ) (start : State) → base ≤ mark → mark - base ≡ after - base → IsSent source base after start start [] mark
sent_none source base after mark start ahead as_far = record {
  events = [];
  lines = refl;
  full = 0;
  even = refl;
  ahead = ahead;
  far = omega (arith, ahead, as_far);
  behind = tt;
  same = same_none start;
  rest = λ clean commands is. ap (λ k. drop k (rows_of source base commands)) as_far;
}

module _ (source : List ℕ) (base after : ℕ) (start now new : State) (text more : List ℕ) (mark : ℕ) (rows : List EventValue)
    (sent : IsSent source base after start now text mark) (later : AllByRecursion (IsBehind mark) rows) (same : IsServiceReading now new) (opened : HasCleanDisk new → IsTrue now.is_open)
    (shows : HasCleanDisk new → ShowsAfter source base mark max_page now.now rows) (line : more ≡ text ++ pages_text rows) where
  clean_before : HasCleanDisk new → HasCleanDisk now
  clean_before clean = omega (arith, same.clean, clean)

  next_rows : HasCleanDisk new → (commands : List Accepted) → IsService start.now source base commands → rows ≡ take max_page (drop (mark - base) (rows_of source base commands))
  next_rows clean commands is = shows clean commands (service_then start now source base commands sent.same (clean_before clean) (opened clean) is)

  lines_now : more ≡ pages_text (sent.events ++ rows)
  lines_now = line ∙ ap (λ l. l ++ pages_text rows) sent.lines ∙ sym (lines_more sent.full sent.events rows sent.even)

  all_behind : AllByRecursion (IsBehind after) (sent.events ++ rows)
  all_behind = behind_both after sent.events rows sent.behind (behind_less after mark rows sent.far later)

  -- a full page goes on behind it
  pub sent_more : (next : ℕ) → length rows ≡ max_page → next ≡ mark + max_page → IsSent source base after start new more next
  sent_more next whole behind = record {
    events = sent.events ++ rows;
    lines = lines_now;
    full = suc sent.full;
    even = (let e : length (sent.events ++ rows) ≡ 100 * suc sent.full = omega (arith, whole, sent.even, length-append sent.events rows) in e);
    ahead = omega (arith, behind, sent.ahead);
    far = omega (arith, behind, sent.far);
    behind = all_behind;
    same = same_then start now new sent.same same;
    rest = λ clean commands is.
        let all = rows_of source base commands in
        let left = drop (mark - base) all in
        let on : next - base ≡ (mark - base) + max_page = omega (arith, behind, sent.ahead) in
        append_assoc sent.events rows (drop (next - base) all)
        ∙ ap (λ l. sent.events ++ (l ++ drop (next - base) all)) (next_rows clean commands is)
        ∙ ap (λ l. sent.events ++ (take max_page left ++ l)) (ap (λ k. drop k all) on ∙ sym (drop-drop max_page (mark - base) all))
        ∙ ap (λ l. sent.events ++ l) (take-append-drop max_page left)
        ∙ sent.rest (clean_before clean) commands is;
  }

  -- one that isn't is the last
  pub sent_all : length rows < max_page → (events : List EventValue) × (more ≡ pages_text events) × AllByRecursion (IsBehind after) events × (HasCleanDisk new → ForAllRows source base after start.now (λ all. events ≡ all))
  sent_all few = (
    sent.events ++ rows,
    lines_now,
    all_behind,
    λ clean commands is.
        let left = drop (mark - base) (rows_of source base commands) in
        let page = next_rows clean commands is in
        let short : length (take max_page left) < max_page = subst (λ (l : List EventValue). length l < max_page) page few in
        ap (λ l. sent.events ++ l) (page ∙ short_page max_page left short) ∙ sent.rest (clean_before clean) commands is,
  )

-- the rows of a page behind a mark
abbrev pub Page : State → State → ℕ → List ℕ → ℕ → List EventValue → Type 0
Page new now mark source base rows = AllByRecursion (IsBehind mark) rows × (HasCleanDisk new → ShowsAfter source base mark max_page now.now rows)

-- the same of the rows that a page was put behind the text of, of a service that has this source and base
pub sent_next : (source : List ℕ) (base after : ℕ) (start now new : State) (text more : List ℕ) (mark : ℕ) (s : List ℕ) (b : ℕ) (o : Option ℕ) (next : ℕ)
    → s ≡ source → b ≡ base → Some next ≡ o → IsSent source base after start now text mark
    → IsNextPage text more mark o (Page new now mark s b) → IsServiceReading now new → (HasCleanDisk new → IsTrue now.is_open)
    → IsSent source base after start new more next
sent_next source base after start now new text more mark s b o next same_source same_base is sent page same opened =
    let here : IsNextPage text more mark (Some next) (Page new now mark source base) =
    subst (λ q. IsNextPage text more mark q (Page new now mark source base)) (sym is)
    (subst (λ n. IsNextPage text more mark o (Page new now mark source n)) same_base
    (subst (λ x. IsNextPage text more mark o (Page new now mark x b)) same_source page)) in
    sent_more source base after start now new text more mark here.0 sent here.3.0 same opened here.3.1 here.1 next here.2.0 here.2.1

pub sent_last : (source : List ℕ) (base after : ℕ) (start now new : State) (text more : List ℕ) (mark : ℕ) (s : List ℕ) (b : ℕ) (o : Option ℕ)
    → s ≡ source → b ≡ base → ◌≡◌ {A = Option ℕ} None o → IsSent source base after start now text mark
    → IsNextPage text more mark o (Page new now mark s b) → IsServiceReading now new → (HasCleanDisk new → IsTrue now.is_open)
    → (events : List EventValue) × (more ≡ pages_text events) × AllByRecursion (IsBehind after) events × (HasCleanDisk new → ForAllRows source base after start.now (λ all. events ≡ all))
sent_last source base after start now new text more mark s b o same_source same_base is sent page same opened =
    let here : IsNextPage text more mark None (Page new now mark source base) =
    subst (λ q. IsNextPage text more mark q (Page new now mark source base)) (sym is)
    (subst (λ n. IsNextPage text more mark o (Page new now mark source n)) same_base
    (subst (λ x. IsNextPage text more mark o (Page new now mark x b)) same_source page)) in
    sent_all source base after start now new text more mark here.0 sent here.3.0 same opened here.3.1 here.1 here.2

-- ---- the service of a database

-- what is said of the service that was taken over is said of each that the database may stand for
pub shown_all : (old mid : Database) (source : List ℕ) (base after : ℕ) (text : List ℕ) (events : List EventValue) → HasNoOther old source base → mid ≡ old
    → text ≡ pages_text events → ForAllRows source base after mid (λ rows. events ≡ rows) → ShowsAllRows after old text
shown_all old mid source base after text events only is lines all s b commands box =
    let same = only s b commands box in
    let here : IsService mid source base commands =
    subst (λ x. IsService mid x base commands) (sym same.0) (subst (λ n. IsService mid s n commands) (sym same.1) (subst (λ db. IsService db s b commands) (sym is) box)) in
    let told : text ≡ pages_text (drop (after - base) (rows_of source base commands)) = lines ∙ ap pages_text (all commands here) in
    subst (λ x. text ≡ pages_text (drop (after - b) (rows_of x b commands))) same.0 (subst (λ n. text ≡ pages_text (drop (after - n) (rows_of source n commands))) same.1 told)

-- a database without a table of a service's names has no service
pub no_service : (db : Database) (source : List ℕ) (base : ℕ) (commands : List Accepted) (A : Type 0) → has_name db.schema ≡ false → IsService db source base commands → A
no_service db source base commands A lacks box = absurd (let e : ◌≡◌ {A = Bool} true false = sym (ap has_name box.schema ∙ has_all box.layout) ∙ lacks in cc)

-- ---- what a crash leaves of a service that is read

-- the service stays open as it is read on
abbrev pub StaysOpen : State → State → Type 0
StaysOpen old new = HasCleanDisk new → IsTrue old.is_open → IsTrue new.is_open

pub read_none : (a : State) → LeavesRead a a
read_none a clean is_open layout has db may = may

pub read_on : (start now new : State) → IsServiceReading start now → StaysOpen start now → LeavesRead start now → IsServiceReading now new → LeavesAsBefore now new → LeavesRead start new
read_on start now new same still left later crash clean is_open layout has db may =
    let early : HasCleanDisk now = omega (arith, later.clean, clean) in
    let there : now.now.schema ≡ schema_in_layout layout = ap (λ (d : Database). d.schema) (same.same early (still early is_open) layout has).0 ∙ has in
    left early is_open layout has db (crash clean layout there db may)

-- of one that was taken over
pub read_leaves : (old mid new : State) (source : List ℕ) (base last : ℕ) → Leaves old mid → (HasCleanDisk mid → IsTrue mid.is_open) → StandsForService mid source base last → IsServiceReading mid new → LeavesRead mid new → Leaves old new
read_leaves old mid new source base last left opened stands later crash =
    let early : HasCleanDisk new → HasCleanDisk mid = λ clean. omega (arith, later.clean, clean) in
    record {
      clean = omega (arith, left.clean, later.clean);
      same = λ clean still.
          let there = opened (early clean) in
          let table = (stands.stands (early clean) there).table in
          (later.same clean still table.layout table.schema).0 ∙ left.same (early clean) there;
      crash = λ clean db may.
          let there = opened (early clean) in
          let table = (stands.stands (early clean) there).table in
          left.crash (early clean) db (crash clean there table.layout table.schema db may);
    }

-- a crash leaves just that, as where it was taken over
pub read_settled : (mid new : State) (source : List ℕ) (base last : ℕ) → HasCleanDisk new → (HasCleanDisk mid → IsTrue mid.is_open) → (HasCleanDisk mid → IsSettled mid)
    → StandsForService mid source base last → IsServiceReading mid new → LeavesRead mid new → IsSettled new
read_settled mid new source base last clean opened settled stands later crash still db may =
    let early : HasCleanDisk mid = omega (arith, later.clean, clean) in
    let there = opened early in
    let table = (stands.stands early there).table in
    settled early there db (crash clean there table.layout table.schema db may)
    ∙ ap (λ (d : Database). d.trees) (sym (later.same clean still table.layout table.schema).0)
