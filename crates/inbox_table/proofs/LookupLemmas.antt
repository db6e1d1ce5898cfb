-- What the questions for some of the events show, and what is read of it.
use Rattle.std.proofs.Common.{◌≡◌, ◌≢◌, ℕ, zero, suc, ◌+◌, ◌-◌, ◌<◌, ◌≤◌, ◌&&◌, pos, List, [], ◌∷◌, ◌++◌, Bool, true, false, Some, if◌then◌else◌, map, flat_map, filter, take, drop, length, get_or, Less, is_gt, int_cmp, refl, sym, ap, ap₂, subst, ◌∙◌, arith, drop-cons, add-one, append_assoc, append-nil, IsPermutation}
use Rattle.std.specs.List.{AllByRecursion, list_all}
use Rattle.std.proofs.lemmas.Bool.Decides.{nat_tests}
use Rattle.std.proofs.lemmas.Int.{ints}
use Rattle.std.proofs.lemmas.List.{drop_all}
use Rattle.std.proofs.lemmas.List.Sorted.{IsPermutation-map, IsPermutation-trans}
use Rattle.sqlite_keyed.proofs.ListLemmas.{IsPermutation-flat_map}
use Rattle.sqlite_keyed.proofs.SortLemmas.{sorted_unique}
use Rattle.sqlite_value.specs.declared.value.Value.{Value}
use Rattle.sqlite_value.specs.declared.value.Value.TheVariants.{Null, Int, Text as Words}
use Rattle.sqlite_value.specs.declared.keys.Collation.TheVariants.{Binary}
use Rattle.sqlite_value.specs.Order.{Row, column, value_cmp}
use Rattle.sqlite_value.proofs.OrderLemmas.{value_cmp-Int}
use Rattle.sqlite_trees.specs.Tree.{Trees, IsAscending}
use Rattle.sqlite_sql.specs.declared.ops.BinaryOp.TheVariants.{Compare}
use Rattle.sqlite_sql.specs.declared.ops.CompareOp.TheVariants.{Gt}
use Rattle.sqlite_sql.specs.Ops.{binary, is_true, from_truth}
use Rattle.sqlite_sql.specs.Program.{overlay}
use Rattle.sqlite_sql.specs.Query.{Output, inner, end, matches_as, output, output_cmp, page, IsAnswerAs}
use Rattle.sqlite_sql.specs.Term.{Env, Term, holds}
use Rattle.sqlite_sql.proofs.QueryLemmas.{output_cmp_total}
use Rattle.sqlite.specs.Listing.{understood}
use Rattle.sqlite.specs.State.{State, Shown}
use Rattle.sqlite.proofs.Callers.{IsPlain, reads_as}
use Rattle.attributes.specs.Event.{EventValue, id_of, source_of, text}
use Rattle.attributes.specs.Fault.{IsEvent}
use Rattle.inbox.specs.Shown.{has_key}
use Rattle.database_layout.specs.Layout.{inbox_tree, schema_in}
use Rattle.database_layout.specs.declared.layout.Layout.{Layout}
use Rattle.database_layout.specs.declared.layout.Layout.TheVariants.{Inbox2, Inbox2Service, ServiceInbox2, Upgraded, UpgradedService, ServiceUpgraded, ShiftedUpgraded}
use Rattle.inbox_table.specs.Rows.{AreNumbered, IsInbox, IsNumbered, events_after, events_named, row_of, rows_from, shown_of}
use Rattle.inbox_table.specs.Version.{HasTable}
use Rattle.inbox_table.specs.declared.version.Version.TheVariants.{Two}
use Rattle.inbox_table.specs.steps.Reads.{AreShown, HasShown, HasVersion, IsShownRow}
use Rattle.inbox_table.proofs.LoadLemmas.{out_of, same_row}
use Rattle.inbox_table.proofs.RowLemmas.{below, equal_text}
use Rattle.inbox_table.proofs.TextLemmas.{Searches, named_filter, named_is, named_text, no_limit, page_filter, page_is, page_limit, page_text, search_query}

-- a text whose meaning is known under each layout is plain where the table is
pub plain_search : (text : List ℕ) (filter : List Term) (limit : Term) (s : State) → ((l : Layout) → HasTable Two l → Searches text filter limit l) → HasVersion Two s.now.schema → IsPlain (understood s.now.schema text)
plain_search text filter limit s means (l, has, is) = subst (λ q. IsPlain (understood q text)) (sym is) (means l has).plain

-- ---- what passes a filter

abbrev passing : List Term → Row → Value → Trees → Row → List Env
passing filter params lost db r = matches_as lost db filter end (params ∷ r ∷ [])

-- the question goes over the rows of our table
gone_through : (l : Layout) → HasTable Two l → (filter : List Term) (params : Row) (lost : Value) (db : Trees) → matches_as lost (overlay db []) filter (inner (inbox_tree l) end) (params ∷ []) ≡ flat_map (passing filter params lost (overlay db [])) (db (inbox_tree l))
gone_through Inbox2 has filter params lost db = refl
gone_through Inbox2Service has filter params lost db = refl
gone_through ServiceInbox2 has filter params lost db = refl
gone_through Upgraded has filter params lost db = refl
gone_through UpgradedService has filter params lost db = refl
gone_through ServiceUpgraded has filter params lost db = refl
gone_through ShiftedUpgraded has filter params lost db = refl
gone_through _ has filter params lost db = absurd has

-- the rows of the events that pass a test, which knows their places too
abbrev shown_where : (ℕ → EventValue → Bool) → ℕ → List EventValue → List Row
shown_where test p [] = []
shown_where test p (x ∷ events) = if test p x then shown_of Two p x ∷ shown_where test (suc p) events else shown_where test (suc p) events

abbrev outputs_where : (ℕ → EventValue → Bool) → ℕ → List EventValue → List Output
outputs_where test p [] = []
outputs_where test p (x ∷ events) = if test p x then out_of Two p x ∷ outputs_where test (suc p) events else outputs_where test (suc p) events

cut : (test : ℕ → EventValue → Bool) (p : ℕ) (events : List EventValue) → map (λ (o : Output). o.1) (outputs_where test p events) ≡ shown_where test p events
cut test p [] = refl
cut test p (x ∷ events) = step (cut test (suc p) events) (test p x)
  where
    step : map (λ (o : Output). o.1) (outputs_where test (suc p) events) ≡ shown_where test (suc p) events
        → (b : Bool) → map (λ (o : Output). o.1) (if b then out_of Two p x ∷ outputs_where test (suc p) events else outputs_where test (suc p) events) ≡ (if b then shown_of Two p x ∷ shown_where test (suc p) events else shown_where test (suc p) events)
    step rest true = ap (λ rows. shown_of Two p x ∷ rows) rest
    step rest false = rest

module _ (filter : List Term) (limit : Term) (test : ℕ → EventValue → Bool) where
  above : (t p q : ℕ) (e : EventValue) (events : List EventValue) → p < q → AllByRecursion (λ b. output_cmp (search_query filter limit t) (out_of Two p e) b ≡ Less) (outputs_where test q events)
  above t p q e [] h = tt
  above t p q e (x ∷ events) h = step (above t p (suc q) e events (omega arith)) (test q x)
    where
      step : AllByRecursion (λ b. output_cmp (search_query filter limit t) (out_of Two p e) b ≡ Less) (outputs_where test (suc q) events)
          → (b : Bool) → AllByRecursion (λ b. output_cmp (search_query filter limit t) (out_of Two p e) b ≡ Less) (if b then out_of Two q x ∷ outputs_where test (suc q) events else outputs_where test (suc q) events)
      step rest true =
          let less : value_cmp (Int (pos p)) (Int (pos q)) ≡ Less = below p q h in
          (rw less refl, rest)
      step rest false = rest

  rises : (t p : ℕ) (events : List EventValue) → IsAscending (λ a b. output_cmp (search_query filter limit t) a b ≡ Less) (outputs_where test p events)
  rises t p [] = tt
  rises t p (x ∷ events) = step (rises t (suc p) events) (test p x)
    where
      step : IsAscending (λ a b. output_cmp (search_query filter limit t) a b ≡ Less) (outputs_where test (suc p) events)
          → (b : Bool) → IsAscending (λ a b. output_cmp (search_query filter limit t) a b ≡ Less) (if b then out_of Two p x ∷ outputs_where test (suc p) events else outputs_where test (suc p) events)
      step rest true = (above t p (suc p) x events (omega arith), rest)
      step rest false = rest

  module _ (params : Row) (hits : (p : ℕ) (e : EventValue) → list_all (holds (params ∷ row_of Two p e ∷ [])) filter ≡ test p e) where
    matched : (lost : Value) (db : Trees) (t p : ℕ) (events : List EventValue) → map (output (search_query filter limit t)) (flat_map (passing filter params lost db) (rows_from Two p events)) ≡ outputs_where test p events
    matched lost db t p [] = refl
    matched lost db t p (x ∷ events) =
        ap (λ b. map (output (search_query filter limit t)) ((if b then (params ∷ row_of Two p x ∷ []) ∷ [] else []) ++ flat_map (passing filter params lost db) (rows_from Two (suc p) events))) (hits p x) ∙ step (matched lost db t (suc p) events) (test p x)
      where
        step : map (output (search_query filter limit t)) (flat_map (passing filter params lost db) (rows_from Two (suc p) events)) ≡ outputs_where test (suc p) events
            → (b : Bool) → map (output (search_query filter limit t)) ((if b then (params ∷ row_of Two p x ∷ []) ∷ [] else []) ++ flat_map (passing filter params lost db) (rows_from Two (suc p) events)) ≡ (if b then out_of Two p x ∷ outputs_where test (suc p) events else outputs_where test (suc p) events)
        step rest true = ap (λ outs. out_of Two p x ∷ outs) rest
        step rest false = rest

    finds : (text : List ℕ) (old last : State) (events : List EventValue) (rows : List Row) → ((l : Layout) → HasTable Two l → Searches text filter limit l) → IsInbox old.now events → Shown text params old last rows
        → rows ≡ page (search_query filter limit 0) params (shown_where test 1 events)
    finds text old last events rows means box h =
        let l = box.layout in
        let t = inbox_tree l in
        let q = search_query filter limit t in
        let db = overlay old.now.trees [] in
        let is = means l box.has in
        let read = reads_as text params old last (schema_in l) box.schema _ is.command is.plain is.listing rows h in
        let a : IsAnswerAs Null q db params rows = read.answer Null in
        let kept : a.kept ≡ map (output q) (flat_map (passing filter params Null db) (old.now.trees t)) = a.distinct ∙ ap (map (output q)) (a.grouped ∙ gone_through l box.has filter params Null old.now.trees) in
        let perm : IsPermutation (map (output q) (flat_map (passing filter params Null db) (rows_from Two 1 events))) a.ordered =
        IsPermutation-trans _ _ _ (IsPermutation-map (output q) _ _ (IsPermutation-flat_map (passing filter params Null db) _ _ box.rows)) (subst (λ k. IsPermutation k a.ordered) kept a.same) in
        let ordered : a.ordered ≡ outputs_where test 1 events =
        sorted_unique (output_cmp q) (output_cmp_total q) (outputs_where test 1 events) a.ordered (rises t 1 events) (subst (λ k. IsPermutation k a.ordered) (matched Null db t 1 events) perm) a.sorted in
        a.shown ∙ ap (λ outs. page q params (map (λ (o : Output). o.1) outs)) ordered ∙ ap (page q params) (cut test 1 events)

-- ---- the events of a source and an id

trim : (a b : Bool) → (a && (b && true)) ≡ (a && b)
trim true true = refl
trim true false = refl
trim false b = refl

hits_named : (source id : List ℕ) (p : ℕ) (e : EventValue) → list_all (holds ((Words source ∷ Words id ∷ []) ∷ row_of Two p e ∷ [])) named_filter ≡ has_key source id e
hits_named source id p e = ap₂ (λ a b. a && (b && true)) (equal_text (source_of e) source) (equal_text (id_of e) id) ∙ trim _ _

named_shown : (source id : List ℕ) (p : ℕ) (events : List EventValue) → AreNumbered events → AreShown (shown_where (λ _ e. has_key source id e) p events) (events_named source id events)
named_shown source id p [] numbered = tt
named_shown source id p (x ∷ events) numbered = step (named_shown source id (suc p) events numbered.1) (has_key source id x)
  where
    step : AreShown (shown_where (λ _ e. has_key source id e) (suc p) events) (events_named source id events)
        → (b : Bool) → AreShown (if b then shown_of Two p x ∷ shown_where (λ _ e. has_key source id e) (suc p) events else shown_where (λ _ e. has_key source id e) (suc p) events) (if b then x ∷ events_named source id events else events_named source id events)
    step rest true = (record { numbered = numbered.0; place = p; is = refl }, rest)
    step rest false = rest

pub finds_named : (source id : List ℕ) (old last : State) (events : List EventValue) (rows : List Row) → IsInbox old.now events → Shown named_text (Words source ∷ Words id ∷ []) old last rows → AreShown rows (events_named source id events)
finds_named source id old last events rows box h =
    let is = finds named_filter no_limit (λ _ e. has_key source id e) (Words source ∷ Words id ∷ []) (hits_named source id) named_text old last events rows named_is box h in
    subst (λ r. AreShown r (events_named source id events)) (sym is) (named_shown source id 1 events box.numbered)

-- ---- the events behind a place

told : (b : Bool) → is_true (from_truth (Some b)) ≡ b
told true = refl
told false = refl

abbrev is_behind : ℕ → ℕ → Bool
is_behind place p = is_gt (int_cmp (pos p) (pos place))

greater_is : (m n : ℕ) → is_true (binary (Compare Gt Binary) (Int (pos m)) (Int (pos n))) ≡ is_behind n m
unfolding binary
greater_is m n = told _ ∙ ap is_gt (value_cmp-Int (pos m) (pos n))

alone : (b : Bool) → (b && true) ≡ b
alone true = refl
alone false = refl

hits_behind : (place count p : ℕ) (e : EventValue) → list_all (holds ((Int (pos place) ∷ Int (pos count) ∷ []) ∷ row_of Two p e ∷ [])) page_filter ≡ is_behind place p
hits_behind place count p e = alone _ ∙ greater_is p place

behind : (place p : ℕ) → place < p → is_behind place p ≡ true
behind place p h = grind (arith, ints, nat_tests)

not_behind : (place p : ℕ) → p ≤ place → is_behind place p ≡ false
not_behind place p h = grind (arith, ints, nat_tests)

all_shown : (place p : ℕ) (events : List EventValue) → AreNumbered events → place < p → AreShown (shown_where (λ q _. is_behind place q) p events) events
all_shown place p [] numbered h = tt
all_shown place p (x ∷ events) numbered h =
    let rest = all_shown place (suc p) events numbered.1 (omega arith) in
    subst (λ b. AreShown (if b then shown_of Two p x ∷ shown_where (λ q _. is_behind place q) (suc p) events else shown_where (λ q _. is_behind place q) (suc p) events) (x ∷ events)) (sym (behind place p h))
    (record { numbered = numbered.0; place = p; is = refl }, rest)

rest_shown : (place p d : ℕ) (events : List EventValue) → AreNumbered events → d ≡ suc place - p → AreShown (shown_where (λ q _. is_behind place q) p events) (drop d events)
rest_shown place p zero events numbered is = all_shown place p events numbered (omega arith)
rest_shown place p (suc d) [] numbered is = tt
rest_shown place p (suc d) (x ∷ events) numbered is =
    let rest = rest_shown place (suc p) d events numbered.1 (omega arith) in
    subst (λ b. AreShown (if b then shown_of Two p x ∷ shown_where (λ q _. is_behind place q) (suc p) events else shown_where (λ q _. is_behind place q) (suc p) events) (drop d events)) (sym (not_behind place p (omega arith))) rest

first_shown : (n : ℕ) (rows : List Row) (events : List EventValue) → AreShown rows events → AreShown (take n rows) (take n events)
first_shown zero rows events h = tt
first_shown (suc n) [] [] h = tt
first_shown (suc n) [] (e ∷ events) h = absurd h
first_shown (suc n) (row ∷ rows) [] h = absurd h
first_shown (suc n) (row ∷ rows) (e ∷ events) h = (h.0, first_shown n rows events h.1)

pub finds_after : (place count : ℕ) (old last : State) (events : List EventValue) (rows : List Row) → IsInbox old.now events → Shown page_text (Int (pos place) ∷ Int (pos count) ∷ []) old last rows → AreShown rows (events_after place count events)
finds_after place count old last events rows box h =
    let is = finds page_filter page_limit (λ q _. is_behind place q) (Int (pos place) ∷ Int (pos count) ∷ []) (hits_behind place count) page_text old last events rows page_is box h in
    let all = rest_shown place 1 place events box.numbered (let d : place ≡ suc place - 1 = omega arith in d) in
    subst (λ r. AreShown r (events_after place count events)) (sym is) (first_shown count _ _ all)

-- ---- the rows tell the events

abbrev TextsTell : Type 0
TextsTell = (e f : EventValue) → IsEvent e → IsEvent f → text e ≡ text f → e ≡ f

pub one_event : TextsTell → (row : Row) (p : ℕ) (a e : EventValue) → IsNumbered a × (row ≡ shown_of Two p a) → IsShownRow row e → a ≡ e
one_event law row p a e known it = law a e known.0.event it.numbered.event (same_row Two p it.place a e (sym known.1 ∙ it.is))

pub no_event : (row : Row) (p : ℕ) → column row 0 ≡ Int (pos p) → ((e : EventValue) → IsNumbered e → row ≢ shown_of Two p e) → (e : EventValue) → IsShownRow row e → ⊥
no_event row p here none e it =
    let both : Int (pos it.place) ≡ Int (pos p) = sym (ap (λ r. column r 0) it.is) ∙ here in
    let same : it.place ≡ p = cc in
    none e it.numbered (it.is ∙ ap (λ k. shown_of Two k e) same)

pub no_place : (row : Row) → ((p : ℕ) → 0 < length row → column row 0 ≢ Int (pos p)) → (e : EventValue) → IsShownRow row e → ⊥
no_place row none e it =
    let long : 0 < length row = subst (λ r. 0 < length r) (sym it.is) (omega arith) in
    none it.place long (ap (λ r. column r 0) it.is)

pub shown_none : (rows : List Row) (events : List EventValue) → AreShown rows events → HasShown rows 0 [] events
shown_none rows events h = record { left = events; rest = h; so_far = refl }

pub shown_on : (rows : List Row) (at : ℕ) (row : Row) (batch : List EventValue) (event : EventValue) (events : List EventValue) → at < length rows → row ≡ get_or rows at row → ((e : EventValue) → IsShownRow row e → event ≡ e) → HasShown rows at batch events
    → HasShown rows (at + 1) (batch ++ event ∷ []) events
shown_on rows at row batch event events low is reads h = go h.left (subst (λ r. AreShown r h.left) (drop-cons rows at row low) h.rest) h.so_far
  where
    go : (left : List EventValue) → AreShown (get_or rows at row ∷ drop (suc at) rows) left → batch ++ left ≡ events → HasShown rows (at + 1) (batch ++ event ∷ []) events
    go [] rest so_far = absurd rest
    go (e ∷ left) rest so_far =
        let one = reads e (subst (λ r. IsShownRow r e) (sym is) rest.0) in
        record {
          left = left;
          rest = rw add-one rest.1;
          so_far = append_assoc batch (event ∷ []) left ∙ ap (λ y. batch ++ y ∷ left) one ∙ so_far;
        }

pub shown_all : (rows : List Row) (at : ℕ) (batch events : List EventValue) → length rows ≤ at → HasShown rows at batch events → batch ≡ events
shown_all rows at batch events high h = go h.left (subst (λ r. AreShown r h.left) (drop_all at rows high) h.rest) h.so_far
  where
    go : (left : List EventValue) → AreShown [] left → batch ++ left ≡ events → batch ≡ events
    go [] rest so_far = sym (append-nil batch) ∙ so_far
    go (e ∷ left) rest so_far = absurd rest

pub shown_never : (rows : List Row) (at : ℕ) (row : Row) (batch events : List EventValue) → at < length rows → row ≡ get_or rows at row → ((e : EventValue) → IsShownRow row e → ⊥) → HasShown rows at batch events → ⊥
shown_never rows at row batch events low is none h = go h.left (subst (λ r. AreShown r h.left) (drop-cons rows at row low) h.rest)
  where
    go : (left : List EventValue) → AreShown (get_or rows at row ∷ drop (suc at) rows) left → ⊥
    go [] rest = absurd rest
    go (e ∷ left) rest = none e (subst (λ r. IsShownRow r e) (sym is) rest.0)
