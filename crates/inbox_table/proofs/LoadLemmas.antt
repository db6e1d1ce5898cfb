-- What the query shows of the table.
use Rattle.std.proofs.Common.{◌≡◌, ℕ, suc, ◌<◌, pos, List, [], ◌∷◌, map, flat_map, Less, refl, ap, ap₂, subst, ◌∙◌, arith, IsPermutation}
use Rattle.std.specs.List.{AllByRecursion}
use Rattle.std.proofs.lemmas.List.Sorted.{IsPermutation-map, IsPermutation-trans}
use Rattle.sqlite_keyed.proofs.ListLemmas.{IsPermutation-flat_map}
use Rattle.sqlite_value.specs.declared.value.Value.{Value}
use Rattle.sqlite_value.specs.declared.value.Value.TheVariants.{Null, Int}
use Rattle.sqlite_value.specs.Order.{Row, value_cmp}
use Rattle.sqlite_trees.specs.Tree.{Trees, IsAscending}
use Rattle.sqlite_sql.specs.Program.{overlay}
use Rattle.sqlite_sql.specs.Query.{Output, output, output_cmp, page, IsAnswerAs}
use Rattle.sqlite_sql.proofs.QueryLemmas.{output_cmp_total}
use Rattle.sqlite_keyed.proofs.SortLemmas.{sorted_unique}
use Rattle.sqlite.specs.State.{State, Shown}
use Rattle.sqlite.proofs.Callers.{reads_as}
use Rattle.attributes.specs.Event.{EventValue, text}
use Rattle.attributes.specs.Fault.{IsEvent}
use Rattle.database_layout.specs.Layout.{inbox_tree, schema_in}
use Rattle.inbox_table.specs.Rows.{AreNumbered, IsListed, rows_from, shown_of, shown_from}
use Rattle.inbox_table.specs.declared.version.Version.{Version}
use Rattle.inbox_table.specs.declared.version.Version.TheVariants.{One, Two}
use Rattle.inbox_table.proofs.HomeLemmas.{gone_over, one}
use Rattle.inbox_table.proofs.TextLemmas.{load_query, select_text, select_is}
use Rattle.inbox_table.proofs.RowLemmas.{below}

abbrev pub out_of : Version → ℕ → EventValue → Output
out_of v p e = (Int (pos p) ∷ [], shown_of v p e)

abbrev outputs : Version → ℕ → List EventValue → List Output
outputs v p [] = []
outputs v p (x ∷ events) = out_of v p x ∷ outputs v (suc p) events

above : (v : Version) (t p q : ℕ) (e : EventValue) (events : List EventValue) → p < q → AllByRecursion (λ b. output_cmp (load_query v t) (out_of v p e) b ≡ Less) (outputs v q events)
above v t p q e [] h = tt
above v t p q e (x ∷ events) h =
    let less : value_cmp (Int (pos p)) (Int (pos q)) ≡ Less = below p q h in
    (rw less refl, above v t p (suc q) e events (omega arith))

rises : (v : Version) (t p : ℕ) (events : List EventValue) → IsAscending (λ a b. output_cmp (load_query v t) a b ≡ Less) (outputs v p events)
rises v t p [] = tt
rises v t p (x ∷ events) = (above v t p (suc p) x events (omega arith), rises v t (suc p) events)

matched : (v : Version) (lost : Value) (db : Trees) (t p : ℕ) (events : List EventValue) → map (output (load_query v t)) (flat_map (one lost db) (rows_from v p events)) ≡ outputs v p events
matched v lost db t p [] = refl
matched One lost db t p (x ∷ events) = ap (λ outs. out_of One p x ∷ outs) (matched One lost db t (suc p) events)
matched Two lost db t p (x ∷ events) = ap (λ outs. out_of Two p x ∷ outs) (matched Two lost db t (suc p) events)

cut : (v : Version) (p : ℕ) (events : List EventValue) → map (λ (o : Output). o.1) (outputs v p events) ≡ shown_from v p events
cut v p [] = refl
cut v p (x ∷ events) = ap (λ rows. shown_of v p x ∷ rows) (cut v (suc p) events)

pub loads : (v : Version) (old last : State) (events : List EventValue) (rows : List Row) → IsListed v old.now events → Shown (select_text v) [] old last rows → rows ≡ shown_from v 1 events
loads v old last events rows box h =
    let l = box.layout in
    let t = inbox_tree l in
    let q = load_query v t in
    let db = overlay old.now.trees [] in
    let is = select_is v l box.has in
    let read = reads_as (select_text v) [] old last (schema_in l) box.schema _ is.command is.plain is.listing rows h in
    let a : IsAnswerAs Null q db [] rows = read.answer Null in
    let kept : a.kept ≡ map (output q) (flat_map (one Null db) (old.now.trees t)) = a.distinct ∙ ap (map (output q)) (a.grouped ∙ gone_over v l box.has Null old.now.trees) in
    let perm : IsPermutation (map (output q) (flat_map (one Null db) (rows_from v 1 events))) a.ordered =
    IsPermutation-trans _ _ _ (IsPermutation-map (output q) _ _ (IsPermutation-flat_map (one Null db) _ _ box.rows)) (subst (λ k. IsPermutation k a.ordered) kept a.same) in
    let ordered : a.ordered ≡ outputs v 1 events =
    sorted_unique (output_cmp q) (output_cmp_total q) (outputs v 1 events) a.ordered (rises v t 1 events) (subst (λ k. IsPermutation k a.ordered) (matched v Null db t 1 events) perm) a.sorted in
    a.shown ∙ ap (λ outs. page q [] (map (λ (o : Output). o.1) outs)) ordered ∙ cut v 1 events

-- ---- the rows tell the events

pub same_row : (v : Version) (p q : ℕ) (a b : EventValue) → shown_of v p a ≡ shown_of v q b → text a ≡ text b
same_row v p q a b h = cc

pub tells : ((e f : EventValue) → IsEvent e → IsEvent f → text e ≡ text f → e ≡ f) → (v : Version) (p : ℕ) (A B : List EventValue) → AreNumbered A → AreNumbered B → shown_from v p A ≡ shown_from v p B → A ≡ B
tells law v p [] [] a b h = refl
tells law v p [] (y ∷ B) a b h = absurd (cc)
tells law v p (x ∷ A) [] a b h = absurd (cc)
tells law v p (x ∷ A) (y ∷ B) a b h =
    let first : shown_of v p x ≡ shown_of v p y = cc in
    let rest : shown_from v (suc p) A ≡ shown_from v (suc p) B = cc in
    ap₂ ◌∷◌ (law x y a.0.event b.0.event (same_row v p p x y first)) (tells law v (suc p) A B a.1 b.1 rest)
