-- What rows that read as those of events say of the rows that are stored.
use Rattle.std.proofs.Common.{◌≡◌, ℕ, suc, List, [], ◌∷◌, map, flat_map, Bool, true, false, not, ◌&&◌, refl, sym, ap, ap₂, subst, ◌∙◌, IsPermutation}
use Rattle.std.specs.List.{AllByRecursion}
use Rattle.std.proofs.lemmas.Bool.{and_parts}
use Rattle.std.proofs.lemmas.List.Sorted.{IsPermutation-map, IsPermutation-sym}
use Rattle.sqlite_value.specs.declared.value.Value.{Value}
use Rattle.sqlite_value.specs.declared.value.Value.TheVariants.{Null, Int, Real, Text as Words, Blob}
use Rattle.sqlite_value.specs.Order.{Row, column}
use Rattle.sqlite_trees.specs.Tree.{Trees}
use Rattle.sqlite_schema.specs.declared.schema.Constraint.{Constraint}
use Rattle.sqlite_schema.specs.declared.schema.Constraint.TheVariants.{Datatype, NotNull}
use Rattle.sqlite_schema.specs.Rules.{passes, is_of}
use Rattle.sqlite_schema.specs.declared.schema.Kind.TheVariants.{Integer, Text}
use Rattle.sqlite_sql.specs.Ops.{is_null}
use Rattle.sqlite_sql.specs.Program.{overlay}
use Rattle.sqlite_sql.specs.Query.{Output, output, end, matches_as, IsAnswerAs}
use Rattle.sqlite.specs.Effect.{IsDatabase}
use Rattle.sqlite.specs.State.{State, Shown}
use Rattle.sqlite.proofs.Callers.{reads_as}
use Rattle.attributes.specs.Event.{EventValue}
use Rattle.database_layout.specs.Layout.{inbox_tree, schema_in}
use Rattle.database_layout.specs.declared.layout.Layout.{Layout}
use Rattle.inbox_table.specs.Rows.{rows_from, shown_of, shown_from}
use Rattle.inbox_table.specs.Version.{HasTable, table_of}
use Rattle.inbox_table.specs.declared.version.Version.{Version}
use Rattle.inbox_table.specs.declared.version.Version.TheVariants.{One, Two}
use Rattle.inbox_table.proofs.HomeLemmas.{gone_over, rule_of}
use Rattle.inbox_table.proofs.TextLemmas.{load_query, select_text, select_is}

abbrev show : Version → Row → Row
show One r = column r 0 ∷ column r 2 ∷ column r 3 ∷ column r 4 ∷ column r 5 ∷ []
show Two r = column r 0 ∷ column r 2 ∷ column r 3 ∷ column r 4 ∷ column r 5 ∷ column r 6 ∷ []

abbrev unshow : Version → Row → Row
unshow One s = column s 0 ∷ Null ∷ column s 1 ∷ column s 2 ∷ column s 3 ∷ column s 4 ∷ []
unshow Two s = column s 0 ∷ Null ∷ column s 1 ∷ column s 2 ∷ column s 3 ∷ column s 4 ∷ column s 5 ∷ []

null_is : (v : Value) → is_null v ≡ true → v ≡ Null
null_is Null h = refl
null_is (Int n) h = absurd (cc)
null_is (Real x) h = absurd (cc)
null_is (Words t) h = absurd (cc)
null_is (Blob b) h = absurd (cc)

none1 : (x : Bool) → x && false ≡ true → ⊥
none1 true h = absurd (cc)
none1 false h = absurd (cc)

none2 : (x y : Bool) → x && (y && false) ≡ true → ⊥
none2 true y h = none1 y h
none2 false y h = absurd (cc)

none3 : (x y z : Bool) → x && (y && (z && false)) ≡ true → ⊥
none3 true y z h = none2 y z h
none3 false y z h = absurd (cc)

none4 : (w x y z : Bool) → w && (x && (y && (z && false))) ≡ true → ⊥
none4 true x y z h = none3 x y z h
none4 false x y z h = absurd (cc)

none6 : (v w x y z : Bool) → v && (w && (x && (y && (z && false)))) && true ≡ true → ⊥
none6 true w x y z h = none4 w x y z (and_parts (w && (x && (y && (z && false)))) true h).0
none6 false w x y z h = absurd (cc)

none7 : (u v w x y z : Bool) → u && (v && (w && (x && (y && (z && false))))) && true ≡ true → ⊥
none7 true true w x y z h = none4 w x y z (and_parts (w && (x && (y && (z && false)))) true h).0
none7 true false w x y z h = absurd (cc)
none7 false v w x y z h = absurd (cc)

first_of : (x rest : Bool) → x && rest && true ≡ true → x ≡ true
first_of true rest h = refl
first_of false rest h = absurd (cc)

module _ (l : Layout) (db : Trees) where
  abbrev Passes : Version → Constraint → Row → Type 0
  Passes v rule r = passes rule (schema_in l) db (table_of v (inbox_tree l)) r ≡ true

  -- a row that passes has each column, and NULL where the rowid stands in
  whole : (v : Version) (r : Row) → Passes v Datatype r → Passes v NotNull r → unshow v (show v r) ≡ r
  whole One [] t p = absurd (cc)
  whole One (a ∷ []) t p = absurd (cc)
  whole One (a ∷ k ∷ []) t p = absurd (cc)
  whole One (a ∷ k ∷ b ∷ []) t p = absurd (none1 (not (is_null b)) p)
  whole One (a ∷ k ∷ b ∷ c ∷ []) t p = absurd (none2 (not (is_null b)) (not (is_null c)) p)
  whole One (a ∷ k ∷ b ∷ c ∷ d ∷ []) t p = absurd (none3 (not (is_null b)) (not (is_null c)) (not (is_null d)) p)
  whole One (a ∷ k ∷ b ∷ c ∷ d ∷ e ∷ []) t p = let key = null_is k (first_of (is_null k) (is_of Text b && (is_of Text c && (is_of Integer d && (is_of Text e && true)))) t) in ap (λ v. a ∷ v ∷ b ∷ c ∷ d ∷ e ∷ []) (sym key)
  whole One (a ∷ k ∷ b ∷ c ∷ d ∷ e ∷ f ∷ more) t p = absurd (none6 (is_null k) (is_of Text b) (is_of Text c) (is_of Integer d) (is_of Text e) t)
  whole Two [] t p = absurd (cc)
  whole Two (a ∷ []) t p = absurd (cc)
  whole Two (a ∷ k ∷ []) t p = absurd (cc)
  whole Two (a ∷ k ∷ b ∷ []) t p = absurd (none1 (not (is_null b)) p)
  whole Two (a ∷ k ∷ b ∷ c ∷ []) t p = absurd (none2 (not (is_null b)) (not (is_null c)) p)
  whole Two (a ∷ k ∷ b ∷ c ∷ d ∷ []) t p = absurd (none3 (not (is_null b)) (not (is_null c)) (not (is_null d)) p)
  whole Two (a ∷ k ∷ b ∷ c ∷ d ∷ e ∷ []) t p = absurd (none4 (not (is_null b)) (not (is_null c)) (not (is_null d)) (not (is_null e)) p)
  whole Two (a ∷ k ∷ b ∷ c ∷ d ∷ e ∷ f ∷ []) t p = let key = null_is k (first_of (is_null k) (is_of Text b && (is_of Text c && (is_of Integer d && (is_of Text e && (is_of Integer f && true))))) t) in ap (λ v. a ∷ v ∷ b ∷ c ∷ d ∷ e ∷ f ∷ []) (sym key)
  whole Two (a ∷ k ∷ b ∷ c ∷ d ∷ e ∷ f ∷ g ∷ more) t p = absurd (none7 (is_null k) (is_of Text b) (is_of Text c) (is_of Integer d) (is_of Text e) (is_of Integer f) t)

  all_whole : (v : Version) (rows : List Row) → AllByRecursion (λ r. Passes v Datatype r) rows → AllByRecursion (λ r. Passes v NotNull r) rows → map (unshow v) (map (show v) rows) ≡ rows
  all_whole v [] t p = refl
  all_whole v (r ∷ rows) t p = ap₂ ◌∷◌ (whole v r t.0 p.0) (all_whole v rows t.1 p.1)

unshown : (v : Version) (place : ℕ) (events : List EventValue) → map (unshow v) (shown_from v place events) ≡ rows_from v place events
unshown v place [] = refl
unshown One place (e ∷ events) = ap (λ rows. unshow One (shown_of One place e) ∷ rows) (unshown One (suc place) events)
unshown Two place (e ∷ events) = ap (λ rows. unshow Two (shown_of Two place e) ∷ rows) (unshown Two (suc place) events)

outs : (v : Version) (t : ℕ) (lost : Value) (db : Trees) (rows : List Row) → map (λ (o : Output). o.1) (map (output (load_query v t)) (flat_map (λ r. matches_as lost db [] end ([] ∷ r ∷ [])) rows)) ≡ map (show v) rows
outs v t lost db [] = refl
outs One t lost db (r ∷ rows) = ap (λ x. show One r ∷ x) (outs One t lost db rows)
outs Two t lost db (r ∷ rows) = ap (λ x. show Two r ∷ x) (outs Two t lost db rows)

pub stored : (v : Version) (old last : State) (l : Layout) (events : List EventValue) → HasTable v l → old.now.schema ≡ schema_in l → IsDatabase old.now → Shown (select_text v) [] old last (shown_from v 1 events)
    → IsPermutation (rows_from v 1 events) (old.now.trees (inbox_tree l))
stored v old last l events has schema sound h =
    let db = old.now.trees in
    let t = inbox_tree l in
    let q = load_query v t in
    let is = select_is v l has in
    let read = reads_as (select_text v) [] old last (schema_in l) schema _ is.command is.plain is.listing (shown_from v 1 events) h in
    let a : IsAnswerAs Null q (overlay db []) [] (shown_from v 1 events) = read.answer Null in
    let kept = a.distinct ∙ ap (map (output q)) (a.grouped ∙ gone_over v l has Null db) in
    let shown : map (λ (o : Output). o.1) a.kept ≡ map (show v) (db t) = ap (map (λ (o : Output). o.1)) kept ∙ outs v t Null (overlay db []) (db t) in
    let cut : IsPermutation (map (show v) (db t)) (shown_from v 1 events) =
    subst (λ x. IsPermutation x (shown_from v 1 events)) shown (subst (IsPermutation (map (λ (o : Output). o.1) a.kept)) (sym a.shown) (IsPermutation-map (λ (o : Output). o.1) a.kept a.ordered a.same)) in
    let rules = (subst (λ s. Rattle.sqlite_schema.specs.Rules.Obeys s db) schema sound.obeys).rules in
    let back = all_whole l db v (db t) (rule_of v l has Datatype db (rules Datatype)) (rule_of v l has NotNull db (rules NotNull)) in
    let rows = subst (λ x. IsPermutation x (map (unshow v) (shown_from v 1 events))) back (IsPermutation-map (unshow v) _ _ cut) in
    IsPermutation-sym _ _ (subst (IsPermutation (db t)) (unshown v 1 events) rows)
