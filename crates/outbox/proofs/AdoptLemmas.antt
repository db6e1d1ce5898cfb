-- What rows that read as those of a service say of the rows that are stored.
use Rattle.std.proofs.Common.{◌≡◌, ℕ, suc, List, [], ◌∷◌, map, flat_map, Bool, true, false, not, ◌&&◌, refl, sym, ap, ap₂, subst, ◌∙◌, IsPermutation}
use Rattle.std.specs.List.{AllByRecursion}
use Rattle.std.proofs.lemmas.List.Sorted.{IsPermutation-map, IsPermutation-sym}
use Rattle.sqlite_value.specs.declared.value.Value.{Value}
use Rattle.sqlite_value.specs.declared.value.Value.TheVariants.{Null, Int, Real, Text as Words, Blob}
use Rattle.sqlite_value.specs.Order.{Row, column}
use Rattle.sqlite_trees.specs.Tree.{Trees}
use Rattle.sqlite_schema.specs.declared.schema.Constraint.TheVariants.{Datatype, NotNull}
use Rattle.sqlite_schema.specs.Rules.{passes, is_of, Obeys}
use Rattle.sqlite_schema.specs.declared.schema.Kind.TheVariants.{Integer, Text}
use Rattle.sqlite_sql.specs.Ops.{is_null}
use Rattle.sqlite_sql.specs.Program.{overlay}
use Rattle.sqlite_sql.specs.Query.{Output, output, end, matches_as, IsAnswerAs}
use Rattle.sqlite_rules.proofs.ProbeLemmas.{has_mapped, mapped_has}
use Rattle.sqlite.specs.Effect.{IsDatabase}
use Rattle.sqlite.specs.State.{State, Shown}
use Rattle.sqlite.proofs.Callers.{reads_as, one_permutation}
use Rattle.sqlite_schema.specs.declared.schema.Schema.{Schema}
use Rattle.outbox.specs.Order.{Accepted}
use Rattle.database_layout.specs.Tables.{service, orders, outbox}
use Rattle.outbox.specs.Layout.{schema_in_layout, first_tree}
use Rattle.outbox.specs.Service.{service_row, order_row, outbox_rows, AreOrders}
use Rattle.outbox.specs.steps.Change.{stored_row, stored_rows, shown_service, ShowOrders}
use Rattle.outbox.specs.Layout.{ServiceLayout}
use Rattle.outbox.proofs.StepLemmas.{has_permuted}
use Rattle.outbox.proofs.LayoutLemmas.{service_passes, orders_passes, outbox_passes, no_overlay}
use Rattle.outbox.proofs.TextLemmas.{all_rows_text, all_rows_is, all_rows_query, all_orders_text, all_orders_is, all_orders_query, service_row_text, service_row_is, service_query}

null_is : (v : Value) → is_null v ≡ true → v ≡ Null
null_is Null h = refl
null_is (Int n) h = absurd (cc)
null_is (Real x) h = absurd (cc)
null_is (Words t) h = absurd (cc)
null_is (Blob b) h = absurd (cc)

none1 : (x : Bool) → x && false ≡ true → ⊥
none1 true h = absurd (cc)
none1 false h = absurd (cc)

none2 : (x y : Bool) → x && (y && false) ≡ true → ⊥
none2 true y h = none1 y h
none2 false y h = absurd (cc)

none3 : (x y z : Bool) → x && (y && (z && false)) ≡ true → ⊥
none3 true y z h = none2 y z h
none3 false y z h = absurd (cc)

none4 : (w x y z : Bool) → w && (x && (y && (z && false))) ≡ true → ⊥
none4 true x y z h = none3 x y z h
none4 false x y z h = absurd (cc)

first_of : (x rest : Bool) → x && rest && true ≡ true → x ≡ true
first_of true rest h = refl
first_of false rest h = absurd (cc)

left_of : (x : Bool) → x && true ≡ true → x ≡ true
left_of true h = refl
left_of false h = absurd (cc)

-- ---- outbox

abbrev show : Row → Row
show r = column r 0 ∷ column r 2 ∷ column r 3 ∷ column r 4 ∷ []

abbrev unshow : Row → Row
unshow s = column s 0 ∷ Null ∷ column s 1 ∷ column s 2 ∷ column s 3 ∷ []

whole : (s : Schema) (t : ℕ) (db : Trees) (r : Row) → passes Datatype s db (outbox t) r ≡ true → passes NotNull s db (outbox t) r ≡ true → unshow (show r) ≡ r
whole s tree db [] t p = absurd (cc)
whole s tree db (a ∷ []) t p = absurd (cc)
whole s tree db (a ∷ k ∷ []) t p = absurd (cc)
whole s tree db (a ∷ k ∷ b ∷ []) t p = absurd (none1 (not (is_null b)) p)
whole s tree db (a ∷ k ∷ b ∷ c ∷ []) t p = absurd (none2 (not (is_null b)) (not (is_null c)) p)
whole s tree db (a ∷ k ∷ b ∷ c ∷ d ∷ []) t p = ap (λ v. a ∷ v ∷ b ∷ c ∷ d ∷ []) (sym (null_is k (first_of (is_null k) (is_of Integer b && (is_of Integer c && (is_of Text d && true))) t)))
whole s tree db (a ∷ k ∷ b ∷ c ∷ d ∷ e ∷ more) t p = absurd (none4 (is_null k) (is_of Integer b) (is_of Integer c) (is_of Text d) (left_of (is_null k && (is_of Integer b && (is_of Integer c && (is_of Text d && false)))) t))

all_whole : (s : Schema) (t : ℕ) (db : Trees) (rows : List Row) → AllByRecursion (λ r. passes Datatype s db (outbox t) r ≡ true) rows → AllByRecursion (λ r. passes NotNull s db (outbox t) r ≡ true) rows
    → map unshow (map show rows) ≡ rows
all_whole s tree db [] t p = refl
all_whole s tree db (r ∷ rows) t p = ap₂ ◌∷◌ (whole s tree db r t.0 p.0) (all_whole s tree db rows t.1 p.1)

unshown : (n : ℕ) (commands : List Accepted) → map unshow (stored_rows n commands) ≡ outbox_rows n commands
unshown n [] = refl
unshown n (c ∷ commands) = ap (λ rows. unshow (stored_row n c) ∷ rows) (unshown (suc n) commands)

outs : (lost : Value) (db : Trees) (rows : List Row) → map (λ (o : Output). o.1) (map (output (all_rows_query 0)) (flat_map (λ r. matches_as lost db [] end ([] ∷ r ∷ [])) rows)) ≡ map show rows
outs lost db [] = refl
outs lost db (r ∷ rows) = ap (λ x. show r ∷ x) (outs lost db rows)

pub adopts_rows : (old last : State) (l : ServiceLayout) (n : ℕ) (commands : List Accepted) → old.now.schema ≡ schema_in_layout l → IsDatabase old.now → Shown all_rows_text [] old last (stored_rows n commands)
    → IsPermutation (outbox_rows n commands) (old.now.trees (suc (suc (first_tree l))))
adopts_rows old last l n commands has sound h =
    let db = old.now.trees in
    let rows = stored_rows n commands in
    let read = reads_as all_rows_text [] old last (schema_in_layout l) has _ (all_rows_is l).0 (all_rows_is l).1 (all_rows_is l).2 rows h in
    let a : IsAnswerAs Null (all_rows_query (suc (suc (first_tree l)))) (overlay db []) [] rows = read.answer Null in
    let kept = a.distinct ∙ ap (map (output (all_rows_query (suc (suc (first_tree l)))))) (a.grouped ∙ ap (λ rows. flat_map (λ r. matches_as Null (overlay db []) [] end ([] ∷ r ∷ [])) rows) (no_overlay db (suc (suc (first_tree l))))) in
    let shown : map (λ (o : Output). o.1) a.kept ≡ map show (db (suc (suc (first_tree l)))) = ap (map (λ (o : Output). o.1)) kept ∙ outs Null (overlay db []) (db (suc (suc (first_tree l)))) in
    let cut : IsPermutation (map show (db (suc (suc (first_tree l))))) rows =
    subst (λ x. IsPermutation x rows) shown (subst (IsPermutation (map (λ (o : Output). o.1) a.kept)) (sym a.shown) (IsPermutation-map (λ (o : Output). o.1) a.kept a.ordered a.same)) in
    let obeys : Obeys (schema_in_layout l) db = subst (λ s. Obeys s db) has sound.obeys in
    let back = all_whole (schema_in_layout l) (suc (suc (first_tree l))) db (db (suc (suc (first_tree l)))) (outbox_passes db Datatype l obeys) (outbox_passes db NotNull l obeys) in
    let stored = subst (λ x. IsPermutation x (map unshow rows)) back (IsPermutation-map unshow _ _ cut) in
    IsPermutation-sym _ _ (subst (IsPermutation (db (suc (suc (first_tree l))))) (unshown n commands) stored)

-- ---- orders

abbrev show_order : Row → Row
show_order r = column r 0 ∷ column r 2 ∷ []

abbrev unshow_order : Row → Row
unshow_order s = column s 0 ∷ Null ∷ column s 1 ∷ []

whole_order : (s : Schema) (t : ℕ) (db : Trees) (r : Row) → passes Datatype s db (orders t) r ≡ true → passes NotNull s db (orders t) r ≡ true → unshow_order (show_order r) ≡ r
whole_order s tree db [] t p = absurd (cc)
whole_order s tree db (a ∷ []) t p = absurd (cc)
whole_order s tree db (a ∷ k ∷ []) t p = absurd (cc)
whole_order s tree db (a ∷ k ∷ b ∷ []) t p = ap (λ v. a ∷ v ∷ b ∷ []) (sym (null_is k (first_of (is_null k) (is_of Integer b && true) t)))
whole_order s tree db (a ∷ k ∷ b ∷ c ∷ more) t p = absurd (none2 (is_null k) (is_of Integer b) (left_of (is_null k && (is_of Integer b && false)) t))

all_whole_order : (s : Schema) (t : ℕ) (db : Trees) (rows : List Row) → AllByRecursion (λ r. passes Datatype s db (orders t) r ≡ true) rows → AllByRecursion (λ r. passes NotNull s db (orders t) r ≡ true) rows
    → map unshow_order (map show_order rows) ≡ rows
all_whole_order s tree db [] t p = refl
all_whole_order s tree db (r ∷ rows) t p = ap₂ ◌∷◌ (whole_order s tree db r t.0 p.0) (all_whole_order s tree db rows t.1 p.1)

outs_order : (lost : Value) (db : Trees) (rows : List Row) → map (λ (o : Output). o.1) (map (output (all_orders_query 0)) (flat_map (λ r. matches_as lost db [] end ([] ∷ r ∷ [])) rows)) ≡ map show_order rows
outs_order lost db [] = refl
outs_order lost db (r ∷ rows) = ap (λ x. show_order r ∷ x) (outs_order lost db rows)

pub adopts_orders : (old last : State) (l : ServiceLayout) (rows : List Row) (commands : List Accepted) → old.now.schema ≡ schema_in_layout l → IsDatabase old.now → Shown all_orders_text [] old last rows → ShowOrders rows commands
    → AreOrders (old.now.trees (suc (first_tree l))) commands
adopts_orders old last l rows commands has sound h told =
    let db = old.now.trees in
    let read = reads_as all_orders_text [] old last (schema_in_layout l) has _ (all_orders_is l).0 (all_orders_is l).1 (all_orders_is l).2 rows h in
    let a : IsAnswerAs Null (all_orders_query (suc (first_tree l))) (overlay db []) [] rows = read.answer Null in
    let kept = a.distinct ∙ ap (map (output (all_orders_query (suc (first_tree l))))) (a.grouped ∙ ap (λ rows. flat_map (λ r. matches_as Null (overlay db []) [] end ([] ∷ r ∷ [])) rows) (no_overlay db (suc (first_tree l)))) in
    let shown : map (λ (o : Output). o.1) a.kept ≡ map show_order (db (suc (first_tree l))) = ap (map (λ (o : Output). o.1)) kept ∙ outs_order Null (overlay db []) (db (suc (first_tree l))) in
    let cut : IsPermutation (map show_order (db (suc (first_tree l)))) rows =
    subst (λ x. IsPermutation x rows) shown (subst (IsPermutation (map (λ (o : Output). o.1) a.kept)) (sym a.shown) (IsPermutation-map (λ (o : Output). o.1) a.kept a.ordered a.same)) in
    let obeys : Obeys (schema_in_layout l) db = subst (λ s. Obeys s db) has sound.obeys in
    let back = all_whole_order (schema_in_layout l) (suc (first_tree l)) db (db (suc (first_tree l))) (orders_passes db Datatype l obeys) (orders_passes db NotNull l obeys) in
    let stored : IsPermutation (db (suc (first_tree l))) (map unshow_order rows) = subst (λ x. IsPermutation x (map unshow_order rows)) back (IsPermutation-map unshow_order _ _ cut) in
    record {
      sound = λ r k.
          let s = has_mapped unshow_order rows r (has_permuted (db (suc (first_tree l))) (map unshow_order rows) stored r k) in
          let t = told.sound s.0 s.1 in
          (t.0, t.1, s.2 ∙ ap unshow_order t.2, t.3);
      complete = λ order status is. has_permuted (map unshow_order rows) (db (suc (first_tree l))) (IsPermutation-sym _ _ stored) (order_row order status) (mapped_has unshow_order rows _ (told.complete order status is));
    }

-- ---- service

abbrev show_service : Row → Row
show_service r = column r 0 ∷ column r 2 ∷ column r 3 ∷ []

abbrev unshow_service : Row → Row
unshow_service s = column s 0 ∷ Null ∷ column s 1 ∷ column s 2 ∷ []

whole_service : (s : Schema) (t : ℕ) (db : Trees) (r : Row) → passes Datatype s db (service t) r ≡ true → passes NotNull s db (service t) r ≡ true → unshow_service (show_service r) ≡ r
whole_service s tree db [] t p = absurd (cc)
whole_service s tree db (a ∷ []) t p = absurd (cc)
whole_service s tree db (a ∷ k ∷ []) t p = absurd (cc)
whole_service s tree db (a ∷ k ∷ b ∷ []) t p = absurd (none1 (not (is_null b)) p)
whole_service s tree db (a ∷ k ∷ b ∷ c ∷ []) t p = ap (λ v. a ∷ v ∷ b ∷ c ∷ []) (sym (null_is k (first_of (is_null k) (is_of Text b && (is_of Integer c && true)) t)))
whole_service s tree db (a ∷ k ∷ b ∷ c ∷ d ∷ more) t p = absurd (none3 (is_null k) (is_of Text b) (is_of Integer c) (left_of (is_null k && (is_of Text b && (is_of Integer c && false))) t))

all_whole_service : (s : Schema) (t : ℕ) (db : Trees) (rows : List Row) → AllByRecursion (λ r. passes Datatype s db (service t) r ≡ true) rows → AllByRecursion (λ r. passes NotNull s db (service t) r ≡ true) rows
    → map unshow_service (map show_service rows) ≡ rows
all_whole_service s tree db [] t p = refl
all_whole_service s tree db (r ∷ rows) t p = ap₂ ◌∷◌ (whole_service s tree db r t.0 p.0) (all_whole_service s tree db rows t.1 p.1)

outs_service : (lost : Value) (db : Trees) (rows : List Row) → map (λ (o : Output). o.1) (map (output (service_query 0)) (flat_map (λ r. matches_as lost db [] end ([] ∷ r ∷ [])) rows)) ≡ map show_service rows
outs_service lost db [] = refl
outs_service lost db (r ∷ rows) = ap (λ x. show_service r ∷ x) (outs_service lost db rows)

pub adopts_service : (old last : State) (l : ServiceLayout) (source : List ℕ) (base : ℕ) → old.now.schema ≡ schema_in_layout l → IsDatabase old.now → Shown service_row_text [] old last (shown_service source base ∷ [])
    → old.now.trees (first_tree l) ≡ service_row source base ∷ []
adopts_service old last l source base has sound h =
    let db = old.now.trees in
    let rows : List Row = shown_service source base ∷ [] in
    let read = reads_as service_row_text [] old last (schema_in_layout l) has _ (service_row_is l).0 (service_row_is l).1 (service_row_is l).2 rows h in
    let a : IsAnswerAs Null (service_query (first_tree l)) (overlay db []) [] rows = read.answer Null in
    let kept = a.distinct ∙ ap (map (output (service_query (first_tree l)))) (a.grouped ∙ ap (λ rows. flat_map (λ r. matches_as Null (overlay db []) [] end ([] ∷ r ∷ [])) rows) (no_overlay db (first_tree l))) in
    let shown : map (λ (o : Output). o.1) a.kept ≡ map show_service (db (first_tree l)) = ap (map (λ (o : Output). o.1)) kept ∙ outs_service Null (overlay db []) (db (first_tree l)) in
    let cut : IsPermutation (map show_service (db (first_tree l))) rows =
    subst (λ x. IsPermutation x rows) shown (subst (IsPermutation (map (λ (o : Output). o.1) a.kept)) (sym a.shown) (IsPermutation-map (λ (o : Output). o.1) a.kept a.ordered a.same)) in
    let obeys : Obeys (schema_in_layout l) db = subst (λ s. Obeys s db) has sound.obeys in
    let back = all_whole_service (schema_in_layout l) (first_tree l) db (db (first_tree l)) (service_passes db Datatype l obeys) (service_passes db NotNull l obeys) in
    let stored : IsPermutation (db (first_tree l)) (map unshow_service rows) = subst (λ x. IsPermutation x (map unshow_service rows)) back (IsPermutation-map unshow_service _ _ cut) in
    one_permutation (service_row source base) (db (first_tree l)) (IsPermutation-sym _ _ stored)

-- ---- what the questions show of a service

pub loads_orders : (old last : State) (l : ServiceLayout) (rows : List Row) (commands : List Accepted) → old.now.schema ≡ schema_in_layout l → AreOrders (old.now.trees (suc (first_tree l))) commands → Shown all_orders_text [] old last rows → ShowOrders rows commands
loads_orders old last l rows commands has olds h =
    let db = old.now.trees in
    let t = suc (first_tree l) in
    let read = reads_as all_orders_text [] old last (schema_in_layout l) has _ (all_orders_is l).0 (all_orders_is l).1 (all_orders_is l).2 rows h in
    let a : IsAnswerAs Null (all_orders_query t) (overlay db []) [] rows = read.answer Null in
    let kept = a.distinct ∙ ap (map (output (all_orders_query t))) (a.grouped ∙ ap (λ rows. flat_map (λ r. matches_as Null (overlay db []) [] end ([] ∷ r ∷ [])) rows) (no_overlay db t)) in
    let shown : map (λ (o : Output). o.1) a.kept ≡ map show_order (db t) = ap (map (λ (o : Output). o.1)) kept ∙ outs_order Null (overlay db []) (db t) in
    let cut : IsPermutation (map show_order (db t)) rows =
    subst (λ x. IsPermutation x rows) shown (subst (IsPermutation (map (λ (o : Output). o.1) a.kept)) (sym a.shown) (IsPermutation-map (λ (o : Output). o.1) a.kept a.ordered a.same)) in
    record {
      sound = λ r k.
          let s = has_mapped show_order (db t) r (has_permuted rows (map show_order (db t)) (IsPermutation-sym _ _ cut) r k) in
          let it = olds.sound s.0 s.1 in
          (it.0, it.1, s.2 ∙ ap show_order it.2, it.3);
      complete = λ order status is. has_permuted (map show_order (db t)) rows cut _ (mapped_has show_order (db t) _ (olds.complete order status is));
    }

pub loads_service : (old last : State) (l : ServiceLayout) (source : List ℕ) (base : ℕ) (rows : List Row) → old.now.schema ≡ schema_in_layout l → old.now.trees (first_tree l) ≡ service_row source base ∷ [] → Shown service_row_text [] old last rows
    → rows ≡ shown_service source base ∷ []
loads_service old last l source base rows has is h =
    let db = old.now.trees in
    let t = first_tree l in
    let read = reads_as service_row_text [] old last (schema_in_layout l) has _ (service_row_is l).0 (service_row_is l).1 (service_row_is l).2 rows h in
    let a : IsAnswerAs Null (service_query t) (overlay db []) [] rows = read.answer Null in
    let kept = a.distinct ∙ ap (map (output (service_query t))) (a.grouped ∙ ap (λ rows. flat_map (λ r. matches_as Null (overlay db []) [] end ([] ∷ r ∷ [])) rows) (no_overlay db t)) in
    let shown : map (λ (o : Output). o.1) a.kept ≡ map show_service (db t) = ap (map (λ (o : Output). o.1)) kept ∙ outs_service Null (overlay db []) (db t) in
    let cut : IsPermutation (map show_service (db t)) rows =
    subst (λ x. IsPermutation x rows) shown (subst (IsPermutation (map (λ (o : Output). o.1) a.kept)) (sym a.shown) (IsPermutation-map (λ (o : Output). o.1) a.kept a.ordered a.same)) in
    one_permutation (shown_service source base) rows (subst (λ stored. IsPermutation (map show_service stored) rows) is cut)
