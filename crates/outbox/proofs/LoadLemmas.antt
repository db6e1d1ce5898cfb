-- What the queries show.
use Rattle.std.proofs.Common.{◌≡◌, inl, inr, ℕ, zero, suc, ◌+◌, ◌-◌, ◌<◌, ◌≤◌, eqb, take, drop, pos, List, [], ◌∷◌, map, flat_map, Bool, true, false, ◌&&◌, Option, Some, None, if◌then◌else◌, Less, is_eq, is_gt, int_cmp, refl, sym, ap, subst, ◌∙◌, arith, IsPermutation}
use Rattle.std.specs.List.{AllByRecursion, list_all}
use Rattle.std.proofs.lemmas.Bool.Decides.{nat_tests}
use Rattle.std.proofs.lemmas.Int.{ints}
use Rattle.std.proofs.lemmas.List.Sorted.{IsPermutation-map, IsPermutation-trans, IsPermutation-sym}
use Rattle.sqlite_keyed.proofs.ListLemmas.{IsPermutation-flat_map}
use Rattle.sqlite_keyed.proofs.SortLemmas.{sorted_unique}
use Rattle.sqlite_value.specs.declared.value.Value.{Value}
use Rattle.sqlite_value.specs.declared.value.Value.TheVariants.{Null, Int}
use Rattle.sqlite_value.specs.declared.keys.Collation.TheVariants.{Binary}
use Rattle.sqlite_value.specs.Order.{Row, column, value_cmp}
use Rattle.sqlite_value.proofs.OrderLemmas.{value_cmp-Int}
use Rattle.sqlite_trees.specs.Tree.{Trees, IsAscending}
use Rattle.sqlite_sql.specs.declared.ops.BinaryOp.TheVariants.{Compare}
use Rattle.sqlite_sql.specs.declared.ops.CompareOp.TheVariants.{Eq, Gt}
use Rattle.sqlite_sql.specs.Term.{Env, holds}
use Rattle.sqlite_sql.specs.Ops.{binary, is_true, from_truth}
use Rattle.sqlite_sql.specs.Program.{overlay}
use Rattle.sqlite_sql.specs.Query.{Query, Output, output, output_cmp, end, matches_as, IsAnswerAs}
use Rattle.sqlite_sql.proofs.QueryLemmas.{output_cmp_total}
use Rattle.sqlite_rules.specs.Lists.{Has}
use Rattle.sqlite_rules.proofs.ProbeLemmas.{has_mapped, mapped_has}
use Rattle.sqlite.specs.State.{State, Shown}
use Rattle.sqlite.proofs.Callers.{reads_as}
use Rattle.outbox.specs.Order.{Accepted, status_of}
use Rattle.outbox.specs.Layout.{schema_in_layout, first_tree}
use Rattle.outbox.specs.Service.{code, order_row, outbox_row, outbox_rows, AreOrders}
use Rattle.outbox.specs.steps.Change.{stored_row, stored_rows, TellsStatus}
use Rattle.outbox.specs.Layout.{ServiceLayout}
use Rattle.outbox.specs.declared.status.Status.{Status}
use Rattle.outbox.proofs.StepLemmas.{has_permuted}
use Rattle.outbox.proofs.PutLemmas.{same_int}
use Rattle.outbox.proofs.ListLemmas.{has_flat, flat_has}
use Rattle.outbox.proofs.LayoutLemmas.{no_overlay}
use Rattle.outbox.proofs.TextLemmas.{status_text, status_is, status_query, page_text, page_is, page_query, all_rows_text, all_rows_is, all_rows_query}

told : (b : Bool) → is_true (from_truth (Some b)) ≡ b
told true = refl
told false = refl

-- the test of WHERE number = ?1
eq_is : (m n : ℕ) → is_true (binary (Compare Eq Binary) (Int (pos m)) (Int (pos n))) ≡ eqb m n
unfolding binary
eq_is m n = told _ ∙ ap is_eq (value_cmp-Int (pos m) (pos n)) ∙ same_int m n

abbrev above : ℕ → ℕ → Bool
above n m = is_gt (int_cmp (pos m) (pos n))

-- the test of WHERE number > ?1
gt_is : (m n : ℕ) → is_true (binary (Compare Gt Binary) (Int (pos m)) (Int (pos n))) ≡ above n m
unfolding binary
gt_is m n = told _ ∙ ap is_gt (value_cmp-Int (pos m) (pos n))

-- ---- the status of an order

abbrev matched : Value → Trees → Row → Row → List Env
matched lost db params r = matches_as lost db (status_query 0).filter end (params ∷ r ∷ [])

some_match : (b : Bool) (e : Env) (x : Env) → Has (if b then e ∷ [] else []) x → (b ≡ true) × (x ≡ e)
some_match true e x (inl is) = (refl, is)
some_match true e x (inr h) = absurd h
some_match false e x h = absurd h

none_false : (b : Bool) → b && true ≡ b
none_false true = refl
none_false false = refl

pub tells_status : (old last : State) (l : ServiceLayout) (commands : List Accepted) (order : ℕ) (rows : List Row) → old.now.schema ≡ schema_in_layout l → AreOrders (old.now.trees (suc (first_tree l))) commands
    → Shown status_text (Int (pos order) ∷ []) old last rows → TellsStatus commands order rows
tells_status old last l commands order rows has olds h =
    let db = overlay old.now.trees [] in
    let params : Row = Int (pos order) ∷ [] in
    let read = reads_as status_text params old last (schema_in_layout l) has _ (status_is l).0 (status_is l).1 (status_is l).2 rows h in
    let a : IsAnswerAs Null (status_query (suc (first_tree l))) db params rows = read.answer Null in
    let kept : a.kept ≡ map (output (status_query (suc (first_tree l)))) (flat_map (matched Null db params) (old.now.trees (suc (first_tree l)))) = a.distinct ∙ ap (map (output (status_query (suc (first_tree l))))) (a.grouped ∙ ap (λ rows. flat_map (matched Null db params) rows) (no_overlay old.now.trees (suc (first_tree l)))) in
    go rows a.ordered a.shown (subst (λ k. IsPermutation k a.ordered) kept a.same)
  where
    db : Trees
    db = overlay old.now.trees []

    params : Row
    params = Int (pos order) ∷ []

    outs : List Output
    outs = map (output (status_query (suc (first_tree l)))) (flat_map (matched Null db params) (old.now.trees (suc (first_tree l))))

    first : (o : Output) → Has outs o → (s : Status) × (o.1 ≡ Int (pos (code s)) ∷ []) × (status_of commands order ≡ Some s)
    first o h =
        let e = has_mapped (output (status_query (suc (first_tree l)))) (flat_map (matched Null db params) (old.now.trees (suc (first_tree l)))) o h in
        let r = has_flat (matched Null db params) (old.now.trees (suc (first_tree l))) e.0 e.1 in
        let was = olds.sound r.0 r.1 in
        let hit = some_match _ (params ∷ r.0 ∷ []) e.0 r.2 in
        let test : is_true (binary (Compare Eq Binary) (column r.0 0) (Int (pos order))) ≡ true = sym (none_false _) ∙ hit.0 in
        let same : eqb was.0 order ≡ true = sym (eq_is was.0 order) ∙ subst (λ (q : Row). is_true (binary (Compare Eq Binary) (column q 0) (Int (pos order))) ≡ true) was.2 test in
        let is : was.0 ≡ order = grind (arith, nat_tests, same) in
        (was.1, ap (λ (o : Output). o.1) e.2 ∙ ap (λ (x : Env). (output (status_query (suc (first_tree l))) x).1) hit.1 ∙ ap (λ (q : Row). column q 2 ∷ []) was.2, subst (λ n. status_of commands n ≡ Some was.1) is was.3)

    none : (o : Option Status) → status_of commands order ≡ o → ((x : Output) → Has outs x → ⊥) → status_of commands order ≡ None
    none None is empty = is
    none (Some s) is empty =
        let r = olds.complete order s is in
        let test : list_all (holds (params ∷ order_row order s ∷ [])) (status_query 0).filter ≡ true = none_false _ ∙ eq_is order order ∙ (let e : eqb order order ≡ true = grind (arith, nat_tests) in e) in
        let hit : Has (matched Null db params (order_row order s)) (params ∷ order_row order s ∷ []) =
        subst (λ b. Has (if b then (params ∷ order_row order s ∷ []) ∷ [] else []) (params ∷ order_row order s ∷ [])) (sym test) (inl refl) in
        absurd (empty _ (mapped_has (output (status_query (suc (first_tree l)))) _ _ (flat_has (matched Null db params) (old.now.trees (suc (first_tree l))) (order_row order s) (params ∷ order_row order s ∷ []) r hit)))

    go : (rows : List Row) (ordered : List Output) → rows ≡ map (λ (o : Output). o.1) ordered → IsPermutation outs ordered → TellsStatus commands order rows
    go rows [] is same = subst (TellsStatus commands order) (sym is) (none (status_of commands order) refl (λ x k. has_permuted outs [] same x k))
    go rows (o ∷ more) is same = subst (TellsStatus commands order) (sym is) (first o (has_permuted (o ∷ more) outs (IsPermutation-sym _ _ same) o (inl refl)))

-- ---- pages of rows

abbrev out_of : ℕ → Accepted → Output
out_of n c = (Int (pos n) ∷ [], stored_row n c)

abbrev outputs : ℕ → List Accepted → List Output
outputs n [] = []
outputs n (c ∷ commands) = out_of n c ∷ outputs (suc n) commands

below : (m n : ℕ) → m < n → value_cmp (Int (pos m)) (Int (pos n)) ≡ Less
below m n h = value_cmp-Int (pos m) (pos n) ∙ grind (arith, ints, nat_tests)

module _ (q : Query) (plain : (p r : ℕ) (c d : Accepted) → output_cmp q (out_of p c) (out_of r d) ≡ output_cmp (page_query 0) (out_of p c) (out_of r d)) where
  over : (p r : ℕ) (c : Accepted) (commands : List Accepted) → p < r → AllByRecursion (λ b. output_cmp q (out_of p c) b ≡ Less) (outputs r commands)
  over p r c [] h = tt
  over p r c (d ∷ commands) h =
      let less : value_cmp (Int (pos p)) (Int (pos r)) ≡ Less = below p r h in
      (plain p r c d ∙ rw less refl, over p (suc r) c commands (omega arith))

  rises : (p : ℕ) (commands : List Accepted) → IsAscending (λ a b. output_cmp q a b ≡ Less) (outputs p commands)
  rises p [] = tt
  rises p (c ∷ commands) = (over p (suc p) c commands (omega arith), rises (suc p) commands)

pub cut : (n : ℕ) (commands : List Accepted) → map (λ (o : Output). o.1) (outputs n commands) ≡ stored_rows n commands
cut n [] = refl
cut n (c ∷ commands) = ap (λ rows. stored_row n c ∷ rows) (cut (suc n) commands)

abbrev page_params : ℕ → ℕ → Row
page_params n limit = Int (pos n) ∷ Int (pos limit) ∷ []

abbrev paged : Trees → ℕ → ℕ → Row → List Env
paged db n limit r = matches_as Null db (page_query 0).filter end (page_params n limit ∷ r ∷ [])

is_above : (m n : ℕ) → n < m → above n m ≡ true
is_above m n h = grind (arith, ints, nat_tests)

is_not_above : (m n : ℕ) → m ≤ n → above n m ≡ false
is_not_above m n h = grind (arith, ints, nat_tests)

out_all : (db : Trees) (n limit k : ℕ) (commands : List Accepted) → n < k → map (output (page_query 0)) (flat_map (paged db n limit) (outbox_rows k commands)) ≡ outputs k commands
out_all db n limit k [] h = refl
out_all db n limit k (c ∷ commands) h =
    let test : list_all (holds (page_params n limit ∷ outbox_row k c ∷ [])) (page_query 0).filter ≡ true = none_false _ ∙ gt_is k n ∙ is_above k n h in
    rw test (ap (λ outs. out_of k c ∷ outs) (out_all db n limit (suc k) commands (omega arith)))

out_above : (db : Trees) (n limit k d : ℕ) (commands : List Accepted) → d ≡ suc n - k → map (output (page_query 0)) (flat_map (paged db n limit) (outbox_rows k commands)) ≡ outputs (k + d) (drop d commands)
out_above db n limit k zero commands is =
    out_all db n limit k commands (omega arith) ∙ ap (λ m. outputs m commands) (let e : k ≡ k + 0 = omega arith in e)
out_above db n limit k (suc d) [] is = refl
out_above db n limit k (suc d) (c ∷ commands) is =
    let test : list_all (holds (page_params n limit ∷ outbox_row k c ∷ [])) (page_query 0).filter ≡ false = none_false _ ∙ gt_is k n ∙ is_not_above k n (omega arith) in
    rw test (out_above db n limit (suc k) d commands (omega arith) ∙ ap (λ m. outputs m (drop d commands)) (let e : suc k + d ≡ k + suc d = omega arith in e))

pub pages : (old last : State) (l : ServiceLayout) (base : ℕ) (commands : List Accepted) (n limit : ℕ) (rows : List Row) → old.now.schema ≡ schema_in_layout l
    → IsPermutation (outbox_rows (suc base) commands) (old.now.trees (suc (suc (first_tree l)))) → Shown page_text (page_params n limit) old last rows
    → rows ≡ take limit (stored_rows (suc base + (n - base)) (drop (n - base) commands))
pages old last l base commands n limit rows has same h =
    let db = overlay old.now.trees [] in
    let d = n - base in
    let read = reads_as page_text (page_params n limit) old last (schema_in_layout l) has _ (page_is l).0 (page_is l).1 (page_is l).2 rows h in
    let a : IsAnswerAs Null (page_query (suc (suc (first_tree l)))) db (page_params n limit) rows = read.answer Null in
    let kept : a.kept ≡ map (output (page_query (suc (suc (first_tree l))))) (flat_map (paged db n limit) (old.now.trees (suc (suc (first_tree l))))) = a.distinct ∙ ap (map (output (page_query (suc (suc (first_tree l)))))) (a.grouped ∙ ap (λ rows. flat_map (paged db n limit) rows) (no_overlay old.now.trees (suc (suc (first_tree l))))) in
    let perm : IsPermutation (map (output (page_query (suc (suc (first_tree l))))) (flat_map (paged db n limit) (outbox_rows (suc base) commands))) a.ordered =
    IsPermutation-trans _ _ _ (IsPermutation-map (output (page_query (suc (suc (first_tree l))))) _ _ (IsPermutation-flat_map (paged db n limit) _ _ same)) (subst (λ k. IsPermutation k a.ordered) kept a.same) in
    let outs = out_above db n limit (suc base) d commands (let e : n - base ≡ suc n - suc base = omega arith in e) in
    let ordered : a.ordered ≡ outputs (suc base + d) (drop d commands) =
    sorted_unique (output_cmp (page_query (suc (suc (first_tree l))))) (output_cmp_total (page_query (suc (suc (first_tree l))))) (outputs (suc base + d) (drop d commands)) a.ordered (rises (page_query (suc (suc (first_tree l)))) (λ p r c e. refl) (suc base + d) (drop d commands)) (subst (λ k. IsPermutation k a.ordered) outs perm) a.sorted in
    a.shown ∙ ap (λ outs. take limit (map (λ (o : Output). o.1) outs)) ordered ∙ ap (take limit) (cut (suc base + d) (drop d commands))

-- ---- all rows

abbrev all : Trees → Row → List Env
all db r = matches_as Null db [] end ([] ∷ r ∷ [])

out_each : (db : Trees) (n : ℕ) (commands : List Accepted) → map (output (all_rows_query 0)) (flat_map (all db) (outbox_rows n commands)) ≡ outputs n commands
out_each db n [] = refl
out_each db n (c ∷ commands) = ap (λ outs. out_of n c ∷ outs) (out_each db (suc n) commands)

pub loads_rows : (old last : State) (l : ServiceLayout) (n : ℕ) (commands : List Accepted) (rows : List Row) → old.now.schema ≡ schema_in_layout l → IsPermutation (outbox_rows n commands) (old.now.trees (suc (suc (first_tree l)))) → Shown all_rows_text [] old last rows
    → rows ≡ stored_rows n commands
loads_rows old last l n commands rows has same h =
    let t = suc (suc (first_tree l)) in
    let db = overlay old.now.trees [] in
    let read = reads_as all_rows_text [] old last (schema_in_layout l) has _ (all_rows_is l).0 (all_rows_is l).1 (all_rows_is l).2 rows h in
    let a : IsAnswerAs Null (all_rows_query t) db [] rows = read.answer Null in
    let kept : a.kept ≡ map (output (all_rows_query t)) (flat_map (all db) (old.now.trees t)) = a.distinct ∙ ap (map (output (all_rows_query t))) (a.grouped ∙ ap (λ rows. flat_map (all db) rows) (no_overlay old.now.trees t)) in
    let perm : IsPermutation (map (output (all_rows_query t)) (flat_map (all db) (outbox_rows n commands))) a.ordered =
    IsPermutation-trans _ _ _ (IsPermutation-map (output (all_rows_query t)) _ _ (IsPermutation-flat_map (all db) _ _ same)) (subst (λ k. IsPermutation k a.ordered) kept a.same) in
    let ordered : a.ordered ≡ outputs n commands =
    sorted_unique (output_cmp (all_rows_query t)) (output_cmp_total (all_rows_query t)) (outputs n commands) a.ordered (rises (all_rows_query t) (λ p r c e. refl) n commands) (subst (λ k. IsPermutation k a.ordered) (out_each db n commands) perm) a.sorted in
    a.shown ∙ ap (map (λ (o : Output). o.1)) ordered ∙ cut n commands
