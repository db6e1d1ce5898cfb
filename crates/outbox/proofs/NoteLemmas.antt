-- What noting a status does: INSERT OR REPLACE INTO orders.
use Rattle.std.proofs.Common.{◌≡◌, inl, inr, ℕ, suc, pos, ℤ, List, [], ◌∷◌, ◌++◌, Bool, true, false, not, ◌&&◌, eqb, Option, Some, None, Ok, is_eq, refl, sym, ap, subst, ◌∙◌, arith, IsPermutation}
use Rattle.std.proofs.lemmas.Bool.Decides.{nat_tests}
use Rattle.sqlite_value.specs.declared.value.Value.TheVariants.{Null, Int}
use Rattle.sqlite_value.specs.Order.{Row}
use Rattle.sqlite_value.proofs.OrderLemmas.{value_cmp-Int}
use Rattle.sqlite_trees.specs.Tree.{Trees, put_row, rowid, has_rowid}
use Rattle.sqlite_sql.specs.Ops.{unary}
use Rattle.sqlite_schema.specs.declared.schema.Keys.{Keys}
use Rattle.sqlite_schema.specs.declared.command.Source.TheVariants.{Values}
use Rattle.sqlite_schema.specs.declared.command.Conflict.TheVariants.{Replace}
use Rattle.sqlite_schema.specs.declared.command.Command.TheVariants.{InsertOr}
use Rattle.sqlite_rules.specs.declared.error.Rowids.TheVariants.{Chosen, Given}
use Rattle.sqlite_rules.specs.Cast.{cast_row}
use Rattle.sqlite_rules.specs.Lists.{Has}
use Rattle.sqlite_rules.specs.Calls.{ids_of}
use Rattle.sqlite_rules.specs.Edit.{edit_of, with_rowid, is_taken, taken_by, without_all, id_in}
use Rattle.sqlite_rules.specs.Keys.{AreConflicts, conflicts}
use Rattle.sqlite.specs.Effect.{Database}
use Rattle.sqlite.specs.Rows.{Written, Task, Then, nothing, joined, higher, count_of, Puts, Clears, Tries, TriesEach, mended}
use Rattle.sqlite.specs.Does.{Tally, Does, AtPlace, OnRows}
use Rattle.sqlite.specs.State.{State, mode_of, Executes}
use Rattle.sqlite.specs.Listing.{understood}
use Rattle.sqlite.proofs.Callers.{statement_of, runs_as, one_step}
use Rattle.outbox.specs.Order.{Accepted}
use Rattle.database_layout.specs.Tables.{orders}
use Rattle.database_layout.specs.Beside.{HasAnyInbox}
use Rattle.database_layout.specs.Layout.{inbox_tree}
use Rattle.outbox.specs.Layout.{schema_in_layout, first_tree}
use Rattle.outbox.specs.Service.{code, order_row, AreOrders}
use Rattle.outbox.specs.Layout.{ServiceLayout}
use Rattle.outbox.proofs.StepLemmas.{went, same_value, put_new}
use Rattle.outbox.proofs.PutLemmas.{cast_order, noted, within_all, stays_in, conflict_is, same_int}
use Rattle.outbox.proofs.LayoutLemmas.{orders_listed, no_works, no_index_0, no_index_2, no_unique, apart}
use Rattle.outbox.proofs.TextLemmas.{first_table, note_text, note_is, note_terms}

-- the trees after a status was noted
pub record Notes (l : ServiceLayout) (commands : List Accepted) (c : Accepted) (db next : Trees) : Type 0 where
  pub orders : AreOrders (next (suc (first_tree l))) (commands ++ c ∷ [])
  pub service : next (first_tree l) ≡ db (first_tree l)
  pub outbox : next (suc (suc (first_tree l))) ≡ db (suc (suc (first_tree l)))
  pub beside : HasAnyInbox l.0 → next (inbox_tree l.0) ≡ db (inbox_tree l.0)

abbrev pub note_params : Accepted → Row
note_params c = Int (pos c.order) ∷ Int (pos (code c.status)) ∷ []

-- the row that VALUES gives
abbrev note_source : Accepted → Row
note_source c = Int (pos c.order) ∷ Null ∷ Int (pos (code c.status)) ∷ []

not_true : (b : Bool) → (not b && true) ≡ true → b ≡ false
not_true true h = absurd (cc)
not_true false h = refl

module _ (l : ServiceLayout) (limit : Option ℕ) (keys : Keys) (params : Row) (db : Trees) (commands : List Accepted) (c : Accepted) (olds : AreOrders (db (suc (first_tree l))) commands) where
  abbrev task : Task
  task = record { limit = limit; keys = keys; schema = (schema_in_layout l); table = orders (suc (first_tree l)); params = params }

  abbrev new : Row
  new = order_row c.order c.status

  put : (from : Trees) → ((r : Row) → Has (from (suc (first_tree l))) r → Has (db (suc (first_tree l))) r) → ((m : ℕ) (s : _) → eqb m c.order ≡ false → Has (db (suc (first_tree l))) (order_row m s) → Has (from (suc (first_tree l))) (order_row m s))
      → from (first_tree l) ≡ db (first_tree l) → from (suc (suc (first_tree l))) ≡ db (suc (suc (first_tree l))) → (HasAnyInbox l.0 → from (inbox_tree l.0) ≡ db (inbox_tree l.0)) → (one : Written) → Puts task new from (Ok one) → Notes l commands c db one.trees
  put from within keeps service outbox beside one h =
      let it = went h in
      let edit = edit_of from (orders (suc (first_tree l))) [] Given 0 (new ∷ []) in
      let step = one_step (schema_in_layout l) keys from it.0 edit (no_works l keys (suc (first_tree l)) (taken_by from edit) edit.news) it.1 in
      let cast = cast_order (suc (first_tree l)) (pos c.order) (pos (code c.status)) in
      let is : one.trees ≡ it.0 = ap (λ (w : Written). w.trees) (same_value it.2) in
      let rows : it.0 (suc (first_tree l)) ≡ put_row new (from (suc (first_tree l))) = step.rows ∙ ap (λ r. put_row r (from (suc (first_tree l)))) cast in
      let free : is_taken (from (suc (first_tree l))) new ≡ false = not_true _ (subst (λ r. (not (is_taken (from (suc (first_tree l))) r) && true) ≡ true) cast step.fresh) in
      record {
        orders = noted (db (suc (first_tree l))) (from (suc (first_tree l))) (one.trees (suc (first_tree l))) commands c within keeps free (subst (IsPermutation (new ∷ from (suc (first_tree l)))) (sym (ap (λ (t : Trees). t (suc (first_tree l))) is ∙ rows)) (put_new new (from (suc (first_tree l))) free)) olds;
        service = ap (λ (t : Trees). t (first_tree l)) is ∙ step.others (first_tree l) (λ e. absurd (omega (arith, e))) (no_index_0 l) ∙ service;
        outbox = ap (λ (t : Trees). t (suc (suc (first_tree l)))) is ∙ step.others (suc (suc (first_tree l))) (λ e. absurd (omega (arith, e))) (no_index_2 l) ∙ outbox;
        beside = λ has. let away = apart l has in ap (λ (t : Trees). t (inbox_tree l.0)) is ∙ step.others (inbox_tree l.0) away.0 away.2 ∙ beside has;
      }

  all_of_order : (found : List Row) → ((x : Row) → Has found x → (r : Row) × Has (db (suc (first_tree l))) r × (conflicts None (schema_in_layout l).indexes (orders (suc (first_tree l))) new r ≡ true) × (x ≡ rowid r ∷ []))
      → (id : ℤ) → Has (ids_of found) id → id ≡ pos c.order
  all_of_order [] sound id h = absurd h
  all_of_order (x ∷ found) sound id (inl is) =
      let s = sound x (inl refl) in
      let was = olds.sound s.0 s.1 in
      let hit = conflict_is (suc (first_tree l)) was.0 c.order was.1 c.status (sym (no_unique l new (order_row was.0 was.1)) ∙ subst (λ r. conflicts None (schema_in_layout l).indexes (orders (suc (first_tree l))) new r ≡ true) was.2 s.2) in
      let same : was.0 ≡ c.order = grind (arith, nat_tests, hit) in
      is ∙ ap (λ (y : Row). id_in (rowid y)) s.3 ∙ ap (λ (r : Row). id_in (rowid r)) was.2 ∙ ap pos same
  all_of_order (x ∷ found) sound id (inr h) = all_of_order found (λ y k. sound y (inr k)) id h

  cleared : (one : Written) (found : List Row) → AreConflicts None (schema_in_layout l).indexes (orders (suc (first_tree l))) (db (suc (first_tree l))) new found → Clears task Replace new db found (Ok one) → Notes l commands c db one.trees
  cleared one [] real h = put db (λ r k. k) (λ m s e k. k) refl refl (λ has. refl) one h
  cleared one (x ∷ more) real h =
      let it = went h in
      let edit = edit_of db (orders (suc (first_tree l))) (ids_of (x ∷ more)) Given 0 [] in
      let step = one_step (schema_in_layout l) keys db it.0 edit (no_works l keys (suc (first_tree l)) (taken_by db edit) edit.news) it.1 in
      let rows : it.0 (suc (first_tree l)) ≡ without_all (db (suc (first_tree l))) (ids_of (x ∷ more)) = step.rows in
      put it.0 (λ r k. within_all (ids_of (x ∷ more)) (db (suc (first_tree l))) r (subst (λ l. Has l r) rows k))
      (λ m s apart k. subst (λ l. Has l (order_row m s)) (sym rows)
      (stays_in (ids_of (x ∷ more)) (db (suc (first_tree l))) (order_row m s)
      (λ id gone. ap (λ i. has_rowid i (order_row m s)) (all_of_order (x ∷ more) real.sound id gone) ∙ ap is_eq (value_cmp-Int (pos m) (pos c.order)) ∙ same_int m c.order ∙ apart) k))
      (step.others (first_tree l) (λ e. absurd (omega (arith, e))) (no_index_0 l)) (step.others (suc (suc (first_tree l))) (λ e. absurd (omega (arith, e))) (no_index_2 l)) (λ has. let away = apart l has in step.others (inbox_tree l.0) away.0 away.2) one it.2

  pub tried : (one : Written) → Tries task Replace [] new db (Ok one) → Notes l commands c db one.trees
  tried one (inl big) = absurd (let b = big.1 in cc)
  tried one (inr (None, judged, h)) = cleared one h.0 h.1 h.2
  tried one (inr (Some why, judged, h)) = absurd (let b = h in cc)

  pub one_row : (done : Written × ℤ) → TriesEach task Replace [] (note_source c ∷ []) (pos 0) (nothing db) (Ok done) → Notes l commands c db done.0.trees
  one_row done h =
      let is : with_rowid Chosen (db (suc (first_tree l))) (cast_row (orders (suc (first_tree l))) (mended Replace (orders (suc (first_tree l))) (note_source c))) ≡ new = ap (with_rowid Chosen (db (suc (first_tree l)))) (cast_order (suc (first_tree l)) (pos c.order) (pos (code c.status))) in
      let it = went (subst (λ r. Then (Tries task Replace [] r db) (λ one. TriesEach task Replace [] [] (higher (pos 0) r) (joined (nothing db) one)) (Ok done)) is h) in
      let left = tried it.0 it.1 in
      let same : done.0.trees ≡ it.0.trees = ap (λ (p : Written × ℤ). p.0.trees) (same_value it.2) in
      subst (Notes l commands c db) (sym same) left

pub notes : (old last : State) (l : ServiceLayout) (commands : List Accepted) (c : Accepted) (count : ℕ) → old.now.schema ≡ (schema_in_layout l) → AreOrders (old.now.trees (suc (first_tree l))) commands
    → Executes note_text (note_params c) old last (Ok count) → (last.now.schema ≡ (schema_in_layout l)) × Notes l commands c old.now.trees last.now.trees
unfolding unary
notes old last l commands c count has olds h =
    let params = note_params c in
    let db = old.now.trees in
    let command = InsertOr (suc (first_table l)) Replace (Values note_terms 3) [] in
    let w = runs_as note_text params old last (schema_in_layout l) has command (note_is l).0 (note_is l).1 count h in
    let text = statement_of note_text (understood (schema_in_layout l) note_text) in
    let does = subst (λ s. Does old.step_limit (mode_of old) params (record old.now { schema = s }) text None command (Ok (w.tally, last.now))) has w.changed in
    let done = went (subst (λ o. AtPlace (λ table. OnRows (record { limit = old.step_limit; keys = (mode_of old).keys; schema = schema_in_layout l; table = table; params = params }) (mode_of old) None command db) o (Ok (w.tally, last.now))) (orders_listed l) does) in
    let end = same_value (went (went done.2).2).2 in
    let given = went done.1 in
    let counter = went given.2 in
    let each = went counter.2 in
    let counted = went each.2 in
    let none = same_value counter.1 in
    let left = one_row l old.step_limit (mode_of old).keys params db commands c olds each.0
    (subst (λ k. TriesEach (task l old.step_limit (mode_of old).keys params db commands c olds) Replace [] (note_source c ∷ []) (count_of k) (nothing db) (Ok each.0)) none
    (subst (λ rows. TriesEach (task l old.step_limit (mode_of old).keys params db commands c olds) Replace [] rows (count_of counter.0) (nothing db) (Ok each.0)) given.1.1 each.1)) in
    let trees : done.0.trees ≡ each.0.0.trees = ap (λ (it : Written). it.trees) (same_value counted.2) ∙ same_value counted.1 in (
      ap (λ (p : Tally × Database). p.1.schema) end,
      subst (Notes l commands c db) (sym (ap (λ (p : Tally × Database). p.1.trees) end ∙ trees)) left,
    )
