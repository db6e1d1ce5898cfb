-- What an INSERT does: of the row of `service`, and of a row of `outbox`.
use Rattle.std.proofs.Common.{◌≡◌, ℕ, suc, pos, List, [], ◌∷◌, Bool, true, false, not, ◌&&◌, None, Ok, refl, sym, ap, subst, ◌∙◌, arith, IsPermutation}
use Rattle.sqlite_value.specs.declared.value.Value.TheVariants.{Int, Text as Words}
use Rattle.sqlite_value.specs.Order.{Row}
use Rattle.sqlite_trees.specs.Tree.{Trees, put_row}
use Rattle.sqlite_sql.specs.Ops.{unary}
use Rattle.sqlite_schema.specs.declared.command.Source.TheVariants.{Values}
use Rattle.sqlite_schema.specs.declared.command.Command.TheVariants.{Insert}
use Rattle.sqlite_rules.specs.declared.error.Rowids.TheVariants.{Chosen}
use Rattle.sqlite_rules.specs.Edit.{edit_of, is_taken, taken_by, with_rowid}
use Rattle.sqlite.specs.Effect.{Database, IsDatabase}
use Rattle.sqlite.specs.Rows.{Written, Task, Edited, count_of, rowids_for}
use Rattle.sqlite.specs.Does.{Tally, Does, AtPlace, OnRows}
use Rattle.sqlite.specs.State.{State, mode_of, Executes}
use Rattle.sqlite.specs.Listing.{understood}
use Rattle.sqlite.proofs.Callers.{statement_of, runs_as, one_step}
use Rattle.outbox.specs.Order.{Accepted}
use Rattle.database_layout.specs.Tables.{service, outbox}
use Rattle.database_layout.specs.Beside.{HasAnyInbox}
use Rattle.database_layout.specs.Layout.{inbox_tree}
use Rattle.outbox.specs.Layout.{schema_in_layout, first_tree}
use Rattle.outbox.specs.Service.{code, service_row, outbox_row}
use Rattle.outbox.specs.Layout.{ServiceLayout}
use Rattle.outbox.proofs.StepLemmas.{went, same_value, put_new}
use Rattle.outbox.proofs.PutLemmas.{cast_outbox, cast_service}
use Rattle.outbox.proofs.LayoutLemmas.{service_listed, outbox_listed, no_works, no_index_0, no_index_1, no_index_2, apart, apart_first}
use Rattle.outbox.proofs.TextLemmas.{first_table, found_text, found_is, found_terms, append_text, append_is, append_terms}

not_true : (b : Bool) → (not b && true) ≡ true → b ≡ false
not_true true h = absurd (cc)
not_true false h = refl

-- the trees after a row was appended
pub record Appends (l : ServiceLayout) (number : ℕ) (c : Accepted) (db next : Trees) : Type 0 where
  pub outbox : IsPermutation (outbox_row number c ∷ db (suc (suc (first_tree l)))) (next (suc (suc (first_tree l))))
  pub service : next (first_tree l) ≡ db (first_tree l)
  pub orders : next (suc (first_tree l)) ≡ db (suc (first_tree l))
  pub beside : HasAnyInbox l.0 → next (inbox_tree l.0) ≡ db (inbox_tree l.0)

-- the trees after the row of `service` was put in
pub record Founds (l : ServiceLayout) (source : List ℕ) (base : ℕ) (db next : Trees) : Type 0 where
  pub service : IsPermutation (service_row source base ∷ db (first_tree l)) (next (first_tree l))
  pub orders : next (suc (first_tree l)) ≡ db (suc (first_tree l))
  pub outbox : next (suc (suc (first_tree l))) ≡ db (suc (suc (first_tree l)))
  pub beside : HasAnyInbox l.0 → next (inbox_tree l.0) ≡ db (inbox_tree l.0)

abbrev pub append_params : ℕ → Accepted → Row
append_params number c = Int (pos number) ∷ Int (pos (code c.status)) ∷ Int (pos c.order) ∷ Words c.at ∷ []

abbrev pub found_params : List ℕ → ℕ → Row
found_params source base = Int (pos 1) ∷ Words source ∷ Int (pos base) ∷ []

pub appends : (old last : State) (l : ServiceLayout) (number : ℕ) (c : Accepted) (count : ℕ) → old.now.schema ≡ schema_in_layout l
    → Executes append_text (append_params number c) old last (Ok count) → (last.now.schema ≡ schema_in_layout l) × Appends l number c old.now.trees last.now.trees × IsDatabase last.now
unfolding unary
appends old last l number c count has h =
    let params = (append_params number c) in
    let db = old.now.trees in
    let tree = suc (suc (first_tree l)) in
    let table = outbox tree in
    let schema = schema_in_layout l in
    let command = Insert (suc (suc (first_table l))) (Values append_terms 5) in
    let keys = (mode_of old).keys in
    let new = outbox_row number c in
    let w = runs_as append_text params old last schema has command (append_is l).0 (append_is l).1 count h in
    let text = statement_of append_text (understood schema append_text) in
    let task : Task = record { limit = old.step_limit; keys = keys; schema = schema; table = table; params = params } in
    let does = subst (λ s. Does old.step_limit (mode_of old) params (record old.now { schema = s }) text None command (Ok (w.tally, last.now))) has w.changed in
    let done = went (subst (λ o. AtPlace (λ table. OnRows (record { limit = old.step_limit; keys = keys; schema = schema; table = table; params = params }) (mode_of old) None command db) o (Ok (w.tally, last.now))) (outbox_listed l) does) in
    let end = same_value (went (went done.2).2).2 in
    let given = went done.1 in
    let counter = went given.2 in
    let wrote = went counter.2 in
    let counted = went wrote.2 in
    let edit = edit_of db table [] Chosen 0 (new ∷ []) in
    let none = same_value counter.1 in
    let mid = subst (λ k. Edited schema keys db (edit_of db table [] (rowids_for table (count_of k)) 0 (new ∷ [])) (Ok wrote.0)) none
    (subst (λ rows. Edited schema keys db (edit_of db table [] (rowids_for table (count_of counter.0)) 0 rows) (Ok wrote.0)) given.1.1 wrote.1) in
    let step = one_step schema keys db wrote.0 edit (no_works l keys tree (taken_by db edit) edit.news) mid in
    let cast = cast_outbox tree (pos number) (pos (code c.status)) (pos c.order) c.at in
    let rows : wrote.0 tree ≡ put_row new (db tree) = step.rows ∙ ap (λ r. put_row (with_rowid Chosen (db tree) r) (db tree)) cast in
    let free : is_taken (db tree) new ≡ false = not_true _ (subst (λ r. (not (is_taken (db tree) (with_rowid Chosen (db tree) r)) && true) ≡ true) cast step.fresh) in
    let trees : last.now.trees ≡ wrote.0 = ap (λ (p : Tally × Database). p.1.trees) end ∙ ap (λ (it : Written). it.trees) (same_value counted.2) ∙ same_value counted.1 in
    let put : IsPermutation (new ∷ db tree) (last.now.trees tree) = subst (IsPermutation (new ∷ db tree)) (sym (ap (λ (t : Trees). t tree) trees ∙ rows)) (put_new new (db tree) free) in (
      ap (λ (p : Tally × Database). p.1.schema) end,
      record { outbox = put; service = ap (λ (t : Trees). t (first_tree l)) trees ∙ step.others (first_tree l) (λ e. absurd (omega (arith, e))) (no_index_0 l); orders = ap (λ (t : Trees). t (suc (first_tree l))) trees ∙ step.others (suc (first_tree l)) (λ e. absurd (omega (arith, e))) (no_index_1 l); beside = λ has. let away = apart l has in ap (λ (t : Trees). t (inbox_tree l.0)) trees ∙ step.others (inbox_tree l.0) away.1 away.2 },
      w.sound,
    )

pub founds : (old last : State) (l : ServiceLayout) (source : List ℕ) (base : ℕ) (count : ℕ) → old.now.schema ≡ schema_in_layout l
    → Executes found_text (found_params source base) old last (Ok count) → (last.now.schema ≡ schema_in_layout l) × Founds l source base old.now.trees last.now.trees × IsDatabase last.now
unfolding unary
founds old last l source base count has h =
    let params = (found_params source base) in
    let db = old.now.trees in
    let tree = first_tree l in
    let table = service tree in
    let schema = schema_in_layout l in
    let command = Insert (first_table l) (Values found_terms 4) in
    let keys = (mode_of old).keys in
    let new = service_row source base in
    let w = runs_as found_text params old last schema has command (found_is l).0 (found_is l).1 count h in
    let text = statement_of found_text (understood schema found_text) in
    let task : Task = record { limit = old.step_limit; keys = keys; schema = schema; table = table; params = params } in
    let does = subst (λ s. Does old.step_limit (mode_of old) params (record old.now { schema = s }) text None command (Ok (w.tally, last.now))) has w.changed in
    let done = went (subst (λ o. AtPlace (λ table. OnRows (record { limit = old.step_limit; keys = keys; schema = schema; table = table; params = params }) (mode_of old) None command db) o (Ok (w.tally, last.now))) (service_listed l) does) in
    let end = same_value (went (went done.2).2).2 in
    let given = went done.1 in
    let counter = went given.2 in
    let wrote = went counter.2 in
    let counted = went wrote.2 in
    let edit = edit_of db table [] Chosen 0 (new ∷ []) in
    let none = same_value counter.1 in
    let mid = subst (λ k. Edited schema keys db (edit_of db table [] (rowids_for table (count_of k)) 0 (new ∷ [])) (Ok wrote.0)) none
    (subst (λ rows. Edited schema keys db (edit_of db table [] (rowids_for table (count_of counter.0)) 0 rows) (Ok wrote.0)) given.1.1 wrote.1) in
    let step = one_step schema keys db wrote.0 edit (no_works l keys tree (taken_by db edit) edit.news) mid in
    let cast = cast_service tree (pos 1) (pos base) source in
    let rows : wrote.0 tree ≡ put_row new (db tree) = step.rows ∙ ap (λ r. put_row (with_rowid Chosen (db tree) r) (db tree)) cast in
    let free : is_taken (db tree) new ≡ false = not_true _ (subst (λ r. (not (is_taken (db tree) (with_rowid Chosen (db tree) r)) && true) ≡ true) cast step.fresh) in
    let trees : last.now.trees ≡ wrote.0 = ap (λ (p : Tally × Database). p.1.trees) end ∙ ap (λ (it : Written). it.trees) (same_value counted.2) ∙ same_value counted.1 in
    let put : IsPermutation (new ∷ db tree) (last.now.trees tree) = subst (IsPermutation (new ∷ db tree)) (sym (ap (λ (t : Trees). t tree) trees ∙ rows)) (put_new new (db tree) free) in (
      ap (λ (p : Tally × Database). p.1.schema) end,
      record { service = put; orders = ap (λ (t : Trees). t (suc (first_tree l))) trees ∙ step.others (suc (first_tree l)) (λ e. absurd (omega (arith, e))) (no_index_1 l); outbox = ap (λ (t : Trees). t (suc (suc (first_tree l)))) trees ∙ step.others (suc (suc (first_tree l))) (λ e. absurd (omega (arith, e))) (no_index_2 l); beside = λ has. let away = apart l has in ap (λ (t : Trees). t (inbox_tree l.0)) trees ∙ step.others (inbox_tree l.0) (apart_first l has) away.2 },
      w.sound,
    )
