-- What one INSERT does.
use Rattle.std.proofs.Common.{◌≡◌, ◌⊎◌, inl, inr, ℕ, suc, ◌+◌, pos, ℤ, length, List, [], ◌∷◌, ◌++◌, Bool, true, false, if◌then◌else◌, unwrap_or, nat_lt, not, ◌&&◌, Option, Some, None, map, drop, take, zero, ◌-◌, ◌≤◌, ◌<◌, slice_get, add-one, ◌/◌, append_assoc, append-nil, Ok, Err, Result, IfOk, IsTrue, OnErr, refl, sym, ap, subst, ◌∙◌, arith, length-append, IsPermutation}
use Rattle.std.proofs.lemmas.Bool.{cases_Bool}
use Rattle.std.proofs.lemmas.List.{take-append-drop}
use Rattle.std.proofs.lemmas.List.Sorted.{IsPermutation-trans, IsPermutation-sym}
use Rattle.sqlite_value.specs.Order.{Row}
use Rattle.sqlite_trees.specs.Tree.{Trees, put_row}
use Rattle.sqlite_sql.specs.Ops.{unary}
use Rattle.sqlite_sql.specs.Term.{Term}
use Rattle.sqlite_schema.specs.declared.schema.Keys.{Keys}
use Rattle.sqlite_schema.specs.declared.schema.Table.{Table}
use Rattle.sqlite_schema.specs.declared.command.Source.TheVariants.{Values}
use Rattle.sqlite_schema.specs.declared.command.Conflict.TheVariants.{Abort}
use Rattle.sqlite_schema.specs.declared.command.Command.TheVariants.{Insert, InsertOr}
use Rattle.sqlite_rules.specs.declared.error.Rowids.TheVariants.{Chosen, Given}
use Rattle.sqlite_rules.specs.Cast.{cast_row}
use Rattle.sqlite_rules.specs.Edit.{are_fresh, edit_of, is_taken, numbered, put_all, taken_by, with_rowid}
use Rattle.sqlite_schema.specs.declared.schema.Constraint.{Constraint}
use Rattle.sqlite_trees.specs.declared.error.StoreError.{StoreError}
use Rattle.sqlite_trees.specs.declared.error.StoreError.TheVariants.{OutOfMemory, Io, Corrupt, Full, Broken, Unstorable}
use Rattle.sqlite.specs.declared.error.ErrorCode.TheVariants as code
use Rattle.sqlite.specs.declared.error.Error.{Error}
use Rattle.sqlite.specs.declared.error.Error.TheVariants.{SqliteFailure}
use Rattle.sqlite.specs.Clock.{timed}
use Rattle.sqlite.specs.Effect.{Database, IsDatabase, value_rows}
use Rattle.sqlite.specs.Given.{IsPlain}
use Rattle.sqlite.specs.Rows.{Edited, Written, Task, Then, nothing, joined, higher, count_of, Puts, Clears, Upserts, Tries, TriesEach}
use Rattle.sqlite.specs.Does.{Tally, Does, AtPlace, OnRows}
use Rattle.sqlite.specs.State.{State, mode_of, store_error, IsUnchanged, KeepsCommit, Executes, ExecutesIn, ExecutesInside, IsNotRun, RunsCommand, shows_rows}
use Rattle.sqlite.specs.Listing.{understood}
use Rattle.sqlite.proofs.InsideLemmas.{keeps_then}
use Rattle.sqlite.proofs.Callers.{command_of, statement_of, runs_as, one_step}
use Rattle.attributes.specs.Event.{EventValue}
use Rattle.inbox.specs.KeyOrder.{key_cmp}
use Rattle.inbox.specs.Ordered.{append_new, has}
use Rattle.database_layout.specs.Tables.{inbox2}
use Rattle.inbox_table.specs.Rows.{AreNumbered, IsNumbered, row_of, rows_from}
use Rattle.inbox_table.specs.declared.version.Version.TheVariants.{Two}
use Rattle.inbox_table.specs.steps.Turns.{Home, IsFilled, IsHome, KeepsOthers, Puts as PutsEvent, PutsGroup, RunsGroup, IsKeeping, params_from, params_of, schema_at, tree_at}
use Rattle.inbox_table.proofs.HomeLemmas.{listed, one_index, others_same, works_none}
use Rattle.inbox_table.proofs.TextLemmas.{clauses, group_terms, index_of, insert_group_is, insert_group_text, insert_new_is, insert_new_text, insert_text, insert_is, terms}
use Rattle.inbox_table.proofs.EventLemmas.{append_twice, numbered_more, once_more}
use Rattle.inbox_table.proofs.OnceLemmas.{once_at}
use Rattle.inbox_table.proofs.RowLemmas.{cast_stored, has_permuted, none_there, put_behind, put_new, some_there}

-- a part that gave a value did not stop on the way
went : {B E R : Type 0} {b : B} {Stops : E → Type 0} → ((stop : E) × Stops stop × (Ok b ≡ Err stop)) ⊎ R → R
went (inl stopped) = absurd (let e = stopped.2 in cc)
went (inr on) = on

same_value : {B E : Type 0} {a b : B} → ◌≡◌ {A = Result B E} (Ok a) (Ok b) → a ≡ b
same_value e = cc

abbrev one_if : Bool → ℕ
one_if there = if there then 0 else 1

-- what a row that is tried leaves
pub record Leaves (h : Home) (events : List EventValue) (e : EventValue) (db : Trees) (one : Written) : Type 0 where
  pub rows : IsPermutation (rows_from Two 1 (append_new key_cmp events (e ∷ []))) (one.trees (tree_at h))
  pub count : length one.rows ≡ one_if (has key_cmp events e)
  pub others : KeepsOthers (schema_at h).tables (tree_at h) db one.trees

not_true : (b : Bool) → (not b && true) ≡ true → b ≡ false
not_true true h = absurd (cc)
not_true false h = refl

module _ (h : Home) (home : IsHome h) (limit : Option ℕ) (keys : Keys) (params : Row) (db : Trees) (events : List EventValue) (holds : IsPermutation (rows_from Two 1 events) (db (tree_at h))) (e : EventValue) where
  abbrev task : Task
  task = record { limit = limit; keys = keys; schema = schema_at h; table = inbox2 (tree_at h); params = params }

  abbrev new : Row
  new = row_of Two (suc (length events)) e

  abbrev now : Trees → List Row
  now t = t (tree_at h)

  put : (one : Written) → has key_cmp events e ≡ false → Puts task new db (Ok one) → Leaves h events e db one
  put one none p =
      let it = went p in
      let edit = edit_of db (inbox2 (tree_at h)) [] Given 0 (new ∷ []) in
      let step = one_step (schema_at h) keys db it.0 edit (works_none h home keys (taken_by db edit) edit.news) it.1 in
      let cast = cast_stored (tree_at h) (suc (length events)) e in
      let row : now it.0 ≡ put_row new (now db) = step.rows ∙ ap (λ r. put_row r (now db)) cast in
      let free : is_taken (now db) new ≡ false = not_true _ (subst (λ r. (not (is_taken (now db) r) && true) ≡ true) cast step.fresh) in
      let trees : one.trees ≡ it.0 = ap (λ (w : Written). w.trees) (same_value it.2) in
      let all : now one.trees ≡ put_row new (now db) = ap now trees ∙ row in
      record {
        rows = subst (λ b. IsPermutation (rows_from Two 1 (if b then events else events ++ e ∷ [])) (now one.trees)) (sym none)
            (subst (IsPermutation (rows_from Two 1 (events ++ e ∷ []))) (sym all) (IsPermutation-trans _ _ _ (put_behind events e (now db) holds) (put_new new (now db) free)));
        count = ap (λ (w : Written). length w.rows) (same_value it.2) ∙ ap one_if (sym none);
        others = subst (KeepsOthers (schema_at h).tables (tree_at h) db) (sym trees) step.tables;
      }

  cleared : (one : Written) (found : List Row) → has key_cmp events e ≡ false → Clears task Abort new db found (Ok one) → Leaves h events e db one
  cleared one [] none p = put one none p
  cleared one (x ∷ more) none p = put one none p

  passed : (one : Written) → has key_cmp events e ≡ true → one ≡ nothing db → Leaves h events e db one
  passed one there is = record {
    rows = subst (λ b. IsPermutation (rows_from Two 1 (if b then events else events ++ e ∷ [])) (now one.trees)) (sym there) (subst (IsPermutation (rows_from Two 1 events)) (sym (ap (λ (w : Written). now w.trees) is)) holds);
    count = ap (λ (w : Written). length w.rows) is ∙ ap one_if (sym there);
    others = subst (KeepsOthers (schema_at h).tables (tree_at h) db) (sym (ap (λ (w : Written). w.trees) is)) (others_same (schema_at h).tables (tree_at h) db);
  }

  upserted : (one : Written) → Upserts task Abort new db clauses (Ok one) → Leaves h events e db one
  upserted one ([], real, more) =
      cleared one more.0 (none_there (tree_at h) 1 (suc (length events)) events e (λ r p hit. absurd (real.complete r (has_permuted _ _ holds r p) (one_index h home new r ∙ hit)))) more.2
  upserted one (x ∷ others, real, same) =
      let s = real.sound x (inl refl) in
      passed one (some_there (tree_at h) 1 (suc (length events)) events e (omega arith) s.0 (has_permuted _ _ (IsPermutation-sym _ _ holds) s.0 s.1) (sym (one_index h home new s.0) ∙ s.2)) (same_value same)

  pub tried : (one : Written) → Tries task Abort clauses new db (Ok one) → Leaves h events e db one
  tried one (inl big) = absurd (let b = big.1 in cc)
  tried one (inr (None, judged, p)) = upserted one p
  tried one (inr (Some why, judged, p)) = absurd (let b = p in cc)

  one_row : (done : Written × ℤ) → TriesEach task Abort clauses (new ∷ []) (pos 0) (nothing db) (Ok done) → Leaves h events e db done.0
  one_row done p =
      let is : with_rowid Chosen (now db) (cast_row (inbox2 (tree_at h)) new) ≡ new = ap (with_rowid Chosen (now db)) (cast_stored (tree_at h) (suc (length events)) e) in
      let it = went (subst (λ r. Then (Tries task Abort clauses r db) (λ one. TriesEach task Abort clauses [] (higher (pos 0) r) (joined (nothing db) one)) (Ok done)) is p) in
      let left = tried it.0 it.1 in
      let same = ap (λ (p : Written × ℤ). p.0) (same_value it.2) in
      let trees = ap (λ (w : Written). w.trees) same in
      record {
        rows = subst (IsPermutation (rows_from Two 1 (append_new key_cmp events (e ∷ [])))) (sym (ap now trees)) left.rows;
        count = ap (λ (w : Written). length w.rows) same ∙ left.count;
        others = subst (KeepsOthers (schema_at h).tables (tree_at h) db) (sym trees) left.others;
      }

-- what the statement leaves
pub record Inserted (h : Home) (events : List EventValue) (e : EventValue) (old new : Database) (count : ℕ) : Type 0 where
  pub table : IsFilled h new (append_new key_cmp events (e ∷ []))
  pub counted : count ≡ one_if (has key_cmp events e)
  pub others : KeepsOthers (schema_at h).tables (tree_at h) old.trees new.trees

pub inserts : (old last : State) (h : Home) (events : List EventValue) (e : EventValue) (count : ℕ) → IsNumbered e → IsFilled h old.now events → Executes insert_text (params_of (suc (length events)) e) old last (Ok count) → Inserted h events e old.now last.now count
unfolding unary
inserts old last h events e count numbered box x =
    let params = params_of (suc (length events)) e in
    let db = old.now.trees in
    let limit = old.step_limit in
    let keys = (mode_of old).keys in
    let command = InsertOr (index_of h) Abort (Values terms 7) clauses in
    let is = insert_is h box.home in
    let w = runs_as insert_text params old last (schema_at h) box.schema command is.0 is.1 count x in
    let t : Task = task h box.home limit keys params db events box.rows e in
    let does = subst (λ s. Does limit (mode_of old) params (record old.now { schema = s }) (statement_of insert_text (understood (schema_at h) insert_text)) None command (Ok (w.tally, last.now))) box.schema w.changed in
    let done = went (subst (λ o. AtPlace (λ (table : Table). OnRows (record { limit = limit; keys = keys; schema = schema_at h; table = table; params = params }) (mode_of old) None command db) o (Ok (w.tally, last.now))) (listed h box.home) does) in
    let end = same_value (went (went done.2).2).2 in
    let given = went done.1 in
    let counter = went given.2 in
    let each = went counter.2 in
    let counted = went each.2 in
    let none = same_value counter.1 in
    let left = one_row h box.home limit keys params db events box.rows e each.0
    (subst (λ c. TriesEach t Abort clauses (row_of Two (suc (length events)) e ∷ []) (count_of c) (nothing db) (Ok each.0)) none
    (subst (λ rows. TriesEach t Abort clauses rows (count_of counter.0) (nothing db) (Ok each.0)) given.1.1 each.1)) in
    let rows : done.0.rows ≡ each.0.0.rows = ap (λ (it : Written). it.rows) (same_value counted.2) in
    let trees : last.now.trees ≡ each.0.0.trees = ap (λ (p : Tally × Database). p.1.trees) end ∙ ap (λ (it : Written). it.trees) (same_value counted.2) ∙ same_value counted.1 in
    let schema : last.now.schema ≡ schema_at h = ap (λ (p : Tally × Database). p.1.schema) end in
    record {
      table = kept (has key_cmp events e) refl schema (subst (IsPermutation (rows_from Two 1 (append_new key_cmp events (e ∷ [])))) (sym (ap (λ (x : Trees). x (tree_at h)) trees)) left.rows);
      counted = w.counted ∙ ap (λ (p : Tally × Database). unwrap_or p.0.rows 0) end ∙ ap length rows ∙ left.count;
      others = subst (KeepsOthers (schema_at h).tables (tree_at h) db) (sym trees) left.others;
    }
  where
    kept : (there : Bool) → has key_cmp events e ≡ there → last.now.schema ≡ schema_at h → IsPermutation (rows_from Two 1 (append_new key_cmp events (e ∷ []))) (last.now.trees (tree_at h))
        → IsFilled h last.now (append_new key_cmp events (e ∷ []))
    kept true is has rows = rw is (record { home = box.home; schema = has; rows = rw is at rows; numbered = box.numbered; once = box.once })
    kept false is has rows = rw is (record { home = box.home; schema = has; rows = rw is at rows; numbered = numbered_more events e box.numbered numbered; once = once_more events e box.once is })

-- ---- INSERT of new events

-- rows with places of their own are put as they are
numbered_is : (tree p : ℕ) (L : List EventValue) (rows : List Row) → numbered Chosen rows (map (λ s. cast_row (inbox2 tree) (drop 0 s)) (rows_from Two p L)) ≡ rows_from Two p L
numbered_is tree p [] rows = refl
numbered_is tree p (e ∷ L) rows =
    let cast = cast_stored tree p e in
    let new = row_of Two p e in
    ap (λ r. with_rowid Chosen rows r ∷ numbered Chosen (put_row (with_rowid Chosen rows r) rows) (map (λ s. cast_row (inbox2 tree) (drop 0 s)) (rows_from Two (suc p) L))) cast
    ∙ ap (λ more. new ∷ more) (numbered_is tree (suc p) L (put_row new rows))

split_and : (a b : Bool) → (a && b) ≡ true → (a ≡ true) × (b ≡ true)
split_and true true h = (refl, refl)
split_and true false h = absurd (cc)
split_and false b h = absurd (cc)

not_true_is : (b : Bool) → not b ≡ true → b ≡ false
not_true_is true h = absurd (cc)
not_true_is false h = refl

-- rows behind the last, put where their places are free
put_each_behind : (L events : List EventValue) (rows : List Row) → IsPermutation (rows_from Two 1 events) rows → are_fresh rows (rows_from Two (suc (length events)) L) ≡ true
    → IsPermutation (rows_from Two 1 (events ++ L)) (put_all rows (rows_from Two (suc (length events)) L))
put_each_behind [] events rows same fresh = subst (λ l. IsPermutation (rows_from Two 1 l) rows) (sym (append-nil events)) same
put_each_behind (e ∷ L) events rows same fresh =
    let new = row_of Two (suc (length events)) e in
    let both = split_and _ _ fresh in
    let one = IsPermutation-trans _ _ _ (put_behind events e rows same) (put_new new rows (not_true_is _ both.0)) in
    let len : length (events ++ e ∷ []) ≡ suc (length events) = omega (arith, length-append events (e ∷ [])) in
    let rest = put_each_behind L (events ++ e ∷ []) (put_row new rows) one (subst (λ n. are_fresh (put_row new rows) (rows_from Two (suc n) L) ≡ true) (sym len) both.1) in
    subst (λ l. IsPermutation (rows_from Two 1 l) (put_all (put_row new rows) (rows_from Two (suc (suc (length events))) L))) (append_assoc events (e ∷ []) L)
    (subst (λ n. IsPermutation (rows_from Two 1 ((events ++ e ∷ []) ++ L)) (put_all (put_row new rows) (rows_from Two (suc n) L))) len rest)

pub numbered_all : (events L : List EventValue) → AreNumbered events → AreNumbered L → AreNumbered (events ++ L)
numbered_all [] L a b = b
numbered_all (x ∷ events) L a b = (a.0, numbered_all events L a.1 b)

-- what an INSERT of new events leaves
pub record InsertedAll (h : Home) (events L : List EventValue) (old new : Database) : Type 0 where
  pub table : IsFilled h new (events ++ L)
  pub all_new : append_new key_cmp events L ≡ events ++ L
  pub others : KeepsOthers (schema_at h).tables (tree_at h) old.trees new.trees
  pub sound : IsDatabase new

-- the rows that the values spell are those of these events behind the last
abbrev SpellsRows : List Term → Row → ℕ → List EventValue → Type 0
SpellsRows values params place L = value_rows params 7 (length values / 7) values ≡ rows_from Two place L

inserts_all : (sql : List ℕ) (values : List Term) (params : Row) (old last : State) (h : Home) (events L : List EventValue) (count : ℕ) → command_of (understood (schema_at h) sql) ≡ Insert (index_of h) (Values values 7) → IsPlain (understood (schema_at h) sql)
    → SpellsRows values params (suc (length events)) L → AreNumbered L → IsFilled h old.now events → Executes sql params old last (Ok count) → InsertedAll h events L old.now last.now
inserts_all sql values params old last h events L count is plain spells are box x =
    let db = old.now.trees in
    let keys = (mode_of old).keys in
    let table = inbox2 (tree_at h) in
    let now : Trees → List Row = λ t. t (tree_at h) in
    let news = rows_from Two (suc (length events)) L in
    let command = Insert (index_of h) (Values values 7) in
    let w = runs_as sql params old last (schema_at h) box.schema command is plain count x in
    let does = subst (λ s. Does old.step_limit (mode_of old) params (record old.now { schema = s }) (statement_of sql (understood (schema_at h) sql)) None command (Ok (w.tally, last.now))) box.schema w.changed in
    let done = went (subst (λ o. AtPlace (λ (t : Table). OnRows (record { limit = old.step_limit; keys = keys; schema = schema_at h; table = t; params = params }) (mode_of old) None command db) o (Ok (w.tally, last.now))) (listed h box.home) does) in
    let end = same_value (went (went done.2).2).2 in
    let given = went done.1 in
    let counter = went given.2 in
    let edited = went counter.2 in
    let counted = went edited.2 in
    let edit = edit_of db table [] Chosen 0 news in
    let put = subst (λ rows. Edited (schema_at h) keys db (edit_of db table [] Chosen 0 rows) (Ok edited.0)) (given.1.1 ∙ ap (λ ps. value_rows ps 7 (length values / 7) values) (append-nil params) ∙ spells) edited.1 in
    let step = one_step (schema_at h) keys db edited.0 edit (works_none h box.home keys (taken_by db edit) edit.news) put in
    let same = numbered_is (tree_at h) (suc (length events)) L (now db) in
    let row : now edited.0 ≡ put_all (now db) news = step.rows ∙ ap (put_all (now db)) same in
    let free : are_fresh (now db) news ≡ true = subst (λ rs. are_fresh (now db) rs ≡ true) same step.fresh in
    let trees : last.now.trees ≡ edited.0 = ap (λ (p : Tally × Database). p.1.trees) end ∙ ap (λ (it : Written). it.trees) (same_value counted.2) ∙ same_value counted.1 in
    let schema : last.now.schema ≡ schema_at h = ap (λ (p : Tally × Database). p.1.schema) end in
    let rows : IsPermutation (rows_from Two 1 (events ++ L)) (now last.now.trees) = subst (IsPermutation (rows_from Two 1 (events ++ L))) (sym (ap now trees ∙ row)) (put_each_behind L events (now db) box.rows free) in
    let once = once_at h box.home last.now (events ++ L) schema w.sound rows in
    record {
      table = record { home = box.home; schema = schema; rows = rows; numbered = numbered_all events L box.numbered are; once = once };
      all_new = sym (append_twice [] events L ∙ ap (λ A. append_new key_cmp A L) box.once) ∙ once;
      others = subst (KeepsOthers (schema_at h).tables (tree_at h) db) (sym trees) step.tables;
      sound = w.sound;
    }

-- an event behind a list that still has each once wasn't in it
not_there : (events : List EventValue) (e : EventValue) → append_new key_cmp events (e ∷ []) ≡ events ++ e ∷ [] → has key_cmp events e ≡ false
not_there events e both = go (has key_cmp events e) both
  where
    go : (there : Bool) → (if there then events else events ++ e ∷ []) ≡ events ++ e ∷ [] → there ≡ false
    go true is = absurd (omega (arith, ap length is, length-append events (e ∷ [])))
    go false is = refl

above_none : (there : Bool) (count : ℕ) → count ≡ one_if there → nat_lt 0 count ≡ not there
above_none true count h = rw h refl
above_none false count h = rw h refl

-- a statement that was run leaves a database that keeps its rules
sound_after : (old last : State) (count : ℕ) (h : Home) (events : List EventValue) (params : Row) → IsFilled h old.now events → Executes insert_text params old last (Ok count) → IsDatabase last.now
sound_after old last count h events params box x =
    let is = insert_is h box.home in
    (runs_as insert_text params old last (schema_at h) box.schema (InsertOr (index_of h) Abort (Values terms 7) clauses) is.0 is.1 count x).sound

pub puts_new_inside : (old last : State) (place : ℕ) (e : EventValue) (count : ℕ) → IsNumbered e → ExecutesInside 0 insert_new_text (params_of place e) old last (Ok count) → PutsEvent place e old last true
puts_new_inside old last place e count numbered x = record {
  table = λ h events box next.
      let it = inserted h events box next in
      (subst (IsFilled h last.now) (sym it.all_new) it.table, sym (ap not (not_there events e it.all_new)), it.others);
  sound = λ h events box. sound_after h events box;
  was_open = x.1.was_open;
  committed = x.1.committed_is;
  mode = x.1.mode;
}
  where
    inserted : (h : Home) (events : List EventValue) → IsFilled h old.now events → place ≡ suc (length events) → InsertedAll h events (e ∷ []) old.now last.now
    inserted h events box next =
        let is = insert_new_is h box.home in
        inserts_all insert_new_text terms (params_of (suc (length events)) e) old last h events (e ∷ []) count is.0 is.1 refl (numbered, tt) box (subst (λ n. Executes insert_new_text (params_of n e) old last (Ok count)) next x.0)

    sound_after : (h : Home) (events : List EventValue) → IsFilled h old.now events → IsDatabase last.now
    sound_after h events box =
        let is = insert_new_is h box.home in
        (runs_as insert_new_text (params_of place e) old last (schema_at h) box.schema (Insert (index_of h) (Values terms 7)) is.0 is.1 count x.0).sound

-- ---- parts of a list

pub take_next : {X : Type 0} (L : List X) (i : ℕ) (x : X) → slice_get L i ≡ Some x → take (suc i) L ≡ take i L ++ x ∷ []
take_next [] i x is = absurd (cc)
take_next (y ∷ L) zero x is = (let same : y ≡ x = cc in ap (λ z. z ∷ []) same)
take_next (y ∷ L) (suc i) x is = ap (λ l. y ∷ l) (take_next L i x is)

pub behind : {X : Type 0} (L : List X) (from i : ℕ) → slice_get (drop from L) i ≡ slice_get L (from + i)
behind L zero i = ap (slice_get L) (let n : i ≡ 0 + i = omega arith in n)
behind [] (suc from) i = refl
behind (x ∷ L) (suc from) i = behind L from i ∙ ap (slice_get (x ∷ L)) (let n : suc (from + i) ≡ suc from + i = omega arith in n)

pub length_within : {X : Type 0} (L : List X) (i : ℕ) (x : X) → slice_get L i ≡ Some x → length (take i L) ≡ i
length_within [] i x is = absurd (cc)
length_within (y ∷ L) zero x is = refl
length_within (y ∷ L) (suc i) x is = ap suc (length_within L i x is)

pub params_more : (place : ℕ) (L : List EventValue) (e : EventValue) → params_from place (L ++ e ∷ []) ≡ params_from place L ++ params_of (place + length L) e
params_more place [] e = ap (λ n. params_of n e) (let n : place ≡ place + 0 = omega arith in n)
params_more place (x ∷ L) e =
    ap (λ ps. params_of place x ++ ps) (params_more (suc place) L e ∙ ap (λ n. params_from (suc place) L ++ params_of n e) (let n : suc place + length L ≡ place + suc (length L) = omega arith in n))
    ∙ sym (append_assoc (params_of place x) (params_from (suc place) L) (params_of (place + suc (length L)) e))

-- the values of one event more
pub params_next : (place from i : ℕ) (L : List EventValue) (e : EventValue) → slice_get L (from + i) ≡ Some e → params_from place (take (i + 1) (drop from L)) ≡ params_from place (take i (drop from L)) ++ params_of (place + i) e
params_next place from i L e is =
    let at = behind L from i ∙ is in
    rw add-one (ap (params_from place) (take_next (drop from L) i e at) ∙ params_more place (take i (drop from L)) e ∙ ap (λ n. params_from place (take i (drop from L)) ++ params_of (place + n) e) (length_within (drop from L) i e at))

pub numbered_next : (from i : ℕ) (L : List EventValue) (e : EventValue) → slice_get L (from + i) ≡ Some e → AreNumbered (take i (drop from L)) → IsNumbered e → AreNumbered (take (i + 1) (drop from L))
numbered_next from i L e is are one = rw add-one (subst AreNumbered (sym (take_next (drop from L) i e (behind L from i ∙ is))) (numbered_more (take i (drop from L)) e are one))

take_some : {X : Type 0} (n : ℕ) (L : List X) → n ≤ length L → length (take n L) ≡ n
take_some zero L low = refl
take_some (suc n) [] low = absurd (omega (arith, low))
take_some (suc n) (x ∷ L) low = ap suc (take_some n L (omega (arith, low)))

length_behind : {X : Type 0} (n : ℕ) (L : List X) → n ≤ length L → length (drop n L) + n ≡ length L
length_behind zero L low = omega arith
length_behind (suc n) [] low = absurd (omega (arith, low))
length_behind (suc n) (x ∷ L) low = let it = length_behind n L (omega (arith, low)) in omega (arith, it)

-- so many of a list from a place on
pub length_part : {X : Type 0} (n from : ℕ) (L : List X) → from + n ≤ length L → length (take n (drop from L)) ≡ n
length_part n from L low = let rest = length_behind from L (omega (arith, low)) in take_some n (drop from L) (omega (arith, low, rest))

pub get_taken : {X : Type 0} (n : ℕ) (L : List X) (i : ℕ) → i < n → slice_get (take n L) i ≡ slice_get L i
get_taken zero L i low = absurd (omega (arith, low))
get_taken (suc n) [] i low = refl
get_taken (suc n) (x ∷ L) zero low = refl
get_taken (suc n) (x ∷ L) (suc i) low = get_taken n L i (omega (arith, low))

pub get_part : {X : Type 0} (L : List X) (from to i : ℕ) (x : X) → from ≤ i → i < to → slice_get L i ≡ Some x → slice_get (take (to - from) (drop from L)) (i - from) ≡ Some x
get_part L from to i x low high is =
    get_taken (to - from) (drop from L) (i - from) (omega (arith, low, high)) ∙ behind L from (i - from) ∙ ap (slice_get L) (let n : from + (i - from) ≡ i = omega (arith, low) in n) ∙ is

pub part_and_rest : {X : Type 0} (L : List X) (from to : ℕ) → from ≤ to → to ≤ length L → drop from L ≡ take (to - from) (drop from L) ++ drop to L
part_and_rest L from to low high = sym (take-append-drop (to - from) (drop from L)) ∙ ap (λ l. take (to - from) (drop from L) ++ l) (drop_twice L from (to - from) ∙ ap (λ n. drop n L) (let n : from + (to - from) ≡ to = omega (arith, low) in n))
  where
    drop_none : {X : Type 0} (n : ℕ) → ◌≡◌ {A = List X} (drop n []) []
    drop_none zero = refl
    drop_none (suc n) = refl

    drop_twice : {X : Type 0} (L : List X) (a b : ℕ) → drop b (drop a L) ≡ drop (a + b) L
    drop_twice L zero b = ap (λ n. drop n L) (let n : b ≡ 0 + b = omega arith in n)
    drop_twice [] (suc a) b = drop_none b ∙ sym (drop_none (suc a + b))
    drop_twice (x ∷ L) (suc a) b = drop_twice L a b ∙ ap (λ n. drop n (x ∷ L)) (let n : suc (a + b) ≡ suc a + b = omega arith in n)

-- eight events
eight : (L : List EventValue) → length L ≡ 8
    → (a : EventValue) × (b : EventValue) × (c : EventValue) × (d : EventValue) × (e : EventValue) × (f : EventValue) × (g : EventValue) × (h : EventValue) × (L ≡ a ∷ b ∷ c ∷ d ∷ e ∷ f ∷ g ∷ h ∷ [])
eight (a ∷ b ∷ c ∷ d ∷ e ∷ f ∷ g ∷ h ∷ []) is = (a, b, c, d, e, f, g, h, refl)
eight [] is = absurd (omega (arith, is))
eight (a ∷ []) is = absurd (omega (arith, is))
eight (a ∷ b ∷ []) is = absurd (omega (arith, is))
eight (a ∷ b ∷ c ∷ []) is = absurd (omega (arith, is))
eight (a ∷ b ∷ c ∷ d ∷ []) is = absurd (omega (arith, is))
eight (a ∷ b ∷ c ∷ d ∷ e ∷ []) is = absurd (omega (arith, is))
eight (a ∷ b ∷ c ∷ d ∷ e ∷ f ∷ []) is = absurd (omega (arith, is))
eight (a ∷ b ∷ c ∷ d ∷ e ∷ f ∷ g ∷ []) is = absurd (omega (arith, is))
eight (a ∷ b ∷ c ∷ d ∷ e ∷ f ∷ g ∷ h ∷ i ∷ L) is = absurd (omega (arith, is))

spells_eight : (place : ℕ) (L : List EventValue) → length L ≡ 8 → SpellsRows group_terms (params_from place L) place L
spells_eight place L is =
    let it = eight L is in
    subst (λ l. SpellsRows group_terms (params_from place l) place l) (sym it.8) refl

pub puts_group_inside : (old last : State) (rows : ℕ) (L : List EventValue) (count : ℕ) → length L ≡ 8 → AreNumbered L → IsTrue old.in_transaction → ExecutesInside 0 insert_group_text (params_from (suc rows) L) old last (Ok count) → IsKeeping rows L [] old last (length L)
puts_group_inside old last rows L count is are inside x = record {
  table = λ h events box at.
      let it = inserted h events box at in
      record {
        held = events ++ L;
        table = it.table;
        rest = sym it.all_new;
        count = (let e : length (events ++ L) ≡ rows + length L = omega (arith, length-append events L, at) in e);
        sound = λ _. it.sound;
        others = it.others;
      };
  was_open = λ _. x.1.was_open;
  committed = x.1.committed_is;
  mode = x.1.mode;
}
  where
    inserted : (h : Home) (events : List EventValue) → IsFilled h old.now events → rows ≡ length events → InsertedAll h events L old.now last.now
    inserted h events box at =
        let text = insert_group_is h box.home in
        inserts_all insert_group_text group_terms (params_from (suc (length events)) L) old last h events L count text.0 text.1 (spells_eight (suc (length events)) L is) are box (subst (λ n. Executes insert_group_text (params_from (suc n) L) old last (Ok count)) at x.0)

-- ---- a statement that the table refuses

not_of_store : (cause : StoreError) (why : Constraint) → SqliteFailure (code.ConstraintViolation why) ≡ store_error cause → ⊥
not_of_store OutOfMemory why is = absurd (cc)
not_of_store Io why is = absurd (cc)
not_of_store Corrupt why is = absurd (cc)
not_of_store Full why is = absurd (cc)
not_of_store Broken why is = absurd (cc)
not_of_store Unstorable why is = absurd (cc)

-- what a rule of the table refuses within a transaction leaves it as it was
pub refused_inside : (sql : List ℕ) (params : Row) (old last : State) (why : Constraint) → ExecutesInside 0 sql params old last (Err (SqliteFailure (code.ConstraintViolation why))) → IsUnchanged old last
unfolding ExecutesIn IsNotRun
refused_inside sql params old last why (inr barred) = barred.2
refused_inside sql params old last why (inl (ran, inl same)) = same
refused_inside sql params old last why (inl (inl (inl none), inr undone)) = none.1
refused_inside sql params old last why (inl (inl (inr fails), inr undone)) = absurd (not_of_store fails.0 why fails.1)
refused_inside sql params old last why (inl (inr (c, it, alone), inr undone)) = elim (cases_Bool (shows_rows false c)) [
  | inl shows ↦ (rw shows at alone).1
  | inr runs ↦ go (rw runs at alone)
]
  where
    go : RunsCommand old last sql c (timed params c.formats it.now) (Err (SqliteFailure (code.ConstraintViolation why))) → IsUnchanged old last
    go (inl refused) = refused.1
    go (inr fails) = absurd (not_of_store fails.0 why fails.1)

-- an event is put in behind a statement that left all as it was
pub puts_then : (old mid last : State) (place : ℕ) (e : EventValue) (is_new : Bool) → IsUnchanged old mid → PutsEvent place e mid last is_new → PutsEvent place e old last is_new
puts_then old mid last place e is_new same puts = record {
  table = λ h events box next.
      let it = puts.table h events (subst (λ (d : Database). IsFilled h d events) (sym same.0.now_is) box) next in
      (it.0, it.1, subst (λ (d : Database). KeepsOthers (schema_at h).tables (tree_at h) d.trees last.now.trees) same.0.now_is it.2);
  sound = λ h events box. puts.sound h events (subst (λ (d : Database). IsFilled h d events) (sym same.0.now_is) box);
  was_open = same.0.was_open;
  committed = puts.committed ∙ same.0.committed_is;
  mode = puts.mode;
}

-- the INSERT of eight events puts them in, or leaves the transaction as it was
group_put : (old last : State) (rows : ℕ) (L : List EventValue) (is_in : Bool) → length L ≡ 8 → AreNumbered L → IsTrue old.in_transaction → RunsGroup (params_from (rows + 1) L) old last is_in → PutsGroup rows L old last is_in
group_put old last rows L true is are inside ran = puts_group_inside old last rows L ran.0 is are inside (rw add-one at ran.1)
group_put old last rows L false is are inside same = same

pub group_put_if : {A : Type 0} (old last : State) (rows : ℕ) (L : List EventValue) (result : Result Bool A) → length L ≡ 8 → AreNumbered L → IsTrue old.in_transaction → IfOk result (RunsGroup (params_from (rows + 1) L) old last) → IfOk result (PutsGroup rows L old last)
group_put_if old last rows L (Ok is_in) is are inside ran = group_put old last rows L is_in is are inside ran
group_put_if old last rows L (Err error) is are inside ran = tt

pub keeps_again : {rows : ℕ} {L left : List EventValue} {old mid last : State} {fresh : ℕ} → IsUnchanged old mid → IsKeeping rows L left mid last fresh → IsKeeping rows L left old last fresh
keeps_again {old = old} {last = last} same k = record {
  table = λ h events box count.
      let it = k.table h events (subst (λ (d : Database). IsFilled h d events) (sym same.0.now_is) box) count in
      record {
        held = it.held;
        table = it.table;
        rest = it.rest;
        count = it.count;
        sound = λ was. it.sound (subst IsDatabase (sym same.0.now_is) was);
        others = subst (λ (d : Database). KeepsOthers (schema_at h).tables (tree_at h) d.trees last.now.trees) same.0.now_is it.others;
      };
  was_open = λ _. same.0.was_open;
  committed = k.committed ∙ same.0.committed_is;
  mode = k.mode;
}

pub unchanged_commit : {old mid : State} → IsUnchanged old mid → KeepsCommit old mid
unchanged_commit same = record { was_open = λ _. same.0.was_open; committed = λ _. same.0.committed_is }

pub puts_again : (old mid last : State) (place : ℕ) (e : EventValue) (result : Result Bool Error) → IsUnchanged old mid → IsTrue old.in_transaction → (IsTrue mid.in_transaction → IfOk result (PutsEvent place e mid last)) → IfOk result (PutsEvent place e old last)
puts_again old mid last place e (Ok is_new) same inside puts = puts_then old mid last place e is_new same (puts (same.0.mode ∙ inside))
puts_again old mid last place e (Err error) same inside puts = tt

pub keeps_then_again : {A : Type 0} (L : List EventValue) (rows : ℕ) (old mid last : State) (result : Result ℕ A) → IsUnchanged old mid → IsTrue old.in_transaction → (IsTrue mid.in_transaction → IfOk result (IsKeeping rows L [] mid last)) → IfOk result (IsKeeping rows L [] old last)
keeps_then_again L rows old mid last (Ok n) same inside keeps = keeps_again same (keeps (same.0.mode ∙ inside))
keeps_then_again L rows old mid last (Err error) same inside keeps = tt

pub fails_again : {A E : Type 0} (old mid last : State) (result : Result A E) → IsUnchanged old mid → IsTrue old.in_transaction → (IsTrue mid.in_transaction → OnErr result (KeepsCommit mid last)) → OnErr result (KeepsCommit old last)
fails_again old mid last (Ok done) same inside fails = tt
fails_again old mid last (Err error) same inside fails = keeps_then old mid last (unchanged_commit same) (fails (same.0.mode ∙ inside))

pub puts_inside : (old last : State) (place : ℕ) (e : EventValue) (count : ℕ) (is_new : Bool) → is_new ≡ nat_lt 0 count → IsNumbered e → ExecutesInside 0 insert_text (params_of place e) old last (Ok count) → PutsEvent place e old last is_new
puts_inside old last place e count is_new is numbered x = record {
  table = λ h events box next.
      let it = inserts old last h events e count numbered box (subst (λ n. Executes insert_text (params_of n e) old last (Ok count)) next x.0) in
      (it.table, is ∙ above_none (has key_cmp events e) count it.counted, it.others);
  sound = λ h events box. sound_after old last count h events (params_of place e) box x.0;
  was_open = x.1.was_open;
  committed = x.1.committed_is;
  mode = x.1.mode;
}

-- a statement that fails within a transaction commits nothing
pub fails_inside : (sql : List ℕ) (params : Row) (old last : State) (error : Error) → ExecutesInside 0 sql params old last (Err error) → KeepsCommit old last
fails_inside sql params old last error (inl (ran, inl same)) = record { was_open = λ _. same.0.was_open; committed = λ _. same.0.committed_is }
fails_inside sql params old last error (inl (ran, inr undone)) = record { was_open = undone.was_open; committed = λ h. (undone.undone h).1 }
fails_inside sql params old last error (inr barred) = record { was_open = λ _. barred.2.0.was_open; committed = λ _. barred.2.0.committed_is }
