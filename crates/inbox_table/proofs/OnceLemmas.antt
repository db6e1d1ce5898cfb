-- In a database that keeps its rules no event stands twice.
use Rattle.std.proofs.Common.{◌≡◌, ◌⊎◌, inl, inr, ℕ, suc, ◌+◌, ◌<◌, ◌≤◌, List, [], ◌∷◌, ◌++◌, append_assoc, append-nil, length, length-append, Bool, true, false, not, ◌&&◌, ◌||◌, eqb, if◌then◌else◌, is_eq, int_cmp, pos, ℤ, Some, refl, sym, ap, subst, ◌∙◌, arith, IsTrue, IsPermutation}
use Rattle.std.specs.List.{AllByRecursion, list_any}
use Rattle.std.specs.Ordering.{is_ne}
use Rattle.std.specs.declared.cmp.Ordering.{Ordering}
use Rattle.std.specs.declared.cmp.Ordering.TheVariants.{Less, Equal, Greater}
use Rattle.std.proofs.lemmas.Bool.Decides.{nat_tests}
use Rattle.std.proofs.lemmas.Int.{ints}
use Rattle.sqlite_value.specs.declared.value.Value.TheVariants.{Int}
use Rattle.sqlite_value.specs.Keys.{first_key}
use Rattle.sqlite_value.specs.Order.{Row}
use Rattle.sqlite_value.proofs.OrderLemmas.{value_cmp-Int}
use Rattle.sqlite_trees.specs.Tree.{Trees}
use Rattle.sqlite_schema.specs.declared.schema.Constraint.TheVariants.{Unique}
use Rattle.sqlite_schema.specs.Rules.{agree, clashes, differ, passes}
use Rattle.sqlite_rules.specs.Lists.{Has}
use Rattle.sqlite_sql.specs.Ops.{binary, from_truth, is_true}
use Rattle.sqlite.specs.Effect.{Database, IsDatabase}
use Rattle.sqlite.specs.State.{State, Shown}
use Rattle.attributes.specs.Event.{EventValue, id_of, source_of, text}
use Rattle.inbox.specs.KeyOrder.{key_cmp}
use Rattle.inbox.specs.Ordered.{append_new, has}
use Rattle.database_layout.specs.Layout.{inbox_tree, schema_in}
use Rattle.database_layout.specs.Tables.{inbox2, key_places}
use Rattle.database_layout.specs.declared.layout.Layout.{Layout}
use Rattle.database_layout.specs.declared.layout.Layout.TheVariants.{Inbox, InboxService, ServiceInbox, Inbox2, Inbox2Service, ServiceInbox2, Upgraded, UpgradedService, ServiceUpgraded, ShiftedUpgraded}
use Rattle.inbox_table.specs.Rows.{AreNumbered, IsEachOnce, IsListed, row_of, rows_from, shown_from}
use Rattle.inbox_table.specs.Texts.{select_text}
use Rattle.inbox_table.specs.Version.{HasTable, table_of}
use Rattle.inbox_table.specs.declared.version.Version.{Version}
use Rattle.inbox_table.specs.declared.version.Version.TheVariants.{One, Two}
use Rattle.inbox_table.specs.steps.Reads.{HasVersion}
use Rattle.inbox_table.specs.steps.Turns.{Home, At, Beside, IsHome, schema_at, tree_at}
use Rattle.inbox_table.proofs.AdoptLemmas.{stored}
use Rattle.inbox_table.proofs.HomeLemmas.{rule_at, rule_of}
use Rattle.inbox_table.proofs.RowLemmas.{equal_text, has_permuted, key_columns, rows_snoc, same_tree}

told : (b : Bool) → is_true (from_truth (Some b)) ≡ b
told true = refl
told false = refl

differ_int : (m n : ℤ) → differ (Int m) (Int n) ≡ is_ne (int_cmp m n)
unfolding binary
differ_int m n = told _ ∙ ap is_ne (value_cmp-Int m n)

not_equal : (o : Ordering) → is_eq o ≡ false → is_ne o ≡ true
not_equal Less h = refl
not_equal Equal h = absurd (cc)
not_equal Greater h = refl

apart : (p q : ℕ) → p < q → is_eq (int_cmp (pos p) (pos q)) ≡ false
apart p q h = grind (arith, ints, nat_tests)

trim : (a b c : Bool) → (a && (b && (c && true))) ≡ (a && (b && c))
trim true true true = refl
trim true true false = refl
trim true false c = refl
trim false b c = refl

agree_is : (v : Version) (p q : ℕ) (x e : EventValue) → agree (record { digits = 0 }) key_places (row_of v p x) key_places (row_of v q e) ≡ is_eq (key_cmp e x)
unfolding first_key
agree_is v p q x e =
    rw (equal_text (source_of x) (source_of e), equal_text (id_of x) (id_of e), equal_text (text x) (text e))
    (trim (Rattle.std.proofs.Common.bytes_eq (source_of x) (source_of e)) (Rattle.std.proofs.Common.bytes_eq (id_of x) (id_of e)) (Rattle.std.proofs.Common.bytes_eq (text x) (text e)))
    ∙ key_columns e x

any_false : {X : Type 0} (f : X → Bool) (xs : List X) (x : X) → list_any f xs ≡ false → Has xs x → f x ≡ false
any_false f (y ∷ xs) x none (inl is) = ap f is ∙ left_false (f y) (list_any f xs) none
  where
    left_false : (a b : Bool) → (a || b) ≡ false → a ≡ false
    left_false true b h = absurd (cc)
    left_false false b h = refl
any_false f (y ∷ xs) x none (inr h) = any_false f xs x (right_false (f y) (list_any f xs) none) h
  where
    right_false : (a b : Bool) → (a || b) ≡ false → b ≡ false
    right_false true b h = absurd (cc)
    right_false false b h = h
any_false f [] x none h = absurd h

all_has : {X : Type 0} (P : X → Type 0) (xs : List X) (x : X) → AllByRecursion P xs → Has xs x → P x
all_has P (y ∷ xs) x all (inl is) = subst P (sym is) all.0
all_has P (y ∷ xs) x all (inr h) = all_has P xs x all.1 h
all_has P [] x all h = absurd h

no_clash : (g c : Bool) → g ≡ true → (not ((true && g) && c) && true) ≡ true → c ≡ false
no_clash true true is h = absurd (cc)
no_clash true false is h = refl
no_clash false c is h = absurd (cc)

left_of : (a b : Bool) → b ≡ true → (a && b) ≡ false → a ≡ false
left_of true true is h = absurd (cc)
left_of true false is h = absurd (cc)
left_of false b is h = refl

-- the rule of the UNIQUE, where the layout is known
rule_told : (v : Version) (l : Layout) → HasTable v l → (db : Trees) (r : Row) → passes Unique (schema_in l) db (table_of v (inbox_tree l)) r ≡ true
    → (not ((true && eqb (inbox_tree l) (inbox_tree l)) && clashes (record { digits = 0 }) key_places (db (inbox_tree l)) r) && true) ≡ true
rule_told One Inbox has db r h = h
rule_told One InboxService has db r h = h
rule_told One ServiceInbox has db r h = h
rule_told Two Inbox2 has db r h = h
rule_told Two Inbox2Service has db r h = h
rule_told Two ServiceInbox2 has db r h = h
rule_told Two Upgraded has db r h = h
rule_told Two UpgradedService has db r h = h
rule_told Two ServiceUpgraded has db r h = h
rule_told Two ShiftedUpgraded has db r h = h
rule_told One _ has db r h = absurd has
rule_told Two _ has db r h = absurd has

-- a row with the key of a row of these is that row
abbrev IsAlone : Version → List Row → Type 0
IsAlone v rows = (q : ℕ) (e : EventValue) → Has rows (row_of v q e) → clashes (record { digits = 0 }) key_places rows (row_of v q e) ≡ false

alone_in : (v : Version) (l : Layout) → HasTable v l → (db : Trees) → AllByRecursion (λ r. passes Unique (schema_in l) db (table_of v (inbox_tree l)) r ≡ true) (db (inbox_tree l)) → IsAlone v (db (inbox_tree l))
alone_in v l has_table db unique q e there =
    let rule = all_has (λ r. passes Unique (schema_in l) db (table_of v (inbox_tree l)) r ≡ true) (db (inbox_tree l)) (row_of v q e) unique there in
    no_clash (eqb (inbox_tree l) (inbox_tree l)) _ (same_tree (inbox_tree l)) (rule_told v l has_table db (row_of v q e) rule)

-- the rule of the UNIQUE, where events are put
rule_told_at : (h : Home) → IsHome h → (db : Trees) (r : Row) → passes Unique (schema_at h) db (inbox2 (tree_at h)) r ≡ true
    → (not ((true && eqb (tree_at h) (tree_at h)) && clashes (record { digits = 0 }) key_places (db (tree_at h)) r) && true) ≡ true
rule_told_at (At Inbox2) has db r h = h
rule_told_at (At Inbox2Service) has db r h = h
rule_told_at (At ServiceInbox2) has db r h = h
rule_told_at (At Upgraded) has db r h = h
rule_told_at (At UpgradedService) has db r h = h
rule_told_at (At ServiceUpgraded) has db r h = h
rule_told_at (At ShiftedUpgraded) has db r h = h
rule_told_at (Beside Inbox) has db r h = h
rule_told_at (Beside InboxService) has db r h = h
rule_told_at (Beside ServiceInbox) has db r h = h
rule_told_at (At _) has db r h = absurd has
rule_told_at (Beside _) has db r h = absurd has

alone_at : (h : Home) → IsHome h → (db : Trees) → AllByRecursion (λ r. passes Unique (schema_at h) db (inbox2 (tree_at h)) r ≡ true) (db (tree_at h)) → IsAlone Two (db (tree_at h))
alone_at h home db unique q e there =
    let rule = all_has (λ r. passes Unique (schema_at h) db (inbox2 (tree_at h)) r ≡ true) (db (tree_at h)) (row_of Two q e) unique there in
    no_clash (eqb (tree_at h) (tree_at h)) _ (same_tree (tree_at h)) (rule_told_at h home db (row_of Two q e) rule)

module _ (v : Version) (rows : List Row) (alone : IsAlone v rows) where
  pair : (p q : ℕ) (x e : EventValue) → Has rows (row_of v p x) → Has rows (row_of v q e) → p < q → is_eq (key_cmp e x) ≡ false
  pair p q x e first second low =
      let one = any_false (λ other. agree (record { digits = 0 }) key_places other key_places (row_of v q e) && differ (Rattle.sqlite_trees.specs.Tree.rowid other) (Int (pos q))) rows (row_of v p x) (alone q e second) first in
      sym (agree_is v p q x e) ∙ left_of _ _ (differ_int (pos p) (pos q) ∙ not_equal (int_cmp (pos p) (pos q)) (apart p q low)) one

  none_before : (p q : ℕ) (A : List EventValue) (e : EventValue) → ((r : Row) → Has (rows_from v p A) r → Has rows r) → Has rows (row_of v q e) → p + length A ≤ q → has key_cmp A e ≡ false
  none_before p q [] e all last low = refl
  none_before p q (x ∷ A) e all last low =
      let one = pair p q x e (all (row_of v p x) (inl refl)) last (omega arith) in
      rw one (none_before (suc p) q A e (λ r h. all r (inr h)) last (omega arith))

  pub once_from : (A B : List EventValue) → ((r : Row) → Has (rows_from v 1 A) r → Has rows r) → ((r : Row) → Has (rows_from v (1 + length A) B) r → Has rows r) → append_new key_cmp A B ≡ A ++ B
  once_from A [] all more = sym (append-nil A)
  once_from A (e ∷ B) all more =
      let none = none_before 1 (1 + length A) A e all (more (row_of v (1 + length A) e) (inl refl)) (omega arith) in
      let both : (r : Row) → Has (rows_from v 1 (A ++ e ∷ [])) r → Has rows r = λ r h. either r (has_either (rows_from v 1 A) (row_of v (1 + length A) e) r (subst (λ xs. Has xs r) (rows_snoc v 1 A e) h)) in
      let rest : (r : Row) → Has (rows_from v (1 + length (A ++ e ∷ [])) B) r → Has rows r = λ r h. more r (inr (subst (λ n. Has (rows_from v n B) r) (let n : 1 + length (A ++ e ∷ []) ≡ suc (1 + length A) = omega (arith, length-append A (e ∷ [])) in n) h)) in
      ap (λ b. append_new key_cmp (if b then A else A ++ e ∷ []) B) none ∙ once_from (A ++ e ∷ []) B both rest ∙ append_assoc A (e ∷ []) B
    where
      has_either : (xs : List Row) (y r : Row) → Has (xs ++ y ∷ []) r → Has xs r ⊎ (r ≡ y)
      has_either [] y r (inl is) = inr is
      has_either [] y r (inr h) = absurd h
      has_either (x ∷ xs) y r (inl is) = inl (inl is)
      has_either (x ∷ xs) y r (inr h) = elim (has_either xs y r h) [ inl k ↦ inl (inr k) | inr k ↦ inr k ]

      either : (r : Row) → Has (rows_from v 1 A) r ⊎ (r ≡ row_of v (1 + length A) e) → Has rows r
      either r (inl h) = all r h
      either r (inr is) = subst (Has rows) (sym is) (more (row_of v (1 + length A) e) (inl refl))

-- ---- a table that an event was put into

-- a list of events that stands in a database that keeps its rules has each of them once
pub once_at : (h : Home) → IsHome h → (db : Database) (events : List EventValue) → db.schema ≡ schema_at h → IsDatabase db → IsPermutation (rows_from Two 1 events) (db.trees (tree_at h)) → IsEachOnce events
once_at h home db events is sound perm =
    let unique = rule_at h home Unique db.trees ((subst (λ s. Rattle.sqlite_schema.specs.Rules.Obeys s db.trees) is sound.obeys).rules Unique) in
    once_from Two (db.trees (tree_at h)) (alone_at h home db.trees unique) [] events (λ r none. absurd none) (λ r have. has_permuted _ _ perm r have)

-- ---- a table that is adopted

pub adopted : (v : Version) (old last : State) (events : List EventValue) (rows : List Row) → HasVersion v old.now.schema → IsDatabase old.now → Shown (select_text v) [] old last rows → rows ≡ shown_from v 1 events → AreNumbered events
    → IsListed v old.now events
adopted v old last events found (l, has, is) sound shows read numbered =
    let h = subst (Shown (select_text v) [] old last) read shows in
    let perm = stored v old last l events has is sound h in
    let db = old.now.trees in
    let unique = rule_of v l has Unique db ((subst (λ s. Rattle.sqlite_schema.specs.Rules.Obeys s db) is sound.obeys).rules Unique) in
    record {
      layout = l;
      has = has;
      schema = is;
      rows = perm;
      numbered = numbered;
      once = once_from v (db (inbox_tree l)) (alone_in v l has db unique) [] events (λ r none. absurd none) (λ r have. has_permuted _ _ perm r have);
    }
