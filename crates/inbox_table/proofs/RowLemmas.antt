-- The rows of the table: their places, and when two of them have one key.
use Rattle.std.proofs.Common.{◌≡◌, inl, inr, ℕ, suc, ◌+◌, ◌<◌, ◌≤◌, pos, ℤ, length, List, [], ◌∷◌, ◌++◌, Bool, true, false, ◌&&◌, ◌||◌, eqb, Some, None, bytes_eq, Less, is_eq, int_cmp, refl, sym, ap, subst, ◌∙◌, arith, IsPermutation}
use Rattle.std.specs.List.{list_any}
use Rattle.std.proofs.lemmas.Bool.{false_from_ne_true}
use Rattle.std.proofs.lemmas.Bool.Decides.{nat_tests, same_from_decides}
use Rattle.std.proofs.lemmas.Int.{ints}
use Rattle.std.proofs.lemmas.Map.Text.{is_eq-slice_cmp}
use Rattle.std.proofs.lemmas.Slice.Eq.{bytes_eq-Decides}
use Rattle.std.proofs.lemmas.List.Sorted.{IsPermutation-trans, IsPermutation-append_comm, IsPermutation-cons, IsPermutation-refl, length_permutation}
use Rattle.sqlite_value.specs.declared.value.Value.TheVariants.{Null, Int, Text as Words}
use Rattle.sqlite_value.specs.declared.keys.Collation.TheVariants.{Binary}
use Rattle.sqlite_value.specs.Order.{Row, value_cmp}
use Rattle.sqlite_value.specs.Keys.{first_key}
use Rattle.sqlite_value.proofs.OrderLemmas.{value_cmp-Int, value_cmp-Text}
use Rattle.sqlite_trees.specs.Tree.{rowid, put_row}
use Rattle.sqlite_sql.specs.Ops.{unary, binary, is_true, from_truth}
use Rattle.sqlite_schema.specs.Rules.{equal}
use Rattle.sqlite_schema.specs.declared.schema.Kind.TheVariants.{Integer}
use Rattle.sqlite_rules.specs.Cast.{cast, cast_row}
use Rattle.sqlite_rules.specs.Edit.{is_taken}
use Rattle.sqlite_rules.specs.Keys.{conflicts}
use Rattle.sqlite_rules.specs.Lists.{Has}
use Rattle.sqlite_keyed.proofs.ListLemmas.{along_permutation}
use Rattle.sqlite.specs.Effect.{Database}
use Rattle.attributes.specs.Event.{EventValue, id_of, source_of, text}
use Rattle.inbox.specs.KeyOrder.{key_cmp}
use Rattle.inbox.specs.Ordered.{has}
use Rattle.database_layout.specs.Beside.{HasAnyInbox}
use Rattle.database_layout.specs.Layout.{inbox_tree, schema_in}
use Rattle.database_layout.specs.Tables.{inbox2, inbox2_index}
use Rattle.database_layout.specs.declared.layout.Layout.{Layout}
use Rattle.database_layout.proofs.LayoutLemmas.{same_inbox}
use Rattle.inbox_table.specs.Version.{HasTable}
use Rattle.inbox_table.specs.Rows.{IsListed, row_of, rows_from, number_in, block_of_event}
use Rattle.inbox_table.specs.declared.version.Version.{Version}
use Rattle.inbox_table.specs.declared.version.Version.TheVariants.{One, Two}
use Rattle.inbox_table.proofs.EventLemmas.{key_is}
use Rattle.inbox_table.proofs.HomeLemmas.{not_both_versions}

either : {X : Type 0} (b : Bool) (x : X) → (Rattle.std.specs.Prelude.if◌then◌else◌ b x x) ≡ x
either true x = refl
either false x = refl

cast_null : cast Integer Null ≡ Null
unfolding unary
cast_null = either _ Null

cast_whole : (n : ℤ) → cast Integer (Int n) ≡ Int n
unfolding unary
cast_whole n = either _ (Int n)

pub cast_stored : (tree n : ℕ) (e : EventValue) → cast_row (inbox2 tree) (row_of Two n e) ≡ row_of Two n e
cast_stored tree n e = rw (cast_whole (pos n), cast_null, cast_whole (pos (number_in e)), cast_whole (pos (block_of_event e))) refl

-- ---- places

pub below : (m n : ℕ) → m < n → value_cmp (Int (pos m)) (Int (pos n)) ≡ Less
below m n h = value_cmp-Int (pos m) (pos n) ∙ grind (arith, ints, nat_tests)

pub rows_snoc : (v : Version) (p : ℕ) (events : List EventValue) (e : EventValue) → rows_from v p (events ++ e ∷ []) ≡ rows_from v p events ++ row_of v (p + length events) e ∷ []
rows_snoc v p [] e = ap (λ k. row_of v k e ∷ []) (let k : p ≡ p + 0 = omega arith in k)
rows_snoc v p (x ∷ events) e =
    ap (λ rows. row_of v p x ∷ rows) (rows_snoc v (suc p) events e ∙ ap (λ k. rows_from v (suc p) events ++ row_of v k e ∷ []) (let k : suc p + length events ≡ p + suc (length events) = omega arith in k))

pub length-rows : (v : Version) (p : ℕ) (events : List EventValue) → length (rows_from v p events) ≡ length events
length-rows v p [] = refl
length-rows v p (e ∷ events) = ap suc (length-rows v (suc p) events)

-- a row behind the last, put before the others
pub put_behind : (events : List EventValue) (e : EventValue) (rows : List Row) → IsPermutation (rows_from Two 1 events) rows → IsPermutation (rows_from Two 1 (events ++ e ∷ [])) (row_of Two (suc (length events)) e ∷ rows)
put_behind events e rows same =
    let new = row_of Two (suc (length events)) e in
    subst (λ xs. IsPermutation xs (new ∷ rows)) (sym (rows_snoc Two 1 events e ∙ ap (λ k. rows_from Two 1 events ++ row_of Two k e ∷ []) (let k : 1 + length events ≡ suc (length events) = omega arith in k)))
    (IsPermutation-trans _ _ _ (IsPermutation-append_comm (rows_from Two 1 events) (new ∷ [])) (IsPermutation-cons new (rows_from Two 1 events) rows same))

-- ---- membership under a permutation

skip_has : {X : Type 0} (a : X) (xs ys : List X) → ((x : X) → Has xs x → Has ys x) → (x : X) → Has (a ∷ xs) x → Has (a ∷ ys) x
skip_has a xs ys keeps x (inl is) = inl is
skip_has a xs ys keeps x (inr h) = inr (keeps x h)

turn_has : {X : Type 0} (a b : X) (xs : List X) (x : X) → Has (a ∷ b ∷ xs) x → Has (b ∷ a ∷ xs) x
turn_has a b xs x (inl is) = inr (inl is)
turn_has a b xs x (inr (inl is)) = inl is
turn_has a b xs x (inr (inr h)) = inr (inr h)

pub has_permuted : {X : Type 0} (xs ys : List X) → IsPermutation xs ys → (x : X) → Has xs x → Has ys x
has_permuted {X} = along_permutation (λ xs ys. (x : X) → Has xs x → Has ys x) (λ xs x h. h) skip_has turn_has (λ xs ys zs one two x h. two x (one x h))

-- ---- a row that is put where its rowid is free

pub put_new : (new : Row) (rows : List Row) → is_taken rows new ≡ false → IsPermutation (new ∷ rows) (put_row new rows)
put_new new [] free = IsPermutation-refl (new ∷ [])
put_new new (r ∷ rows) free = go (put_new new rows) (value_cmp (rowid r) (rowid new)) refl
  where
    turn : IsPermutation (new ∷ r ∷ rows) (r ∷ new ∷ rows)
    turn = Rattle.std.proofs.lemmas.List.Sorted.IsPermutation-sym _ _ (Rattle.std.proofs.lemmas.List.Sorted.IsPermutation-append_left rows (r ∷ new ∷ []) (new ∷ r ∷ []) (IsPermutation-append_comm (r ∷ []) (new ∷ [])))

    go : (is_taken rows new ≡ false → IsPermutation (new ∷ rows) (put_row new rows)) → (o : Rattle.std.specs.declared.cmp.Ordering.Ordering) → value_cmp (rowid r) (rowid new) ≡ o → IsPermutation (new ∷ r ∷ rows) (put_row new (r ∷ rows))
    go more Less is =
        let rest : is_taken rows new ≡ false = rw is at free in
        rw is (IsPermutation-trans _ _ _ turn (IsPermutation-cons r (new ∷ rows) (put_row new rows) (more rest)))
    go more Rattle.std.specs.declared.cmp.Ordering.TheVariants.Equal is = absurd (let e = rw is at free in cc)
    go more Rattle.std.specs.declared.cmp.Ordering.TheVariants.Greater is = rw is (IsPermutation-refl (new ∷ r ∷ rows))

-- ---- keys

told : (b : Bool) → is_true (from_truth (Some b)) ≡ b
told true = refl
told false = refl

pub equal_int : (m n : ℤ) → equal Binary (Int m) (Int n) ≡ is_eq (int_cmp m n)
unfolding binary
equal_int m n = told _ ∙ ap is_eq (value_cmp-Int m n)

pub equal_text : (s t : List ℕ) → equal Binary (Words s) (Words t) ≡ bytes_eq s t
unfolding binary
equal_text s t = told _ ∙ ap is_eq (value_cmp-Text s t) ∙ is_eq-slice_cmp s t

flip : (s t : List ℕ) → bytes_eq s t ≡ bytes_eq t s
flip s t = let d = bytes_eq-Decides t s in same_from_decides (bytes_eq s t) (bytes_eq t s) (bytes_eq-Decides s t) (λ h. sym (d.0 h), λ h. d.1 (sym h))

-- the columns of the key are equal where the events tie
pub key_columns : (e x : EventValue) → (bytes_eq (source_of x) (source_of e) && (bytes_eq (id_of x) (id_of e) && bytes_eq (text x) (text e))) ≡ is_eq (key_cmp e x)
key_columns e x =
    ap (λ b. b && (bytes_eq (id_of x) (id_of e) && bytes_eq (text x) (text e))) (flip (source_of x) (source_of e))
    ∙ ap (λ b. bytes_eq (source_of e) (source_of x) && (b && bytes_eq (text x) (text e))) (flip (id_of x) (id_of e))
    ∙ ap (λ b. bytes_eq (source_of e) (source_of x) && (bytes_eq (id_of e) (id_of x) && b)) (flip (text x) (text e))
    ∙ sym (key_is e x)

tidy : (g a b c d : Bool) → g ≡ true → ((a && true) || (((g && true) && (b && (c && (d && true)))) || false)) ≡ (a || (b && (c && d)))
tidy true true b c d h = refl
tidy true false true true true h = refl
tidy true false true true false h = refl
tidy true false true false d h = refl
tidy true false false c d h = refl
tidy false a b c d h = absurd (cc)

abbrev clash : ℕ → ℕ → EventValue → EventValue → Bool
clash p n x e = is_eq (int_cmp (pos p) (pos n)) || is_eq (key_cmp e x)

pub same_tree : (t : ℕ) → eqb t t ≡ true
same_tree t = grind (arith, nat_tests)

pub conflict_is : (tree p n : ℕ) (x e : EventValue) → conflicts None (inbox2_index tree ∷ []) (inbox2 tree) (row_of Two n e) (row_of Two p x) ≡ clash p n x e
unfolding first_key
conflict_is tree p n x e =
    rw (equal_int (pos p) (pos n), equal_text (source_of x) (source_of e), equal_text (id_of x) (id_of e), equal_text (text x) (text e))
    (tidy (eqb tree tree) (is_eq (int_cmp (pos p) (pos n))) (bytes_eq (source_of x) (source_of e)) (bytes_eq (id_of x) (id_of e)) (bytes_eq (text x) (text e)) (same_tree tree))
    ∙ ap (λ b. is_eq (int_cmp (pos p) (pos n)) || b) (key_columns e x)

apart : (p n : ℕ) → p < n → is_eq (int_cmp (pos p) (pos n)) ≡ false
apart p n h = grind (arith, ints, nat_tests)

-- no row has the key
pub none_there : (tree p n : ℕ) (events : List EventValue) (e : EventValue) → ((r : Row) → Has (rows_from Two p events) r → conflicts None (inbox2_index tree ∷ []) (inbox2 tree) (row_of Two n e) r ≡ true → ⊥) → has key_cmp events e ≡ false
none_there tree p n [] e none = refl
none_there tree p n (x ∷ events) e none =
    let first : is_eq (key_cmp e x) ≡ false = false_from_ne_true _ (λ h. none (row_of Two p x) (inl refl) (conflict_is tree p n x e ∙ rw h (elim (is_eq (int_cmp (pos p) (pos n))) as (λ b. (b || true) ≡ true) [ true ↦ refl | false ↦ refl ]))) in
    rw first (none_there tree (suc p) n events e (λ r h. none r (inr h)))

-- some row before this place has it
pub some_there : (tree p n : ℕ) (events : List EventValue) (e : EventValue) → p + length events ≤ n → (r : Row) → Has (rows_from Two p events) r → conflicts None (inbox2_index tree ∷ []) (inbox2 tree) (row_of Two n e) r ≡ true → has key_cmp events e ≡ true
some_there tree p n [] e low r h hit = absurd h
some_there tree p n (x ∷ events) e low r (inl is) hit =
    let found : clash p n x e ≡ true = sym (conflict_is tree p n x e) ∙ subst (λ q. conflicts None (inbox2_index tree ∷ []) (inbox2 tree) (row_of Two n e) q ≡ true) is hit in
    let first : is_eq (key_cmp e x) ≡ true = rw (apart p n (omega arith)) at found in
    rw first refl
some_there tree p n (x ∷ events) e low r (inr h) hit =
    let later = some_there tree (suc p) n events e (omega arith) r h hit in
    rw later (elim (is_eq (key_cmp e x)) as (λ b. (b || true) ≡ true) [ true ↦ refl | false ↦ refl ])

-- ---- one database has the table in one tree

any_of : (v : Version) (l : Layout) → HasTable v l → HasAnyInbox l
any_of One l has = inl has
any_of Two l has = inr has

pub one_tree : (v w : Version) (l m : Layout) → HasTable v l → HasTable w m → schema_in l ≡ schema_in m → inbox_tree l ≡ inbox_tree m
one_tree v w l m has had e = (same_inbox l m (any_of w m had) e).1

-- a layout with the schema of one that has version 2 has it too, in the same tree
pub two_of : (l m : Layout) → HasTable Two m → schema_in l ≡ schema_in m → HasTable Two l × (inbox_tree l ≡ inbox_tree m)
two_of l m has e = let it = same_inbox l m (inr has) e in (go it.0, it.1)
  where
    go : HasAnyInbox l → HasTable Two l
    go (inl old) = absurd (not_both_versions l m old has e)
    go (inr new) = new

pub same_length : (v : Version) (db : Database) (A B : List EventValue) → IsListed v db A → IsListed v db B → length A ≡ length B
same_length v db A B a b =
    let tree = one_tree v v a.layout b.layout a.has b.has (sym a.schema ∙ b.schema) in
    let one = length_permutation _ _ a.rows in
    let two = length_permutation _ _ b.rows in
    let same : length (db.trees (inbox_tree a.layout)) ≡ length (db.trees (inbox_tree b.layout)) = ap (λ t. length (db.trees t)) tree in
    omega (arith, one, two, same, length-rows v 1 A, length-rows v 1 B)
