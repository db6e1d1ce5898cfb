-- What a row that is noted or appended does to what the tables stand for.
use Rattle.std.proofs.Common.{◌≡◌, ◌≢◌, ◌⊎◌, inl, inr, ℕ, suc, ◌+◌, ◌<◌, ◌==◌, eqb, pos, ℤ, length, fold, List, [], ◌∷◌, ◌++◌, Bool, true, false, not, ◌&&◌, ◌||◌, Option, Some, None, if◌then◌else◌, cond, Less, Equal, is_eq, int_cmp, refl, sym, ap, subst, ◌∙◌, arith, IsPermutation}
use Rattle.std.proofs.lemmas.Bool.Decides.{nat_tests}
use Rattle.std.proofs.lemmas.Int.{ints}
use Rattle.std.proofs.lemmas.List.Sums.{fold-append}
use Rattle.std.proofs.lemmas.List.{append_assoc}
use Rattle.std.proofs.lemmas.List.Sorted.{IsPermutation-trans, IsPermutation-cons, IsPermutation-append_comm}
use Rattle.sqlite_value.specs.declared.value.Value.TheVariants.{Null, Int, Text as Words}
use Rattle.sqlite_value.specs.declared.keys.Collation.TheVariants.{Binary}
use Rattle.sqlite_value.specs.Order.{Row, value_cmp}
use Rattle.sqlite_value.specs.Keys.{first_key}
use Rattle.sqlite_value.proofs.OrderLemmas.{value_cmp-Int}
use Rattle.sqlite_trees.specs.Tree.{rowid, has_rowid, without_rowid}
use Rattle.sqlite_sql.specs.Ops.{unary, binary, is_true, from_truth}
use Rattle.sqlite_schema.specs.Rules.{equal}
use Rattle.sqlite_schema.specs.declared.schema.Kind.TheVariants.{Integer}
use Rattle.sqlite_rules.specs.Cast.{cast, cast_row}
use Rattle.sqlite_rules.specs.Edit.{is_taken, without_all}
use Rattle.sqlite_rules.specs.Keys.{conflicts}
use Rattle.sqlite_rules.specs.Lists.{Has}
use Rattle.outbox.specs.Order.{Accepted, AreAccepted, IsCommand, refusal, status_of}
use Rattle.outbox.specs.declared.status.Status.{Status}
use Rattle.database_layout.specs.Tables.{service, orders, outbox}
use Rattle.outbox.specs.Service.{order_row, outbox_row, outbox_rows, AreOrders}
use Rattle.outbox.proofs.StepLemmas.{has_permuted}

either : {X : Type 0} (b : Bool) (x : X) → (if b then x else x) ≡ x
either true x = refl
either false x = refl

cast_null : cast Integer Null ≡ Null
unfolding unary
cast_null = either _ Null

cast_whole : (n : ℤ) → cast Integer (Int n) ≡ Int n
unfolding unary
cast_whole n = either _ (Int n)

pub cast_order : (t : ℕ) (n : ℤ) (s : ℤ) → cast_row (orders t) (Int n ∷ Null ∷ Int s ∷ []) ≡ Int n ∷ Null ∷ Int s ∷ []
cast_order t n s = rw (cast_whole n, cast_null, cast_whole s) refl

pub cast_outbox : (t : ℕ) (n k o : ℤ) (at : List ℕ) → cast_row (outbox t) (Int n ∷ Null ∷ Int k ∷ Int o ∷ Words at ∷ []) ≡ Int n ∷ Null ∷ Int k ∷ Int o ∷ Words at ∷ []
cast_outbox t n k o at = rw (cast_whole n, cast_null, cast_whole k, cast_whole o) refl

pub cast_service : (t : ℕ) (n b : ℤ) (source : List ℕ) → cast_row (service t) (Int n ∷ Null ∷ Words source ∷ Int b ∷ []) ≡ Int n ∷ Null ∷ Words source ∷ Int b ∷ []
cast_service t n b source = rw (cast_whole n, cast_null, cast_whole b) refl

told : (b : Bool) → is_true (from_truth (Some b)) ≡ b
told true = refl
told false = refl

pub equal_int : (m n : ℤ) → equal Binary (Int m) (Int n) ≡ is_eq (int_cmp m n)
unfolding binary
equal_int m n = told _ ∙ ap is_eq (value_cmp-Int m n)

pub same_int : (m n : ℕ) → is_eq (int_cmp (pos m) (pos n)) ≡ eqb m n
same_int m n = grind (arith, ints, nat_tests)

-- ---- orders

-- the status after one more command
pub status_snoc : (commands : List Accepted) (c : Accepted) (n : ℕ) → status_of (commands ++ c ∷ []) n ≡ (if c.order == n then Some c.status else status_of commands n)
status_snoc commands c n = fold-append (λ s (d : Accepted). if d.order == n then Some d.status else s) None commands (c ∷ [])

untidy : (a : Bool) → ((a && true) || false) ≡ true → a ≡ true
untidy true h = refl
untidy false h = h

-- a row of an order that conflicts is the row of that order
pub conflict_is : (tree m n : ℕ) (s t : Status) → conflicts None [] (orders tree) (order_row n t) (order_row m s) ≡ true → eqb m n ≡ true
unfolding first_key
conflict_is tree m n s t h = sym (same_int m n) ∙ sym (equal_int (pos m) (pos n)) ∙ untidy _ h

pub not_taken : (left : List Row) (new r : Row) → is_taken left new ≡ false → Has left r → is_eq (value_cmp (rowid r) (rowid new)) ≡ false
not_taken [] new r free h = absurd h
not_taken (x ∷ left) new r free (inl is) = go (is_eq (value_cmp (rowid x) (rowid new))) refl
  where
    go : (b : Bool) → is_eq (value_cmp (rowid x) (rowid new)) ≡ b → is_eq (value_cmp (rowid r) (rowid new)) ≡ false
    go true e = absurd (let f = rw e at free in cc)
    go false e = ap (λ (y : Row). is_eq (value_cmp (rowid y) (rowid new))) is ∙ e
not_taken (x ∷ left) new r free (inr h) = go (λ f. not_taken left new r f h) (is_eq (value_cmp (rowid x) (rowid new))) refl
  where
    go : (is_taken left new ≡ false → is_eq (value_cmp (rowid r) (rowid new)) ≡ false) → (b : Bool) → is_eq (value_cmp (rowid x) (rowid new)) ≡ b → is_eq (value_cmp (rowid r) (rowid new)) ≡ false
    go more true e = absurd (let f = rw e at free in cc)
    go more false e = more (rw e at free)

pub other_order : (m n : ℕ) (s t : Status) → is_eq (value_cmp (rowid (order_row m s)) (rowid (order_row n t))) ≡ false → eqb m n ≡ false
other_order m n s t h = sym (same_int m n) ∙ sym (ap is_eq (value_cmp-Int (pos m) (pos n))) ∙ h

pub eqb_sym : (m n : ℕ) → eqb m n ≡ eqb n m
eqb_sym m n = grind (arith, nat_tests)

pub noted : (rows left after : List Row) (commands : List Accepted) (c : Accepted) → ((r : Row) → Has left r → Has rows r)
    → ((m : ℕ) (s : Status) → eqb m c.order ≡ false → Has rows (order_row m s) → Has left (order_row m s)) → is_taken left (order_row c.order c.status) ≡ false
    → IsPermutation (order_row c.order c.status ∷ left) after → AreOrders rows commands → AreOrders after (commands ++ c ∷ [])
noted rows left after commands c within keeps free same old = record { sound = λ r h. sound r (has_permuted _ _ (Rattle.std.proofs.lemmas.List.Sorted.IsPermutation-sym _ _ same) r h); complete = complete }
  where
    new : Row
    new = order_row c.order c.status

    sound : (r : Row) → Has (order_row c.order c.status ∷ left) r → (order : ℕ) × (status : Status) × (r ≡ order_row order status) × (status_of (commands ++ c ∷ []) order ≡ Some status)
    sound r (inl is) = (c.order, c.status, is, status_snoc commands c c.order ∙ ap (λ b. if b then Some c.status else status_of commands c.order) (let e : eqb c.order c.order ≡ true = grind (arith, nat_tests) in e))
    sound r (inr h) =
        let was = old.sound r (within r h) in
        let apart = other_order was.0 c.order was.1 c.status (ap (λ (y : Row). is_eq (value_cmp (rowid y) (rowid (order_row c.order c.status)))) (sym was.2) ∙ not_taken left (order_row c.order c.status) r free h) in
        (was.0, was.1, was.2, status_snoc commands c was.0 ∙ ap (λ b. if b then Some c.status else status_of commands was.0) (eqb_sym c.order was.0 ∙ apart) ∙ was.3)

    complete : (order : ℕ) (status : Status) → status_of (commands ++ c ∷ []) order ≡ Some status → Has after (order_row order status)
    complete order status h = go (eqb c.order order) refl
      where
        go : (b : Bool) → eqb c.order order ≡ b → Has after (order_row order status)
        go true e =
            let it : ◌≡◌ {A = Option Status} (Some c.status) (Some status) = ap (λ b. if b then Some c.status else status_of commands order) (sym e) ∙ sym (status_snoc commands c order) ∙ h in
            let same_status : c.status ≡ status = cc in
            let same_order : c.order ≡ order = grind (arith, nat_tests, e) in
            has_permuted _ _ same (order_row order status) (inl (Rattle.std.proofs.Common.ap₂ order_row (sym same_order) (sym same_status)))
        go false e =
            let it : status_of commands order ≡ Some status = ap (λ b. if b then Some c.status else status_of commands order) (sym e) ∙ sym (status_snoc commands c order) ∙ h in
            has_permuted _ _ same (order_row order status) (inr (keeps order status (eqb_sym order c.order ∙ e) (old.complete order status it)))

-- ---- rows that are taken out

filtered : (id : ℤ) (xs : List Row) (r : Row) → Has (without_rowid id xs) r → Has xs r
filtered id [] r h = h
filtered id (x ∷ xs) r h = go (filtered id xs r) (has_rowid id x) refl
  where
    go : (Has (without_rowid id xs) r → Has xs r) → (b : Bool) → has_rowid id x ≡ b → Has (x ∷ xs) r
    go more true e = inr (more (rw e at h))
    go more false e = elim (let k : Has (x ∷ without_rowid id xs) r = rw e at h in k) [ inl is ↦ inl is | inr later ↦ inr (more later) ]

pub within_all : (gone : List ℤ) (rows : List Row) (r : Row) → Has (without_all rows gone) r → Has rows r
within_all [] rows r h = h
within_all (id ∷ gone) rows r h = filtered id rows r (within_all gone (without_rowid id rows) r h)

-- a row stays where each that is taken out has another rowid
pub stays_in : (gone : List ℤ) (rows : List Row) (r : Row) → ((id : ℤ) → Has gone id → has_rowid id r ≡ false) → Has rows r → Has (without_all rows gone) r
stays_in [] rows r other h = h
stays_in (id ∷ gone) rows r other h = stays_in gone (without_rowid id rows) r (λ i k. other i (inr k)) (kept rows h)
  where
    kept : (xs : List Row) → Has xs r → Has (without_rowid id xs) r
    kept [] h = h
    kept (x ∷ xs) (inl is) = let e : has_rowid id x ≡ false = ap (has_rowid id) (sym is) ∙ other id (inl refl) in rw e (inl is)
    kept (x ∷ xs) (inr h) = elim (has_rowid id x) as (λ b. Has (cond (not b) (x ∷ without_rowid id xs) (without_rowid id xs)) r) [ true ↦ kept xs h | false ↦ inr (kept xs h) ]

-- ---- outbox rows

pub rows_snoc : (n : ℕ) (commands : List Accepted) (c : Accepted) → outbox_rows n (commands ++ c ∷ []) ≡ outbox_rows n commands ++ outbox_row (n + length commands) c ∷ []
rows_snoc n [] c = ap (λ k. outbox_row k c ∷ []) (let e : n ≡ n + 0 = omega arith in e)
rows_snoc n (d ∷ commands) c =
    ap (λ rows. outbox_row n d ∷ rows) (rows_snoc (suc n) commands c ∙ ap (λ k. outbox_rows (suc n) commands ++ outbox_row k c ∷ []) (let e : suc n + length commands ≡ n + suc (length commands) = omega arith in e))

pub appended : (n number : ℕ) (commands : List Accepted) (c : Accepted) (rows after : List Row) → number ≡ n + length commands → IsPermutation (outbox_rows n commands) rows
    → IsPermutation (outbox_row number c ∷ rows) after → IsPermutation (outbox_rows n (commands ++ c ∷ [])) after
appended n number commands c rows after is old new =
    subst (λ xs. IsPermutation xs after) (sym (rows_snoc n commands c)) (subst (λ k. IsPermutation (outbox_rows n commands ++ outbox_row k c ∷ []) after) is
    (IsPermutation-trans _ _ _ (IsPermutation-append_comm (outbox_rows n commands) (outbox_row number c ∷ [])) (IsPermutation-trans _ _ _ (IsPermutation-cons _ _ _ old) new)))

-- ---- accepted commands

pub accepted_snoc : (base : ℕ) (before commands : List Accepted) (c : Accepted) → AreAccepted base before commands → IsCommand c → refusal base (before ++ commands) c.status c.order ≡ None → AreAccepted base before (commands ++ c ∷ [])
accepted_snoc base before [] c old it new = (it, subst (λ l. refusal base l c.status c.order ≡ None) (Rattle.std.proofs.Common.append-nil before) new, tt)
accepted_snoc base before (d ∷ commands) c old it new =
    (old.0, old.1, accepted_snoc base (before ++ d ∷ []) commands c old.2 it (subst (λ l. refusal base l c.status c.order ≡ None) (sym (append_assoc before (d ∷ []) commands)) new))
