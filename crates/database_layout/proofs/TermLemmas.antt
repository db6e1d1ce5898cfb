-- CHECKs and objects of a schema, from what is read of them.
use Rattle.std.proofs.Common.{get_or, slice_index_or, rules, ◌≡◌, ◌≤◌, ◌-◌, ℕ, suc, List, [], ◌∷◌, length, true, refl, sym, ap, ap₂, ◌∙◌, arith}
use Rattle.sqlite_sql.specs.Term.{Term, op2}
use Rattle.sqlite_sql.specs.declared.ops.BinaryOp.{BinaryOp}
use Rattle.sqlite_schema.specs.declared.code.Op.{Op}
use Rattle.sqlite_schema.specs.declared.schema.Index.{Index}
use Rattle.sqlite_value.specs.declared.keys.Order.{Order}
use Rattle.sqlite_schema.specs.Code.{term_to, term_in, terms_in}
use Rattle.sqlite_schema.specs.declared.schema.Table.{Table}
use Rattle.database_layout.specs.Tables.{key_index, key_places, keyed}
use Rattle.database_layout.specs.steps.Parts.{IsBareTable}

-- a node with two operands, by what they are
pub node_is : (ops : List Op) (at a b depth : ℕ) (found op : BinaryOp) (s t : Term) → found ≡ op → ((depth : ℕ) → term_to ops (suc depth) at ≡ op2 found (term_to ops depth a) (term_to ops depth b)) → term_to ops depth a ≡ s → term_to ops depth b ≡ t
    → term_to ops (suc depth) at ≡ op2 op s t
node_is ops at a b depth found op s t is node left right = node depth ∙ ap (λ o. op2 o (term_to ops depth a) (term_to ops depth b)) is ∙ ap₂ (op2 op) left right

-- a term that has three levels
pub deep_is : (ops : List Op) (at : ℕ) (t : Term) → 3 ≤ length ops → ((depth : ℕ) → term_to ops (suc (suc (suc depth))) at ≡ t) → term_in ops at ≡ t
deep_is ops at t high is = ap (λ n. term_to ops n at) (let e : length ops ≡ suc (suc (suc (length ops - 3))) = omega (arith, high) in e) ∙ is (length ops - 3)

pub one_check : (ops : List Op) (roots : List ℕ) (at : ℕ) (t : Term) → 3 ≤ length ops → roots ≡ at ∷ [] → ((depth : ℕ) → term_to ops (suc (suc (suc depth))) at ≡ t) → terms_in ops roots ≡ t ∷ []
one_check ops roots at t high is reads = ap (terms_in ops) is ∙ ap (λ x. x ∷ []) (deep_is ops at t high reads)

pub two_checks : (ops : List Op) (roots : List ℕ) (a b : ℕ) (s t : Term) → 3 ≤ length ops → roots ≡ a ∷ b ∷ [] → ((depth : ℕ) → term_to ops (suc (suc depth)) a ≡ s) → ((depth : ℕ) → term_to ops (suc (suc depth)) b ≡ t)
    → terms_in ops roots ≡ s ∷ t ∷ []
two_checks ops roots a b s t high is first second =
    ap (terms_in ops) is ∙ ap₂ (λ x y. x ∷ y ∷ []) (deep_is ops a s high (λ d. first (suc d))) (deep_is ops b t high (λ d. second (suc d)))

-- the index of an inbox, from its parts
pub index_is : (i : Index) (name : List ℕ) (t : ℕ) → i.name ≡ name → i.tree ≡ suc t → i.table ≡ t → i.columns ≡ key_places → i.order.digits ≡ 0 → i.is_unique ≡ true → i ≡ key_index name t
index_is i name t named tree table columns order unique = go i.order named tree table columns order unique
  where
    go : (o : Order) → i.name ≡ name → i.tree ≡ suc t → i.table ≡ t → i.columns ≡ key_places → i.order.digits ≡ 0 → i.is_unique ≡ true → i ≡ key_index name t
    go o a b c d e f = rw (sym a, sym b, sym c, sym d, sym e, sym f) refl

-- the list of a table's keys, and that of their orders, where each has one
pub one_key : (keys : List (List ℕ)) (key : List ℕ) → length keys ≡ 1 → key ≡ get_or keys 0 key → key ≡ key_places → keys ≡ key_places ∷ []
one_key [] key long is same = absurd (omega (arith, long))
one_key (k ∷ []) key long is same = ap (λ k. k ∷ []) (sym is ∙ same)
one_key (k ∷ l ∷ keys) key long is same = absurd (omega (arith, long))

pub one_order : (orders : List Order) → length orders ≡ 1 → (slice_index_or orders 0 (record { digits = 0 })).digits ≡ 0 → orders ≡ record { digits = 0 } ∷ []
one_order [] long is = absurd (omega (arith, long))
one_order (o ∷ []) long is = search rules
one_order (o ∷ p ∷ orders) long is = absurd (omega (arith, long))

-- the table of an inbox, from its parts
pub keyed_is : (t : Table) (name : List ℕ) → t.name ≡ name → t.uniques ≡ key_places ∷ [] → t.orders ≡ record { digits = 0 } ∷ [] → t.checks ≡ [] → IsBareTable t → t ≡ keyed name t.columns t.tree
keyed_is t name named uniques orders checks bare = search rules
