-- How many orders a service has.
use Rattle.std.proofs.Common.{◌≡◌, ◌+◌, ◌≤◌, ℕ, zero, suc, pos, List, [], ◌∷◌, ◌++◌, length, flat_map, IsTrue, None, refl, sym, ap, subst, ◌∙◌, arith, length-append}
use Rattle.std.proofs.lemmas.List.Concat.{flat_map-append}
use Rattle.std.proofs.lemmas.List.Sorted.{length_permutation}
use Rattle.sqlite_value.specs.Order.{Row, column}
use Rattle.sqlite_value.specs.declared.value.Value.{Value}
use Rattle.sqlite_value.specs.declared.value.Value.TheVariants.{Int}
use Rattle.sqlite_trees.proofs.ListLemmas.{IsPermutation-flat_map}
use Rattle.sqlite.specs.Effect.{Database}
use Rattle.sqlite.specs.State.{State, HasCleanDisk}
use Rattle.outbox.specs.Order.{Accepted, IsCommand, orders_of, placed_by, refusal}
use Rattle.outbox.specs.Service.{IsService, code, outbox_row, outbox_rows}
use Rattle.outbox.specs.Shown.{CountsOrders, KeepsCount, StandsWithRows}
use Rattle.outbox.specs.Call.{IsServiceReading}
use Rattle.outbox.specs.Layout.{first_tree}
use Rattle.outbox.specs.steps.Change.{AddsCommand}
use Rattle.outbox.specs.declared.status.Status.{Status}
use Rattle.outbox.specs.declared.status.Status.TheVariants.{Placed, Shipped, Cancelled}
use Rattle.outbox.proofs.LayoutLemmas.{same_tree}
use Rattle.outbox.proofs.ServiceLemmas.{after_write}

pub orders_snoc : (commands : List Accepted) (c : Accepted) → length (orders_of (commands ++ c ∷ [])) ≡ length (orders_of commands) + length (placed_by c.status c.order)
orders_snoc commands c =
    let last : length (placed_by c.status c.order ++ []) ≡ length (placed_by c.status c.order) + 0 = length-append (placed_by c.status c.order) [] in
    ap length (flat_map-append (λ (d : Accepted). placed_by d.status d.order) commands (c ∷ []))
    ∙ length-append (orders_of commands) (placed_by c.status c.order ++ [])
    ∙ (let e : length (orders_of commands) + length (placed_by c.status c.order ++ []) ≡ length (orders_of commands) + length (placed_by c.status c.order) = omega (arith, last) in e)

-- ---- the rows of `outbox` tell how many orders there are, in whatever order they stand

abbrev mark : Value → List ℕ
mark (Int (pos (suc zero))) = 1 ∷ []
mark _ = []

abbrev marked : Row → List ℕ
marked r = mark (column r 2)

one_mark : (s : Status) (order : ℕ) → length (mark (Int (pos (code s)))) ≡ length (placed_by s order)
one_mark Placed order = refl
one_mark Shipped order = refl
one_mark Cancelled order = refl

marks : (n : ℕ) (commands : List Accepted) → length (flat_map marked (outbox_rows n commands)) ≡ length (orders_of commands)
marks n [] = refl
marks n (c ∷ commands) =
    length-append (marked (outbox_row n c)) (flat_map marked (outbox_rows (suc n) commands))
    ∙ (let e : length (marked (outbox_row n c)) + length (flat_map marked (outbox_rows (suc n) commands)) ≡ length (placed_by c.status c.order) + length (orders_of commands) = omega (arith, one_mark c.status c.order, marks (suc n) commands) in e)
    ∙ sym (length-append (placed_by c.status c.order) (orders_of commands))

pub same_orders : (db : Database) (source : List ℕ) (base : ℕ) (one two : List Accepted) → IsService db source base one → IsService db source base two → length (orders_of one) ≡ length (orders_of two)
same_orders db source base one two a b =
    let same = same_tree a.layout b.layout (sym a.schema ∙ b.schema) in
    let trees : length (flat_map marked (db.trees (suc (suc (first_tree a.layout))))) ≡ length (flat_map marked (db.trees (suc (suc (first_tree b.layout))))) = ap (λ t. length (flat_map marked (db.trees (suc (suc t))))) same in
    sym (marks (suc base) one) ∙ sym (length_permutation _ _ (IsPermutation-flat_map marked _ _ a.outbox)) ∙ trees ∙ length_permutation _ _ (IsPermutation-flat_map marked _ _ b.outbox) ∙ marks (suc base) two

-- ---- the count that is kept, from call to call

-- what holds of one list of commands holds of each
pub counts_all : (db : Database) (source : List ℕ) (base n : ℕ) (commands : List Accepted) → IsService db source base commands → n ≡ length (orders_of commands) → CountsOrders db source base n
counts_all db source base n commands table is others box = is ∙ same_orders db source base commands others table box

-- a service without commands
pub keeps_none : (s : State) (source : List ℕ) (base : ℕ) → (HasCleanDisk s → IsService s.now source base []) → KeepsCount s source base base 0
keeps_none s source base made = record {
  few = (let e : base + 0 ≤ base = omega arith in e);
  exact = λ clean still. counts_all s.now source base 0 [] (made clean) refl;
}

-- a call that left the database
pub keeps_same : (old new : State) (source : List ℕ) (base last orders : ℕ) → (HasCleanDisk old → IsTrue old.is_open → StandsWithRows old.now source base last) → IsServiceReading old new → KeepsCount old source base last orders → KeepsCount new source base last orders
keeps_same old new source base last orders stands same keeps = record {
  few = keeps.few;
  exact = λ clean still commands box.
      let was_clean : HasCleanDisk old = omega (arith, same.clean, clean) in
      let was_open = same.was_open clean still in
      let table = (stands was_clean was_open).table in
      keeps.exact was_clean was_open commands (subst (λ (d : Database). IsService d source base commands) (same.same clean still table.layout table.schema).0 box);
}

-- one that was refused when it wrote
pub keeps_back : (old mid new : State) (source : List ℕ) (base last orders : ℕ) → (HasCleanDisk old → IsTrue old.is_open → StandsWithRows old.now source base last) → IsServiceReading old mid
    → (HasCleanDisk new → HasCleanDisk mid) → (HasCleanDisk new → IsTrue new.is_open → IsTrue mid.is_open × (new.now ≡ mid.now))
    → KeepsCount old source base last orders → KeepsCount new source base last orders
keeps_back old mid new source base last orders stands same cleans back keeps = record {
  few = keeps.few;
  exact = λ clean still commands box.
      let mid_clean = cleans clean in
      let mid_open = (back clean still).0 in
      let was_clean : HasCleanDisk old = omega (arith, same.clean, mid_clean) in
      let was_open = same.was_open mid_clean mid_open in
      let table = (stands was_clean was_open).table in
      keeps.exact was_clean was_open commands (subst (λ (d : Database). IsService d source base commands) ((back clean still).1 ∙ (same.same mid_clean mid_open table.layout table.schema).0) box);
}

-- one that accepted a command
pub counts_after : (old mid new : State) (source : List ℕ) (base last number orders placed : ℕ) (c : Accepted) → IsCommand c → number ≡ last + 1 → IsServiceReading old mid → HasCleanDisk mid → IsTrue mid.is_open
    → (HasCleanDisk old → IsTrue old.is_open → StandsWithRows old.now source base last)
    → ((source : List ℕ) (base : ℕ) (commands : List Accepted) → last ≡ base + length commands → IsService old.now source base commands → refusal base commands c.status c.order ≡ None) → AddsCommand number c mid.now new.now
    → placed ≡ length (placed_by c.status c.order) → KeepsCount old source base last orders → CountsOrders new.now source base (orders + placed)
counts_after old mid new source base last number orders placed c command next same clean still stands decided adds placed_is keeps =
    let was_clean : HasCleanDisk old = omega (arith, same.clean, clean) in
    let was_open = same.was_open clean still in
    let was = stands was_clean was_open in
    let it = after_write old mid new.now source base last number c command next same clean still stands decided adds was.commands was.table in
    let more : orders + placed ≡ length (orders_of (was.commands ++ c ∷ [])) = omega (arith, placed_is, keeps.exact was_clean was_open was.commands was.table, orders_snoc was.commands c) in
    counts_all new.now source base (orders + placed) (was.commands ++ c ∷ []) it.1.service more
