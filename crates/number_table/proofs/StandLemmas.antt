-- What a numberer stands for, from call to call.
use Rattle.std.proofs.Common.{◌≡◌, ℕ, List, Option, Some, None, Ok, Err, IsTrue, true, sym, subst, arith}
use Rattle.std.specs.List.{AllByRecursion}
use Rattle.sqlite_trees.specs.Tree.{Trees}
use Rattle.sqlite.specs.State.{State, HasCleanDisk, Survives}
use Rattle.attributes.specs.Event.{EventValue}
use Rattle.attributes.specs.Fault.{IsEvent}
use Rattle.inbox.specs.KeyOrder.{key_cmp}
use Rattle.inbox.specs.Ordered.{append_new, has}
use Rattle.inbox.proofs.OrderLemmas.{key_cmp_total}
use Rattle.inbox_table.specs.Calls.{KeepEffect}
use Rattle.inbox_table.specs.Rows.{IsInbox}
use Rattle.inbox_table.specs.declared.fault.TableFault.{TableFault}
use Rattle.numbers.specs.Counts.{Counts, IsCountOf, IsCountOfRows}
use Rattle.numbers.specs.Numbered.{AreBare, HaveNumbers}
use Rattle.numbers.specs.Numberer.{number, taken}
use Rattle.numbers.proofs.CountLemmas.{rows_stay}
use Rattle.numbers.proofs.ListLemmas.{none_new, stays_once}
use Rattle.number_table.specs.Calls.{StandsNumbered, from}
use Rattle.number_table.proofs.KeepLemmas.{rows_grow, rows_there}

-- a disk that is honest in the end was so before
pub was_clean : (was is : State) (C : Trees → Type 0) → Survives was is C → HasCleanDisk is → HasCleanDisk was
was_clean was is C s clean = let below = s.clean in omega arith

-- what was read and counted
pub opened : (base : ℕ) (rows : List EventValue) (s : State) (c : Counts) → IsCountOfRows (λ _. base) rows c → (HasCleanDisk s → IsTrue s.is_open → IsInbox s.now rows) → (events : List EventValue) × StandsNumbered base events rows s (Some c)
opened base rows s c counted table = (
  counted.events,
  record {
    bare = counted.bare;
    once = counted.once;
    numbers = counted.numbers;
    whole = counted.whole;
    counts = counted.counts;
    table = table;
  },
)

-- nothing came of a call, and what was counted is given up
pub given_up : (base : ℕ) (events rows : List EventValue) (s : State) (c : Option Counts) → StandsNumbered base events rows s c → StandsNumbered base events rows s None
given_up base events rows s c was = record { bare = was.bare; once = was.once; numbers = was.numbers; whole = was.whole; counts = tt; table = was.table }

-- the table refused
pub refused : (base : ℕ) (events rows X : List EventValue) (old new : State) (c : Option Counts) (f : TableFault) (C : Trees → Type 0) → StandsNumbered base events rows old c → Survives old new C → (HasCleanDisk new → KeepEffect X old new (Err f)) → StandsNumbered base events rows new None
refused base events rows X old new c f C was s effect = record {
  bare = was.bare;
  once = was.once;
  numbers = was.numbers;
  whole = was.whole;
  counts = tt;
  table = λ clean is_open.
      let e = effect clean in
      subst (λ db. IsInbox db rows) (sym (e.same is_open)) (was.table (was_clean old new C s clean) (e.was_open is_open));
}

-- the events are kept with their numbers
pub kept : (base : ℕ) (L events rows X : List EventValue) (old new : State) (c k : Counts) (fresh : ℕ) (C : Trees → Type 0) → StandsNumbered base events rows old (Some c) → AreBare L → AllByRecursion IsEvent X
    → HaveNumbers (number (from base) (taken events L)) L X → IsCountOf (from base) (taken events L) k → Survives old new C → (HasCleanDisk new → KeepEffect X old new (Ok fresh)) → StandsNumbered base (taken events L) (append_new key_cmp rows X) new (Some k)
kept base L events rows X old new c k fresh C was bare whole have counts s effect =
    let grown = rows_grow (number (from base) (taken events L)) events rows L X bare whole have (record { numbers = rows_stay (from base) events L rows was.once was.numbers; bare = was.bare; whole = was.whole }) in
    record {
      bare = grown.bare;
      once = stays_once key_cmp_total events L was.once;
      numbers = grown.numbers;
      whole = grown.whole;
      counts = counts;
      table = λ clean is_open. let e = effect clean in e.takes rows (was.table (was_clean old new C s clean) (e.was_open is_open));
    }

-- each event had its number, and nothing was kept
pub known_still : (base : ℕ) (L events rows X : List EventValue) (s : State) (c k : Counts) → StandsNumbered base events rows s (Some c) → AreBare L → AllByRecursion IsEvent X → HaveNumbers (number (from base) events) L X → IsCountOf (from base) (taken events L) k
    → AllByRecursion (λ e. has key_cmp events e ≡ true) L → StandsNumbered base (taken events L) (append_new key_cmp rows X) s (Some k)
known_still base L events rows X s c k was bare whole have counts there =
    let same : taken events L ≡ events = none_new key_cmp_total events L there in
    let rows_same : append_new key_cmp rows X ≡ rows = none_new key_cmp_total rows X (rows_there (number (from base) events) events rows L X (record { numbers = was.numbers; bare = was.bare; whole = was.whole }) bare whole have there) in
    subst (λ A. StandsNumbered base A (append_new key_cmp rows X) s (Some k)) (sym same)
    (subst (λ D. StandsNumbered base events D s (Some k)) (sym rows_same) (record { bare = was.bare; once = was.once; numbers = was.numbers; whole = was.whole; counts = subst (λ A. IsCountOf (from base) A k) same counts; table = was.table }))

pub known_one : (base : ℕ) (L events rows X : List EventValue) (s : State) (c k : Counts) → StandsNumbered base events rows s (Some c) → AreBare L → AllByRecursion IsEvent X → HaveNumbers (number (from base) (taken events L)) L X → IsCountOf (from base) (taken events L) k
    → AllByRecursion (λ e. has key_cmp events e ≡ true) L → StandsNumbered base (taken events L) (append_new key_cmp rows X) s (Some k)
known_one base L events rows X s c k was bare whole have counts there =
    known_still base L events rows X s c k was bare whole (subst (λ A. HaveNumbers (number (from base) A) L X) (none_new key_cmp_total events L there) have) counts there
