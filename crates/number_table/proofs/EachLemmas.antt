-- Lists that are numbered one after the other.
use Rattle.std.proofs.Common.{◌≡◌, ◌∙◌, ℕ, zero, suc, List, [], ◌∷◌, ◌++◌, Option, Some, None, Ok, Err, sym, ap, subst, slice_get, append-nil}
use Rattle.std.specs.List.{AllByRecursion}
use Rattle.std.proofs.lemmas.List.Concat.{flat_map-append}
use Rattle.sqlite_trees.specs.Tree.{Trees}
use Rattle.sqlite.specs.State.{State, HasCleanDisk, Survives}
use Rattle.attributes.specs.Event.{EventValue}
use Rattle.attributes.specs.Fault.{IsEvent}
use Rattle.inbox.specs.KeyOrder.{key_cmp}
use Rattle.inbox.specs.Ordered.{append_new}
use Rattle.inbox.proofs.OrderLemmas.{key_cmp_total}
use Rattle.inbox.proofs.SetLemmas.{append_new-append}
use Rattle.inbox_table.specs.Calls.{KeepEachEffect, joined}
use Rattle.inbox_table.specs.Rows.{IsInbox}
use Rattle.inbox_table.specs.declared.fault.TableFault.{TableFault}
use Rattle.numbers.specs.Counts.{Counts, IsCountOf}
use Rattle.numbers.specs.Numbered.{AreBare, AreEachNumbered, HaveNumbers}
use Rattle.numbers.specs.Numberer.{IsEachOnce, number, taken}
use Rattle.numbers.proofs.CountLemmas.{rows_stay}
use Rattle.numbers.proofs.ListLemmas.{stays_once}
use Rattle.number_table.specs.Calls.{StandsNumbered, from}
use Rattle.number_table.specs.Each.{AnswersEach, AreNumberedEach}
use Rattle.number_table.proofs.KeepLemmas.{rows_grow}
use Rattle.number_table.proofs.StandLemmas.{was_clean}

taken_joined : (A L : List EventValue) (lists : List (List EventValue)) → taken A (joined (L ∷ lists)) ≡ taken (taken A L) (joined lists)
taken_joined A L lists = append_new-append key_cmp_total A L (joined lists)

pub joined_more : (lists : List (List EventValue)) (L : List EventValue) → joined (lists ++ L ∷ []) ≡ joined lists ++ L
joined_more lists L = flat_map-append (λ (M : List EventValue). M) lists (L ∷ []) ∙ ap (λ M. joined lists ++ M) (append-nil L)

pub taken_more : (A : List EventValue) (lists : List (List EventValue)) (L : List EventValue) → taken A (joined (lists ++ L ∷ [])) ≡ taken (taken A (joined lists)) L
taken_more A lists L = ap (taken A) (joined_more lists L) ∙ append_new-append key_cmp_total A (joined lists) L

pub taken_join : (A : List EventValue) (lists more : List (List EventValue)) → taken A (joined (lists ++ more)) ≡ taken (taken A (joined lists)) (joined more)
taken_join A lists more = ap (taken A) (flat_map-append (λ (M : List EventValue). M) lists more) ∙ append_new-append key_cmp_total A (joined lists) (joined more)

-- lists, and others behind them
pub each_join : (base : List ℕ → ℕ) (A : List EventValue) (lists answers more replies : List (List EventValue)) → AnswersEach base A lists answers → AnswersEach base (taken A (joined lists)) more replies → AnswersEach base A (lists ++ more) (answers ++ replies)
each_join base A [] [] more replies none then = then
each_join base A [] (N ∷ answers) more replies none then = absurd none
each_join base A (K ∷ lists) [] more replies were then = absurd were
each_join base A (K ∷ lists) (N ∷ answers) more replies were then =
    (were.0, each_join base (taken A K) lists answers more replies were.1 (subst (λ B. AnswersEach base B more replies) (taken_joined A K lists) then))

pub each_more : (base : List ℕ → ℕ) (A : List EventValue) (lists answers : List (List EventValue)) (L M : List EventValue) → AnswersEach base A lists answers → HaveNumbers (number base (taken (taken A (joined lists)) L)) L M
    → AnswersEach base A (lists ++ L ∷ []) (answers ++ M ∷ [])
each_more base A lists answers L M were one = each_join base A lists answers (L ∷ []) (M ∷ []) were (one, tt)

-- what rows are of what was numbered
pub record AreRows (base : List ℕ → ℕ) (events rows : List EventValue) : Type 0 where
  pub bare : AreBare events
  pub once : IsEachOnce events
  pub numbers : HaveNumbers (number base events) events rows
  pub whole : AllByRecursion IsEvent rows

rows_one : (base : List ℕ → ℕ) (L events rows X : List EventValue) → AreRows base events rows → AreBare L → AllByRecursion IsEvent X → HaveNumbers (number base (taken events L)) L X → AreRows base (taken events L) (append_new key_cmp rows X)
rows_one base L events rows X was bare whole have =
    let grown = rows_grow (number base (taken events L)) events rows L X bare whole have (record { numbers = rows_stay base events L rows was.once was.numbers; bare = was.bare; whole = was.whole }) in
    record {
      bare = grown.bare;
      once = stays_once key_cmp_total events L was.once;
      numbers = grown.numbers;
      whole = grown.whole;
    }

pub rows_each : (base : List ℕ → ℕ) (lists : List (List EventValue)) (events rows : List EventValue) (answers : List (List EventValue)) → AreRows base events rows → AllByRecursion AreBare lists → AllByRecursion (AllByRecursion IsEvent) answers → AnswersEach base events lists answers
    → AreRows base (taken events (joined lists)) (append_new key_cmp rows (joined answers))
rows_each base [] events rows [] was bare whole each = was
rows_each base [] events rows (M ∷ answers) was bare whole each = absurd each
rows_each base (L ∷ lists) events rows [] was bare whole each = absurd each
rows_each base (L ∷ lists) events rows (M ∷ answers) was bare whole each =
    let later = rows_each base lists (taken events L) (append_new key_cmp rows M) answers (rows_one base L events rows M was bare.0 whole.0 each.0) bare.1 whole.1 each.1 in
    subst (λ A. AreRows base A (append_new key_cmp rows (joined (M ∷ answers)))) (sym (taken_joined events L lists))
    (subst (λ D. AreRows base (taken (taken events L) (joined lists)) D) (sym (taken_joined rows M answers)) later)

-- the lists are kept with their numbers
pub kept_each : (base : ℕ) (lists : List (List EventValue)) (events rows : List EventValue) (answers : List (List EventValue)) (old new : State) (c k : Counts) (fresh : List ℕ) (C : Trees → Type 0) → StandsNumbered base events rows old (Some c) → AllByRecursion AreBare lists
    → AllByRecursion (AllByRecursion IsEvent) answers → AnswersEach (from base) events lists answers → IsCountOf (from base) (taken events (joined lists)) k → Survives old new C → (HasCleanDisk new → KeepEachEffect answers old new (Ok fresh))
    → StandsNumbered base (taken events (joined lists)) (append_new key_cmp rows (joined answers)) new (Some k)
kept_each base lists events rows answers old new c k fresh C was bare whole each counts s effect =
    let are = rows_each (from base) lists events rows answers (record { bare = was.bare; once = was.once; numbers = was.numbers; whole = was.whole }) bare whole each in
    record {
      bare = are.bare;
      once = are.once;
      numbers = are.numbers;
      whole = are.whole;
      counts = counts;
      table = λ clean is_open. let e = effect clean in e.takes rows (was.table (was_clean old new C s clean) (e.was_open is_open));
    }

-- the table refused
pub refused_each : (base : ℕ) (events rows : List EventValue) (answers : List (List EventValue)) (old new : State) (c : Option Counts) (f : TableFault) (C : Trees → Type 0) → StandsNumbered base events rows old c → Survives old new C → (HasCleanDisk new → KeepEachEffect answers old new (Err f))
    → StandsNumbered base events rows new None
refused_each base events rows answers old new c f C was s effect = record {
  bare = was.bare;
  once = was.once;
  numbers = was.numbers;
  whole = was.whole;
  counts = tt;
  table = λ clean is_open.
      let e = effect clean in
      subst (λ db. IsInbox db rows) (sym (e.same is_open)) (was.table (was_clean old new C s clean) (e.was_open is_open));
}

pub numbered_more : (lists answers : List (List EventValue)) (L M : List EventValue) → AreNumberedEach lists answers → AreEachNumbered L M → AreNumberedEach (lists ++ L ∷ []) (answers ++ M ∷ [])
numbered_more [] [] L M are one = (one, tt)
numbered_more [] (N ∷ answers) L M are one = absurd are
numbered_more (K ∷ lists) [] L M are one = absurd are
numbered_more (K ∷ lists) (N ∷ answers) L M are one = (are.0, numbered_more lists answers L M are.1 one)

pub all_more : (answers : List (List EventValue)) (M : List EventValue) → AllByRecursion (AllByRecursion IsEvent) answers → AllByRecursion IsEvent M → AllByRecursion (AllByRecursion IsEvent) (answers ++ M ∷ [])
all_more [] M were is = (is, tt)
all_more (N ∷ answers) M were is = (were.0, all_more answers M were.1 is)

pub bare_at : (lists : List (List EventValue)) (i : ℕ) (L : List EventValue) → AllByRecursion AreBare lists → slice_get lists i ≡ Some L → AreBare L
bare_at [] i L bare at = absurd (cc)
bare_at (M ∷ lists) zero L bare at = (let same : M ≡ L = cc in subst AreBare same bare.0)
bare_at (M ∷ lists) (suc i) L bare at = bare_at lists i L bare.1 at
