-- The turns of a transaction that takes lists of events.
use Rattle.std.proofs.Common.{◌≡◌, ◌≤◌, ℕ, zero, suc, ◌+◌, ◌++◌, ◌^◌, ◌<◌, if◌then◌else◌, length, length-append, append_assoc, slice_get, drop, take, IfOk, map, sum, min, ◌-◌, add-one, List, [], ◌∷◌, Some, Ok, Err, Result, IsTrue, refl, sym, ap, subst, ◌∙◌, arith}
use Rattle.std.proofs.lemmas.List.Sums.{sum_by-append, sum_by-cons}
use Rattle.sqlite.specs.Effect.{Database, IsDatabase}
use Rattle.sqlite.specs.State.{State, IsUnchanged, KeepsCommit}
use Rattle.attributes.specs.Event.{EventValue}
use Rattle.inbox.specs.KeyOrder.{key_cmp}
use Rattle.inbox.specs.Ordered.{append_new, has}
use Rattle.inbox.proofs.SetLemmas.{length-append_new}
use Rattle.inbox_table.specs.Calls.{AreFreshEach, KeepEachEffect, KeepEffect, Stands, Takes, joined}
use Rattle.inbox_table.specs.Rows.{IsInbox}
use Rattle.inbox_table.specs.declared.fault.TableFault.{TableFault}
use Rattle.inbox_table.specs.declared.version.Version.TheVariants.{Two}
use Rattle.inbox_table.specs.steps.Turns.{AreSingle, At, IsFilled, IsKeeping, IsKeepingEach, KeepsOthers, schema_at, tree_at}
use Rattle.inbox_table.proofs.HomeLemmas.{others_same, others_then}
use Rattle.inbox_table.proofs.InsertLemmas.{behind, get_taken, length_part, take_next}
use Rattle.inbox_table.proofs.KeepLemmas.{filled_in}
use Rattle.inbox_table.proofs.RowLemmas.{same_length}

-- one list behind another
append_both : (A L M : List EventValue) → append_new key_cmp (append_new key_cmp A L) M ≡ append_new key_cmp A (L ++ M)
append_both A [] M = refl
append_both A (e ∷ L) M = append_both (if has key_cmp A e then A else A ++ e ∷ []) L M

item_from : {T : Type 0} (L : List T) (i : ℕ) (x : T) → slice_get L i ≡ Some x → drop i L ≡ x ∷ drop (suc i) L
item_from [] i x is = absurd (cc)
item_from (y ∷ L) zero x is = (let same : y ≡ x = cc in ap (λ z. z ∷ L) same)
item_from (y ∷ L) (suc i) x is = item_from L i x is

-- the list at a place, and those behind it
pub item_is : {T : Type 0} (L : List T) (i : ℕ) (x : T) → slice_get L i ≡ Some x → drop i L ≡ x ∷ drop (i + 1) L
item_is L i x is = rw add-one (item_from L i x is)

-- the lists from a place on have the events of the one there, and those behind
pub joined_at : (lists : List (List EventValue)) (i : ℕ) (L : List EventValue) → slice_get lists i ≡ Some L → length (joined (drop i lists)) ≡ length L + length (joined (drop (i + 1) lists))
joined_at lists i L is = ap (λ ls. length (joined ls)) (item_is lists i L is) ∙ length-append L (joined (drop (i + 1) lists))

pub sum_more : (each : List ℕ) (n : ℕ) → sum (each ++ n ∷ []) ≡ sum each + n
sum_more each n = omega (arith, sum_by-append (λ (x : ℕ). x) each (n ∷ []), sum_by-cons (λ (x : ℕ). x) n [])

-- the count of what the lists have, as long as it isn't too great
pub length_next : (lists : List (List EventValue)) (i : ℕ) (L : List EventValue) (count sum : ℕ) → slice_get lists i ≡ Some L → (count < 18446744073709551615 → count + length (joined (drop i lists)) ≡ length (joined lists)) → sum ≡ min (count + length L) (2 ^ 64 - 1)
    → sum < 18446744073709551615 → sum + length (joined (drop (i + 1) lists)) ≡ length (joined lists)
length_next lists i L count sum at before is small =
    let more = joined_at lists i L at in
    let exact : sum ≡ count + length L = omega (arith, is, small) in
    omega (arith, more, exact, before (omega (arith, exact, small)))

pub each_first : (rows : ℕ) (all : List (List EventValue)) (s : State) → IsTrue s.in_transaction → IsKeepingEach rows all all s s 0 []
each_first rows all s inside = record {
  table = λ h events box count. record {
    held = events;
    table = box;
    rest = refl;
    count = (let e : length events ≡ rows + 0 = omega (arith, count) in e);
    counted = λ more told. told;
    sound = λ sound. sound;
    others = others_same (schema_at h).tables (tree_at h) s.now.trees;
  };
  was_open = λ h. h;
  committed = refl;
  mode = inside;
}

pub each_next : (rows : ℕ) (all left : List (List EventValue)) (L : List EventValue) (old mid now : State) (fresh n : ℕ) (each : List ℕ) → IsKeepingEach rows all (L ∷ left) old mid fresh each → IsKeeping (rows + fresh) L [] mid now n
    → IsKeepingEach rows all left old now (fresh + n) (each ++ n ∷ [])
each_next rows all left L old mid now fresh n each so_far took = record {
  table = λ h events box count.
      let was = so_far.table h events box count in
      let one = took.table h was.held was.table (sym was.count) in
      record {
        held = one.held;
        table = one.table;
        rest = ap (λ A. append_new key_cmp A (joined left)) one.rest ∙ append_both was.held L (joined left) ∙ was.rest;
        count = (let sum : length one.held ≡ rows + (fresh + n) = omega (arith, one.count) in sum);
        counted = λ more told.
            subst (λ l. AreFreshEach events all l) (sym (append_assoc each (n ∷ []) more))
            (was.counted (n ∷ more) (
              (let len = ap length one.rest in let e : length was.held + n ≡ length (append_new key_cmp was.held L) = omega (arith, len, one.count, was.count) in e),
              subst (λ A. AreFreshEach A left more) one.rest told,
            ));
        sound = λ sound. one.sound (was.sound sound);
        others = others_then (schema_at h).tables (tree_at h) old.now.trees mid.now.trees now.now.trees was.others one.others;
      };
  was_open = λ h. so_far.was_open (took.was_open h);
  committed = took.committed ∙ so_far.committed;
  mode = took.mode;
}

-- nothing was committed meanwhile
pub each_commit : {rows : ℕ} {all left : List (List EventValue)} {old now : State} {fresh : ℕ} {each : List ℕ} → IsKeepingEach rows all left old now fresh each → KeepsCommit old now
each_commit k = record { was_open = k.was_open; committed = λ _. k.committed }

-- once nothing is left, the events of all lists were put in, as those of one
pub each_as_one : (rows : ℕ) (lists : List (List EventValue)) (old now : State) (fresh : ℕ) (each : List ℕ) → IsKeepingEach rows lists [] old now fresh each → IsKeeping rows (joined lists) [] old now fresh
each_as_one rows lists old now fresh each k = record {
  table = λ h events box count.
      let it = k.table h events box count in
      record { held = it.held; table = it.table; rest = it.rest; count = it.count; sound = it.sound; others = it.others };
  was_open = k.was_open;
  committed = k.committed;
  mode = k.mode;
}

-- and of each so many were new
pub each_fresh : (rows : ℕ) (lists : List (List EventValue)) (old mid : State) (fresh : ℕ) (each : List ℕ) → IsKeepingEach rows lists [] old mid fresh each → Stands old.now rows
    → (events : List EventValue) → IsInbox old.now events → AreFreshEach events lists each
each_fresh rows lists old mid fresh each k stood events box =
    let count = stood.count ∙ same_length Two old.now stood.events events stood.table box in
    subst (λ l. AreFreshEach events lists l) (nothing_behind each) ((k.table (At box.layout) events (filled_in old.now events box) count).counted [] tt)
  where
    nothing_behind : (l : List ℕ) → l ++ [] ≡ l
    nothing_behind [] = refl
    nothing_behind (x ∷ l) = ap (λ m. x ∷ m) (nothing_behind l)

-- what the call came to, in the words of one list
pub each_done : (lists : List (List EventValue)) (old new : State) (n : ℕ) (each : List ℕ) → KeepEffect (joined lists) old new (Ok n) → ((events : List EventValue) → IsInbox old.now events → AreFreshEach events lists each)
    → KeepEachEffect lists old new (Ok each)
each_done lists old new n each it fresh = record { takes = it.takes; fresh = fresh; beside = it.beside; stays_open = it.stays_open; settled = it.settled; same = λ _. tt; was_open = it.was_open }

pub each_back : (lists : List (List EventValue)) (old new : State) (fault : TableFault) → (IsTrue new.is_open → (new.now ≡ old.now) × IsTrue old.is_open) → KeepEachEffect lists old new (Err fault)
each_back lists old new fault back = record { takes = tt; fresh = tt; beside = tt; stays_open = tt; settled = tt; same = λ still. (back still).0; was_open = λ still. (back still).1 }

fresh_in_all : (events : List EventValue) (lists : List (List EventValue)) (each : List ℕ) → AreFreshEach events lists each → length events + sum each ≡ length (append_new key_cmp events (joined lists))
fresh_in_all events [] [] told = omega arith
fresh_in_all events (L ∷ lists) (n ∷ each) told =
    let later = fresh_in_all (append_new key_cmp events L) lists each told.1 in
    let all = ap length (append_both events L (joined lists)) in
    omega (arith, later, all, told.0, sum_by-cons (λ (x : ℕ). x) n each)
fresh_in_all events [] (n ∷ each) told = absurd told
fresh_in_all events (L ∷ lists) [] told = absurd told

-- the table has so many events more
pub each_stands : (lists : List (List EventValue)) (old new : Database) (rows : ℕ) (each : List ℕ) → Stands old rows → Takes (joined lists) old new → ((events : List EventValue) → IsInbox old events → AreFreshEach events lists each)
    → Stands new (rows + sum each)
each_stands lists old new rows each stood takes fresh = record {
  events = append_new key_cmp stood.events (joined lists);
  table = takes stood.events stood.table;
  count = (let all = fresh_in_all stood.events lists each (fresh stood.events stood.table) in let e : rows + sum each ≡ length (append_new key_cmp stood.events (joined lists)) = omega (arith, all, stood.count) in e);
}

pub joined_both : (A B : List (List EventValue)) → joined (A ++ B) ≡ joined A ++ joined B
joined_both [] B = refl
joined_both (L ∷ A) B = ap (λ l. L ++ l) (joined_both A B) ∙ sym (append_assoc L (joined A) (joined B))

-- lists were put in, and then those of a part behind them
pub each_more : (rows : ℕ) (all left part : List (List EventValue)) (old mid now : State) (fresh n : ℕ) (each more : List ℕ) → IsKeepingEach rows all (part ++ left) old mid fresh each → IsKeepingEach (rows + fresh) part [] mid now n more
    → IsKeepingEach rows all left old now (fresh + n) (each ++ more)
each_more rows all left part old mid now fresh n each more so_far took = record {
  table = λ h events box count.
      let was = so_far.table h events box count in
      let one = took.table h was.held was.table (sym was.count) in
      record {
        held = one.held;
        table = one.table;
        rest = ap (λ A. append_new key_cmp A (joined left)) one.rest ∙ append_both was.held (joined part) (joined left) ∙ ap (append_new key_cmp was.held) (sym (joined_both part left)) ∙ was.rest;
        count = (let sum : length one.held ≡ rows + (fresh + n) = omega (arith, one.count) in sum);
        counted = λ behind told.
            subst (λ l. AreFreshEach events all l) (sym (append_assoc each more behind))
            (was.counted (more ++ behind) (fresh_both was.held part left more behind (subst (λ l. AreFreshEach was.held part l) (nothing_more more) (one.counted [] tt)) (subst (λ A. AreFreshEach A left behind) one.rest told)));
        sound = λ sound. one.sound (was.sound sound);
        others = others_then (schema_at h).tables (tree_at h) old.now.trees mid.now.trees now.now.trees was.others one.others;
      };
  was_open = λ h. so_far.was_open (took.was_open h);
  committed = took.committed ∙ so_far.committed;
  mode = took.mode;
}
  where
    nothing_more : (l : List ℕ) → l ++ [] ≡ l
    nothing_more [] = refl
    nothing_more (x ∷ l) = ap (λ m. x ∷ m) (nothing_more l)

    fresh_both : (held : List EventValue) (A B : List (List EventValue)) (m k : List ℕ) → AreFreshEach held A m → AreFreshEach (append_new key_cmp held (joined A)) B k → AreFreshEach held (A ++ B) (m ++ k)
    fresh_both held [] B [] k one two = two
    fresh_both held (L ∷ A) B (n ∷ m) k one two =
        (one.0, fresh_both (append_new key_cmp held L) A B m k one.1 (subst (λ H. AreFreshEach H B k) (sym (append_both held L (joined A))) two))
    fresh_both held [] B (n ∷ m) k one two = absurd one
    fresh_both held (L ∷ A) B [] k one two = absurd one

-- where all events of lists were new, those of each list were
all_fresh : (events : List EventValue) (lists : List (List EventValue)) → length events + length (joined lists) ≡ length (append_new key_cmp events (joined lists)) → AreFreshEach events lists (map length lists)
all_fresh events [] all = tt
all_fresh events (L ∷ lists) all =
    let both = ap length (append_both events L (joined lists)) in
    let first = length-append_new key_cmp events L in
    let later = length-append_new key_cmp (append_new key_cmp events L) (joined lists) in
    let parts = length-append L (joined lists) in
    (omega (arith, all, both, first.1, later.1, parts), all_fresh (append_new key_cmp events L) lists (omega (arith, all, both, first.1, later.1, parts)))

pub sum_lengths : (lists : List (List EventValue)) → sum (map length lists) ≡ length (joined lists)
sum_lengths [] = refl
sum_lengths (L ∷ lists) = omega (arith, sum_lengths lists, length-append L (joined lists), sum_by-cons (λ (x : ℕ). x) (length L) (map length lists))

-- the events of lists were put in as those of one, and all were new
pub each_of_new : (rows : ℕ) (lists : List (List EventValue)) (old now : State) → IsKeeping rows (joined lists) [] old now (length (joined lists)) → IsKeepingEach rows lists [] old now (sum (map length lists)) (map length lists)
each_of_new rows lists old now k = subst (λ n. IsKeepingEach rows lists [] old now n (map length lists)) (sym (sum_lengths lists)) (record {
  table = λ h events box count.
      let it = k.table h events box count in
      record {
        held = it.held;
        table = it.table;
        rest = it.rest;
        count = it.count;
        counted = λ more told.
            let len = ap length it.rest in
            let new = all_fresh events lists (omega (arith, len, it.count, count)) in
            counted_behind events lists (map length lists) more new it.held told;
        sound = it.sound;
        others = it.others;
      };
  was_open = k.was_open;
  committed = k.committed;
  mode = k.mode;
})
  where
    counted_behind : (events : List EventValue) (lists : List (List EventValue)) (each more : List ℕ) → AreFreshEach events lists each → (held : List EventValue) → AreFreshEach held [] more → AreFreshEach events lists (each ++ more)
    counted_behind events [] [] [] told held none = tt
    counted_behind events (L ∷ lists) (n ∷ each) more told held none = (told.0, counted_behind (append_new key_cmp events L) lists each more told.1 held none)
    counted_behind events [] [] (x ∷ more) told held none = absurd none
    counted_behind events [] (n ∷ each) more told held none = absurd told
    counted_behind events (L ∷ lists) [] more told held none = absurd told

-- the transaction was as it was, and then lists were put in
pub each_again : {A : Type 0} (rows : ℕ) (lists : List (List EventValue)) (old mid last : State) (result : Result (List ℕ) A) → IsUnchanged old mid → IsTrue old.in_transaction → (IsTrue mid.in_transaction → IfOk result (λ each. IsKeepingEach rows lists [] mid last (sum each) each))
    → IfOk result (λ each. IsKeepingEach rows lists [] old last (sum each) each)
each_again rows lists old mid last (Ok each) same inside keeps = after (keeps (same.0.mode ∙ inside))
  where
    after : IsKeepingEach rows lists [] mid last (sum each) each → IsKeepingEach rows lists [] old last (sum each) each
    after k = record {
      table = λ h events box count.
          let it = k.table h events (subst (λ (d : Database). IsFilled h d events) (sym same.0.now_is) box) count in
          record {
            held = it.held;
            table = it.table;
            rest = it.rest;
            count = it.count;
            counted = it.counted;
            sound = λ was. it.sound (subst IsDatabase (sym same.0.now_is) was);
            others = subst (λ (d : Database). KeepsOthers (schema_at h).tables (tree_at h) d.trees last.now.trees) same.0.now_is it.others;
          };
      was_open = λ _. same.0.was_open;
      committed = k.committed ∙ same.0.committed_is;
      mode = k.mode;
    }
each_again rows lists old mid last (Err error) same inside keeps = tt

-- ---- lists with one event each

single_more : (A : List (List EventValue)) (L : List EventValue) → AreSingle A → length L ≡ 1 → AreSingle (A ++ L ∷ [])
single_more [] L are one = (one, tt)
single_more (M ∷ A) L are one = (are.0, single_more A L are.1 one)

-- one list more has one event
pub single_next : (from i : ℕ) (lists : List (List EventValue)) (L : List EventValue) → slice_get lists (from + i) ≡ Some L → AreSingle (take i (drop from lists)) → length L ≡ 1 → AreSingle (take (i + 1) (drop from lists))
single_next from i lists L is are one = rw add-one (subst AreSingle (sym (take_next (drop from lists) i L (behind lists from i ∙ is))) (single_more (take i (drop from lists)) L are one))

single_at : (A : List (List EventValue)) (i : ℕ) (L : List EventValue) → AreSingle A → slice_get A i ≡ Some L → length L ≡ 1
single_at [] i L are is = absurd (cc)
single_at (M ∷ A) zero L are is = (let same : M ≡ L = cc in subst (λ l. length l ≡ 1) same are.0)
single_at (M ∷ A) (suc i) L are is = single_at A i L are.1 is

-- so does one of eight
pub single_of : (from i : ℕ) (lists : List (List EventValue)) (L : List EventValue) → AreSingle (take 8 (drop from lists)) → i < 8 → slice_get lists (from + i) ≡ Some L → length L ≡ 1
single_of from i lists L are low is = single_at (take 8 (drop from lists)) i L are (get_taken 8 (drop from lists) i low ∙ behind lists from i ∙ is)

length_single : (A : List (List EventValue)) → AreSingle A → length (joined A) ≡ length A
length_single [] are = refl
length_single (L ∷ A) are = omega (arith, length-append L (joined A), length_single A are.1, are.0)

pub eight_events : (from : ℕ) (lists : List (List EventValue)) → from + 8 ≤ length lists → AreSingle (take 8 (drop from lists)) → length (joined (take 8 (drop from lists))) ≡ 8
eight_events from lists low are = length_single (take 8 (drop from lists)) are ∙ length_part 8 from lists low

the_one : (L : List EventValue) (e : EventValue) → length L ≡ 1 → slice_get L 0 ≡ Some e → L ≡ e ∷ []
the_one [] e one is = absurd (cc)
the_one (x ∷ []) e one is = (let same : x ≡ e = cc in ap (λ y. y ∷ []) same)
the_one (x ∷ y ∷ L) e one is = absurd (omega (arith, one))

-- the events of lists with one each, and that of the next one
pub joined_next : (from i : ℕ) (lists : List (List EventValue)) (L : List EventValue) (e : EventValue) → slice_get lists (from + i) ≡ Some L → length L ≡ 1 → slice_get L 0 ≡ Some e → joined (take (i + 1) (drop from lists)) ≡ joined (take i (drop from lists)) ++ e ∷ []
joined_next from i lists L e is one first =
    rw add-one (ap joined (take_next (drop from lists) i L (behind lists from i ∙ is)) ∙ joined_both (take i (drop from lists)) (L ∷ []) ∙ ap (λ l. joined (take i (drop from lists)) ++ (l ++ [])) (the_one L e one first))

-- the lists of a part, with the next one
pub lengths_next : (from i : ℕ) (lists : List (List EventValue)) (L : List EventValue) → slice_get lists (from + i) ≡ Some L → map length (take (i + 1) (drop from lists)) ≡ map length (take i (drop from lists)) ++ length L ∷ []
lengths_next from i lists L is = rw add-one (ap (map length) (take_next (drop from lists) i L (behind lists from i ∙ is)) ∙ map_more (take i (drop from lists)))
  where
    map_more : (A : List (List EventValue)) → map length (A ++ L ∷ []) ≡ map length A ++ length L ∷ []
    map_more [] = refl
    map_more (M ∷ A) = ap (λ l. length M ∷ l) (map_more A)

pub length_lengths : (lists : List (List EventValue)) → length (map length lists) ≡ length lists
length_lengths [] = refl
length_lengths (L ∷ lists) = ap suc (length_lengths lists)
