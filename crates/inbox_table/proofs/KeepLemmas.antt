-- The turns of a transaction that takes events.
use Rattle.std.proofs.Common.{◌≡◌, ◌≤◌, ◌⊎◌, inl, inr, ◌*◌, ◌%◌, ℕ, zero, suc, ◌+◌, ◌++◌, if◌then◌else◌, length, length-append, slice_get, drop, add-one, List, [], ◌∷◌, Bool, true, false, not, Some, Ok, Err, IsTrue, refl, sym, ap, subst, ◌∙◌, arith}
use Rattle.sqlite_schema.specs.declared.schema.Schema.{Schema}
use Rattle.sqlite_trees.specs.Tree.{Trees}
use Rattle.sqlite.specs.Effect.{Database, IsDatabase}
use Rattle.sqlite.specs.State.{State, HasCleanDisk, IsLive, KeepsCommit, Survives}
use Rattle.sqlite.proofs.StateLemmas.{survives_then}
use Rattle.attributes.specs.Event.{EventValue}
use Rattle.database_layout.specs.Layout.{inbox_tree, schema_in}
use Rattle.inbox.specs.KeyOrder.{key_cmp}
use Rattle.inbox.specs.Ordered.{append_new, has}
use Rattle.inbox_table.specs.Beside.{KeepsServiceBeside}
use Rattle.inbox_table.specs.Calls.{AreFresh, IsSettled, KeepEffect, MayTake, Stands, Takes}
use Rattle.inbox_table.specs.Rows.{IsInbox}
use Rattle.inbox_table.specs.declared.fault.TableFault.{TableFault}
use Rattle.inbox_table.specs.declared.version.Version.TheVariants.{Two}
use Rattle.inbox_table.specs.steps.Turns.{At, IsFilled, IsKeeping, IsTaking, KeepsOthers, Puts, schema_at, tree_at}
use Rattle.inbox_table.proofs.HomeLemmas.{others_same, others_then, service_kept}
use Rattle.inbox_table.proofs.RowLemmas.{same_length, two_of}

pub at_first : (rows : ℕ) (all : List EventValue) (s : State) → IsTrue s.in_transaction → IsKeeping rows all all s s 0
at_first rows all s inside = record {
  table = λ h events box count. record {
    held = events;
    table = box;
    rest = refl;
    count = (let e : length events ≡ rows + 0 = omega (arith, count) in e);
    sound = λ sound. sound;
    others = others_same (schema_at h).tables (tree_at h) s.now.trees;
  };
  was_open = λ h. h;
  committed = refl;
  mode = inside;
}

length_one : (held : List EventValue) (e : EventValue) (is_new : Bool) → is_new ≡ not (has key_cmp held e) → length (append_new key_cmp held (e ∷ [])) ≡ length held + (if is_new then 1 else 0)
length_one held e is_new is = rw is (go (has key_cmp held e))
  where
    go : (there : Bool) → length (if there then held else held ++ e ∷ []) ≡ length held + (if not there then 1 else 0)
    go true = omega arith
    go false = omega (arith, length-append held (e ∷ []))

pub at_next : (rows : ℕ) (all left : List EventValue) (e : EventValue) (old mid now : State) (fresh place : ℕ) (is_new : Bool) → place ≡ rows + fresh + 1 → IsKeeping rows all (e ∷ left) old mid fresh → Puts place e mid now is_new
    → IsKeeping rows all left old now (fresh + (if is_new then 1 else 0))
at_next rows all left e old mid now fresh place is_new at so_far puts = record {
  table = λ h events box count.
      let was = so_far.table h events box count in
      let put = puts.table h was.held was.table (let n : place ≡ suc (length was.held) = omega (arith, at, was.count) in n) in
      let more = length_one was.held e is_new put.1 in
      record {
        held = append_new key_cmp was.held (e ∷ []);
        table = put.0;
        rest = was.rest;
        count = (let sum : length (append_new key_cmp was.held (e ∷ [])) ≡ rows + (fresh + (if is_new then 1 else 0)) = omega (arith, more, was.count) in sum);
        sound = λ _. puts.sound h was.held was.table;
        others = others_then (schema_at h).tables (tree_at h) old.now.trees mid.now.trees now.now.trees was.others put.2;
      };
  was_open = λ _. so_far.was_open puts.was_open;
  committed = puts.committed ∙ so_far.committed;
  mode = puts.mode;
}

append_both : (A L M : List EventValue) → append_new key_cmp (append_new key_cmp A L) M ≡ append_new key_cmp A (L ++ M)
append_both A [] M = refl
append_both A (e ∷ L) M = append_both (if has key_cmp A e then A else A ++ e ∷ []) L M

-- events were put in, and then those of a list behind them
pub keeps_more : (rows : ℕ) (all left L : List EventValue) (old mid now : State) (fresh more : ℕ) → IsKeeping rows all (L ++ left) old mid fresh → IsKeeping (rows + fresh) L [] mid now more → IsKeeping rows all left old now (fresh + more)
keeps_more rows all left L old mid now fresh more so_far took = record {
  table = λ h events box count.
      let was = so_far.table h events box count in
      let one = took.table h was.held was.table (sym was.count) in
      record {
        held = one.held;
        table = one.table;
        rest = ap (λ A. append_new key_cmp A left) one.rest ∙ append_both was.held L left ∙ was.rest;
        count = (let sum : length one.held ≡ rows + (fresh + more) = omega (arith, one.count) in sum);
        sound = λ sound. one.sound (was.sound sound);
        others = others_then (schema_at h).tables (tree_at h) old.now.trees mid.now.trees now.now.trees was.others one.others;
      };
  was_open = λ h. so_far.was_open (took.was_open h);
  committed = took.committed ∙ so_far.committed;
  mode = took.mode;
}

left_from : (L : List EventValue) (i : ℕ) (e : EventValue) → slice_get L i ≡ Some e → drop i L ≡ e ∷ drop (suc i) L
left_from [] i e is = absurd (cc)
left_from (x ∷ L) zero e is = (let same : x ≡ e = cc in ap (λ y. y ∷ L) same)
left_from (x ∷ L) (suc i) e is = left_from L i e is

pub left_is : (L : List EventValue) (i : ℕ) (e : EventValue) → slice_get L i ≡ Some e → drop i L ≡ e ∷ drop (i + 1) L
left_is L i e is = rw add-one (left_from L i e is)

-- nothing was committed meanwhile
pub kept_commit : {rows : ℕ} {all left : List EventValue} {old now : State} {fresh : ℕ} → IsKeeping rows all left old now fresh → KeepsCommit old now
kept_commit k = record { was_open = k.was_open; committed = λ _. k.committed }

-- ---- the watch

thousand : (n : ℕ) → (n * 1000) % 1000 ≡ 0
thousand n = omega arith

pub told_next : (told : ℕ → ℕ → Type 0) (group from to all : ℕ) → from ≡ group * 8 → to ≤ from + 8 → ((n : ℕ) → 1 ≤ n → n * 1000 ≤ from → told (n * 1000) all) → (to % 1000 ≡ 0 → told to all) → (n : ℕ) → 1 ≤ n → n * 1000 ≤ to → told (n * 1000) all
told_next told group from to all is high before now n one low = go (decide (n * 1000) from)
  where
    decide : (m i : ℕ) → (m ≤ i) ⊎ (suc i ≤ m)
    decide zero i = inl (omega arith)
    decide (suc m) zero = inr (omega arith)
    decide (suc m) (suc i) = elim (decide m i) [ inl k ↦ inl (omega (arith, k)) | inr k ↦ inr (omega (arith, k)) ]

    go : (n * 1000 ≤ from) ⊎ (suc from ≤ n * 1000) → told (n * 1000) all
    go (inl k) = before n one k
    go (inr k) = let e : n * 1000 ≡ to = omega (arith, k, low, high, is) in subst (λ m. told m all) (sym e) (now (ap (λ m. m % 1000) (sym e) ∙ thousand n))

-- ---- once nothing is left

pub filled_in : (db : Database) (events : List EventValue) (box : IsInbox db events) → IsFilled (At box.layout) db events
filled_in db events box = record { home = box.has; schema = box.schema; rows = box.rows; numbered = box.numbered; once = box.once }

module _ (rows : ℕ) (L : List EventValue) (old mid : State) (fresh : ℕ) (so_far : IsKeeping rows L [] old mid fresh) (stood : Stands old.now rows) where
  counted : (events : List EventValue) → IsInbox old.now events → rows ≡ length events
  counted events box = stood.count ∙ same_length Two old.now stood.events events stood.table box

  taking : (events : List EventValue) (box : IsInbox old.now events) → IsTaking (At box.layout) rows L [] events old.now mid.now fresh
  taking events box = so_far.table (At box.layout) events (filled_in old.now events box) (counted events box)

  took : Takes L old.now mid.now
  took events box =
      let it = taking events box in
      subst (IsInbox mid.now) it.rest (record { layout = box.layout; has = it.table.home; schema = it.table.schema; rows = it.table.rows; numbered = it.table.numbered; once = it.table.once })

  fresh_are : AreFresh L old.now fresh
  fresh_are events box =
      let it = taking events box in
      let same = ap length it.rest in
      omega (arith, it.count, same, counted events box)

  -- the service beside the table
  beside : KeepsServiceBeside old.now mid.now
  beside =
      let box = stood.table in
      let it = taking stood.events box in
      record {
        schema = it.table.schema ∙ sym box.schema;
        service = λ l has is.
            let here = two_of l box.layout box.has (sym is ∙ box.schema) in
            service_kept l here.0 has old.now mid.now
            (subst (λ t. KeepsOthers (schema_in l).tables t old.now.trees mid.now.trees) (sym here.1)
            (subst (λ (s : Schema). KeepsOthers s.tables (inbox_tree box.layout) old.now.trees mid.now.trees) (sym box.schema ∙ is) it.others));
      }

  pub may : IsDatabase old.now → (db : Trees) → db ≡ mid.now.trees → MayTake L old.now db
  may sound db is = record { db = mid.now; are = is; sound = (taking stood.events stood.table).sound sound; takes = took; beside = beside }

  pub effect_done : (last : State) → last.now ≡ mid.now → IsTrue last.is_open → IsSettled last → IsTrue old.is_open → KeepEffect L old last (Ok fresh)
  effect_done last is still settled was = record {
    takes = subst (λ (d : Database). Takes L old.now d) (sym is) took;
    fresh = fresh_are;
    beside = subst (λ (d : Database). KeepsServiceBeside old.now d) (sym is) beside;
    stays_open = still;
    settled = settled;
    same = λ _. tt;
    was_open = λ _. was;
  }

pub effect_back : (L : List EventValue) (old new : State) (fault : TableFault) → (IsTrue new.is_open → (new.now ≡ old.now) × IsTrue old.is_open) → KeepEffect L old new (Err fault)
effect_back L old new fault back = record { takes = tt; fresh = tt; beside = tt; stays_open = tt; settled = tt; same = λ still. (back still).0; was_open = λ still. (back still).1 }

pub ends : (rows : ℕ) (L : List EventValue) (old mid last : State) (fresh : ℕ) → IsLive old → (HasCleanDisk mid → IsKeeping rows L [] old mid fresh) → Survives old mid (λ _. ⊥)
    → Survives mid last (λ db. db ≡ mid.now.trees) → Survives old last (λ db. IsTrue old.is_open → Stands old.now rows → MayTake L old.now db)
ends rows L old mid last fresh live keeps one two =
    survives_then old mid last _ _ (λ db. IsTrue old.is_open → Stands old.now rows → MayTake L old.now db) (λ _ db none. absurd none)
    (λ clean db is still stood. may rows L old mid fresh (keeps (omega (arith, two.clean))) stood (live still).0 db is) one two
