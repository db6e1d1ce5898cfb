-- What a page adds to the first arrivals.
use Rattle.std.proofs.Common.{◌≡◌, ◌≢◌, ◌⊎◌, ◌+◌, ◌-◌, ◌≤◌, ℕ, List, [], ◌++◌, length, take, drop, refl, sym, ap, ◌∙◌, subst, append_assoc, append-nil, arith, inl, inr, IsTrue, Result, Ok, Err, IfOk}
use Rattle.std.specs.Prelude.{min}
use Rattle.std.proofs.lemmas.List.{length-append, length-drop, length-take, length-take-le, take-append-drop, take-append-le}
use Rattle.std.proofs.Math.Seq.{take-append_seam, take-length}
use Rattle.sqlite_trees.specs.Tree.{Trees}
use Rattle.sqlite.specs.Effect.{Database}
use Rattle.sqlite.specs.Held.{Held}
use Rattle.sqlite.specs.State.{State, HasCleanDisk, Survives}
use Rattle.attributes.specs.Event.{EventValue}
use Rattle.inbox.specs.KeyOrder.{key_cmp}
use Rattle.inbox.specs.Ordered.{append_new}
use Rattle.inbox_table.specs.Beside.{KeepsServiceBeside}
use Rattle.inbox_table.specs.Calls.{AreFresh, KeepCall, KeepEffect, KeptTable, MayTake, Takes}
use Rattle.inbox_table.specs.Fault.{IsOfStore}
use Rattle.inbox_table.specs.Rows.{IsInbox}
use Rattle.inbox_table.specs.declared.fault.TableFault.{TableFault}
use Rattle.site.specs.Arrival.{AreDistinct}
use Rattle.site.specs.Page.{page}
use Rattle.keeper.proofs.NewLemmas.{all_new, grows}
use Rattle.keeper.specs.Fault.{of_table}
use Rattle.keeper.specs.Keep.{Grows, HasAll, HasFirst, Keeps, KeepsPages, KeepsUp, MayGrow, MayKeep, MayKeepAll}
use Rattle.keeper.specs.declared.fault.KeepFault.{KeepFault}
use Rattle.keeper.specs.declared.fault.KeepFault.TheVariants as keep
use Rattle.keeper.specs.steps.Flushes.{grows_none, keeps_none, survives_none}

-- the page behind the first arrivals is new to them, and they are the first ones with it
record IsNext (A : List EventValue) (rows most : ℕ) (b : List EventValue) : Type 0 where
  pub count : length b ≡ min most (length A - rows)
  pub some : rows + length b ≤ length A
  pub added : append_new key_cmp (take rows A) b ≡ take (rows + length b) A

is_next : (A : List EventValue) (rows most : ℕ) (b : List EventValue) → rows ≤ length A → b ≡ page A rows most → AreDistinct A → IsNext A rows most b
is_next A rows most b low is once =
    let k : List EventValue = take rows A in let l : List EventValue = drop rows A in let r : List EventValue = drop most l in
    let rest : b ++ r ≡ l = ap (λ (z : List EventValue). z ++ r) is ∙ take-append-drop most l in
    let all : k ++ (b ++ r) ≡ A = ap (λ (z : List EventValue). k ++ z) rest ∙ take-append-drop rows A in
    let behind : (k ++ b) ++ r ≡ A = append_assoc k b r ∙ all in
    let count_k : length k ≡ rows = length-take-le rows A low in
    let both : length (k ++ b) ≡ rows + length b = length-append k b ∙ ap (λ n. n + length b) count_k in
    let whole = ap (λ (z : List EventValue). length z) behind in
    record {
      count = ap (λ (z : List EventValue). length z) is ∙ (length-take most l ∙ ap (min most) (length-drop rows A));
      some = (let e = length-append (k ++ b) r in omega (arith, both, whole, e));
      added = all_new key_cmp k b r (subst (λ (z : List EventValue). append_new key_cmp [] z ≡ z) (sym all) once) ∙ (sym (take-append_seam (k ++ b) r) ∙ (λ i. take (both i) (behind i)));
    }

-- the first arrivals stay the first
pub first_in : (db : Database) (rows : ℕ) (A B : List EventValue) (others : List EventValue) → B ≡ A ++ others → HasFirst db rows A → HasFirst db rows B
first_in db rows A B others is h = record {
  some = (let e = ap (λ (z : List EventValue). length z) is in let l = length-append A others in omega (arith, e, l, h.some));
  table = subst (IsInbox db) (sym (ap (take rows) is ∙ take-append-le rows A others h.some)) h.table;
}

-- questions alone, after which the table has what it had
pub still_first : (old new : State) (rows rows' : ℕ) (A B others : List EventValue) → B ≡ A ++ others → KeepsUp old rows A → (HasCleanDisk new → HasCleanDisk old)
    → (HasCleanDisk new → IsTrue new.is_open → IsTrue old.is_open) → (HasCleanDisk new → IsTrue new.is_open → new.now ≡ old.now) → rows' ≡ rows → KeepsUp new rows' B
still_first old new rows rows' A B others added first was_clean was_open same is clean is_open =
    let h : HasFirst old.now rows B = first_in old.now rows A B others added (first (was_clean clean) (was_open clean is_open)) in
    subst (λ n. HasFirst new.now n B) (sym is) (subst (λ d. HasFirst d rows B) (sym (same clean is_open)) h)

-- what may be left, said in other words
survives_as : (old new : State) (P Q : Trees → Type 0) → Survives old new P → (HasCleanDisk old → (trees : Trees) → P trees → Q trees) → Survives old new Q
survives_as old new P Q s weaker = record {
  clean = s.clean;
  shield = s.shield;
  counts = s.counts;
  limit = s.limit;
  closes = s.closes;
  crash = λ clean trees may. either (omega (arith, s.clean, clean)) trees (s.crash clean trees may);
}
  where
    either : HasCleanDisk old → (trees : Trees) → old.may_leave trees ⊎ P trees → old.may_leave trees ⊎ Q trees
    either clean trees (inl before) = inl before
    either clean trees (inr may) = inr (weaker clean trees may)

-- what was taken comes behind what the table had, after a crash too
took_survives : (old new : State) (b : List EventValue) → Survives old new (λ trees. IsTrue old.is_open → MayTake b old.now trees) → Survives old new (λ trees. IsTrue old.is_open → MayGrow old.now trees)
took_survives old new b s = survives_as old new _ _ s (λ clean trees takes is_open.
    let m = takes is_open in
    record {
      db = m.db;
      are = m.are;
      sound = m.sound;
      list = λ held box. let g = grows key_cmp held b in (g.0, subst (IsInbox m.db) g.1 (m.takes held box));
      beside = m.beside;
    })

pub still_grows : (old new : State) → (HasCleanDisk new → HasCleanDisk old) → (HasCleanDisk new → IsTrue new.is_open → IsTrue old.is_open)
    → (HasCleanDisk new → IsTrue new.is_open → new.now ≡ old.now) → (b : List EventValue) → Survives old new (λ trees. IsTrue old.is_open → MayTake b old.now trees) → Grows old new
still_grows old new was_clean was_open same b crash = record {
  was_clean = was_clean;
  was_open = was_open;
  list = λ clean is_open held box. ([], subst (λ d. IsInbox d (held ++ [])) (sym (same clean is_open)) (subst (IsInbox old.now) (sym (append-nil held)) box));
  beside = λ clean is_open. subst (KeepsServiceBeside old.now) (sym (same clean is_open)) (keeps_none old.now);
  survives = took_survives old new b crash;
}

pub both_ok : {T E : Type 0} (r : Result T E) (P Q : T → Type 0) → IfOk r P → IfOk r Q → IfOk r (λ x. P x × Q x)
both_ok (Ok x) P Q p q = (p, q)
both_ok (Err y) P Q p q = tt

-- a table has the first arrivals of a site that took its events
pub loaded_first : (s : State) (rows : ℕ) (events : List EventValue) (db : Database) → IsInbox db events → s.now ≡ db → rows ≡ length events → HasFirst s.now rows (append_new key_cmp [] events)
loaded_first s rows events db box same count = record {
  some = (let l = ap (λ (z : List EventValue). length z) box.once in omega (arith, count, l));
  table = subst (λ (l : List EventValue). IsInbox s.now l) (sym (ap (take rows) box.once ∙ (ap (λ n. take n events) count ∙ take-length events))) (subst (λ d. IsInbox d events) (sym same) box);
}

-- what a table takes comes behind what it had
pub taken_grows : (old new : State) (b : List EventValue) → (HasCleanDisk new → HasCleanDisk old) → (HasCleanDisk new → IsTrue new.is_open → IsTrue old.is_open)
    → (HasCleanDisk new → Takes b old.now new.now) → (HasCleanDisk new → KeepsServiceBeside old.now new.now)
    → Survives old new (λ trees. IsTrue old.is_open → MayTake b old.now trees) → Grows old new
taken_grows old new b was_clean was_open takes beside crash = record {
  was_clean = was_clean;
  was_open = was_open;
  list = λ clean is_open held box. let g = grows key_cmp held b in (g.0, subst (IsInbox new.now) g.1 (takes clean held box));
  beside = λ clean is_open. beside clean;
  survives = took_survives old new b crash;
}

-- what comes behind the first arrivals is new to them, and with it they are all
rest_added : (A : List EventValue) (rows : ℕ) (b : List EventValue) → b ≡ drop rows A → AreDistinct A → append_new key_cmp (take rows A) b ≡ A
rest_added A rows b is once =
    let whole : take rows A ++ b ≡ A = ap (λ (z : List EventValue). take rows A ++ z) is ∙ take-append-drop rows A in
    let all : take rows A ++ (b ++ []) ≡ A = ap (λ (z : List EventValue). take rows A ++ z) (append-nil b) ∙ whole in
    all_new key_cmp (take rows A) b [] (subst (λ (z : List EventValue). append_new key_cmp [] z ≡ z) (sym all) once) ∙ whole

-- with the rest of the arrivals the table has them all
pub caught_up : (old new : State) (rows rows' fresh : ℕ) (A b : List EventValue) → b ≡ drop rows A → AreDistinct A → KeepsUp old rows A
    → (HasCleanDisk new → HasCleanDisk old) → (HasCleanDisk new → IsTrue new.is_open → IsTrue old.is_open) → (HasCleanDisk new → IsTrue new.is_open)
    → (HasCleanDisk new → Takes b old.now new.now) → (HasCleanDisk new → AreFresh b old.now fresh) → rows' ≡ rows + fresh → HasCleanDisk new → HasAll new rows' A
caught_up old new rows rows' fresh A b is once first was_clean was_open stays takes came grew clean =
    let h : HasFirst old.now rows A = first (was_clean clean) (was_open clean (stays clean)) in
    let added = rest_added A rows b is once in
    let e = came clean (take rows A) h.table in let k = length-take-le rows A h.some in let m = ap (λ (z : List EventValue). length z) added in
    record {
      is_open = stays clean;
      table = subst (IsInbox new.now) added (takes clean (take rows A) h.table);
      count = omega (arith, grew, e, k, m);
    }

-- what a crash may leave of pages that are being kept
pub page_crash : (old new : State) (rows most : ℕ) (A B b others : List EventValue) → B ≡ A ++ others → b ≡ page B rows most → AreDistinct B → KeepsUp old rows A
    → Survives old new (λ trees. IsTrue old.is_open → MayTake b old.now trees) → Survives old new (λ trees. IsTrue old.is_open → MayKeep most rows B old.now trees)
page_crash old new rows most A B b others added is_page once first s = survives_as old new _ _ s (λ clean trees takes is_open.
    let w : HasFirst old.now rows B = first_in old.now rows A B others added (first clean is_open) in
    let n : IsNext B rows most b = is_next B rows most b w.some is_page once in
    let m = takes is_open in
    record {
      db = m.db;
      are = m.are;
      sound = m.sound;
      first = subst (λ k. HasFirst m.db (rows + k) B) n.count record { some = n.some; table = subst (IsInbox m.db) n.added (m.takes (take rows B) w.table) };
      beside = m.beside;
    })

-- and of all that comes behind the first arrivals
pub rest_crash : (old new : State) (rows : ℕ) (A b : List EventValue) → b ≡ drop rows A → AreDistinct A → KeepsUp old rows A
    → Survives old new (λ trees. IsTrue old.is_open → MayTake b old.now trees) → Survives old new (λ trees. IsTrue old.is_open → MayKeepAll A old.now trees)
rest_crash old new rows A b is once first s = survives_as old new _ _ s (λ clean trees takes is_open.
    let m = takes is_open in
    record {
      db = m.db;
      are = m.are;
      sound = m.sound;
      table = subst (IsInbox m.db) (rest_added A rows b is once) (m.takes (take rows A) (first clean is_open).table);
      beside = m.beside;
    })

-- what a table took came to be kept, and what it refused didn't
module _ {S : Type 0} (state : Held S → State) (k l : KeptTable S) (b : List EventValue)
    (crash : Survives (state k.conn) (state l.conn) (λ trees. IsTrue (state k.conn).is_open → MayTake b (state k.conn).now trees)) where
  was_clean : HasCleanDisk (state l.conn) → HasCleanDisk (state k.conn)
  was_clean clean = omega (arith, crash.clean, clean)

  pub keeps_taken : {T : Type 0} (t : T) (fresh : ℕ) → (HasCleanDisk (state l.conn) → KeepEffect b (state k.conn) (state l.conn) (Ok fresh)) → Keeps state k l (Ok t)
  keeps_taken t fresh effect = record {
    list = taken_grows (state k.conn) (state l.conn) b was_clean (λ clean. (effect clean).was_open) (λ clean. (effect clean).takes) (λ clean. (effect clean).beside) crash;
    beside = λ clean. (effect clean).beside;
    settled = λ clean. (effect clean).settled;
    mark_same = tt;
    same = λ clean is_open. tt;
    known = tt;
  }

  pub keeps_refused : {T : Type 0} (fault : TableFault) (why : KeepFault) → why ≡ of_table fault → KeepCall k.rows l.rows (Err fault)
      → (HasCleanDisk (state l.conn) → KeepEffect b (state k.conn) (state l.conn) (Err fault)) → Keeps state {T = T} k l (Err why)
  keeps_refused fault why is call effect = record {
    list = still_grows (state k.conn) (state l.conn) was_clean (λ clean. (effect clean).was_open) (λ clean. (effect clean).same) b crash;
    beside = λ clean. tt;
    settled = λ clean. tt;
    mark_same = call.back;
    same = λ clean. (effect clean).same;
    known = known call.fault;
  }
    where
      known : IsOfStore fault → why ≢ keep.Foreign
      known (inl e) f = (let bad : keep.OutOfMemory ≡ keep.Foreign = sym (is ∙ ap of_table e) ∙ f in cc)
      known (inr e) f = (let bad : keep.Store ≡ keep.Foreign = sym (is ∙ ap of_table e) ∙ f in cc)

  -- pages of the arrivals of a site
  module _ (most : ℕ) (A B others : List EventValue) (added : B ≡ A ++ others) (is_page : b ≡ page B k.rows most) (once : AreDistinct B) (first : KeepsUp (state k.conn) k.rows A) where
    may_keep : Survives (state k.conn) (state l.conn) (λ trees. IsTrue (state k.conn).is_open → MayKeep most k.rows B (state k.conn).now trees)
    may_keep = page_crash (state k.conn) (state l.conn) k.rows most A B b others added is_page once first crash

    pub pages_taken : (fresh : ℕ) → KeepCall k.rows l.rows (Ok fresh) → (HasCleanDisk (state l.conn) → KeepEffect b (state k.conn) (state l.conn) (Ok fresh)) → KeepsPages state most k l B (Ok fresh)
    pages_taken fresh call effect = record {
      keeps = keeps_taken fresh fresh effect;
      first = λ clean is_open.
          let w = was clean in let n = next clean in
          let to : k.rows + length b ≡ l.rows = ap (λ z. k.rows + z) (sym (fresh_is clean)) ∙ sym call.counted in
          subst (λ z. HasFirst (state l.conn).now z B) to record { some = n.some; table = subst (IsInbox (state l.conn).now) n.added ((effect clean).takes (take k.rows B) w.table) };
      grew = call.counted;
      page = λ clean. fresh_is clean ∙ (next clean).count;
      stays_open = λ clean. (effect clean).stays_open;
      crash = may_keep;
    }
      where
        was : HasCleanDisk (state l.conn) → HasFirst (state k.conn).now k.rows B
        was clean = first_in (state k.conn).now k.rows A B others added (first (was_clean clean) ((effect clean).was_open (effect clean).stays_open))

        next : HasCleanDisk (state l.conn) → IsNext B k.rows most b
        next clean = is_next B k.rows most b (was clean).some is_page once

        fresh_is : HasCleanDisk (state l.conn) → fresh ≡ length b
        fresh_is clean =
            let w = was clean in let n = next clean in
            let e = (effect clean).fresh (take k.rows B) w.table in let h = length-take-le k.rows B w.some in let m = length-take-le (k.rows + length b) B n.some in
            let s = ap (λ (z : List EventValue). length z) n.added in omega (arith, e, h, m, s)

    pub pages_refused : (fault : TableFault) (why : KeepFault) → why ≡ of_table fault → KeepCall k.rows l.rows (Err fault)
        → (HasCleanDisk (state l.conn) → KeepEffect b (state k.conn) (state l.conn) (Err fault)) → KeepsPages state most k l B (Err why)
    pages_refused fault why is call effect = record {
      keeps = keeps_refused fault why is call effect;
      first = still_first (state k.conn) (state l.conn) k.rows l.rows A B others added first was_clean (λ clean. (effect clean).was_open) (λ clean. (effect clean).same) call.back;
      grew = tt;
      page = λ clean. tt;
      stays_open = λ clean. tt;
      crash = may_keep;
    }

-- nothing was asked of the table
pub pages_unasked : {S : Type 0} (state : Held S → State) (k : KeptTable S) (most : ℕ) (A B others : List EventValue) (why : KeepFault) → B ≡ A ++ others → KeepsUp (state k.conn) k.rows A
    → why ≡ keep.OutOfMemory → KeepsPages state most k k B (Err why)
pages_unasked state k most A B others why added first is = record {
  keeps = record { list = grows_none (state k.conn); beside = λ clean. tt; settled = λ clean. tt; mark_same = refl; same = λ clean is_open. refl; known = λ f. (let bad : keep.OutOfMemory ≡ keep.Foreign = sym is ∙ f in cc) };
  first = still_first (state k.conn) (state k.conn) k.rows k.rows A B others added first (λ clean. clean) (λ clean is_open. is_open) (λ clean is_open. refl) refl;
  grew = tt;
  page = λ clean. tt;
  stays_open = λ clean. tt;
  crash = survives_none (state k.conn) _;
}
