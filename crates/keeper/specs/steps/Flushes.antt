-- Turns of a flusher, one after another.
use Rattle.std.specs.Prelude.{◌≡◌, ◌≤◌, ◌⊎◌, ℕ, [], ◌++◌, IsSome, IsTrue, None, Option, Some, refl}
use Rattle.std.proofs.Common.{◌∙◌, arith, sym, ap, subst, append_assoc, append-nil, inl, inr}
use Rattle.sqlite_disk.specs.Disk.{MoreFaults}
use Rattle.sqlite_trees.specs.Tree.{Trees}
use Rattle.sqlite.specs.Effect.{Database}
use Rattle.sqlite.specs.Held.{Held}
use Rattle.sqlite.specs.State.{State, HasCleanDisk, Survives}
use Rattle.inbox_table.specs.Beside.{KeepsServiceBeside}
use Rattle.inbox_table.specs.Rows.{IsInbox}
use Rattle.keeper.specs.Flush.{Flushes, Flushing}
use Rattle.keeper.specs.Keep.{Grows, MayGrow}
use Rattle.keeper.specs.declared.fault.KeepFault.{KeepFault}

-- one fault more later is one more
pub more_later : (a b c : ℕ) → a ≤ b → MoreFaults b c → MoreFaults a c
more_later a b c low more = omega (arith, low, more)

-- what survives where nothing was done
pub survives_none : (s : State) (P : Trees → Type 0) → Survives s s P
survives_none s P = record {
  clean = omega arith;
  shield = λ h. h;
  counts = omega arith;
  limit = refl;
  closes = λ clean h. inl h;
  crash = λ clean db h. inl h;
}

-- what may be left after two calls, of which the first left the database open: what might be left
-- before, or what each of the two may commit
module _ (s t u : State) (P Q : Trees → Type 0) (one : Survives s t P) (two : Survives t u Q)
    (follows : HasCleanDisk t → (trees : Trees) → Q trees → P trees) where
  was_clean : HasCleanDisk u → HasCleanDisk t
  was_clean clean = (let a = two.clean in omega (arith, a, clean))

  later : IsTrue u.is_open ⊎ MoreFaults t.faults u.faults
      → IsTrue u.is_open ⊎ MoreFaults s.faults u.faults
  later (inl is_open) = inl is_open
  later (inr more) = inr (more_later s.faults t.faults u.faults one.counts more)

  still : IsTrue t.is_open ⊎ MoreFaults s.faults t.faults → HasCleanDisk u
      → IsTrue u.is_open ⊎ MoreFaults s.faults u.faults
  still (inr more) clean = inr (let a = two.counts in omega (arith, a, more))
  still (inl is_open) clean = later (two.closes clean is_open)

  left : HasCleanDisk t → (trees : Trees) → t.may_leave trees ⊎ Q trees
      → s.may_leave trees ⊎ P trees
  left clean trees (inl before) = one.crash clean trees before
  left clean trees (inr may) = inr (follows clean trees may)

  pub survives_on : Survives s u P
  survives_on = record {
    clean = (let a = one.clean in let b = two.clean in omega (arith, a, b));
    shield = λ h. two.shield (one.shield h);
    counts = (let a = one.counts in let b = two.counts in omega (arith, a, b));
    limit = two.limit ∙ one.limit;
    closes = λ clean is_open. still (one.closes (was_clean clean) is_open) clean;
    crash = λ clean trees may. left (was_clean clean) trees (two.crash clean trees may);
  }

-- what lies beside a table is as it was where nothing was done, and after two calls that
-- leave it so
pub keeps_none : (db : Database) → KeepsServiceBeside db db
keeps_none db = record {
  schema = refl;
  service = λ l has is. record { service = refl; orders = refl; outbox = refl };
}

pub keeps_on : (a b c : Database) → KeepsServiceBeside a b → KeepsServiceBeside b c → KeepsServiceBeside a c
keeps_on a b c one two = record {
  schema = two.schema ∙ one.schema;
  service = λ l has is.
      let x = one.service l has is in
      let y = two.service l has (one.schema ∙ is) in record {
        service = y.service ∙ x.service;
        orders = y.orders ∙ x.orders;
        outbox = y.outbox ∙ x.outbox;
      };
}

pub grows_none : (s : State) → Grows s s
grows_none s = record {
  was_clean = λ clean. clean;
  was_open = λ clean is_open. is_open;
  list = λ clean is_open held box. ([], subst (IsInbox s.now) (sym (append-nil held)) box);
  beside = λ clean is_open. keeps_none s.now;
  survives = survives_none s _;
}

-- one after another, where the first left the database open
module _ (s t u : State) (one : Grows s t) (two : Grows t u)
    (stays_open : HasCleanDisk t → IsTrue s.is_open → IsTrue t.is_open) where
  behind : HasCleanDisk t → (trees : Trees) → (IsTrue t.is_open → MayGrow t.now trees)
      → IsTrue s.is_open → MayGrow s.now trees
  behind clean trees may is_open = let m = may (stays_open clean is_open) in record {
    db = m.db;
    are = m.are;
    sound = m.sound;
    list = λ held box.
        let a = one.list clean (stays_open clean is_open) held box in
        let b = m.list (held ++ a.0) a.1 in
        (a.0 ++ b.0, subst (IsInbox m.db) (append_assoc held a.0 b.0) b.1);
    beside = keeps_on s.now t.now m.db (one.beside clean (stays_open clean is_open)) m.beside;
  }

  pub grows_on : Grows s u
  grows_on = record {
    was_clean = λ clean. one.was_clean (two.was_clean clean);
    was_open = λ clean is_open. one.was_open (two.was_clean clean) (two.was_open clean is_open);
    list = λ clean is_open held box.
        let a = one.list (two.was_clean clean) (two.was_open clean is_open) held box in
        let b = two.list clean is_open (held ++ a.0) a.1 in
        (a.0 ++ b.0, subst (IsInbox u.now) (append_assoc held a.0 b.0) b.1);
    beside = λ clean is_open. keeps_on s.now t.now u.now
        (one.beside (two.was_clean clean) (two.was_open clean is_open)) (two.beside clean is_open);
    survives = survives_on s t u _ _ one.survives two.survives behind;
  }

module _ {S : Type 0} (state : Held S → State) where
  pub flushes_none : (f : Flushing S) → Flushes state f f
  flushes_none f = record {
    site = refl;
    same = record { table = refl; number = refl; opening = refl };
    splits = refl;
    seen = ([], sym (append-nil f.pass.seen));
    mark = omega arith;
    list = grows_none (state f.keeper.conn);
    stays_open = λ clean none is_open. is_open;
    stopped = λ some. refl;
  }

  -- turns after one that was not refused
  on : (f g h : Flushing S) → g.fault ≡ None → Flushes state f g → Flushes state g h
      → Flushes state f h
  on f g h none one two = record {
    site = two.site ∙ one.site;
    same = record {
      table = two.same.table ∙ one.same.table;
      number = two.same.number ∙ one.same.number;
      opening = two.same.opening ∙ one.same.opening;
    };
    splits = two.splits ∙ one.splits;
    seen = (
      one.seen.0 ++ two.seen.0,
      two.seen.1 ∙ (ap (λ z. z ++ two.seen.0) one.seen.1
          ∙ append_assoc f.pass.seen one.seen.0 two.seen.0),
    );
    mark = (let a = one.mark in let b = two.mark in omega (arith, a, b));
    list = grows_on (state f.keeper.conn) (state g.keeper.conn) (state h.keeper.conn)
        one.list two.list (λ clean is_open. one.stays_open clean none is_open);
    stays_open = λ clean last is_open.
        two.stays_open clean last (one.stays_open (two.list.was_clean clean) none is_open);
    stopped = λ some.
        let e = one.stopped some in
        two.stopped (subst (λ (z : Flushing S). IsSome z.fault) (sym e) some) ∙ e;
  }

  go : (f g h : Flushing S) (fault : Option KeepFault) → g.fault ≡ fault → Flushes state f g
      → Flushes state g h → Flushes state f h
  go f g h None is one two = on f g h is one two
  go f g h (Some why) is one two =
      let same : h ≡ g = two.stopped (subst (λ (z : Option KeepFault). IsSome z) (sym is) refl) in
      subst (λ (z : Flushing S). Flushes state f z) (sym same) one

  pub flushes_on : (f g h : Flushing S) → Flushes state f g → Flushes state g h → Flushes state f h
  flushes_on f g h one two = go f g h g.fault refl one two
