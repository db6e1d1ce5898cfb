-- What a call on the table does to a site over it.
use Rattle.std.proofs.Common.{arith, ℕ, List, Ok}
use Rattle.sqlite_trees.specs.Tree.{Trees}
use Rattle.sqlite.specs.State.{State, HasCleanDisk, Survives}
use Rattle.attributes.specs.Event.{EventValue}
use Rattle.inbox.specs.KeyOrder.{key_cmp}
use Rattle.inbox.specs.Ordered.{append_new}
use Rattle.inbox_table.specs.Calls.{KeepEachEffect, KeepEffect, joined}
use Rattle.durable_site.specs.Durable.{TakeEachEffect, TakeEffectOfFile}

-- a disk that is honest in the end was so before
pub was_clean : (was is : State) (C : Trees → Type 0) → Survives was is C → HasCleanDisk is → HasCleanDisk was
was_clean was is C s clean = let below = s.clean in omega arith

pub kept_takes : (batch old : List EventValue) (was is : State) (C : Trees → Type 0) (fresh : ℕ)
    → Survives was is C → KeepEffect batch was is (Ok fresh) → HasCleanDisk is
    → TakeEffectOfFile batch old (append_new key_cmp old batch) was is (Ok fresh)
kept_takes batch old was is C fresh s kept clean =
    let before = was_clean was is C s clean in
    record {
      whole = λ w _ opened. kept.takes old (w before (kept.was_open opened));
      fresh = λ w. kept.fresh old (w before (kept.was_open kept.stays_open));
      stays_open = kept.stays_open;
      settled = kept.settled;
      same = λ _. tt;
    }

-- the same of several batches
pub kept_each_takes : (lists : List (List EventValue)) (old : List EventValue) (was is : State) (C : Trees → Type 0) (each : List ℕ)
    → Survives was is C → KeepEachEffect lists was is (Ok each) → HasCleanDisk is
    → TakeEachEffect lists old (append_new key_cmp old (joined lists)) was is (Ok each)
kept_each_takes lists old was is C each s kept clean =
    let before = was_clean was is C s clean in
    record {
      whole = λ w _ opened. kept.takes old (w before (kept.was_open opened));
      fresh = λ w. kept.fresh old (w before (kept.was_open kept.stays_open));
      stays_open = kept.stays_open;
      settled = kept.settled;
      same = λ _. tt;
    }
