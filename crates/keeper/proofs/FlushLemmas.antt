-- What a step is to a flusher.
use Rattle.std.proofs.Common.{◌≡◌, ◌+◌, ◌-◌, ◌*◌, ◌≤◌, ℕ, true, false, length, refl, ap, ◌∙◌, subst, arith, Option, Some, None}
use Rattle.std.specs.Prelude.{IsSome, IsTrue, min}
use Rattle.sqlite.specs.Held.{Held}
use Rattle.sqlite.specs.State.{State, HasCleanDisk}
use Rattle.atomic_table.specs.Seated.{TableId}
use Rattle.inbox_table.specs.Calls.{KeptTable}
use Rattle.site_lock.specs.Pass.{ShownPass, leaves}
use Rattle.keeper.proofs.GatherLemmas.{pages_leave}
use Rattle.keeper.specs.Flush.{Flushes, Flushing, Turns, max_pages}
use Rattle.keeper.specs.Keep.{AsksPages, Grows, max_page}
use Rattle.keeper.specs.declared.fault.KeepFault.{KeepFault}

module _ {S : Type 0} (state : Held S → State) (site : TableId) (k l : KeptTable S) (p q : ShownPass) (fault : Option KeepFault) (none : fault ≡ None) (asked : AsksPages max_pages k.rows p q) (list : Grows (state k.conn) (state l.conn)) where
  abbrev pub before : Flushing S
  before = record { site = site; keeper = k; pass = p; fault = fault }

  no_fault : IsSome fault → ⊥
  no_fault some = let bad : false ≡ true = subst IsSome none some in cc

  flushes : (after : Option KeepFault) → k.rows ≤ l.rows → (HasCleanDisk (state l.conn) → after ≡ None → IsTrue (state l.conn).is_open) → Flushes state before record { site = site; keeper = l; pass = q; fault = after }
  flushes after mark opens = let asks = pages_leave max_pages k.rows p q asked in record {
    site = refl;
    same = asks.same;
    splits = asks.splits;
    seen = asks.seen;
    mark = mark;
    list = list;
    stays_open = λ clean last is_open. opens clean last;
    stopped = λ some. absurd (no_fault some);
  }

  pub stepped : (n : ℕ) → l.rows ≡ k.rows + n → (HasCleanDisk (state l.conn) → n ≡ min (max_page * max_pages) (length (leaves q) - k.rows))
      → (HasCleanDisk (state l.conn) → IsTrue (state l.conn).is_open) → Turns state before record { site = site; keeper = l; pass = q; fault = fault } true
  stepped n grew page opens = record {
    flushes = flushes fault (omega (arith, grew)) (λ clean last. opens clean);
    step = λ _. record {
      asked = asked;
      went = λ _. none;
      refused = λ no. absurd (cc);
      page = λ _ clean. grew ∙ ap (λ m. k.rows + m) (page clean);
    };
    stopped = λ some. absurd (no_fault some);
  }

  pub refused : (why : KeepFault) → l.rows ≡ k.rows → Turns state before record { site = site; keeper = l; pass = q; fault = Some why } false
  refused why stays = record {
    flushes = flushes (Some why) (omega (arith, stays)) (λ clean last. absurd (cc));
    step = λ _. record {
      asked = asked;
      went = λ yes. absurd (cc);
      refused = λ _. (refl, stays);
      page = λ yes clean. absurd (cc);
    };
    stopped = λ _. refl;
  }
