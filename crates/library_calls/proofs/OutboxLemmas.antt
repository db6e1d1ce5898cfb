-- What a service that wasn't asked does, and the source of one that is made where none is given.
use Rattle.std.proofs.Common.{◌≡◌, ◌≢◌, ◌⊎◌, ◌≤◌, ℕ, Bool, true, false, if◌then◌else◌, nat_eq, List, [], Err, Ok, refl, ap, subst, sym, ◌∙◌, arith, inl, inr}
use Rattle.std.specs.Prelude.{codes}
use Rattle.std.specs.Str.{chars, is_utf8}
use Rattle.std.proofs.lemmas.Bool.Decides.{nat_tests}
use Rattle.std.proofs.lemmas.Str.{IsUtf8-from_is_utf8}
use Rattle.sqlite_disk.specs.declared.Disk as disk
use Rattle.sqlite_store.specs.declared.store.FileStore.{FileStore}
use Rattle.sqlite.specs.Files.{file_state, over_files}
use Rattle.sqlite.specs.Held.{Held}
use Rattle.sqlite_trees.specs.declared.store.Store.{Ghosts}
use Rattle.attributes.specs.Character.{is_filled}
use Rattle.attributes.specs.Sequence.{max_sequence}
use Rattle.outbox.specs.Order.{Accepted}
use Rattle.outbox.specs.Shown.{IsAllowed, Shown}
use Rattle.outbox.specs.declared.fault.OutboxFault.{OutboxFault}
use Rattle.outbox.specs.declared.fault.OutboxFault.TheVariants.{OutOfMemory, Store}
use Rattle.durable_site.specs.Files.{Closes, IsOver}
use Rattle.library_calls.specs.Files.{untold}
use Rattle.library_calls.specs.Outboxes.{Carries, FindsServiceOrWhy, FindsMeant, IsGiven, Serves, outbox_status, source_if_made}
use Rattle.library_calls.specs.declared.outbox_calls.Unserved.{Unserved}

module _ {S : Type 0} (g : Ghosts S) where
  -- a service that wasn't asked is as it was, and so is its database
  pub idle : (c : Accepted) (was : Shown S) (text kept : List ℕ) (status number : ℕ) (f : OutboxFault)
      → (f ≡ OutOfMemory) ⊎ (f ≡ Store) → status ≡ outbox_status f → number ≡ 0 → kept ≡ text
      → Carries g c was was text kept status number
  idle c was text kept status number f why is none same = record {
    result = Err f;
    call = record {
      kept = (refl, refl);
      next = tt;
      counted = tt;
      back = refl;
      fault = λ foreign. elim why [ inl m ↦ cc | inr s ↦ cc ];
    };
    effect = λ clean. record {
      clean = clean;
      accepted = tt;
      beside = tt;
      stays_open = tt;
      settled = tt;
      refused = λ _ no_memory no_store. absurd (elim why [ inl m ↦ no_memory m | inr s ↦ no_store s ]);
      same = λ _. refl;
      crash = λ _ db may. inl may;
    };
    replies = (is, none, same);
  }

-- `/orders` may be a source
is_text : is_utf8 (codes "/orders") ≡ true
unfolding is_utf8 chars lib.Utf8.encode
is_text = refl

filled : is_filled (codes "/orders") ≡ true
unfolding chars
filled = refl

pub own_allowed : (base : ℕ) → base ≤ max_sequence → IsAllowed (source_if_made 0 []) base
own_allowed base high = record {
  text = IsUtf8-from_is_utf8 (codes "/orders") is_text;
  filled = filled;
  short = omega arith;
  high = high;
}

-- one that is given is that of the service that is made
pub named : (has_source : ℕ) (source : List ℕ) → has_source ≢ 0 → source_if_made has_source source ≡ source
named has_source source given =
    let test : nat_eq has_source 0 ≡ false = grind (arith, nat_tests, given) in
    ap (λ (b : Bool). if b then codes "/orders" else source) test

-- what was found in the database of the files is what is served
module _ {D : Type 0} {g : disk.Ghosts D} where
  pub serves : (has_source : ℕ) (source : List ℕ) (base : ℕ) (first : Held (FileStore D g)) (s : Shown (FileStore D g))
      → IsGiven has_source source base → IsOver untold first
      → FindsMeant has_source (source_if_made has_source source) base (file_state first) s (file_state s.conn)
      → Serves has_source source base (Ok s)
  serves has_source source base first s given over found = record {
    given = given;
    first = first;
    over = over;
    opens = found.opens;
    meant = λ asked. found.meant asked ∙ named has_source source asked;
  }

  -- where none is, the files were closed
  pub serves_none : (has_source : ℕ) (source : List ℕ) (base : ℕ) (first : Held (FileStore D g)) (u : Unserved (FileStore D g)) (status : ℕ)
      → IsGiven has_source source base → IsOver untold first
      → FindsServiceOrWhy over_files has_source (source_if_made has_source source) base (file_state first) (Err u)
      → status ≡ u.status → Closes u.conn → Serves {D = D} {g = g} has_source source base (Err status)
  serves_none has_source source base first u status given over found told closes = inr (inr (
    given,
    inr (elim found [
      | inl r ↦ inl (r.0, u.conn, told ∙ r.1, record { first = first; over = over; refused = r.2; closes = closes })
      | inr r ↦ inr (
        r.0,
        told ∙ r.1,
        record {
          first = first;
          over = over;
          opens = r.3.opens;
          is_given = r.3.is_given;
          other = λ is. r.3.other (is ∙ sym (named has_source source r.3.is_given));
          closes = subst Closes (sym r.2) closes;
        },
      )
    ]),
  ))
