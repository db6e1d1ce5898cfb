-- Lines of shell over databases.
use Rattle.std.proofs.Common.{◌≡◌, ℕ, List, [], ◌∷◌, Option, None, Some, Bool, true, false, refl, sym, ◌∙◌, subst, inl, inr}
use Rattle.std.specs.Prelude.{IsSome}
use Rattle.sqlite.specs.Effect.{Database}
use Rattle.attributes.specs.Event.{EventValue}
use Rattle.attributes.specs.Sequence.{number_of}
use Rattle.inbox.specs.Sets.{AreEvents, set_of}
use Rattle.inbox_table.specs.Rows.{IsInbox, IsAnyInbox, IsListed}
use Rattle.inbox_table.specs.Rows as rows
use Rattle.block_digests.specs.Number.{HaveEachNumber}
use Rattle.database_layout.specs.Layout.{has_inbox}
use Rattle.line_intake.specs.Follow.{AreTurns}
use Rattle.databases.specs.Held.{Holds}
use Rattle.databases.specs.Pages.{pages_text}
use Rattle.inbox_table.proofs.UpgradeLemmas.{any_named}
use Rattle.site.specs.Delta.{delta}
use Rattle.stream_laws.specs.Stream.{CommandsTell, CommandsUnite, IsLineTold, SendsLine}
use Rattle.stream_laws.specs.Databases.{DatabasesTell, DatabasesUnite, SendsOver}

number_in : (o : Option ℕ) → IsSome o → (n : ℕ) × (o ≡ Some n)
number_in None h = absurd (cc)
number_in (Some n) h = (n, refl)

events_in : (es : List EventValue) → rows.AreNumbered es → AreEvents es × HaveEachNumber es
events_in [] h = (tt, tt)
events_in (e ∷ es) h = let more = events_in es h.1 in ((h.0.event, more.0), (number_in (number_of e) h.0.number, more.1))

listed : (db : Database) (es : List EventValue) → IsAnyInbox db es → rows.AreNumbered es
listed db es (inl h) = h.numbered
listed db es (inr h) = h.numbered

-- what a database holds are events with numbers
pub held_events : (db : Database) (es : List EventValue) → Holds db es → AreEvents es × HaveEachNumber es
held_events db es h = by_test (has_inbox db.schema) refl
  where
    by_test : (b : Bool) → has_inbox db.schema ≡ b → AreEvents es × HaveEachNumber es
    by_test true is = events_in es (listed db es (h.there is))
    by_test false is = subst (λ l. AreEvents l × HaveEachNumber l) (sym (h.none is)) (tt, tt)

-- a line of shell over databases is one over the lists that they hold
sends_of : (a b a' : Database) (A B : List EventValue) → Holds a A → Holds b B → (s : SendsOver a b a') → (new : List EventValue) × IsInbox a' new × ((l : SendsLine A B new) × (l.faults ≡ s.faults))
sends_of a b a' A B held_a held_b s =
    let lacks : s.events ≡ delta (set_of B) s.peer = s.lacks B held_b in
    let f = s.followed in
    let kept = f.kept A held_a in (
      kept.0,
      kept.1,
      (
        record {
          line = s.line;
          says = s.shows A held_a;
          text = s.text;
          without = s.without;
          peer = s.peer;
          in_form = s.in_form;
          read = s.read;
          out = s.out;
          out' = s.out';
          faults = s.faults;
          followed = record {
            turns = f.turns;
            last = f.last;
            are = subst (λ es. AreTurns (record { lines = 0; left = Some (pages_text es); out = s.out }) f.turns f.last) lacks f.are;
            over = f.over;
            out_is = f.out_is;
            kept = kept.2;
            faulty = f.faulty;
          };
        },
        refl,
      ),
    )

clash : (b : Bool) → b ≡ true → b ≡ false → ⊥
clash b one other = let e : true ≡ false = sym one ∙ other in cc

-- a database with the table holds its events
inbox_holds : (db : Database) (held : List EventValue) → IsInbox db held → Holds db held
inbox_holds db held box = record {
  there = λ _. inl box;
  none = λ no. absurd (clash (has_inbox db.schema) (any_named db held (inl box)) no);
}

pub databases_tell : CommandsTell → DatabasesTell
databases_tell tell a b a' A B held_a held_b s =
    let own = held_events b B held_b in
    let it = sends_of a b a' A B held_a held_b s in
    (it.0, it.1, subst (IsLineTold A B it.0) it.2.1 (tell A B it.0 own.0 own.1 it.2.0))

pub databases_unite : CommandsUnite → DatabasesUnite
databases_unite unite a b a' b' A B held_a held_b one two =
    let own_a = held_events a A held_a in
    let own_b = held_events b B held_b in
    let first = sends_of a b a' A B held_a held_b one in
    let second = sends_of b a' b' B first.0 held_b (inbox_holds a' first.0 first.1) two in
    record {
      first = first.0;
      second = second.0;
      is_first = first.1;
      is_second = second.1;
      united = unite A B first.0 second.0 own_a.0 own_b.0 own_a.1 own_b.1 first.2.0 second.2.0;
    }
