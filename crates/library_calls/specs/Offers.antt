-- Bodies of several callers that come in one transaction: each is offered, all are kept, and then
-- it is asked what became of each.
use Rattle.std.specs.Prelude.{◌≡◌, ◌-◌, ◌==◌, ◌⊎◌, ℕ, List, [], ◌∷◌, ◌++◌, length, IsTrue, MatchOption, MatchResult, Option, Result, slice_get, if◌then◌else◌}
use Rattle.sqlite.specs.Held.{Held as Conn}
use Rattle.sqlite.specs.State.{State, HasCleanDisk, Survives}
use Rattle.attributes.specs.Event.{EventValue}
use Rattle.inbox_table.specs.Calls.{MayTake, joined}
use Rattle.inbox_table.specs.declared.fault.TableFault.{TableFault}
use Rattle.durable_site.specs.Durable.{TakeEachEffect, TakesEach, events_of}
use Rattle.durable_site.specs.declared.durable.DurableSite.{DurableSite}
use Rattle.event_files.specs.Numbers.{fault_number}
use Rattle.event_files.specs.Files.{IsRefusal, SpellAll}
use Rattle.event_files.specs.declared.refusal.Refused.{Refused}
use Rattle.library_calls.specs.Files.{IsStatusOfOwed, table_status}
use Rattle.library_calls.specs.declared.calls.Reply.{Reply}
use Rattle.library_calls.specs.declared.offers.Head.{Head}
use Rattle.library_calls.specs.declared.offers.Offers.{Offers}

-- no body was offered to libjumbetai's site
abbrev pub no_offers : Offers
no_offers = record { heads = []; batches = []; each = []; status = 0 }

-- ---- bodies offered

-- a body that libjumbetai is offered spells events with numbers, and so many; or why it is refused
abbrev pub ReadsBody : List ℕ → Head → List EventValue → Type 0
ReadsBody bytes head batch =
    (SpellAll (bytes ∷ []) batch × (head.status ≡ 0) × (head.count ≡ length batch))
    ⊎ ((refused : Refused) × IsRefusal (bytes ∷ []) refused
    × (head.status ≡ fault_number refused.fault) × (head.count ≡ 0) × (batch ≡ []))

-- one caller's bytes, read, stand behind those that were offered to be taken in one transaction
pub record IsOfferedBehind (head : Head) (batch : List EventValue) (was is : Offers) : Type 0 where
  pub heads : is.heads ≡ was.heads ++ head ∷ []
  pub batches : is.batches ≡ was.batches ++ batch ∷ []

-- ---- bodies kept

-- the events of all bodies that were offered are in the table, one body behind the other, which a
-- crash leaves so, and counted, or owed where memory ran out; or the table refused, and all is as it
-- was. `at` is the state of a connection to its store
pub record KeepsOffers {S : Type 0} (at : Conn S → State) (was is : Offers) (d e : DurableSite S)
    : Type 0 where
  pub result : Result (List ℕ) TableFault
  pub takes : TakesEach was.batches (events_of d) (events_of e) result
  pub effect : HasCleanDisk (at e.table.conn)
      → TakeEachEffect was.batches (events_of d) (events_of e)
      (at d.table.conn) (at e.table.conn) result
  pub crash : Survives (at d.table.conn) (at e.table.conn)
      (λ trees. IsTrue (at d.table.conn).is_open
      → MayTake (joined was.batches) (at d.table.conn).now trees)
  pub heads : is.heads ≡ was.heads
  pub batches : is.batches ≡ []
  pub told : MatchResult result
      (λ each. (is.each ≡ each) × IsStatusOfOwed is.status e.owed)
      (λ fault. (is.each ≡ []) × (is.status ≡ table_status fault))

-- ---- what became of a body

-- how many of an offered body's events were not there, and how many were: none of either where the
-- table refused
abbrev pub CountsBody : Head → Option ℕ → Reply → Type 0
CountsBody head fresh reply = MatchOption fresh ((reply.fresh ≡ 0) × (reply.repeated ≡ 0))
    (λ n. (reply.fresh ≡ n) × (reply.repeated ≡ head.count - n))

-- the reply of libjumbetai tells what became of the body at a place: why it was refused, or what
-- keeping all of them came to
abbrev pub AnswerAt : Offers → ℕ → Reply → Type 0
AnswerAt offers place reply = MatchOption (slice_get offers.heads place)
    ((reply.status ≡ 9) × (reply.fresh ≡ 0) × (reply.repeated ≡ 0))
    (λ head. (reply.status ≡ (if head.status == 0 then offers.status else head.status))
    × CountsBody head (slice_get offers.each place) reply)
