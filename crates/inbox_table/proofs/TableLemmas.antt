-- What the calls of a table come to.
use Rattle.std.proofs.Common.{◌≡◌, ◌≤◌, ◌<◌, ℕ, List, [], Bool, true, filter, take, drop, nat_lt, inl, inr, Ok, Err, Result, IfOk, IfErr, OnOk, refl, sym, ap, ◌∙◌, arith, length, length-drop, take_all, IsTrue}
use Rattle.std.proofs.lemmas.Bool.{cases_Bool}
use Rattle.std.proofs.lemmas.Bool.Decides.{nat_tests}
use Rattle.std.proofs.lemmas.List.{drop_all}
use Rattle.sqlite.specs.Effect.{Database}
use Rattle.sqlite.specs.State.{State}
use Rattle.attributes.specs.Event.{EventValue}
use Rattle.inbox_table.specs.Calls.{Creates, IsSettled, ReadEffect, Stands}
use Rattle.inbox_table.specs.Rows.{IsInbox, events_after}
use Rattle.inbox_table.specs.declared.fault.TableFault.{TableFault}
use Rattle.inbox_table.specs.declared.fault.TableFault.TheVariants.{Foreign}
use Rattle.inbox_table.specs.declared.version.Version.TheVariants.{Two}
use Rattle.inbox_table.specs.steps.Reads.{TellsRows}
use Rattle.inbox_table.specs.steps.Upgrades.{HasAdopted}
use Rattle.inbox_table.proofs.RowLemmas.{same_length}

pub made_stands : (old new : State) (rows : ℕ) → Creates old new → rows ≡ 0 → Stands new.now rows
made_stands old new rows it is = record { events = []; table = it.made.table; count = is }

pub adopted_stands : (keeps : Bool) (old new : State) (rows : ℕ) (batch : List EventValue) → HasAdopted keeps old new rows batch → Stands new.now rows
adopted_stands keeps old new rows batch it = record { events = it.events; table = it.adopts.is; count = it.count }

-- and with its events at hand
pub loaded_stands : (old new : State) (rows : ℕ) (batch : List EventValue) → HasAdopted true old new rows batch → Stands new.now (length batch)
loaded_stands old new rows batch it = record { events = it.events; table = it.adopts.is; count = ap length (it.kept refl) }

-- who has the events has them whether they were wanted or not
pub adopted_any : (keeps : Bool) (old new : State) (rows : ℕ) (batch : List EventValue) → HasAdopted true old new rows batch → HasAdopted keeps old new rows batch
adopted_any keeps old new rows batch it = record { events = it.events; adopts = it.adopts; count = it.count; kept = λ _. it.kept refl }

pub read_done : (shown : List EventValue → List EventValue) (wanted : EventValue → Bool) (old new : State) (rows n : ℕ) (batch : List EventValue) → ((m : List EventValue) → filter wanted m ≡ shown m) → TellsRows Two wanted old.now n batch → Stands old.now rows → new.now ≡ old.now → IsTrue new.is_open → IsSettled new
    → ReadEffect shown rows old new (Ok batch)
read_done shown wanted old new rows n batch shows tells stood now still settled = record {
  list = (tells.events, tells.table, stood.count ∙ same_length Two old.now stood.events tells.events stood.table tells.table, tells.kept ∙ shows tells.events);
  only = λ m box. tells.kept ∙ ap (filter wanted) (tells.only m box) ∙ shows m;
  stays_open = still;
  settled = settled;
  known = λ _ is. let e = is in cc;
  same = λ _. now;
}

pub read_refused : (shown : List EventValue → List EventValue) (old new : State) (rows : ℕ) (fault : TableFault) → (fault ≡ Foreign → (l : List EventValue) → IsInbox old.now l → ⊥) → (IsTrue new.is_open → Stands old.now rows) → (IsTrue new.is_open → new.now ≡ old.now)
    → ReadEffect shown rows old new (Err fault)
read_refused shown old new rows fault foreign stands now = record {
  list = tt;
  only = tt;
  stays_open = tt;
  settled = tt;
  known = λ still is. let stood = stands still in foreign (let e : fault ≡ Foreign = cc in e) stood.events stood.table;
  same = now;
}

-- a look-up in the table, answered or refused
pub read_found : (shown : List EventValue → List EventValue) (old new : State) (rows : ℕ) (result : Result (List EventValue) TableFault) → IfOk result (λ batch. (m : List EventValue) → IsInbox old.now m → batch ≡ shown m)
    → IfErr result (λ f. f ≡ Foreign → (m : List EventValue) → IsInbox old.now m → ⊥) → (IsTrue new.is_open → Stands old.now rows) → (IsTrue new.is_open → new.now ≡ old.now) → OnOk result (IsTrue new.is_open) → OnOk result (IsSettled new) → ReadEffect shown rows old new result
read_found shown old new rows (Ok batch) tells foreign stands now still settled = record {
  list = (let stood = stands still in (stood.events, stood.table, stood.count, tells stood.events stood.table));
  only = tells;
  stays_open = still;
  settled = settled;
  known = λ _ is. let e = is in cc;
  same = now;
}
read_found shown old new rows (Err fault) tells foreign stands now still settled = read_refused shown old new rows fault foreign stands now

-- how many events any reading of the table finds
stood_length : (db : Database) (rows : ℕ) (m : List EventValue) → Stands db rows → IsInbox db m → rows ≡ length m
stood_length db rows m stood box = stood.count ∙ same_length Two db stood.events m stood.table box

-- no place and no count above that of the last place makes a difference
page_capped : (most after count place limit : ℕ) (events : List EventValue) → length events ≤ most → (after ≤ most → place ≡ after) → (most < after → place ≡ most) → (count ≤ most → limit ≡ count) → (most < count → limit ≡ most)
    → events_after place limit events ≡ events_after after count events
page_capped most after count place limit events short near far few many = ap (take limit) front ∙ back
  where
    front : drop place events ≡ drop after events
    front = elim (cases_Bool (nat_lt most after)) [
      | inl above ↦ (let more : most < after = grind (arith, nat_tests, above) in
          let top : place ≡ most = far more in
          drop_all place events (omega (arith, short, top)) ∙ sym (drop_all after events (omega (arith, short, more))))
      | inr below ↦ (let less : after ≤ most = grind (arith, nat_tests, below) in ap (λ n. drop n events) (near less))
    ]

    back : take limit (drop after events) ≡ take count (drop after events)
    back = elim (cases_Bool (nat_lt most count)) [
      | inl above ↦ (let more : most < count = grind (arith, nat_tests, above) in
          let top : limit ≡ most = many more in
          let low : length (drop after events) ≤ most = omega (arith, short, length-drop after events) in
          take_all limit (drop after events) (omega (arith, low, top)) ∙ sym (take_all count (drop after events) (omega (arith, low, more))))
      | inr below ↦ (let less : count ≤ most = grind (arith, nat_tests, below) in ap (λ n. take n (drop after events)) (few less))
    ]

pub read_paged : (most after count place limit : ℕ) (old new : State) (rows : ℕ) (result : Result (List EventValue) TableFault) → rows ≤ most → (after ≤ most → place ≡ after) → (most < after → place ≡ most) → (count ≤ most → limit ≡ count) → (most < count → limit ≡ most)
    → IfOk result (λ batch. (m : List EventValue) → IsInbox old.now m → batch ≡ events_after place limit m) → IfErr result (λ f. f ≡ Foreign → (m : List EventValue) → IsInbox old.now m → ⊥) → (IsTrue new.is_open → Stands old.now rows) → (IsTrue new.is_open → new.now ≡ old.now)
    → OnOk result (IsTrue new.is_open) → OnOk result (IsSettled new) → ReadEffect (events_after after count) rows old new result
read_paged most after count place limit old new rows (Ok batch) low near far few many tells foreign stands now still settled =
    let stood = stands still in
    let all : (m : List EventValue) → IsInbox old.now m → batch ≡ events_after after count m =
    λ m box. tells m box ∙ page_capped most after count place limit m (omega (arith, low, stood_length old.now rows m stood box)) near far few many in
    read_found (events_after after count) old new rows (Ok batch) all foreign stands now still settled
read_paged most after count place limit old new rows (Err fault) low near far few many tells foreign stands now still settled =
    read_refused (events_after after count) old new rows fault foreign stands now
