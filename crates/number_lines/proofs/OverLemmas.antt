-- What a stream numbered, said of the database that it was begun over.
use Rattle.std.proofs.Common.{◌≡◌, ◌∙◌, ℕ, List, [], Bool, true, false, Option, Result, IfOk, IsTrue, inl, inr, refl, sym, subst}
use Rattle.std.specs.Bool.{⊤}
use Rattle.std.specs.Result.{IfErr, OnOk}
use Rattle.std.proofs.lemmas.Result.{IfErr-weaker, IfOk-weaker}
use Rattle.std.specs.Io.KnownBytes.{Keeps}
use Rattle.std.proofs.KnownBytes.{Appends-nil, Consumes-nil}
use Rattle.sqlite.specs.State.{State, HasCleanDisk}
use Rattle.attributes.specs.Event.{EventValue}
use Rattle.inbox.specs.KeyOrder.{key_cmp}
use Rattle.inbox.specs.Ordered.{append_new}
use Rattle.inbox_table.specs.Calls.{IsSettled, joined}
use Rattle.inbox_table.specs.Opening.{Opens}
use Rattle.inbox_table.specs.Rows.{IsInbox}
use Rattle.database_layout.specs.Layout.{has_inbox}
use Rattle.databases.specs.Held.{Holds}
use Rattle.numbers.specs.Counts.{Counts}
use Rattle.number_table.specs.Calls.{StandsNumbered}
use Rattle.number_table.specs.Each.{AreNumberedEach}
use Rattle.line_intake.proofs.WrittenLemmas.{Appends-kept}
use Rattle.number_lines.specs.Numbering.{AreLinesNumbered, Numbers, NumbersAll, NumbersRest, NumbersSome, NumbersUntil}
use Rattle.number_lines.specs.Over.{IsNumberer, NumbersInto, NumbersOver}
use Rattle.number_lines.specs.declared.refusal.Told.{Told}
use Rattle.number_lines.specs.declared.stream.NumberingFault.{NumberingFault}
use Rattle.number_lines.specs.declared.stream.NumberingFault.TheVariants.{Input, Numberer, Unwritten}

-- a table that was opened has the rows that the database held
opened_events : (old new : State) (rows held : List EventValue) → Opens (λ _ _. ⊤) old new rows → Holds old.now held → rows ≡ held
opened_events old new rows held opens h = go (has_inbox old.now.schema) refl
  where
    go : (b : Bool) → has_inbox old.now.schema ≡ b → rows ≡ held
    go true there = (opens.adopts there).only held (h.there there)
    go false absent = opens.none absent ∙ sym (h.none absent)

-- the rows that an opened numberer has are those that the database held
pub into : (base : ℕ) (old mid new : State) (was is : Option Counts) → (HasCleanDisk mid → (events rows : List EventValue) × Opens (λ _ _. ⊤) old mid rows × StandsNumbered base events rows mid was) → (HasCleanDisk new → HasCleanDisk mid)
    → (lists answers : List (List EventValue)) → Numbers base lists answers mid new was is → NumbersInto base old.now new lists answers
into base old mid new was is opens cleaner lists answers n clean is_open rows holds =
    let o = opens (cleaner clean) in
    let same : o.1 ≡ rows = opened_events old mid o.1 rows o.2 holds in
    let it = n.numbers clean o.0 o.1 o.3 in (
      o.0,
      subst (IsNumberer base o.0) same (record { bare = o.3.bare; once = o.3.once; numbers = o.3.numbers }),
      it.0,
      subst (λ r. IsInbox new.now (append_new key_cmp r (joined answers))) same (it.1.table clean is_open),
    )

abbrev Says : Type 1
Says = List (List EventValue) → List (List EventValue) → Type 0

module _ (aside : Option (List ℕ)) (N M : Says) (to : (lists answers : List (List EventValue)) → N lists answers → M lists answers) where
  are_weaker : (input left : Option (List ℕ)) (tells : List Told) (answers : List (List EventValue)) → AreLinesNumbered aside N input left tells answers → AreLinesNumbered aside M input left tells answers
  are_weaker input left tells answers a = record { lines = a.lines; lists = a.lists; taken = a.taken; judged = a.judged; one_each = a.one_each; numbers = to a.lists answers a.numbers }

  pub all_weaker : (faults : ℕ) (input out out' err err' : Option (List ℕ)) → NumbersAll aside N faults input out out' err err' → NumbersAll aside M faults input out out' err err'
  all_weaker faults input out out' err err' a = record { left = a.left; over = a.over; tells = a.tells; answers = a.answers; are = are_weaker input a.left a.tells a.answers a.are; written = a.written; said = a.said; faulty = a.faulty }

  some_weaker : (input out out' err err' : Option (List ℕ)) → NumbersSome aside N input out out' err err' → NumbersSome aside M input out out' err err'
  some_weaker input out out' err err' a = record { left = a.left; tells = a.tells; answers = a.answers; are = are_weaker input a.left a.tells a.answers a.are; written = a.written; said = a.said }

  part_weaker : (input out out' err err' : Option (List ℕ)) → NumbersRest aside N input out out' err err' → NumbersRest aside M input out out' err err'
  part_weaker input out out' err err' a = record { left = a.left; tells = a.tells; answers = a.answers; are = are_weaker input a.left a.tells a.answers a.are; rest = a.rest; written = a.written; unsaid = a.unsaid; said = a.said }

  pub until_weaker : (why : NumberingFault) (input out out' err err' : Option (List ℕ)) → NumbersUntil aside N why input out out' err err' → NumbersUntil aside M why input out out' err err'
  until_weaker (Input f) input out out' err err' a = some_weaker input out out' err err' a
  until_weaker (Numberer f) input out out' err err' (inl a) = inl (some_weaker input out out' err err' a)
  until_weaker (Numberer f) input out out' err err' (inr (want, a)) = inr (want, part_weaker input out out' err err' a)
  until_weaker Unwritten input out out' err err' a = part_weaker input out out' err err' a

-- nothing was read, written or said
pub unread_some : (aside input out out' err err' : Option (List ℕ)) → Keeps out out' → Keeps err err' → NumbersSome aside AreNumberedEach input out out' err err'
unread_some aside input out out' err err' unwritten unsaid = record {
  left = input;
  tells = [];
  answers = [];
  are = record { lines = []; lists = []; taken = Consumes-nil input; judged = tt; one_each = refl; numbers = tt };
  written = Appends-kept out out out' [] (Appends-nil out) unwritten;
  said = Appends-kept err err err' [] (Appends-nil err) unsaid;
}

pub each_of : (base : ℕ) (old new : State) (was is : Option Counts) (lists answers : List (List EventValue)) → Numbers base lists answers old new was is → AreNumberedEach lists answers
each_of base old new was is lists answers n = n.each

-- what a stream came to over the connection that it was begun with
pub over_ok : (aside : Option (List ℕ)) (base b : ℕ) (old mid new conn : State) (was is : Option Counts) (input input' out out' err err' : Option (List ℕ)) (outcome : Result ℕ NumberingFault) → conn ≡ new → b ≡ base
    → (HasCleanDisk mid → (events rows : List EventValue) × Opens (λ _ _. ⊤) old mid rows × StandsNumbered base events rows mid was) → (HasCleanDisk new → HasCleanDisk mid) → IfOk outcome (λ n. NumbersAll aside (λ lists answers. Numbers b lists answers mid new was is) n input out out' err err')
    → IfErr outcome (λ f. NumbersUntil aside (λ lists answers. Numbers b lists answers mid new was is) f input out out' err err') → (HasCleanDisk new → OnOk outcome (IsSettled new)) → NumbersOver aside base input input' out out' err err' outcome old conn
over_ok aside base b old mid new conn was is input input' out out' err err' outcome same own opens cleaner all until settled =
    let to : (lists answers : List (List EventValue)) → Numbers b lists answers mid new was is → NumbersInto base old.now new lists answers =
    λ lists answers n. into base old mid new was is opens cleaner lists answers (subst (λ c. Numbers c lists answers mid new was is) own n) in
    subst (λ (s : State). NumbersOver aside base input input' out out' err err' outcome old s) (sym same) (record {
      all = IfOk-weaker outcome _ _ (λ n a. all_weaker aside _ _ to n input out out' err err' a) all;
      until = IfErr-weaker outcome _ _ (λ f a. inl (until_weaker aside _ _ to f input out out' err err' a)) until;
      settled = settled;
    })

-- and what is said of it on any disk
pub all_each : (aside : Option (List ℕ)) (b : ℕ) (mid new : State) (was is : Option Counts) (input out out' err err' : Option (List ℕ)) (outcome : Result ℕ NumberingFault) → IfOk outcome (λ n. NumbersAll aside (λ lists answers. Numbers b lists answers mid new was is) n input out out' err err')
    → IfOk outcome (λ n. NumbersAll aside AreNumberedEach n input out out' err err')
all_each aside b mid new was is input out out' err err' outcome all = IfOk-weaker outcome _ _ (λ n a. all_weaker aside _ _ (each_of b mid new was is) n input out out' err err' a) all

pub until_each : (aside : Option (List ℕ)) (b : ℕ) (mid new : State) (was is : Option Counts) (input out out' err err' : Option (List ℕ)) (outcome : Result ℕ NumberingFault) → IfErr outcome (λ f. NumbersUntil aside (λ lists answers. Numbers b lists answers mid new was is) f input out out' err err')
    → IfErr outcome (λ f. NumbersUntil aside AreNumberedEach f input out out' err err')
until_each aside b mid new was is input out out' err err' outcome until = IfErr-weaker outcome _ _ (λ f a. until_weaker aside _ _ (each_of b mid new was is) f input out out' err err' a) until
