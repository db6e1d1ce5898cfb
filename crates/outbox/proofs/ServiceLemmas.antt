-- What a service stands for, from call to call.
use Rattle.std.proofs.Common.{◌≡◌, ◌≢◌, ◌⊎◌, inl, inr, ℕ, zero, suc, ◌+◌, ◌-◌, ◌≤◌, ◌<◌, eqb, length, take, drop, pos, List, [], ◌∷◌, ◌++◌, Option, Some, None, Ok, Err, if◌then◌else◌, Bool, true, false, IsTrue, IsUtf8, ℤ, refl, sym, ap, subst, ◌∙◌, arith, get_or, drop-cons, add-one, append_assoc, append-nil, length-append}
use Rattle.std.specs.Option.{option_or}
use Rattle.std.proofs.lemmas.Bool.Decides.{nat_tests}
use Rattle.std.proofs.lemmas.List.{drop_all}
use Rattle.std.proofs.lemmas.List.Sorted.{length_permutation}
use Rattle.sqlite_value.specs.Order.{Row, column}
use Rattle.sqlite_value.specs.declared.value.Value.TheVariants.{Int}
use Rattle.sqlite_trees.specs.Tree.{Trees}
use Rattle.sqlite.specs.Effect.{Database}
use Rattle.sqlite.specs.State.{State, HasCleanDisk, Survives}
use Rattle.attributes.specs.Event.{EventValue}
use Rattle.attributes.specs.Sequence.{max_sequence}
use Rattle.attributes.specs.Time.{time_day}
use Rattle.outbox.specs.Order.{Accepted, AreAccepted, IsCommand, refusal, status_fault, status_of}
use Rattle.outbox.specs.Row.{row_event, events_from, rows_after}
use Rattle.outbox.specs.Service.{IsService, code, outbox_rows}
use Rattle.outbox.specs.Shown.{Shown, StandsWithRows}
use Rattle.outbox.specs.Call.{CommandEffect, IsServiceReading, IsSettled, LeavesAsBefore, MayAccept, RefusesCommand}
use Rattle.outbox.specs.steps.Change.{AddsCommand, HasAdded, MayAdd, TellsStatus, stored_row, stored_rows}
use Rattle.outbox.specs.declared.fault.OutboxFault.{OutboxFault}
use Rattle.outbox.specs.declared.fault.OutboxFault.TheVariants.{Foreign, Full, OutOfMemory, Store}
use Rattle.outbox.specs.declared.status.Status.{Status}
use Rattle.outbox.specs.declared.status.Status.TheVariants.{Placed, Shipped, Cancelled}
use Rattle.outbox.specs.Layout.{first_tree}
use Rattle.outbox.proofs.LayoutLemmas.{same_tree}

-- ---- refusals

pub refused_some : (base : ℕ) (commands : List Accepted) (status : Status) (order : ℕ) (f : OutboxFault) → status_fault status (status_of commands order) ≡ Some f → refusal base commands status order ≡ Some f
refused_some base commands status order f is = ap (λ o. option_or o (if eqb (base + length commands) max_sequence then Some Full else None)) is

pub refused_full : (base : ℕ) (commands : List Accepted) (status : Status) (order : ℕ) → status_fault status (status_of commands order) ≡ None → base + length commands ≡ max_sequence → refusal base commands status order ≡ Some Full
refused_full base commands status order is full =
    let test : eqb (base + length commands) max_sequence ≡ true = grind (arith, nat_tests, full) in
    ap (λ o. option_or o (if eqb (base + length commands) max_sequence then Some Full else None)) is ∙ ap (λ b. if b then Some Full else None) test

pub refused_none : (base : ℕ) (commands : List Accepted) (status : Status) (order : ℕ) → status_fault status (status_of commands order) ≡ None → base + length commands < max_sequence → refusal base commands status order ≡ None
refused_none base commands status order is room =
    let test : eqb (base + length commands) max_sequence ≡ false = grind (arith, nat_tests, room) in
    ap (λ o. option_or o (if eqb (base + length commands) max_sequence then Some Full else None)) is ∙ ap (λ b. if b then Some Full else None) test

-- what the calls ask for makes a command
pub commanded : (status : Status) (order : ℕ) (at : List ℕ) (day : ℤ) → (1 ≤ order) × (order ≤ max_sequence) → IsUtf8 at → length at ≤ 64 → time_day at ≡ Some day → IsCommand (record { status = status; order = order; at = at })
commanded status order at day range text short is = record { low = range.0; high = range.1; text = text; time = λ none. let no : ◌≡◌ {A = Option ℤ} None (Some day) = sym none ∙ is in cc; short = short }

pub not_foreign : (s : Status) (old : Option Status) (f : OutboxFault) → status_fault s old ≡ Some f → f ≢ Foreign
not_foreign Placed None f h = absurd (cc)
not_foreign Placed (Some o) f h = λ e. let no = e in cc
not_foreign Shipped None f h = λ e. let no = e in cc
not_foreign Shipped (Some Placed) f h = absurd (cc)
not_foreign Shipped (Some Shipped) f h = λ e. let no = e in cc
not_foreign Shipped (Some Cancelled) f h = λ e. let no = e in cc
not_foreign Cancelled None f h = λ e. let no = e in cc
not_foreign Cancelled (Some Placed) f h = absurd (cc)
not_foreign Cancelled (Some Shipped) f h = λ e. let no = e in cc
not_foreign Cancelled (Some Cancelled) f h = λ e. let no = e in cc

-- ---- the count of commands is that of the rows

length_rows : (n : ℕ) (commands : List Accepted) → length (outbox_rows n commands) ≡ length commands
length_rows n [] = refl
length_rows n (c ∷ commands) = ap suc (length_rows (suc n) commands)

pub same_count : (db : Database) (source : List ℕ) (base : ℕ) (one two : List Accepted) → IsService db source base one → IsService db source base two → length one ≡ length two
same_count db source base one two a b =
    let same = same_tree a.layout b.layout (sym a.schema ∙ b.schema) in
    let trees : length (db.trees (suc (suc (first_tree a.layout)))) ≡ length (db.trees (suc (suc (first_tree b.layout)))) = ap (λ t. length (db.trees (suc (suc t)))) same in
    sym (length_rows (suc base) one) ∙ sym (length_permutation _ _ a.outbox) ∙ trees ∙ length_permutation _ _ b.outbox ∙ length_rows (suc base) two

pub after_write : (old mid : State) (new : Database) (source : List ℕ) (base last number : ℕ) (c : Accepted) → IsCommand c → number ≡ last + 1 → IsServiceReading old mid → HasCleanDisk mid → IsTrue mid.is_open
    → (HasCleanDisk old → IsTrue old.is_open → StandsWithRows old.now source base last)
    → ((source : List ℕ) (base : ℕ) (commands : List Accepted) → last ≡ base + length commands → IsService old.now source base commands → refusal base commands c.status c.order ≡ None) → AddsCommand number c mid.now new
    → (commands : List Accepted) → IsService old.now source base commands → (refusal base commands c.status c.order ≡ None) × HasAdded source base commands c old.now new × (number ≡ suc (base + length commands))
after_write old mid new source base last number c command next same clean still stands decided adds commands box =
    let was_clean : HasCleanDisk old = omega (arith, same.clean, clean) in
    let was = stands was_clean (same.was_open clean still) in
    let count : last ≡ base + length commands = omega (arith, was.count, same_count old.now source base was.commands commands was.table box) in
    let none = decided source base commands count box in
    let number_is : number ≡ suc (base + length commands) = omega arith in
    let is : old.now ≡ mid.now = sym (same.same clean still box.layout box.schema).0 in
    (none, subst (λ (d : Database). HasAdded source base commands c d new) (sym is) (adds source base commands number_is command none (subst (λ (d : Database). IsService d source base commands) is box)), number_is)

pub stands_after : (old mid new : State) (source : List ℕ) (base last number : ℕ) (c : Accepted) → IsCommand c → number ≡ last + 1 → IsServiceReading old mid → HasCleanDisk mid → IsTrue mid.is_open
    → (HasCleanDisk old → IsTrue old.is_open → StandsWithRows old.now source base last)
    → ((source : List ℕ) (base : ℕ) (commands : List Accepted) → last ≡ base + length commands → IsService old.now source base commands → refusal base commands c.status c.order ≡ None) → AddsCommand number c mid.now new.now
    → StandsWithRows new.now source base (last + 1)
stands_after old mid new source base last number c command next same clean still stands decided adds =
    let was_clean : HasCleanDisk old = omega (arith, same.clean, clean) in
    let was = stands was_clean (same.was_open clean still) in
    let it = after_write old mid new.now source base last number c command next same clean still stands decided adds was.commands was.table in
    record { commands = was.commands ++ c ∷ []; table = it.1.service; count = (let e : last + 1 ≡ base + length (was.commands ++ c ∷ []) = omega (arith, was.count, length-append was.commands (c ∷ [])) in e) }

-- a refused call leaves what it stands for
pub stands_back : (old mid new : State) (source : List ℕ) (base last : ℕ) → (HasCleanDisk old → IsTrue old.is_open → StandsWithRows old.now source base last) → IsServiceReading old mid → HasCleanDisk mid → IsTrue mid.is_open → new.now ≡ mid.now → StandsWithRows new.now source base last
stands_back old mid new source base last stands same clean still back =
    let was_clean : HasCleanDisk old = omega (arith, same.clean, clean) in
    let was = stands was_clean (same.was_open clean still) in
    record { commands = was.commands; table = subst (λ (d : Database). IsService d source base was.commands) (sym (back ∙ (same.same clean still was.table.layout was.table.schema).0)) was.table; count = was.count }

pub counted : (old mid : State) (source : List ℕ) (base last : ℕ) → (HasCleanDisk old → IsTrue old.is_open → StandsWithRows old.now source base last) → IsServiceReading old mid → HasCleanDisk mid → IsTrue mid.is_open
    → (commands : List Accepted) → IsService old.now source base commands → last ≡ base + length commands
counted old mid source base last stands same clean still commands box =
    let was_clean : HasCleanDisk old = omega (arith, same.clean, clean) in
    let was = stands was_clean (same.was_open clean still) in
    omega (arith, was.count, same_count old.now source base was.commands commands was.table box)

-- a call that left the database leaves what it stands for
pub stands_same : (old new : State) (source : List ℕ) (base last : ℕ) → (HasCleanDisk old → IsTrue old.is_open → StandsWithRows old.now source base last) → IsServiceReading old new → HasCleanDisk new → IsTrue new.is_open → StandsWithRows new.now source base last
stands_same old new source base last stands same clean still =
    let was_clean : HasCleanDisk old = omega (arith, same.clean, clean) in
    let was = stands was_clean (same.was_open clean still) in
    record { commands = was.commands; table = subst (λ (d : Database). IsService d source base was.commands) (sym (same.same clean still was.table.layout was.table.schema).0) was.table; count = was.count }

-- ---- what a command does

pub of_store_not_foreign : (f : OutboxFault) → (f ≡ OutOfMemory) ⊎ (f ≡ Store) → f ≢ Foreign
of_store_not_foreign f (inl is) e = absurd (cc)
of_store_not_foreign f (inr is) e = absurd (cc)

pub store_or_memory : (f : OutboxFault) → (f ≡ OutOfMemory) ⊎ (f ≡ Store) → f ≢ OutOfMemory → f ≢ Store → ⊥
store_or_memory f (inl is) no_memory no_store = no_memory is
store_or_memory f (inr is) no_memory no_store = no_store is

module _ {S : Type 0} (c : Accepted) (was : Shown S) (old mid : State) (stands : HasCleanDisk old → IsTrue old.is_open → StandsWithRows old.now was.source was.base was.last) (same : IsServiceReading old mid) (leaves : LeavesAsBefore old mid) (clean : HasCleanDisk mid) where
  was_clean : HasCleanDisk old
  was_clean = omega (arith, same.clean, clean)

  -- refused before it is written
  pub effect_left : (f : OutboxFault) → (IsTrue mid.is_open → f ≢ OutOfMemory → f ≢ Store → RefusesCommand was.source was.base c.status c.order old.now f) → CommandEffect c was old mid (Err f)
  effect_left f refused = record {
    clean = was_clean;
    accepted = tt;
    beside = tt;
    stays_open = tt;
    settled = tt;
    refused = refused;
    same = λ still. let it = (stands was_clean (same.was_open clean still)).table in (same.same clean still it.layout it.schema).0;
    crash = λ open_then db may. let it = (stands was_clean open_then).table in inl (leaves clean it.layout it.schema db may);
  }

  module _ (still : IsTrue mid.is_open) (number : ℕ) (command : IsCommand c) (next : number ≡ was.last + 1)
      (decided : (source : List ℕ) (base : ℕ) (commands : List Accepted) → was.last ≡ base + length commands → IsService old.now source base commands → refusal base commands c.status c.order ≡ None)
      (new : State) (survives : Survives mid new (MayAdd number c mid)) where
    it_stands : StandsWithRows old.now was.source was.base was.last
    it_stands = stands was_clean (same.was_open clean still)

    added : (db : Database) → AddsCommand number c mid.now db → (commands : List Accepted) → IsService old.now was.source was.base commands
        → (refusal was.base commands c.status c.order ≡ None) × HasAdded was.source was.base commands c old.now db × (number ≡ suc (was.base + length commands))
    added db adds = after_write old mid db was.source was.base was.last number c command next same clean still stands decided adds

    crashes : HasCleanDisk new → (db : Trees) → new.may_leave db → old.may_leave db ⊎ MayAccept was.source was.base c old.now db
    crashes clean_new db may = go (survives.crash clean_new db may)
      where
        go : mid.may_leave db ⊎ MayAdd number c mid db → old.may_leave db ⊎ MayAccept was.source was.base c old.now db
        go (inl before) = inl (leaves clean it_stands.table.layout it_stands.table.schema db before)
        go (inr (d, adds, are)) = let has = (added d adds it_stands.commands it_stands.table).1 in inr (record {
          db = d;
          are = are;
          sound = has.sound;
          beside = has.beside;
          service = λ commands box. (added d adds commands box).1.service;
        })

    -- the write was refused
    pub effect_failed : (f : OutboxFault) → (f ≡ OutOfMemory) ⊎ (f ≡ Store) → HasCleanDisk new → (IsTrue new.is_open → new.now ≡ mid.now) → CommandEffect c was old new (Err f)
    effect_failed f of_store clean_new back = record {
      clean = was_clean;
      accepted = tt;
      beside = tt;
      stays_open = tt;
      settled = tt;
      refused = λ open_now no_memory no_store. absurd (store_or_memory f of_store no_memory no_store);
      same = λ open_now. back open_now ∙ (same.same clean still it_stands.table.layout it_stands.table.schema).0;
      crash = λ open_then. crashes clean_new;
    }

    -- the write was answered
    pub effect_done : (e : EventValue) → HasCleanDisk new → AddsCommand number c mid.now new.now → IsTrue new.is_open → IsSettled new → e ≡ row_event was.source number c → CommandEffect c was old new (Ok e)
    effect_done e clean_new adds open_now rests event = record {
      clean = was_clean;
      accepted = λ commands box. let it = added new.now adds commands box in (it.0, it.1.service, event ∙ ap (λ n. row_event was.source n c) it.2);
      beside = (added new.now adds it_stands.commands it_stands.table).1.beside;
      stays_open = open_now;
      settled = rests;
      refused = λ _. tt;
      same = λ _. tt;
      crash = λ open_then. crashes clean_new;
    }

-- ---- the status that is read

pub no_row : (commands : List Accepted) (order : ℕ) (rows : List Row) → length rows ≡ 0 → TellsStatus commands order rows → status_of commands order ≡ None
no_row commands order [] is tells = tells
no_row commands order (r ∷ rows) is tells = absurd (omega (arith, is))

code_once : (s t : Status) → code s ≡ code t → s ≡ t
code_once Placed Placed e = refl
code_once Placed Shipped e = absurd (cc)
code_once Placed Cancelled e = absurd (cc)
code_once Shipped Placed e = absurd (cc)
code_once Shipped Shipped e = refl
code_once Shipped Cancelled e = absurd (cc)
code_once Cancelled Placed e = absurd (cc)
code_once Cancelled Shipped e = absurd (cc)
code_once Cancelled Cancelled e = refl

pub same_status : (s t : Status) → ◌≡◌ {A = Rattle.sqlite_value.specs.declared.value.Value.Value} (Int (pos (code s))) (Int (pos (code t))) → s ≡ t
same_status s t e = code_once s t (let k : code s ≡ code t = cc in k)

pub first_row : (commands : List Accepted) (order : ℕ) (rows : List Row) (row : Row) (status : Status) → 0 < length rows → row ≡ get_or rows 0 row → column row 0 ≡ Int (pos (code status)) → TellsStatus commands order rows
    → Some status ≡ status_of commands order
first_row commands order [] row status low is reads tells = absurd (omega (arith, low))
first_row commands order (r ∷ rows) row status low is reads tells =
    let same : status ≡ tells.0 = same_status status tells.0 (sym reads ∙ ap (λ (q : Row). column q 0) (is ∙ tells.1)) in
    ap Some same ∙ sym tells.2

-- ---- the events of the rows that are read

-- the events so far are those of the rows before this place
pub record HasRead (source : List ℕ) (rows : List Row) (at : ℕ) (events : List EventValue) (number : ℕ) (commands : List Accepted) : Type 0 where
  pub left : List Accepted
  pub next : ℕ
  pub rest : drop at rows ≡ stored_rows next left
  pub so_far : events ++ events_from source next left ≡ events_from source number commands

pub read_none : (source : List ℕ) (rows : List Row) (number : ℕ) (commands : List Accepted) → rows ≡ stored_rows number commands → HasRead source rows 0 [] number commands
read_none source rows number commands h = record { left = commands; next = number; rest = h; so_far = refl }

pub read_on : (source : List ℕ) (rows : List Row) (at : ℕ) (row : Row) (events : List EventValue) (event : EventValue) (number : ℕ) (commands : List Accepted) → at < length rows → row ≡ get_or rows at row
    → ((n : ℕ) (c : Accepted) → row ≡ stored_row n c → event ≡ row_event source n c) → HasRead source rows at events number commands → HasRead source rows (at + 1) (events ++ event ∷ []) number commands
read_on source rows at row events event number commands low is reads h = go h.left (sym (drop-cons rows at row low) ∙ h.rest) h.so_far
  where
    go : (left : List Accepted) → get_or rows at row ∷ drop (suc at) rows ≡ stored_rows h.next left → events ++ events_from source h.next left ≡ events_from source number commands
        → HasRead source rows (at + 1) (events ++ event ∷ []) number commands
    go [] e so_far = absurd (cc)
    go (c ∷ left) e so_far =
        let head : get_or rows at row ≡ stored_row h.next c = cc in
        let tail : drop (suc at) rows ≡ stored_rows (suc h.next) left = cc in
        let one = reads h.next c (is ∙ head) in
        record {
          left = left;
          next = suc h.next;
          rest = rw add-one tail;
          so_far = append_assoc events (event ∷ []) (events_from source (suc h.next) left) ∙ ap (λ y. events ++ y ∷ events_from source (suc h.next) left) one ∙ so_far;
        }

pub read_all : (source : List ℕ) (rows : List Row) (at : ℕ) (events : List EventValue) (number : ℕ) (commands : List Accepted) → length rows ≤ at → HasRead source rows at events number commands → events ≡ events_from source number commands
read_all source rows at events number commands high h = go h.left (sym (drop_all at rows high) ∙ h.rest) h.so_far
  where
    go : (left : List Accepted) → [] ≡ stored_rows h.next left → events ++ events_from source h.next left ≡ events_from source number commands → events ≡ events_from source number commands
    go [] e so_far = sym (append-nil events) ∙ so_far
    go (c ∷ left) e so_far = absurd (cc)

-- ---- the rows of a page

events_drop : (source : List ℕ) (n d : ℕ) (commands : List Accepted) → events_from source (n + d) (drop d commands) ≡ drop d (events_from source n commands)
events_drop source n zero commands = ap (λ k. events_from source k commands) (let e : n + 0 ≡ n = omega arith in e)
events_drop source n (suc d) [] = refl
events_drop source n (suc d) (c ∷ commands) = ap (λ k. events_from source k (drop d commands)) (let e : n + suc d ≡ suc n + d = omega arith in e) ∙ events_drop source (suc n) d commands

shown_take : (k n : ℕ) (commands : List Accepted) → take k (stored_rows n commands) ≡ stored_rows n (take k commands)
shown_take zero n commands = refl
shown_take (suc k) n [] = refl
shown_take (suc k) n (c ∷ commands) = ap (λ rows. stored_row n c ∷ rows) (shown_take k (suc n) commands)

events_take : (source : List ℕ) (k n : ℕ) (commands : List Accepted) → events_from source n (take k commands) ≡ take k (events_from source n commands)
events_take source zero n commands = refl
events_take source (suc k) n [] = refl
events_take source (suc k) n (c ∷ commands) = ap (λ es. row_event source n c ∷ es) (events_take source k (suc n) commands)

pub drop_high : {X : Type 0} (n : ℕ) (xs : List X) → length xs ≤ n → drop n xs ≡ []
drop_high n xs high = drop_all n xs high

length_events : (source : List ℕ) (n : ℕ) (commands : List Accepted) → length (events_from source n commands) ≡ length commands
length_events source n [] = refl
length_events source n (c ∷ commands) = ap suc (length_events source (suc n) commands)

-- beyond the greatest number there is no row
pub page_beyond : (source : List ℕ) (base after top limit : ℕ) (commands : List Accepted) → base + length commands ≤ top → top ≤ after → rows_after source base commands top limit ≡ rows_after source base commands after limit
page_beyond source base after top limit commands high far =
    ap (take limit) (drop_high (top - base) (events_from source (suc base) commands) (let e : length (events_from source (suc base) commands) ≤ top - base = omega (arith, high, length_events source (suc base) commands) in e)
    ∙ sym (drop_high (after - base) (events_from source (suc base) commands) (let e : length (events_from source (suc base) commands) ≤ after - base = omega (arith, high, far, length_events source (suc base) commands) in e)))

pub not_full : (x : Option OutboxFault) (b : Bool) → option_or x (if b then Some Full else None) ≡ None → b ≡ false
not_full None true h = absurd (cc)
not_full None false h = refl
not_full (Some f) b h = absurd (cc)

-- accepted commands stay within the greatest number
pub within : (base : ℕ) (before commands : List Accepted) → base + length before ≤ max_sequence → AreAccepted base before commands → base + length before + length commands ≤ max_sequence
within base before [] low a = omega arith
within base before (c ∷ commands) low a =
    let apart : eqb (base + length before) max_sequence ≡ false = not_full (status_fault c.status (status_of before c.order)) (eqb (base + length before) max_sequence) a.1 in
    let less : base + length before < max_sequence = grind (arith, nat_tests, apart, low) in
    let longer : length (before ++ c ∷ []) ≡ length before + 1 = omega (arith, length-append before (c ∷ [])) in
    let rest : base + length (before ++ c ∷ []) + length commands ≤ max_sequence = within base (before ++ c ∷ []) commands (omega (arith, less, longer)) a.2 in
    omega (arith, rest, longer)

pub page_of : (source : List ℕ) (base after limit : ℕ) (commands : List Accepted) (rows : List Row) (events : List EventValue) → rows ≡ take limit (stored_rows (suc base + (after - base)) (drop (after - base) commands))
    → ((n : ℕ) (left : List Accepted) → rows ≡ stored_rows n left → events ≡ events_from source n left) → events ≡ rows_after source base commands after limit
page_of source base after limit commands rows events is reads =
    let d = after - base in
    reads (suc base + d) (take limit (drop d commands)) (is ∙ shown_take limit (suc base + d) (drop d commands))
    ∙ events_take source limit (suc base + d) (drop d commands) ∙ ap (take limit) (events_drop source (suc base) d commands)

pub page_capped : (source : List ℕ) (db : Database) (base after at limit : ℕ) (commands : List Accepted) (rows : List Row) (events : List EventValue) → base ≤ max_sequence → (after ≤ max_sequence → at ≡ after) → (max_sequence < after → at ≡ max_sequence)
    → IsService db source base commands → rows ≡ take limit (stored_rows (suc base + (at - base)) (drop (at - base) commands)) → ((n : ℕ) (left : List Accepted) → rows ≡ stored_rows n left → events ≡ events_from source n left)
    → events ≡ rows_after source base commands after limit
page_capped source db base after at limit commands rows events low near far box is reads = elim (Rattle.std.proofs.lemmas.Bool.cases_Bool (Rattle.std.proofs.Common.nat_lt max_sequence after)) [
  | inl above ↦ (let more : max_sequence < after = grind (arith, nat_tests, above) in
      let top : at ≡ max_sequence = far more in
      let high : base + length commands ≤ max_sequence = omega (arith, within base [] commands (omega (arith, low)) box.accepted) in
      page_of source base at limit commands rows events is reads ∙ ap (λ n. rows_after source base commands n limit) top ∙ page_beyond source base after max_sequence limit commands high (omega (arith, more)))
  | inr below ↦ (let less : after ≤ max_sequence = grind (arith, nat_tests, below) in page_of source base at limit commands rows events is reads ∙ ap (λ n. rows_after source base commands n limit) (near less))
]
