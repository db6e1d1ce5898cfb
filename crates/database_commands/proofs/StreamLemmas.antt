-- What is said of a stream over a table, said of the database and the outcome of its command.
use Rattle.std.proofs.Common.{◌≡◌, ◌⊎◌, ◌++◌, ℕ, List, [], ◌∷◌, true, Ok, Err, Result, IfOk, IsTrue, MatchResult, inl, inr, refl, sym, ap, subst}
use Rattle.std.specs.Prelude.{Option, None, Some}
use Rattle.std.specs.Result.{IfErr, OnOk}
use Rattle.std.specs.Io.KnownBytes.{Consumes, Keeps}
use Rattle.std.proofs.KnownBytes.{Appends-nil, Consumes-nil, Keeps-refl}
use Rattle.sqlite.specs.Effect.{Database}
use Rattle.sqlite.specs.State.{State, HasCleanDisk}
use Rattle.sqlite_trees.specs.Tree.{Trees}
use Rattle.attributes.specs.Event.{EventValue}
use Rattle.inbox_table.specs.Beside.{KeepsServiceBeside}
use Rattle.inbox_table.specs.Calls.{IsAsItWas, IsSettled, has_both}
use Rattle.inbox_table.specs.Rows.{IsInbox}
use Rattle.inbox_table.specs.declared.fault.TableFault.{TableFault}
use Rattle.inbox_table.specs.declared.fault.TableFault.TheVariants.{Foreign}
use Rattle.line_intake.specs.Acknowledged.{AreTold, TellsAll, TellsPart, TellsSome, TellsUntil}
use Rattle.line_intake.specs.Follow.{IsFollowed, KeepsTurns, LeavesTurns, StreamPlace, StopsBehind, StopsStream, Turn}
use Rattle.line_intake.specs.Judged.{TakesLines}
use Rattle.line_intake.specs.Lines.{TakesLine}
use Rattle.line_intake.specs.declared.answer.Told.{Told}
use Rattle.line_intake.specs.declared.step.FollowFault.{FollowFault}
use Rattle.line_intake.specs.declared.step.FollowFault.TheVariants.{Input, Table, Unwritten}
use Rattle.databases.specs.Fault.{of_follow, of_table}
use Rattle.databases.specs.Held.{Holds, IsNoInbox, KeepsRows}
use Rattle.databases.specs.Streams.{AcknowledgesUntil, HoldsTurns, LeavesUnturned, StaysUnread, StopsInto}
use Rattle.databases.specs.declared.fault.CommandFault.{CommandFault}
use Rattle.databases.specs.declared.stream.StreamFault.{StreamFault}
use Rattle.databases.specs.declared.stream.StreamFault.TheVariants as stream
use Rattle.databases.proofs.BesideLemmas.{service_kept, service_over}

abbrev Outcome : Result ℕ FollowFault → Result ℕ StreamFault → Type 0
Outcome ended outcome = MatchResult ended (λ n. outcome ≡ Ok n) (λ f. outcome ≡ Err (of_follow f))

ok_outcome : (ended : Result ℕ FollowFault) (outcome : Result ℕ StreamFault) (P Q : ℕ → Type 0) → Outcome ended outcome → ((n : ℕ) → P n → Q n) → IfOk ended P → IfOk outcome Q
ok_outcome (Ok n) outcome P Q is to p = subst (λ r. IfOk r Q) (sym is) (to n p)
ok_outcome (Err f) outcome P Q is to p = subst (λ r. IfOk r Q) (sym is) tt

err_outcome : (ended : Result ℕ FollowFault) (outcome : Result ℕ StreamFault) (P : FollowFault → Type 0) (Q : StreamFault → Type 0) → Outcome ended outcome → ((f : FollowFault) → P f → Q (of_follow f)) → IfErr ended P → IfErr outcome Q
err_outcome (Ok n) outcome P Q is to p = subst (λ r. IfErr r Q) (sym is) tt
err_outcome (Err f) outcome P Q is to p = subst (λ r. IfErr r Q) (sym is) (to f p)

on_outcome : (ended : Result ℕ FollowFault) (outcome : Result ℕ StreamFault) (P Q : Type 0) → Outcome ended outcome → (P → Q) → OnOk ended P → OnOk outcome Q
on_outcome (Ok n) outcome P Q is to p = subst (λ r. OnOk r Q) (sym is) (to p)
on_outcome (Err f) outcome P Q is to p = subst (λ r. OnOk r Q) (sym is) tt

-- behind a table that has what the database held
holds_turns : (old mid new : Database) (turns : List Turn) → ((held : List EventValue) → Holds old held → IsInbox mid held) → KeepsTurns turns mid new → HoldsTurns turns old new
holds_turns old mid new turns box kept held holds = kept held (box held holds)

pub stream_followed : (ended : Result ℕ FollowFault) (outcome : Result ℕ StreamFault) (start : StreamPlace) (out : Option (List ℕ)) (old : Database) (mid last conn : State) → conn ≡ last → Outcome ended outcome
    → (HasCleanDisk mid → (held : List EventValue) → Holds old held → IsInbox mid.now held) → (HasCleanDisk last → HasCleanDisk mid) → IfOk ended (λ n. IsFollowed start out n (λ turns. HasCleanDisk last → KeepsTurns turns mid.now last.now))
    → IfOk outcome (λ n. IsFollowed start out n (λ turns. HasCleanDisk conn → HoldsTurns turns old conn.now))
stream_followed ended outcome start out old mid last conn same is box cleaner followed =
    subst (λ (s : State). IfOk outcome (λ n. IsFollowed start out n (λ turns. HasCleanDisk s → HoldsTurns turns old s.now))) (sym same)
    (ok_outcome ended outcome (λ n. IsFollowed start out n (λ turns. HasCleanDisk last → KeepsTurns turns mid.now last.now)) (λ n. IsFollowed start out n (λ turns. HasCleanDisk last → HoldsTurns turns old last.now)) is
    (λ n f. record {
      turns = f.turns;
      last = f.last;
      are = f.are;
      over = f.over;
      out_is = f.out_is;
      kept = λ clean. holds_turns old mid.now last.now f.turns (box (cleaner clean)) (f.kept clean);
      faulty = f.faulty;
    }) followed)

-- a stream begins where an opening left off
abbrev Began : State → Trees → Type 0
Began mid trees = IsTrue mid.is_open → mid.may_leave trees

leaves_to : (turns : List Turn) (P Q : Trees → Type 0) (db : Database) (trees : Trees) → (P trees → Q trees) → LeavesTurns turns P db trees → LeavesTurns turns Q db trees
leaves_to [] P Q db trees to left = to left
leaves_to (t ∷ turns) P Q db trees to left = left

stops_to : (why : FollowFault) (last : StreamPlace) (turns : List Turn) (P Q : Trees → Type 0) (db : Database) (new : State) (out : Option (List ℕ)) → (HasCleanDisk new → (trees : Trees) → P trees → Q trees)
    → StopsBehind why last (LeavesTurns turns P db) db new out → StopsBehind why last (LeavesTurns turns Q db) db new out
stops_to (Input why) last turns P Q db new out to (same, written, left) = (same, written, λ clean trees may. leaves_to turns P Q db trees (to clean trees) (left clean trees may))
stops_to (Table why) last turns P Q db new out to (lines, rest, tells, lists, gathered, stop, left) =
    (lines, rest, tells, lists, gathered, stop, λ clean trees may. elim (left clean trees may) [ inl l ↦ inl (leaves_to turns P Q db trees (to clean trees) l) | inr took ↦ inr took ])
stops_to Unwritten last turns P Q db new out to (lines, rest, tells, lists, gathered, stop, left) =
    (lines, rest, tells, lists, gathered, stop, λ clean trees may. elim (left clean trees may) [ inl l ↦ inl (leaves_to turns P Q db trees (to clean trees) l) | inr took ↦ inr took ])

pub stream_stops : (ended : Result ℕ FollowFault) (outcome : Result ℕ StreamFault) (start : StreamPlace) (left left' out : Option (List ℕ)) (before mid last conn : State) → conn ≡ last → Outcome ended outcome
    → (HasCleanDisk mid → (held : List EventValue) → Holds before.now held → IsInbox mid.now held) → (HasCleanDisk last → HasCleanDisk mid)
    → (HasCleanDisk mid → (trees : Trees) → Began mid trees → LeavesUnturned before trees)
    → IfErr ended (λ f. StopsStream start (Began mid) out last f (λ turns now. HasCleanDisk last → KeepsTurns turns mid.now now))
    → IfErr outcome (λ f. StaysUnread left left' start.out out before conn f ⊎ StopsInto start out before conn f)
stream_stops ended outcome start left left' out before mid last conn same is box cleaner began stops =
    subst (λ (s : State). IfErr outcome (λ f. StaysUnread left left' start.out out before s f ⊎ StopsInto start out before s f)) (sym same)
    (err_outcome ended outcome (λ f. StopsStream start (Began mid) out last f (λ turns now. HasCleanDisk last → KeepsTurns turns mid.now now)) (λ f. StaysUnread left left' start.out out before last f ⊎ StopsInto start out before last f) is
    (λ f s. inr (record {
      why = f;
      is = refl;
      stops = record {
        turns = s.turns;
        last = s.last;
        are = s.are;
        mid = s.mid;
        kept = λ clean. holds_turns before.now mid.now s.mid s.turns (box (cleaner clean)) (s.kept clean);
        stop = stops_to f s.last s.turns (Began mid) (LeavesUnturned before) s.mid last out (λ clean. began (cleaner clean)) s.stop;
      };
    })) stops)

pub stream_settled : (ended : Result ℕ FollowFault) (outcome : Result ℕ StreamFault) (last conn : State) → conn ≡ last → Outcome ended outcome → (HasCleanDisk last → OnOk ended (IsSettled last)) → HasCleanDisk conn → OnOk outcome (IsSettled conn)
stream_settled ended outcome last conn same is settled =
    subst (λ (s : State). HasCleanDisk s → OnOk outcome (IsSettled s)) (sym same)
    (λ clean. on_outcome ended outcome (IsSettled last) (IsSettled last) is (λ s. s) (settled clean))

pub stream_told : (ended : Result ℕ FollowFault) (outcome : Result ℕ StreamFault) (left out out' : Option (List ℕ)) → Outcome ended outcome → IfOk ended (TellsAll left out out') → IfOk outcome (TellsAll left out out')
stream_told ended outcome left out out' is told = ok_outcome ended outcome (TellsAll left out out') (TellsAll left out out') is (λ n t. t) told

until_of : (left out out' : Option (List ℕ)) (f : FollowFault) → TellsUntil f left out out' → AcknowledgesUntil (of_follow f) left out out'
until_of left out out' (Input why) it = it
until_of left out out' (Table why) it = it
until_of left out out' Unwritten it = it

pub stream_until : (ended : Result ℕ FollowFault) (outcome : Result ℕ StreamFault) (left out out' : Option (List ℕ)) → Outcome ended outcome → IfErr ended (λ f. TellsUntil f left out out') → IfErr outcome (λ f. AcknowledgesUntil f left out out')
stream_until ended outcome left out out' is until = err_outcome ended outcome (λ f. TellsUntil f left out out') (λ f. AcknowledgesUntil f left out out') is (until_of left out out') until

-- nothing was read and nothing written
pub tells_none : (left out : Option (List ℕ)) → TellsSome left out out
tells_none left out = record {
  left = left;
  tells = [];
  text = [];
  told = record { lines = []; lists = []; each = []; taken = Consumes-nil left; judged = tt; one_each = refl; are = refl };
  written = Appends-nil out;
}

pub stays_unread : (left out : Option (List ℕ)) (old new : State) (why : TableFault) (f : CommandFault) → f ≡ of_table why → IsAsItWas old new
    → (why ≡ Foreign → HasCleanDisk new → IsNoInbox old.now) → (has_both old.now.schema ≡ true → why ≡ Foreign) → StaysUnread left left out out old new (stream.Database f)
stays_unread left out old new why f is same foreign both = record {
  why = why;
  is = ap (λ x. stream.Database x) is;
  unread = Keeps-refl left;
  unwritten = Keeps-refl out;
  same = same;
  foreign = foreign;
  both = both;
}

-- whatever is left of what wasn't read
pub unread_or_stops : (left left' out out' : Option (List ℕ)) (old new : State) (f : StreamFault)
    → StaysUnread left left' out out' old new f ⊎ StopsInto (record { lines = 0; left = left; out = out }) out' old new f
    → ((rest : Option (List ℕ)) × StaysUnread left rest out out' old new f) ⊎ StopsInto (record { lines = 0; left = left; out = out }) out' old new f
unread_or_stops left left' out out' old new f (inl unread) = inl (left', unread)
unread_or_stops left left' out out' old new f (inr stops) = inr stops

-- a service stays beside the table, as it stayed when that was opened
pub stream_beside : (old : Database) (mid last conn : State) → conn ≡ last → (HasCleanDisk mid → KeepsRows old mid.now) → (HasCleanDisk last → HasCleanDisk mid)
    → (HasCleanDisk last → IsTrue last.is_open → KeepsServiceBeside mid.now last.now) → HasCleanDisk conn → IsTrue conn.is_open → KeepsRows old conn.now
stream_beside old mid last conn same opened cleaner kept =
    subst (λ (s : State). HasCleanDisk s → IsTrue s.is_open → KeepsRows old s.now) (sym same)
    (λ clean still. service_over old mid.now last.now (opened (cleaner clean)) (service_kept mid.now last.now (kept clean still)))

-- ---- an input whose first bytes were read, and none taken

consumes_begun : (a b c : Option (List ℕ)) (bs : List ℕ) → Keeps a b → Consumes b c bs → Consumes a c bs
consumes_begun None b c bs same it = tt
consumes_begun (Some xs) None c bs same it = absurd same
consumes_begun (Some xs) (Some ys) c bs same it = subst (λ zs. Consumes (Some zs) c bs) same it

line_begun : (a b c : Option (List ℕ)) (line : List ℕ) → Keeps a b → TakesLine b c line → TakesLine a c line
line_begun a b c line same it = record {
  plain = it.plain;
  taken = elim it.taken [
    | inl whole ↦ inl (consumes_begun a b c (line ++ 10 ∷ []) same whole)
    | inr last ↦ inr (consumes_begun a b c line same last.0, last.1, last.2)
  ];
}

lines_begun : (a b c : Option (List ℕ)) (lines : List (List ℕ)) → Keeps a b → TakesLines b lines c → TakesLines a lines c
lines_begun a b c [] same it = consumes_begun a b c [] same it
lines_begun a b c (l ∷ lines) same (mid, first, later) = (mid, line_begun a b mid l same first, later)

told_begun : (a b c : Option (List ℕ)) (tells : List Told) (text : List ℕ) → Keeps a b → AreTold b c tells text → AreTold a c tells text
told_begun a b c tells text same it = record {
  lines = it.lines;
  lists = it.lists;
  each = it.each;
  taken = lines_begun a b c it.lines same it.taken;
  judged = it.judged;
  one_each = it.one_each;
  are = it.are;
}

-- what is acknowledged of what is read then is acknowledged of the input
pub all_begun : (a b out out' : Option (List ℕ)) (faults : ℕ) → Keeps a b → TellsAll b out out' faults → TellsAll a out out' faults
all_begun a b out out' faults same it = record {
  left = it.left;
  over = it.over;
  tells = it.tells;
  text = it.text;
  told = told_begun a b it.left it.tells it.text same it.told;
  written = it.written;
  faulty = it.faulty;
}

some_begun : (a b out out' : Option (List ℕ)) → Keeps a b → TellsSome b out out' → TellsSome a out out'
some_begun a b out out' same it = record {
  left = it.left;
  tells = it.tells;
  text = it.text;
  told = told_begun a b it.left it.tells it.text same it.told;
  written = it.written;
}

part_begun : (a b out out' : Option (List ℕ)) → Keeps a b → TellsPart b out out' → TellsPart a out out'
part_begun a b out out' same it = record {
  left = it.left;
  tells = it.tells;
  text = it.text;
  told = told_begun a b it.left it.tells it.text same it.told;
  rest = it.rest;
  written = it.written;
}

pub until_begun : (a b out out' : Option (List ℕ)) (f : StreamFault) → Keeps a b → AcknowledgesUntil f b out out' → AcknowledgesUntil f a out out'
until_begun a b out out' (stream.Input why) same it = some_begun a b out out' same it
until_begun a b out out' (stream.Database why) same it = some_begun a b out out' same it
until_begun a b out out' stream.Unwritten same it = part_begun a b out out' same it
