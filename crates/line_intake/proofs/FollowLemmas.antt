-- A stream, one turn more.
use Rattle.std.proofs.Common.{◌≡◌, ◌∙◌, ◌≤◌, ◌+◌, ◌++◌, ◌⊎◌, ℕ, suc, List, [], ◌∷◌, length, cond, Option, None, Some, Bool, IsTrue, true, false, Result, Ok, Err, OnOk, inl, inr, refl, sym, ap, subst, arith}
use Rattle.std.specs.Prelude.{is_some}
use Rattle.std.specs.Io.KnownBytes.{Appends, IsAtEnd, prepend_known}
use Rattle.std.proofs.KnownBytes.{Appends-nil, Appends-trans}
use Rattle.std.proofs.lemmas.List.Sums.{sum_by-append, sum_by-cons}
use Rattle.sqlite.specs.Effect.{Database}
use Rattle.sqlite.specs.State.{State, HasCleanDisk}
use Rattle.sqlite_trees.specs.Tree.{Trees}
use Rattle.attributes.specs.Event.{EventValue}
use Rattle.inbox.specs.KeyOrder.{key_cmp}
use Rattle.inbox.specs.Ordered.{append_new}
use Rattle.inbox_table.specs.Beside.{KeepsServiceBeside}
use Rattle.inbox_table.specs.Calls.{AreFreshEach, MayTake, joined}
use Rattle.line_intake.specs.Acknowledged.{AreTold, TellsAll, TellsSome, TellsUntil}
use Rattle.line_intake.specs.Answers.{answers_text}
use Rattle.line_intake.specs.Follow.{AreKept, AreTurns, IsFollowed, AreLinesKept, IsTurn, KeepsTurns, LeavesTurns, StreamPlace, StopsStream, StopsTurn, Turn, faults_of}
use Rattle.line_intake.specs.Judged.{AreJudged, IsGathered, faults_in}
use Rattle.line_intake.specs.declared.answer.Told.{Told}
use Rattle.line_intake.specs.declared.line.LineFault.{LineFault}
use Rattle.line_intake.specs.declared.step.FollowFault.{FollowFault}
use Rattle.line_intake.specs.declared.step.FollowFault.TheVariants.{Input, Table, Unwritten}
use Rattle.line_intake.proofs.ToldLemmas.{told_more, told_none}
use Rattle.line_intake.proofs.WrittenLemmas.{Appends-kept, Wrote-behind}

turns_more : (a b c : StreamPlace) (turns : List Turn) (t : Turn) → AreTurns a turns b → IsTurn b t c → AreTurns a (turns ++ t ∷ []) c
turns_more a b c [] t same it = (c, subst (λ p. IsTurn p t c) (sym same) it, refl)
turns_more a b c (u ∷ turns) t (mid, first, later) it = (mid, first, turns_more mid b c turns t later it)

kept_more : (held events : List EventValue) (turns : List Turn) (t : Turn) → AreKept held turns events → AreFreshEach events t.lists t.each → AreKept held (turns ++ t ∷ []) (append_new key_cmp events (joined t.lists))
kept_more held events [] t same fresh = (subst (λ h. AreFreshEach h t.lists t.each) same fresh, ap (λ h. append_new key_cmp h (joined t.lists)) same)
kept_more held events (u ∷ turns) t (first, later) fresh = (first, kept_more (append_new key_cmp held (joined u.lists)) events turns t later fresh)

pub prepend_none : (bs : List ℕ) (known : Option (List ℕ)) → bs ≡ [] → prepend_known bs known ≡ known
prepend_none [] None e = refl
prepend_none [] (Some x) e = refl
prepend_none (b ∷ bs) known e = absurd (cc)

-- what is as it was has its service
keeps_none : (db : Database) → KeepsServiceBeside db db
keeps_none db = record { schema = refl; service = λ l has is. record { service = refl; orders = refl; outbox = refl } }

pub keeps_on : (old mid new : Database) → KeepsServiceBeside old mid → KeepsServiceBeside mid new → KeepsServiceBeside old new
keeps_on old mid new first then = record {
  schema = then.schema ∙ first.schema;
  service = λ l has is.
      let one = first.service l has is in
      let other = then.service l has (first.schema ∙ is) in
      record { service = other.service ∙ one.service; orders = other.orders ∙ one.orders; outbox = other.outbox ∙ one.outbox };
}

-- what a crash leaves before the first turn of a stream, if the database is open then
abbrev pub Leaves : State → Trees → Type 0
Leaves s trees = IsTrue s.is_open → s.may_leave trees

-- behind turns a database is open; before the first, if it was
abbrev IsOpenBehind : List Turn → Bool → Bool → Type 0
IsOpenBehind [] was is = IsTrue was → IsTrue is
IsOpenBehind (turn ∷ turns) was is = IsTrue is

leaves_more : (turns : List Turn) (t : Turn) (Was : Trees → Type 0) (db : Database) (trees : Trees) → trees ≡ db.trees → LeavesTurns (turns ++ t ∷ []) Was db trees
leaves_more [] t Was db trees same = same
leaves_more (u ∷ turns) t Was db trees same = same

open_more : (turns : List Turn) (t : Turn) (was is : Bool) → IsTrue is → IsOpenBehind (turns ++ t ∷ []) was is
open_more [] t was is so = so
open_more (u ∷ turns) t was is so = so

shut : (X : Type 0) → IsTrue false → X
shut X e = absurd (cc)

leaves_or : (was : Bool) (Left Took : Type 0) → (IsTrue was → Took) → (IsTrue was → Left) ⊎ Took
leaves_or true Left Took took = inr (took refl)
leaves_or false Left Took took = inl (shut Left)

-- a crash within a turn that may have taken events leaves what it left before, or them too
leaves_turn : (turns : List Turn) (old mid : State) (db : Database) (trees : Trees) (Took : Type 0) → IsOpenBehind turns old.is_open mid.is_open → (IsTrue mid.is_open → Took) → LeavesTurns turns (Leaves old) db trees ⊎ Took
leaves_turn [] old mid db trees Took still took = leaves_or old.is_open (old.may_leave trees) Took (λ was. took (still was))
leaves_turn (t ∷ turns) old mid db trees Took still took = inr (took still)

-- so far the stream has had these turns
pub record IsFollowing (start : StreamPlace) (lines : ℕ) (left out : Option (List ℕ)) (old now : State) (faults : ℕ) : Type 0 where
  pub turns : List Turn
  pub are : AreTurns start turns (record { lines = lines; left = left; out = out })
  pub kept : HasCleanDisk now → KeepsTurns turns old.now now.now
  pub beside : HasCleanDisk now → KeepsServiceBeside old.now now.now
  pub faulty : faults ≡ faults_of turns
  pub few : faults ≤ lines
  pub clean : HasCleanDisk now → HasCleanDisk old
  pub leaves : HasCleanDisk now → (trees : Trees) → now.may_leave trees → LeavesTurns turns (Leaves old) now.now trees
  pub still : HasCleanDisk now → IsOpenBehind turns old.is_open now.is_open
  pub tells : List Told
  pub text : List ℕ
  pub told : AreTold start.left left tells text
  pub count : lines ≡ length told.lines
  pub written : Appends start.out out text
  pub told_faulty : faults ≡ faults_in tells

pub following_start : (left out : Option (List ℕ)) (s : State) → IsFollowing (record { lines = 0; left = left; out = out }) 0 left out s s 0
following_start left out s = (let none = told_none left in record {
  turns = [];
  are = refl;
  kept = λ _ held box. (held, box, refl);
  beside = λ _. keeps_none s.now;
  faulty = refl;
  few = omega arith;
  clean = λ clean. clean;
  leaves = λ clean trees left was. left;
  still = λ clean was. was;
  tells = [];
  text = [];
  told = none.0;
  count = none.1;
  written = Appends-nil out;
  told_faulty = refl;
})

abbrev one_if : Bool → ℕ
one_if b = cond b 1 0

few_one : (b : Bool) → cond b 1 0 ≤ 1
few_one true = omega arith
few_one false = omega arith

few_judged : (before : ℕ) (lines : List (List ℕ)) (tells : List Told) (lists : List (List EventValue)) → AreJudged before lines tells lists → faults_in tells ≤ length lines
few_judged before [] [] [] so_far = omega arith
few_judged before [] (t ∷ tells) lists so_far = absurd so_far
few_judged before [] [] (M ∷ lists) so_far = absurd so_far
few_judged before ([] ∷ lines) tells lists so_far = (let more = few_judged (suc before) lines tells lists so_far in omega (arith, more))
few_judged before ((x ∷ xs) ∷ lines) [] lists so_far = absurd so_far
few_judged before ((x ∷ xs) ∷ lines) (t ∷ tells) [] so_far = absurd so_far
few_judged before ((x ∷ xs) ∷ lines) (t ∷ tells) (M ∷ lists) so_far =
    let more = few_judged (suc before) lines tells lists so_far.2 in
    let one : one_if (is_some t.fault) ≤ 1 = few_one (is_some t.fault) in
    omega (arith, more, one, sum_by-cons (λ (t : Told). one_if (is_some t.fault)) t tells)

-- the lines of a turn at fault are no more than its lines
pub few_gathered : (before now : ℕ) (a b : Option (List ℕ)) (tells : List Told) (lists : List (List EventValue)) → IsGathered before now a b tells lists → before + faults_in tells ≤ now
few_gathered before now a b tells lists g = (let few = few_judged before g.lines tells lists g.judged in omega (arith, few, g.count))

pub following_more : (start : StreamPlace) (lines next : ℕ) (left left' out out' : Option (List ℕ)) (old mid now : State) (faults : ℕ) (tells : List Told) (lists : List (List EventValue)) → IsFollowing start lines left out old mid faults → IsGathered lines next left left' tells lists
    → ((each : List ℕ) × (length each ≡ length lists) × Appends out out' (answers_text tells lists each) × (HasCleanDisk now → AreLinesKept lists each mid.now now)) → (HasCleanDisk now → HasCleanDisk mid) → IsFollowing start next left' out' old now (faults + faults_in tells)
following_more start lines next left left' out out' old mid now faults tells lists f g (each, even, grown, kept) cleaner =
    let t : Turn = record { tells = tells; lists = lists; each = each } in
    let told = told_more start.left left left' lines next f.tells tells f.text lists each f.told f.count g even in
    record {
      turns = f.turns ++ t ∷ [];
      are = turns_more start (record { lines = lines; left = left; out = out }) (record { lines = next; left = left'; out = out' }) f.turns t f.are (record { lines = g; one_each = even; answered = grown });
      kept = λ clean held box.
          let was = f.kept (cleaner clean) held box in
          let took = kept clean in
          (append_new key_cmp was.0 (joined lists), took.takes was.0 was.1, kept_more held was.0 f.turns t was.2 (took.fresh was.0 was.1));
      beside = λ clean. keeps_on old.now mid.now now.now (f.beside (cleaner clean)) (kept clean).beside;
      faulty = (let e : faults + faults_in tells ≡ faults_of (f.turns ++ t ∷ []) = omega (arith, f.faulty, sum_by-append (λ (t : Turn). faults_in t.tells) f.turns (t ∷ []), sum_by-cons (λ (t : Turn). faults_in t.tells) t []) in e);
      few = (let few = few_gathered lines next left left' tells lists g in omega (arith, few, f.few));
      clean = λ clean. f.clean (cleaner clean);
      leaves = λ clean trees left. leaves_more f.turns t (Leaves old) now.now trees ((kept clean).settled (kept clean).stays_open trees left);
      still = λ clean. open_more f.turns t old.is_open now.is_open (kept clean).stays_open;
      tells = f.tells ++ tells;
      text = f.text ++ answers_text tells lists each;
      told = told.0;
      count = told.1;
      written = Appends-trans start.out out out' f.text (answers_text tells lists each) f.written grown;
      told_faulty = (let e : faults + faults_in tells ≡ faults_in (f.tells ++ tells) = omega (arith, f.told_faulty, sum_by-append (λ (t : Told). one_if (is_some t.fault)) f.tells tells) in e);
    }

pub following_done : (start : StreamPlace) (lines : ℕ) (left out : Option (List ℕ)) (old now : State) (faults : ℕ) → IsFollowing start lines left out old now faults → IsAtEnd left → IsFollowed start out faults (λ turns. HasCleanDisk now → KeepsTurns turns old.now now.now)
following_done start lines left out old now faults f over = record {
  turns = f.turns;
  last = record { lines = lines; left = left; out = out };
  are = f.are;
  over = over;
  out_is = refl;
  kept = f.kept;
  faulty = f.faulty;
}

-- the database that the turns left, as a fault behind them tells it
abbrev Stops : StreamPlace → Option (List ℕ) → State → State → FollowFault → Type 0
Stops start out old now why = StopsStream start (Leaves old) out now why (λ turns mid. HasCleanDisk now → KeepsTurns turns old.now mid)

pub following_unread : (start : StreamPlace) (lines : ℕ) (left out : Option (List ℕ)) (old now : State) (faults : ℕ) (why : LineFault) → IsFollowing start lines left out old now faults → Stops start out old now (Input why)
following_unread start lines left out old now faults why f = record {
  turns = f.turns;
  last = record { lines = lines; left = left; out = out };
  are = f.are;
  mid = now.now;
  kept = f.kept;
  stop = (refl, refl, f.leaves);
}

-- what a crash leaves of a turn that stopped
leaves_stop : (start : StreamPlace) (lines : ℕ) (left out : Option (List ℕ)) (old mid now : State) (faults : ℕ) (lists : List (List EventValue)) (f : IsFollowing start lines left out old mid faults) → (HasCleanDisk now → HasCleanDisk mid)
    → (HasCleanDisk now → (trees : Trees) → now.may_leave trees → mid.may_leave trees ⊎ (IsTrue mid.is_open → MayTake (joined lists) mid.now trees))
    → HasCleanDisk now → (trees : Trees) → now.may_leave trees → LeavesTurns f.turns (Leaves old) mid.now trees ⊎ MayTake (joined lists) mid.now trees
leaves_stop start lines left out old mid now faults lists f cleaner crash clean trees may = elim (crash clean trees may) [
  | inl before ↦ inl (f.leaves (cleaner clean) trees before)
  | inr took ↦ leaves_turn f.turns old mid mid.now trees (MayTake (joined lists) mid.now trees) (f.still (cleaner clean)) took
]

pub following_stops : (start : StreamPlace) (lines next : ℕ) (left left' out out' : Option (List ℕ)) (old mid now : State) (faults : ℕ) (tells : List Told) (lists : List (List EventValue)) (why : FollowFault) → IsFollowing start lines left out old mid faults → IsGathered lines next left left' tells lists
    → StopsTurn why tells lists mid.now now out out' → (HasCleanDisk now → HasCleanDisk mid)
    → (HasCleanDisk now → (trees : Trees) → now.may_leave trees → mid.may_leave trees ⊎ (IsTrue mid.is_open → MayTake (joined lists) mid.now trees)) → Stops start out' old now why
following_stops start lines next left left' out out' old mid now faults tells lists (Input fault) f g stop cleaner crash = absurd stop
following_stops start lines next left left' out out' old mid now faults tells lists (Table fault) f g stop cleaner crash =
    record { turns = f.turns; last = record { lines = lines; left = left; out = out }; are = f.are; mid = mid.now; kept = λ clean. f.kept (cleaner clean); stop = (next, left', tells, lists, g, stop, leaves_stop start lines left out old mid now faults lists f cleaner crash) }
following_stops start lines next left left' out out' old mid now faults tells lists Unwritten f g stop cleaner crash =
    record { turns = f.turns; last = record { lines = lines; left = left; out = out }; are = f.are; mid = mid.now; kept = λ clean. f.kept (cleaner clean); stop = (next, left', tells, lists, g, stop, leaves_stop start lines left out old mid now faults lists f cleaner crash) }

-- a turn that stops leaves the service beside the table too
stop_beside : (mid : Database) (now : State) (out out' : Option (List ℕ)) (tells : List Told) (lists : List (List EventValue)) (why : FollowFault) → StopsTurn why tells lists mid now out out' → HasCleanDisk now → IsTrue now.is_open → KeepsServiceBeside mid now.now
stop_beside mid now out out' tells lists (Input fault) stop clean still = absurd stop
stop_beside mid now out out' tells lists (Table fault) (unwritten, of_store, left) clean still = elim (left clean still) [
  | inl same ↦ subst (KeepsServiceBeside mid) (sym same) (keeps_none mid)
  | inr took ↦ took.2.beside
]
stop_beside mid now out out' tells lists Unwritten (each, even, wrote, kept) clean still = (kept clean).beside

pub following_beside : (start : StreamPlace) (lines : ℕ) (left out out' : Option (List ℕ)) (old mid now : State) (faults : ℕ) (tells : List Told) (lists : List (List EventValue)) (why : FollowFault) → IsFollowing start lines left out old mid faults
    → StopsTurn why tells lists mid.now now out out' → (HasCleanDisk now → HasCleanDisk mid) → HasCleanDisk now → IsTrue now.is_open → KeepsServiceBeside old.now now.now
following_beside start lines left out out' old mid now faults tells lists why f stop cleaner clean still =
    keeps_on old.now mid.now now.now (f.beside (cleaner clean)) (stop_beside mid.now now out out' tells lists why stop clean still)

pub on_kept : {T E : Type 0} (r : Result T E) (P Q : Type 0) → (P → Q) → OnOk r P → OnOk r Q
on_kept (Ok x) P Q f p = f p
on_kept (Err y) P Q f p = tt

pub following_told : (start : StreamPlace) (lines : ℕ) (left out : Option (List ℕ)) (old now : State) (faults : ℕ) → IsFollowing start lines left out old now faults → IsAtEnd left → TellsAll start.left start.out out faults
following_told start lines left out old now faults f over = record { left = left; over = over; tells = f.tells; text = f.text; told = f.told; written = f.written; faulty = f.told_faulty }

pub following_some : (start : StreamPlace) (lines : ℕ) (left out : Option (List ℕ)) (old now : State) (faults : ℕ) → IsFollowing start lines left out old now faults → TellsSome start.left start.out out
following_some start lines left out old now faults f = record { left = left; tells = f.tells; text = f.text; told = f.told; written = f.written }

pub following_until : (start : StreamPlace) (lines next : ℕ) (left left' out out' : Option (List ℕ)) (old mid now : State) (faults : ℕ) (tells : List Told) (lists : List (List EventValue)) (why : FollowFault) → IsFollowing start lines left out old mid faults → IsGathered lines next left left' tells lists
    → StopsTurn why tells lists mid.now now out out' → TellsUntil why start.left start.out out'
following_until start lines next left left' out out' old mid now faults tells lists (Input fault) f g stop = absurd stop
following_until start lines next left left' out out' old mid now faults tells lists (Table fault) f g stop =
    record { left = left; tells = f.tells; text = f.text; told = f.told; written = Appends-kept start.out out out' f.text f.written stop.0 }
following_until start lines next left left' out out' old mid now faults tells lists Unwritten f g (each, even, (rest, wrote), kept) =
    let told = told_more start.left left left' lines next f.tells tells f.text lists each f.told f.count g even in
    record {
      left = left';
      tells = f.tells ++ tells;
      text = f.text ++ answers_text tells lists each;
      told = told.0;
      rest = rest;
      written = Wrote-behind start.out out out' f.text (answers_text tells lists each) rest f.written wrote;
    }
