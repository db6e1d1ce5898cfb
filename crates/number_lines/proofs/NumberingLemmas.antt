-- A stream, one turn more.
use Rattle.std.proofs.Common.{◌≡◌, ◌∙◌, ◌≤◌, ◌+◌, ◌++◌, ℕ, List, [], ◌∷◌, length, cond, Option, Ok, Bool, inl, inr, refl, sym, ap, subst, arith, append-nil, length-append}
use Rattle.std.specs.Prelude.{is_some}
use Rattle.std.specs.Io.KnownBytes.{Appends, IsAtEnd}
use Rattle.std.proofs.KnownBytes.{Appends-nil, Appends-trans, Consumes-nil}
use Rattle.std.proofs.lemmas.List.Sums.{sum_by-append}
use Rattle.sqlite.specs.State.{State, HasCleanDisk}
use Rattle.attributes.specs.Event.{EventValue}
use Rattle.inbox.specs.KeyOrder.{key_cmp}
use Rattle.inbox.specs.Ordered.{append_new}
use Rattle.inbox_table.specs.Calls.{joined}
use Rattle.line_intake.specs.Written.{Wrote}
use Rattle.line_intake.proofs.WrittenLemmas.{Appends-kept, Wrote-behind, Wrote-start}
use Rattle.numbers.specs.Counts.{Counts}
use Rattle.numbers.specs.Numberer.{taken}
use Rattle.number_table.specs.Calls.{StandsNumbered, from}
use Rattle.number_table.specs.Each.{AreNumberedEach, NumberEachEffect}
use Rattle.number_table.proofs.EachLemmas.{each_join, taken_join}
use Rattle.number_lines.specs.Judged.{IsGatheredToNumber, refusals_in}
use Rattle.number_lines.specs.Numbering.{AreLinesNumbered, Numbers, NumbersAll, NumbersRest, NumbersSome, NumbersTurn, NumbersUntil, NumbersUnwritten, StopsNumbering}
use Rattle.number_lines.specs.Texts.{fault_text, numbered_text}
use Rattle.number_lines.specs.declared.refusal.Told.{Told}
use Rattle.number_lines.specs.declared.stream.NumberingFault.{NumberingFault}
use Rattle.number_lines.specs.declared.stream.NumberingFault.TheVariants.{Input, Numberer, Unwritten}
use Rattle.number_lines.proofs.GatherLemmas.{even_gathered, even_judged, few_gathered, judged_join, takes_join}
use Rattle.number_lines.proofs.TextLemmas.{fault_join, numbered_join}

each_numbered : (lists answers more replies : List (List EventValue)) → AreNumberedEach lists answers → AreNumberedEach more replies → AreNumberedEach (lists ++ more) (answers ++ replies)
each_numbered [] [] more replies none then = then
each_numbered [] (N ∷ answers) more replies none then = absurd none
each_numbered (K ∷ lists) [] more replies were then = absurd were
each_numbered (K ∷ lists) (N ∷ answers) more replies were then = (were.0, each_numbered lists answers more replies were.1 then)

module _ (aside : Option (List ℕ)) (base : ℕ) where
  -- what a call of the numberer did, as it says
  pub numbers_of : (lists answers : List (List EventValue)) (old new : State) (was is : Option Counts) → length answers ≡ length lists → AreNumberedEach lists answers → (HasCleanDisk new → HasCleanDisk old) → NumberEachEffect base lists old new was is (Ok answers) → Numbers base lists answers old new was is
  numbers_of lists answers old new was is one_each each cleaner effect = record { one_each = one_each; each = each; clean = cleaner; numbers = λ clean events rows stood. effect.numbers clean events rows stood }

  -- nothing of the texts is written yet
  pub unwritten : (tells : List Told) (lists answers : List (List EventValue)) (old new : State) (was is : Option Counts) (out err : Option (List ℕ)) → Numbers base lists answers old new was is → NumbersUnwritten base tells lists old new was is out out err err
  unwritten tells lists answers old new was is out err numbers = record {
    answers = answers;
    numbers = numbers;
    rest = numbered_text tells answers;
    written = Wrote-start out (numbered_text tells answers);
    unsaid = fault_text tells;
    said = Wrote-start err (fault_text tells);
  }

  -- a front of the first is
  pub half_written : (tells : List Told) (lists answers : List (List EventValue)) (old new : State) (was is : Option Counts) (out out' err : Option (List ℕ)) (bytes rest : List ℕ) → Numbers base lists answers old new was is → bytes ≡ numbered_text tells answers → Wrote out out' bytes rest
      → NumbersUnwritten base tells lists old new was is out out' err err
  half_written tells lists answers old new was is out out' err bytes rest numbers same wrote = record {
    answers = answers;
    numbers = numbers;
    rest = rest;
    written = subst (λ t. Wrote out out' t rest) same wrote;
    unsaid = fault_text tells;
    said = Wrote-start err (fault_text tells);
  }

  -- the first is, and a front of the second
  pub half_said : (tells : List Told) (lists answers : List (List EventValue)) (old new : State) (was is : Option Counts) (out out' err err' : Option (List ℕ)) (bytes words rest : List ℕ) → Numbers base lists answers old new was is → bytes ≡ numbered_text tells answers → Appends out out' bytes
      → words ≡ fault_text tells → Wrote err err' words rest → NumbersUnwritten base tells lists old new was is out out' err err'
  half_said tells lists answers old new was is out out' err err' bytes words rest numbers same grown told wrote = record {
    answers = answers;
    numbers = numbers;
    rest = [];
    written = record { front = numbered_text tells answers; split = sym (append-nil (numbered_text tells answers)); grown = subst (Appends out out') same grown };
    unsaid = rest;
    said = subst (λ t. Wrote err err' t rest) told wrote;
  }

  -- both are
  pub both_written : (tells : List Told) (lists answers : List (List EventValue)) (old new : State) (was is : Option Counts) (out out' err err' : Option (List ℕ)) (bytes words : List ℕ) → Numbers base lists answers old new was is → bytes ≡ numbered_text tells answers → Appends out out' bytes
      → words ≡ fault_text tells → Appends err err' words → NumbersTurn base tells lists old new was is out out' err err'
  both_written tells lists answers old new was is out out' err err' bytes words numbers same grown told wrote = record {
    answers = answers;
    numbers = numbers;
    written = subst (Appends out out') same grown;
    said = subst (Appends err err') told wrote;
  }

  pub numbers_none : (s : State) (c : Option Counts) → Numbers base [] [] s s c c
  numbers_none s c = record { one_each = refl; each = tt; clean = λ clean. clean; numbers = λ clean events rows was. (tt, was) }

  pub numbers_join : (lists answers more replies : List (List EventValue)) (old mid new : State) (was then is : Option Counts) → Numbers base lists answers old mid was then → Numbers base more replies mid new then is → Numbers base (lists ++ more) (answers ++ replies) old new was is
  numbers_join lists answers more replies old mid new was then is first later = record {
    one_each = (let e : length (answers ++ replies) ≡ length (lists ++ more) = omega (arith, first.one_each, later.one_each, length-append answers replies, length-append lists more) in e);
    each = each_numbered lists answers more replies first.each later.each;
    clean = λ clean. first.clean (later.clean clean);
    numbers = λ clean events rows stood.
        let one = first.numbers (later.clean clean) events rows stood in
        let two = later.numbers clean (taken events (joined lists)) (append_new key_cmp rows (joined answers)) one.1 in (
          each_join (from base) events lists answers more replies one.0 two.0,
          subst (λ A. StandsNumbered base A (append_new key_cmp rows (joined (answers ++ replies))) new is) (sym (taken_join events lists more))
              (subst (λ D. StandsNumbered base (taken (taken events (joined lists)) (joined more)) D new is) (sym (taken_join rows answers replies)) two.1),
        );
  }

  numbers_stay : (lists answers : List (List EventValue)) (old mid new : State) (was then is : Option Counts) → Numbers base lists answers old mid was then → Numbers base [] [] mid new then is → Numbers base lists answers old new was is
  numbers_stay lists answers old mid new was then is first none = record {
    one_each = first.one_each;
    each = first.each;
    clean = λ clean. first.clean (none.clean clean);
    numbers = λ clean events rows stood.
        let one = first.numbers (none.clean clean) events rows stood in
        (one.0, (none.numbers clean (taken events (joined lists)) (append_new key_cmp rows (joined answers)) one.1).1);
  }

  -- what the stream numbered so far, and in which states
  abbrev Over : State → State → Option Counts → Option Counts → List (List EventValue) → List (List EventValue) → Type 0
  Over old new was is lists answers = Numbers base lists answers old new was is

  stay : (input left : Option (List ℕ)) (tells : List Told) (answers : List (List EventValue)) (old mid new : State) (was then is : Option Counts) → AreLinesNumbered aside (Over old mid was then) input left tells answers → Numbers base [] [] mid new then is → AreLinesNumbered aside (Over old new was is) input left tells answers
  stay input left tells answers old mid new was then is are none = record { lines = are.lines; lists = are.lists; taken = are.taken; judged = are.judged; one_each = are.one_each; numbers = numbers_stay are.lists answers old mid new was then is are.numbers none }

  are_more : (input left left' : Option (List ℕ)) (before next : ℕ) (tells more : List Told) (answers replies lists : List (List EventValue)) (old mid new : State) (was then is : Option Counts) (are : AreLinesNumbered aside (Over old mid was then) input left tells answers)
      → before ≡ length are.lines → IsGatheredToNumber aside before next left left' more lists → Numbers base lists replies mid new then is → (all : AreLinesNumbered aside (Over old new was is) input left' (tells ++ more) (answers ++ replies)) × (next ≡ length all.lines)
  are_more input left left' before next tells more answers replies lists old mid new was then is are count g numbers =
      let joined_numbers = numbers_join are.lists answers lists replies old mid new was then is are.numbers numbers in (
        record {
          lines = are.lines ++ g.lines;
          lists = are.lists ++ lists;
          taken = takes_join aside input left left' are.lines g.lines are.taken g.taken;
          judged = judged_join aside 0 before are.lines g.lines tells more are.lists lists (omega (arith, count)) are.judged g.judged;
          one_each = joined_numbers.one_each;
          numbers = joined_numbers;
        },
        (let e : next ≡ length (are.lines ++ g.lines) = omega (arith, count, g.count, length-append are.lines g.lines) in e),
      )

  even : (N : List (List EventValue) → List (List EventValue) → Type 0) (input left : Option (List ℕ)) (tells : List Told) (answers : List (List EventValue)) → AreLinesNumbered aside N input left tells answers → length answers ≡ length tells
  even N input left tells answers are = are.one_each ∙ sym (even_judged aside 0 are.lines tells are.lists are.judged)

  -- so far the stream came to this
  pub record IsNumbering (input left out out' err err' : Option (List ℕ)) (old now : State) (was is : Option Counts) (lines faults : ℕ) : Type 0 where
    pub tells : List Told
    pub answers : List (List EventValue)
    pub are : AreLinesNumbered aside (Over old now was is) input left tells answers
    pub count : lines ≡ length are.lines
    pub written : Appends out out' (numbered_text tells answers)
    pub said : Appends err err' (fault_text tells)
    pub faulty : faults ≡ refusals_in tells
    pub few : faults ≤ lines
    pub clean : HasCleanDisk now → HasCleanDisk old

  pub numbering_start : (input out err : Option (List ℕ)) (s : State) (c : Option Counts) → IsNumbering input input out out err err s s c c 0 0
  numbering_start input out err s c = record {
    tells = [];
    answers = [];
    are = record { lines = []; lists = []; taken = Consumes-nil input; judged = tt; one_each = refl; numbers = numbers_none s c };
    count = refl;
    written = Appends-nil out;
    said = Appends-nil err;
    faulty = refl;
    few = omega arith;
    clean = λ clean. clean;
  }

  pub numbering_more : (input left left' out mid_out out' err mid_err err' : Option (List ℕ)) (old mid new : State) (was then is : Option Counts) (lines next faults : ℕ) (more : List Told) (lists : List (List EventValue)) → IsNumbering input left out mid_out err mid_err old mid was then lines faults
      → IsGatheredToNumber aside lines next left left' more lists → NumbersTurn base more lists mid new then is mid_out out' mid_err err' → (HasCleanDisk new → HasCleanDisk mid) → IsNumbering input left' out out' err err' old new was is next (faults + refusals_in more)
  numbering_more input left left' out mid_out out' err mid_err err' old mid new was then is lines next faults more lists f g turn cleaner =
      let all = are_more input left left' lines next f.tells more f.answers turn.answers lists old mid new was then is f.are f.count g turn.numbers in
      record {
        tells = f.tells ++ more;
        answers = f.answers ++ turn.answers;
        are = all.0;
        count = all.1;
        written = subst (Appends out out') (sym (numbered_join f.tells more f.answers turn.answers (even _ input left f.tells f.answers f.are))) (Appends-trans out mid_out out' _ _ f.written turn.written);
        said = subst (Appends err err') (sym (fault_join f.tells more)) (Appends-trans err mid_err err' _ _ f.said turn.said);
        faulty = (let e : faults + refusals_in more ≡ refusals_in (f.tells ++ more) = omega (arith, f.faulty, sum_by-append (λ (t : Told). cond (is_some t.fault) 1 0) f.tells more) in e);
        few = (let few = few_gathered aside lines next left left' more lists g in omega (arith, few, f.few));
        clean = λ clean. f.clean (cleaner clean);
      }

  pub numbering_all : (input left out out' err err' : Option (List ℕ)) (old now : State) (was is : Option Counts) (lines faults : ℕ) → IsNumbering input left out out' err err' old now was is lines faults → IsAtEnd left → NumbersAll aside (Over old now was is) faults input out out' err err'
  numbering_all input left out out' err err' old now was is lines faults f over = record { left = left; over = over; tells = f.tells; answers = f.answers; are = f.are; written = f.written; said = f.said; faulty = f.faulty }

  pub numbering_some : (input left out out' err err' : Option (List ℕ)) (old now : State) (was is : Option Counts) (lines faults : ℕ) → IsNumbering input left out out' err err' old now was is lines faults → NumbersSome aside (Over old now was is) input out out' err err'
  numbering_some input left out out' err err' old now was is lines faults f = record { left = left; tells = f.tells; answers = f.answers; are = f.are; written = f.written; said = f.said }

  part : (input left left' out mid_out out' err mid_err err' : Option (List ℕ)) (old mid new : State) (was then is : Option Counts) (lines next faults : ℕ) (more : List Told) (lists : List (List EventValue)) → IsNumbering input left out mid_out err mid_err old mid was then lines faults
      → IsGatheredToNumber aside lines next left left' more lists → NumbersUnwritten base more lists mid new then is mid_out out' mid_err err' → NumbersRest aside (Over old new was is) input out out' err err'
  part input left left' out mid_out out' err mid_err err' old mid new was then is lines next faults more lists f g turn =
      let all = are_more input left left' lines next f.tells more f.answers turn.answers lists old mid new was then is f.are f.count g turn.numbers in
      record {
        left = left';
        tells = f.tells ++ more;
        answers = f.answers ++ turn.answers;
        are = all.0;
        rest = turn.rest;
        written = subst (λ t. Wrote out out' t turn.rest) (sym (numbered_join f.tells more f.answers turn.answers (even _ input left f.tells f.answers f.are))) (Wrote-behind out mid_out out' _ _ turn.rest f.written turn.written);
        unsaid = turn.unsaid;
        said = subst (λ t. Wrote err err' t turn.unsaid) (sym (fault_join f.tells more)) (Wrote-behind err mid_err err' _ _ turn.unsaid f.said turn.said);
      }

  pub numbering_stops : (input left left' out mid_out out' err mid_err err' : Option (List ℕ)) (old mid new : State) (was then is : Option Counts) (lines next faults : ℕ) (more : List Told) (lists : List (List EventValue)) (why : NumberingFault) → IsNumbering input left out mid_out err mid_err old mid was then lines faults
      → IsGatheredToNumber aside lines next left left' more lists → StopsNumbering why base more lists mid new then is mid_out out' mid_err err' → NumbersUntil aside (Over old new was is) why input out out' err err'
  numbering_stops input left left' out mid_out out' err mid_err err' old mid new was then is lines next faults more lists (Input fault) f g stop = absurd stop
  numbering_stops input left left' out mid_out out' err mid_err err' old mid new was then is lines next faults more lists (Numberer fault) f g (inl (none, kept, quiet)) =
      inl (record {
        left = left;
        tells = f.tells;
        answers = f.answers;
        are = stay input left f.tells f.answers old mid new was then is f.are none;
        written = Appends-kept out mid_out out' _ f.written kept;
        said = Appends-kept err mid_err err' _ f.said quiet;
      })
  numbering_stops input left left' out mid_out out' err mid_err err' old mid new was then is lines next faults more lists (Numberer fault) f g (inr (want, turn)) =
      inr (want, part input left left' out mid_out out' err mid_err err' old mid new was then is lines next faults more lists f g turn)
  numbering_stops input left left' out mid_out out' err mid_err err' old mid new was then is lines next faults more lists Unwritten f g turn =
      part input left left' out mid_out out' err mid_err err' old mid new was then is lines next faults more lists f g turn

  -- a turn of a numberer whose base is the same
  pub numbering_next : (input left left' out mid_out out' err mid_err err' : Option (List ℕ)) (old mid new : State) (was then is : Option Counts) (lines next faults b k : ℕ) (more : List Told) (lists : List (List EventValue)) → IsNumbering input left out mid_out err mid_err old mid was then lines faults
      → IsGatheredToNumber aside lines next left left' more lists → NumbersTurn b more lists mid new then is mid_out out' mid_err err' → b ≡ base → k ≡ refusals_in more → (HasCleanDisk new → HasCleanDisk mid) → IsNumbering input left' out out' err err' old new was is next (faults + k)
  numbering_next input left left' out mid_out out' err mid_err err' old mid new was then is lines next faults b k more lists f g turn same count cleaner =
      subst (λ m. IsNumbering input left' out out' err err' old new was is next (faults + m)) (sym count)
      (numbering_more input left left' out mid_out out' err mid_err err' old mid new was then is lines next faults more lists f g (subst (λ c. NumbersTurn c more lists mid new then is mid_out out' mid_err err') same turn) cleaner)

  pub numbering_end : (input left left' out mid_out out' err mid_err err' : Option (List ℕ)) (old mid new : State) (was then is : Option Counts) (lines next faults b : ℕ) (more : List Told) (lists : List (List EventValue)) (why : NumberingFault) → IsNumbering input left out mid_out err mid_err old mid was then lines faults
      → IsGatheredToNumber aside lines next left left' more lists → StopsNumbering why b more lists mid new then is mid_out out' mid_err err' → b ≡ base → NumbersUntil aside (Over old new was is) why input out out' err err'
  numbering_end input left left' out mid_out out' err mid_err err' old mid new was then is lines next faults b more lists why f g stop same =
      numbering_stops input left left' out mid_out out' err mid_err err' old mid new was then is lines next faults more lists why f g (subst (λ c. StopsNumbering why c more lists mid new then is mid_out out' mid_err err') same stop)
