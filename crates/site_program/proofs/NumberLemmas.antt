-- How a stream of lines ends whose events are numbered.
use Rattle.std.proofs.Common.{◌≡◌, ℕ, zero, suc, List, [], Option, None, Some, Result, Ok, Err, IfOk, inl, inr, refl, sym, subst}
use Rattle.std.specs.Result.{IfErr}
use Rattle.std.specs.Io.KnownBytes.{IsAtEnd}
use Rattle.attributes.specs.Event.{EventValue}
use Rattle.command_words.specs.declared.request.Number.{Number}
use Rattle.event_files.specs.declared.input.Unread.{Unread}
use Rattle.number_table.specs.Each.{AreNumberedEach}
use Rattle.number_table.specs.declared.fault.NumbererFault.{NumbererFault}
use Rattle.number_table.specs.declared.fault.NumbererFault.TheVariants.{OutOfMemory, HasSequence, TooLarge, Full, Store, Foreign}
use Rattle.number_lines.specs.Numbering.{AreLinesNumbered, NumbersAll, NumbersRest, NumbersSome, NumbersUntil}
use Rattle.number_lines.specs.Over.{EndsSome}
use Rattle.number_lines.specs.declared.named.NumberEnd.{NumberEnd}
use Rattle.number_lines.specs.declared.named.NumberEnd.TheVariants as number
use Rattle.number_lines.specs.declared.refusal.Told.{Told}
use Rattle.number_lines.specs.declared.stream.NumberingFault.TheVariants as numbering
use Rattle.site_program.specs.Numbers.{EndsNumbers, EndsNumbering, NumbersFile, NumbersFront, NumbersUnsaid, RefusesNumbers, number_end, refusal_of}
use Rattle.site_commands.specs.Endings.{SaysRefusal}
use Rattle.site_commands.specs.Inputs.{MayGive}
use Rattle.site_commands.specs.Names.{Names, of_number}
use Rattle.site_commands.specs.Streams.{end_of_stream}
use Rattle.site_commands.specs.declared.line.Refusal.{Refusal}
use Rattle.site_commands.specs.declared.stream.StreamEnd.{StreamEnd}
use Rattle.site_commands.proofs.StreamLemmas.{ended, plain_lines, some_of, taken_anew}

module _ (C : List ℕ → List ℕ → Type 0) (U : List ℕ → Unread → Type 0) (f : Number) (known out out' err err' : Option (List ℕ)) (of : (bytes : List ℕ) → MayGive known bytes → C f.file bytes) where
  abbrev Are : Option (List ℕ) → Option (List ℕ) → List Told → List (List EventValue) → Type 0
  Are input left tells answers = AreLinesNumbered f.aside AreNumberedEach input left tells answers

  -- what is numbered of an input is numbered of bytes that it may give
  certain : (known : Option (List ℕ)) → ((bytes : List ℕ) → MayGive known bytes → C f.file bytes) → (left : Option (List ℕ)) (tells : List Told) (answers : List (List EventValue)) → Are known left tells answers
      → (bytes : List ℕ) × C f.file bytes × (new : Option (List ℕ)) × Are (Some bytes) new tells answers × (IsAtEnd left → IsAtEnd new)
  certain None of left tells answers are = (
    ended are.lines,
    of (ended are.lines) tt,
    Some [],
    record { lines = are.lines; lists = are.lists; taken = taken_anew are.lines (plain_lines None left are.lines are.taken); judged = are.judged; one_each = are.one_each; numbers = are.numbers },
    λ e. refl,
  )
  certain (Some x) of left tells answers are = (x, of x refl, left, are, λ e. e)

  file : (faults : ℕ) → NumbersAll f.aside AreNumberedEach faults known out out' err err' → NumbersFile C f out out' err err' faults
  file faults t = (let it = certain known of t.left t.tells t.answers t.are in record {
    bytes = it.0;
    of_file = it.1;
    all = record { left = it.2; over = it.4 t.over; tells = t.tells; answers = t.answers; are = it.3; written = t.written; said = t.said; faulty = t.faulty };
  })

  front : NumbersSome f.aside AreNumberedEach known out out' err err' → NumbersFront C f out out' err err'
  front t = (let it = certain known of t.left t.tells t.answers t.are in record {
    bytes = it.0;
    of_file = it.1;
    some = record { left = it.2; tells = t.tells; answers = t.answers; are = it.3; written = t.written; said = t.said };
  })

  unsaid : NumbersRest f.aside AreNumberedEach known out out' err err' → NumbersUnsaid C f out out' err err'
  unsaid t = (let it = certain known of t.left t.tells t.answers t.are in record {
    bytes = it.0;
    of_file = it.1;
    part = record { left = it.2; tells = t.tells; answers = t.answers; are = it.3; rest = t.rest; written = t.written; unsaid = t.unsaid; said = t.said };
  })

  ends_all : (faults : ℕ) → NumbersAll f.aside AreNumberedEach faults known out out' err err' → EndsNumbering C U f (end_of_stream faults) out out' err err'
  ends_all zero told = file zero told
  ends_all (suc n) told = (some_of n, file (suc n) told)

  ends_refused : (why : NumbererFault) → NumbersUntil f.aside AreNumberedEach (numbering.Numberer why) known out out' err err' → RefusesNumbers C U f (refusal_of why) out out' err err'
  ends_refused OutOfMemory (inl some) = inl (front some)
  ends_refused OutOfMemory (inr (is, part)) = inr (refl, unsaid part)
  ends_refused (HasSequence i) (inl some) = inl (front some)
  ends_refused (HasSequence i) (inr (is, part)) = absurd (cc)
  ends_refused (TooLarge i) (inl some) = inl (front some)
  ends_refused (TooLarge i) (inr (is, part)) = absurd (cc)
  ends_refused (Full i) (inl some) = front some
  ends_refused (Full i) (inr (is, part)) = absurd (cc)
  ends_refused Store (inl some) = inl (front some)
  ends_refused Store (inr (is, part)) = absurd (cc)
  ends_refused Foreign (inl some) = inl (front some)
  ends_refused Foreign (inr (is, part)) = absurd (cc)

  ends_until : (why : NumberEnd) → EndsSome f.aside why known out out' err err' → EndsNumbering C U f (number_end (Err why)) out out' err err'
  ends_until (number.Database why) some = inl (front some)
  ends_until (number.Stream (numbering.Input why)) some = inr (why, refl, front some)
  ends_until (number.Stream (numbering.Numberer why)) told = ends_refused why told
  ends_until (number.Stream numbering.Unwritten) part = unsaid part

  -- what was written until the stream ended is what its end says
  pub ends_numbering : (ended : Result ℕ NumberEnd) (so : StreamEnd) → IfOk ended (λ n. NumbersAll f.aside AreNumberedEach n known out out' err err') → IfErr ended (λ why. EndsSome f.aside why known out out' err err') → so ≡ number_end ended → EndsNumbering C U f so out out' err err'
  ends_numbering (Ok faults) so all until is = subst (λ e. EndsNumbering C U f e out out' err err') (sym is) (ends_all faults all)
  ends_numbering (Err why) so all until is = subst (λ e. EndsNumbering C U f e out out' err err') (sym is) (ends_until why until)

-- what is refused is said
pub refused_numbers : (C : List ℕ → List ℕ → Type 0) (U : List ℕ → Unread → Type 0) (f : Number) (n : Names) (why : Refusal) (r : ℕ) (out out' err mid err' : Option (List ℕ)) → n ≡ of_number f
    → RefusesNumbers C U f why out out' err mid → SaysRefusal n why r mid err' → EndsNumbers C U f r out out' err err'
refused_numbers C U f n why r out out' err mid err' named refuses says = inr (inl (why, mid, refuses, subst (λ z. SaysRefusal z why r mid err') named says))
