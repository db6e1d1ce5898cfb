-- Lines that are gathered, one after the other.
use Rattle.std.proofs.Common.{◌≡◌, ◌≢◌, ◌<◌, inl, inr, ◌++◌, ℕ, zero, suc, ◌+◌, List, [], ◌∷◌, length, slice_get, Option, Some, None, refl, sym, ap, subst, ◌∙◌, arith, append-nil, Result, Ok, Err, OnOk}
use Rattle.std.specs.Io.KnownBytes.{Consumes}
use Rattle.std.proofs.KnownBytes.{Consumes-nil, Consumes-trans}
use Rattle.attributes.specs.Event.{EventValue}
use Rattle.event_json.specs.Reading.{Reads, max_input}
use Rattle.event_json.specs.declared.fault.ReadFault.TheVariants.{InputTooLarge}
use Rattle.event_files.specs.Files.{AreSequenced, EachReads, IsFault, IsRefusal, SpellAll, joined}
use Rattle.event_files.specs.declared.refusal.ReportFault.{ReportFault}
use Rattle.event_files.specs.declared.refusal.ReportFault.TheVariants.{OutOfMemory, Read}
use Rattle.event_files.specs.declared.refusal.Refused.{Refused}
use Rattle.line_intake.specs.Judged.{AreJudged, IsGathered, IsJudged, TakesLines}
use Rattle.line_intake.specs.Lines.{TakesLine}
use Rattle.line_intake.specs.declared.answer.Told.{Told}

-- ---- one line

-- what one file spells
pub spells_one : (line : List ℕ) (events : List EventValue) → SpellAll (line ∷ []) events → IsJudged line None events
spells_one line events (lists, each, are) = go lists each are
  where
    go : (ls : List (List EventValue)) → EachReads (line ∷ []) ls → events ≡ joined ls → IsJudged line None events
    go [] h e = absurd h
    go (L ∷ []) h e = let same : L ≡ events = sym (append-nil L) ∙ sym e in (subst (Reads line) same h.0, subst AreSequenced same h.1)
    go (L ∷ M ∷ ls) h e = absurd h.2

file_at : (line file : List ℕ) (i : ℕ) → slice_get (line ∷ []) i ≡ Some file → file ≡ line
file_at line file zero is = cc
file_at line file (suc i) is = absurd (cc)

-- why one file spells nothing
pub refuses_one : (line : List ℕ) (refused : Refused) (why : ReportFault) → refused.fault ≡ why → why ≢ OutOfMemory → IsRefusal (line ∷ []) refused → IsFault line why
refuses_one line refused why is other (inl out) = absurd (other (sym is ∙ out))
refuses_one line refused why is other (inr at) = subst (λ f. IsFault line f) is (subst (λ l. IsFault l refused.fault) (file_at line at.file refused.file at.at) at.is_fault)

-- ---- lines

pub takes_same : (a b c : Option (List ℕ)) (line : List ℕ) → Consumes a b [] → TakesLine b c line → TakesLine a c line
takes_same a b c line none it = record {
  plain = it.plain;
  taken = elim it.taken [
    | inl whole ↦ inl (Consumes-trans a b c [] (line ++ 10 ∷ []) none whole)
    | inr last ↦ inr (Consumes-trans a b c [] line none last.0, last.1, last.2)
  ];
}

takes_more : (a b c : Option (List ℕ)) (lines : List (List ℕ)) (line : List ℕ) → TakesLines a lines b → TakesLine b c line → TakesLines a (lines ++ line ∷ []) c
takes_more a b c [] line none it = (c, takes_same a b c line none it, Consumes-nil c)
takes_more a b c (l ∷ lines) line (mid, first, later) it = (mid, first, takes_more mid b c lines line later it)

takes_end : (a b c : Option (List ℕ)) (lines : List (List ℕ)) → TakesLines a lines b → Consumes b c [] → TakesLines a lines c
takes_end a b c [] none end = Consumes-trans a b c [] [] none end
takes_end a b c (l ∷ lines) (mid, first, later) end = (mid, first, takes_end mid b c lines later end)

judged_line : (before now : ℕ) (lines : List (List ℕ)) (tells : List Told) (lists : List (List EventValue)) (b : ℕ) (line : List ℕ) (told : Told) (L : List EventValue) → now ≡ before + length lines → told.line ≡ suc now → IsJudged (b ∷ line) told.fault L
    → AreJudged before lines tells lists → AreJudged before (lines ++ (b ∷ line) ∷ []) (tells ++ told ∷ []) (lists ++ L ∷ [])
judged_line before now [] [] [] b line told L count at judged so_far = ((let e : told.line ≡ suc before = omega (arith, count, at) in e), judged, tt)
judged_line before now [] (t ∷ tells) lists b line told L count at judged so_far = absurd so_far
judged_line before now [] [] (M ∷ lists) b line told L count at judged so_far = absurd so_far
judged_line before now ([] ∷ lines) tells lists b line told L count at judged so_far = judged_line (suc before) now lines tells lists b line told L (omega (arith, count)) at judged so_far
judged_line before now ((x ∷ xs) ∷ lines) [] lists b line told L count at judged so_far = absurd so_far
judged_line before now ((x ∷ xs) ∷ lines) (t ∷ tells) [] b line told L count at judged so_far = absurd so_far
judged_line before now ((x ∷ xs) ∷ lines) (t ∷ tells) (M ∷ lists) b line told L count at judged so_far = (so_far.0, so_far.1, judged_line (suc before) now lines tells lists b line told L (omega (arith, count)) at judged so_far.2)

judged_empty : (before : ℕ) (lines : List (List ℕ)) (tells : List Told) (lists : List (List EventValue)) → AreJudged before lines tells lists → AreJudged before (lines ++ [] ∷ []) tells lists
judged_empty before [] [] [] so_far = tt
judged_empty before [] (t ∷ tells) lists so_far = absurd so_far
judged_empty before [] [] (M ∷ lists) so_far = absurd so_far
judged_empty before ([] ∷ lines) tells lists so_far = judged_empty (suc before) lines tells lists so_far
judged_empty before ((x ∷ xs) ∷ lines) [] lists so_far = absurd so_far
judged_empty before ((x ∷ xs) ∷ lines) (t ∷ tells) [] so_far = absurd so_far
judged_empty before ((x ∷ xs) ∷ lines) (t ∷ tells) (M ∷ lists) so_far = (so_far.0, so_far.1, judged_empty (suc before) lines tells lists so_far.2)

length_more : {T : Type 0} (xs : List T) (x : T) → length (xs ++ x ∷ []) ≡ length xs + 1
length_more [] x = refl
length_more (y ∷ xs) x = (let more = length_more xs x in omega (arith, more))

pub gathered_none : (before : ℕ) (a : Option (List ℕ)) → IsGathered before before a a [] []
gathered_none before a = record { lines = []; taken = Consumes-nil a; judged = tt; count = omega arith }

pub gathered_end : (before now : ℕ) (a b c : Option (List ℕ)) (tells : List Told) (lists : List (List EventValue)) → IsGathered before now a b tells lists → Consumes b c [] → IsGathered before now a c tells lists
gathered_end before now a b c tells lists g end = record { lines = g.lines; taken = takes_end a b c g.lines g.taken end; judged = g.judged; count = g.count }

pub gathered_empty : (before now next : ℕ) (a b c : Option (List ℕ)) (tells : List Told) (lists : List (List EventValue)) (line : List ℕ) → next ≡ now + 1 → line ≡ [] → IsGathered before now a b tells lists → TakesLine b c line → IsGathered before next a c tells lists
gathered_empty before now next a b c tells lists line is none g it = record {
  lines = g.lines ++ [] ∷ [];
  taken = takes_more a b c g.lines [] g.taken (subst (TakesLine b c) none it);
  judged = judged_empty before g.lines tells lists g.judged;
  count = (let more = length_more g.lines [] in let e : next ≡ before + length (g.lines ++ [] ∷ []) = omega (arith, more, g.count, is) in e);
}

pub gathered_line : (before now next : ℕ) (a b c : Option (List ℕ)) (tells new_tells : List Told) (lists new_lists : List (List EventValue)) (line : List ℕ) (fault : Option ReportFault) (L : List EventValue) → next ≡ now + 1 → line ≢ [] → IsJudged line fault L
    → new_tells ≡ tells ++ (record { line = now + 1; fault = fault }) ∷ [] → new_lists ≡ lists ++ L ∷ [] → IsGathered before now a b tells lists → TakesLine b c line → IsGathered before next a c new_tells new_lists
gathered_line before now next a b c tells new_tells lists new_lists [] fault L is filled judged told given g it = absurd (filled refl)
gathered_line before now next a b c tells new_tells lists new_lists (x ∷ line) fault L is filled judged told given g it =
    let one : Told = record { line = now + 1; fault = fault } in
    subst (λ ts. IsGathered before next a c ts new_lists) (sym told)
    (subst (λ ls. IsGathered before next a c (tells ++ one ∷ []) ls) (sym given) (record {
      lines = g.lines ++ (x ∷ line) ∷ [];
      taken = takes_more a b c g.lines (x ∷ line) g.taken it;
      judged = judged_line before now g.lines tells lists x line one L g.count (omega arith) judged g.judged;
      count = (let more = length_more g.lines (x ∷ line) in let e : next ≡ before + length (g.lines ++ (x ∷ line) ∷ []) = omega (arith, more, g.count, is) in e);
    }))

-- a line that is too long is no input
pub long_judged : (line : List ℕ) → max_input < length line → (line ≢ []) × IsJudged line (Some (Read InputTooLarge)) []
long_judged line long = ((λ e. let n = ap length e in omega (arith, n, long)), (long, refl))

-- as many lines are told as there are lists
pub even_judged : (before : ℕ) (lines : List (List ℕ)) (tells : List Told) (lists : List (List EventValue)) → AreJudged before lines tells lists → length tells ≡ length lists
even_judged before [] [] [] so_far = refl
even_judged before [] (t ∷ tells) lists so_far = absurd so_far
even_judged before [] [] (M ∷ lists) so_far = absurd so_far
even_judged before ([] ∷ lines) tells lists so_far = even_judged (suc before) lines tells lists so_far
even_judged before ((x ∷ xs) ∷ lines) [] lists so_far = absurd so_far
even_judged before ((x ∷ xs) ∷ lines) (t ∷ tells) [] so_far = absurd so_far
even_judged before ((x ∷ xs) ∷ lines) (t ∷ tells) (M ∷ lists) so_far = ap suc (even_judged (suc before) lines tells lists so_far.2)

pub on_three : {T E : Type 0} (r : Result T E) (A B C P : Type 0) → (A → B → C → P) → OnOk r A → OnOk r B → OnOk r C → OnOk r P
on_three (Ok x) A B C P f a b c = f a b c
on_three (Err y) A B C P f a b c = tt

pub even_gathered : (before now : ℕ) (a b : Option (List ℕ)) (tells : List Told) (lists : List (List EventValue)) → IsGathered before now a b tells lists → length tells ≡ length lists
even_gathered before now a b tells lists g = even_judged before g.lines tells lists g.judged
