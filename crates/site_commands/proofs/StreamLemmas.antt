-- How a stream ends.
use Rattle.std.proofs.Common.{◌≡◌, ◌≢◌, ℕ, zero, suc, List, [], ◌∷◌, ◌++◌, Option, None, Some, Result, Ok, Err, IfOk, MatchResult, inl, inr, refl, sym, subst, arith}
use Rattle.std.specs.Result.{IfErr}
use Rattle.std.specs.List.{AllByRecursion, flat_map}
use Rattle.std.specs.Io.KnownBytes.{IsAtEnd}
use Rattle.command_words.specs.declared.request.Follow.{Follow}
use Rattle.event_files.specs.declared.input.Unread.{Unread}
use Rattle.line_intake.specs.Acknowledged.{AreTold, TellsAll, TellsPart, TellsSome}
use Rattle.line_intake.specs.Judged.{TakesLines}
use Rattle.line_intake.specs.Lines.{HasNoLineFeed}
use Rattle.line_intake.specs.declared.answer.Told.{Told}
use Rattle.databases.specs.Streams.{AcknowledgesUntil}
use Rattle.databases.specs.declared.stream.StreamFault.{StreamFault}
use Rattle.databases.specs.declared.stream.StreamFault.TheVariants as stream
use Rattle.site_commands.specs.Endings.{EndsStream, SaysRefusal}
use Rattle.site_commands.specs.Inputs.{MayGive}
use Rattle.site_commands.specs.Names.{Names, names_of_follow}
use Rattle.site_commands.specs.Streams.{EndsSo, FollowsAll, FollowsPart, FollowsSome, RefusesFollow, end_at, end_of_stream}
use Rattle.site_commands.specs.declared.line.Refusal.{Refusal}
use Rattle.site_commands.specs.declared.line.Refusal.TheVariants as refusal
use Rattle.site_commands.specs.declared.stream.StreamEnd.{StreamEnd}
use Rattle.site_commands.specs.declared.stream.StreamEnd.TheVariants as end

pub end_of_some : (faults : ℕ) → faults ≢ 0 → end_of_stream faults ≡ end.Refused (refusal.Lines faults)
end_of_some zero some = absurd (some refl)
end_of_some (suc n) some = refl

pub some_of : (n : ℕ) → suc n ≢ 0
some_of n e = omega (arith, e)

-- ---- the bytes of a file of which lines were taken

pub plain_lines : (a b : Option (List ℕ)) (lines : List (List ℕ)) → TakesLines a lines b → AllByRecursion (λ l. HasNoLineFeed l) lines
plain_lines a b [] it = tt
plain_lines a b (l ∷ lines) (mid, first, later) = (first.plain, plain_lines mid b lines later)

-- lines, each with its LF
abbrev pub ended : List (List ℕ) → List ℕ
ended lines = flat_map (λ l. l ++ 10 ∷ []) lines

pub taken_anew : (lines : List (List ℕ)) → AllByRecursion (λ l. HasNoLineFeed l) lines → TakesLines (Some (ended lines)) lines (Some [])
taken_anew [] plain = refl
taken_anew (l ∷ lines) (first, later) = (Some (ended lines), record { plain = first; taken = inl refl }, taken_anew lines later)

-- what is acknowledged of an input is acknowledged of bytes that it may give
certain : (C : List ℕ → Type 0) (known left : Option (List ℕ)) (tells : List Told) (text : List ℕ) → ((bytes : List ℕ) → MayGive known bytes → C bytes) → AreTold known left tells text
    → (bytes : List ℕ) × C bytes × (new : Option (List ℕ)) × AreTold (Some bytes) new tells text × (IsAtEnd left → IsAtEnd new)
certain C None left tells text of told = (
  ended told.lines,
  of (ended told.lines) tt,
  Some [],
  record { lines = told.lines; lists = told.lists; each = told.each; taken = taken_anew told.lines (plain_lines None left told.lines told.taken); judged = told.judged; one_each = told.one_each; are = told.are },
  λ e. refl,
)
certain C (Some x) left tells text of told = (x, of x refl, left, told, λ e. e)

-- ---- how a stream ends

module _ (C : List ℕ → List ℕ → Type 0) (U : List ℕ → Unread → Type 0) (file : List ℕ) (known out out' : Option (List ℕ)) (of : (bytes : List ℕ) → MayGive known bytes → C file bytes) where
  follows_all : (faults : ℕ) → TellsAll known out out' faults → FollowsAll C file out out' faults
  follows_all faults t = (let it = certain (C file) known t.left t.tells t.text of t.told in record {
    bytes = it.0;
    of_file = it.1;
    tells = record { left = it.2; over = it.4 t.over; tells = t.tells; text = t.text; told = it.3; written = t.written; faulty = t.faulty };
  })

  follows_some : TellsSome known out out' → FollowsSome C file out out'
  follows_some t = (let it = certain (C file) known t.left t.tells t.text of t.told in record {
    bytes = it.0;
    of_file = it.1;
    tells = record { left = it.2; tells = t.tells; text = t.text; told = it.3; written = t.written };
  })

  follows_part : TellsPart known out out' → FollowsPart C file out out'
  follows_part t = (let it = certain (C file) known t.left t.tells t.text of t.told in record {
    bytes = it.0;
    of_file = it.1;
    tells = record { left = it.2; tells = t.tells; text = t.text; told = it.3; rest = t.rest; written = t.written };
  })

  ends_all : (faults : ℕ) → TellsAll known out out' faults → EndsSo C U file (end_of_stream faults) out out'
  ends_all zero told = follows_all zero told
  ends_all (suc n) told = (some_of n, follows_all (suc n) told)

  ends_until : (why : StreamFault) → AcknowledgesUntil why known out out' → EndsSo C U file (end_at why) out out'
  ends_until (stream.Input why) told = inr (why, refl, follows_some told)
  ends_until (stream.Database why) told = follows_some told
  ends_until stream.Unwritten told = follows_part told

  -- what was written until the stream ended is what its end says
  pub ends_so : (ended : Result ℕ StreamFault) (so : StreamEnd) → IfOk ended (TellsAll known out out') → IfErr ended (λ why. AcknowledgesUntil why known out out') → MatchResult ended (λ faults. so ≡ end_of_stream faults) (λ why. so ≡ end_at why) → EndsSo C U file so out out'
  ends_so (Ok faults) so all until is = subst (λ e. EndsSo C U file e out out') (sym is) (ends_all faults all)
  ends_so (Err why) so all until is = subst (λ e. EndsSo C U file e out out') (sym is) (ends_until why until)

-- what is refused is said
pub refused_stream : (C : List ℕ → List ℕ → Type 0) (U : List ℕ → Unread → Type 0) (f : Follow) (name : List ℕ) (n : Names) (why : Refusal) (r : ℕ) (out out' err err' : Option (List ℕ)) → name ≡ f.file → n ≡ names_of_follow f
    → RefusesFollow C U name why out out' → SaysRefusal n why r err err' → EndsStream C U f r out out' err err'
refused_stream C U f name n why r out out' err err' same named refuses says =
    inr (inl (why, subst (λ z. RefusesFollow C U z why out out') same refuses, subst (λ z. SaysRefusal z why r err err') named says))
