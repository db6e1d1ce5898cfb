-- The lines of several files, one file more at a time, and what a check finds.
use Rattle.std.proofs.Common.{◌≡◌, ◌==◌, ◌≢◌, inl, inr, ℕ, suc, ◌+◌, Bool, true, false, List, [], ◌∷◌, ◌++◌, length, take, refl, sym, ap, ◌∙◌, subst, append_assoc, append-nil, true-eqb, false-eqb}
use Rattle.std.specs.Prelude.{Option, Some, slice_get}
use Rattle.std.proofs.lemmas.List.{length-map}
use Rattle.std.proofs.lemmas.List.{take_more}
use Rattle.std.proofs.lemmas.Option.{get_or_from_slice_get, slice_get_within}
use Rattle.event_files.specs.Shelves.{AreContents}
use Rattle.command_words.specs.declared.request.Check.{Check}
use Rattle.site_commands.specs.Checks.{AreFaultsOf, FindsNone, FindsSome, IsFaultOf, TellsFaults, TellsGiven, piece_names}
use Rattle.site_commands.specs.Lines.{line_names}
use Rattle.site_commands.specs.Pieces.{ArePieces, file_lines, places_in, places_of_lines}
use Rattle.site_commands.specs.declared.pieces.LineAt.{LineAt}
use Rattle.site_commands.specs.steps.Checks.{FindsIn}

-- there is a content for each name
pub AreContents-length : (R : List ℕ → List ℕ → Type 0) (names contents : List (List ℕ)) → AreContents R names contents → length contents ≡ length names
AreContents-length R [] [] h = refl
AreContents-length R [] (c ∷ cs) h = absurd h
AreContents-length R (n ∷ ns) [] h = absurd h
AreContents-length R (n ∷ ns) (c ∷ cs) h = ap suc (AreContents-length R ns cs h.1)

AreFaultsOf-more : (b : Bool) (files contents : List (List ℕ)) (text file bytes lines : List ℕ)
    → AreFaultsOf b files contents text → IsFaultOf b file bytes lines
    → AreFaultsOf b (files ++ file ∷ []) (contents ++ bytes ∷ []) (text ++ lines)
AreFaultsOf-more b [] [] text file bytes lines all one = (lines, [], one, refl, ap (λ t. t ++ lines) all ∙ sym (append-nil lines))
AreFaultsOf-more b [] (c ∷ cs) text file bytes lines all one = absurd all
AreFaultsOf-more b (f ∷ fs) [] text file bytes lines all one = absurd all
AreFaultsOf-more b (f ∷ fs) (c ∷ cs) text file bytes lines all one =
    (all.0, all.1 ++ lines, all.2, AreFaultsOf-more b fs cs all.1 file bytes lines all.3 one, ap (λ t. t ++ lines) all.4 ∙ append_assoc all.0 all.1 lines)

-- the first elements and the next one
take_next : {X : Type 0} (xs : List X) (i : ℕ) (x : X) → slice_get xs i ≡ Some x → take (i + 1) xs ≡ take i xs ++ x ∷ []
take_next xs i x h = take_more xs i x (slice_get_within xs i x h) ∙ ap (λ y. take i xs ++ y ∷ []) (get_or_from_slice_get xs i x x h)

-- the lines of the first files, and those of the next one
pub AreFaultsOf-next : (b : Bool) (files contents : List (List ℕ)) (i : ℕ) (text file bytes lines all : List ℕ)
    → slice_get files i ≡ Some file → slice_get contents i ≡ Some bytes → all ≡ text ++ lines
    → AreFaultsOf b (take i files) (take i contents) text → IsFaultOf b file bytes lines
    → AreFaultsOf b (take (i + 1) files) (take (i + 1) contents) all
AreFaultsOf-next b files contents i text file bytes lines all is_file is_content grown before one =
    subst (λ (t : List ℕ). AreFaultsOf b (take (i + 1) files) (take (i + 1) contents) t) (sym grown)
    (subst (λ (fs : List (List ℕ)). AreFaultsOf b fs (take (i + 1) contents) (text ++ lines)) (sym (take_next files i file is_file))
    (subst (λ (cs : List (List ℕ)). AreFaultsOf b (take i files ++ file ∷ []) cs (text ++ lines)) (sym (take_next contents i bytes is_content))
    (AreFaultsOf-more b (take i files) (take i contents) text file bytes lines before one)))

-- ---- what is found

-- what is at fault in the pieces of files that were read
faults_told : (C : List ℕ → List ℕ → Type 0) (b has_lines : Bool) (files texts : List (List ℕ)) (places : List LineAt) (lines : List ℕ) → ArePieces C has_lines files texts places → AreFaultsOf b (piece_names has_lines files places) texts lines → TellsFaults C b has_lines files lines
faults_told C b has_lines files texts places lines p faults = (
  p.contents,
  p.read,
  subst (λ (ts : List (List ℕ)). AreFaultsOf b (piece_names has_lines files (places_in has_lines p.contents)) ts lines) p.cut
      (subst (λ (ats : List LineAt). AreFaultsOf b (piece_names has_lines files ats) texts lines) p.stand faults),
)

pub finds_none : (C : List ℕ → List ℕ → Type 0) (judged : Check) (texts : List (List ℕ)) (places : List LineAt) (faultless : Bool) (text : List ℕ) → ArePieces C judged.has_lines judged.files texts places → FindsIn judged.is_for_number judged.db (piece_names judged.has_lines judged.files places) texts faultless text → faultless ≡ true → FindsNone C judged text
finds_none C judged texts places faultless text pieces it is =
    let both = it.none is in
    record {
      told = it.told;
      lines = it.lines;
      checks = record { database = subst (λ b. TellsGiven judged.db b it.told) both.0 it.database; faults = faults_told C judged.is_for_number judged.has_lines judged.files texts places it.lines pieces it.faults; both = it.both };
      empty = both.1;
    }

pub finds_some : (C : List ℕ → List ℕ → Type 0) (judged : Check) (texts : List (List ℕ)) (places : List LineAt) (faultless : Bool) (text : List ℕ) → ArePieces C judged.has_lines judged.files texts places → FindsIn judged.is_for_number judged.db (piece_names judged.has_lines judged.files places) texts faultless text → faultless ≡ false → FindsSome C judged text
finds_some C judged texts places faultless text pieces it is = record {
  sound = it.sound;
  told = it.told;
  lines = it.lines;
  checks = record { database = it.database; faults = faults_told C judged.is_for_number judged.has_lines judged.files texts places it.lines pieces it.faults; both = it.both };
  some = it.some is;
}

-- each piece has a name
pub one_name_each : (C : List ℕ → List ℕ → Type 0) (has_lines : Bool) (files texts : List (List ℕ)) (places : List LineAt) → ArePieces C has_lines files texts places → length texts ≡ length (piece_names has_lines files places)
one_name_each C false files texts places p = ap (λ (l : List (List ℕ)). length l) p.cut ∙ AreContents-length C files p.contents p.read
one_name_each C true files texts places p =
    ap (λ (l : List (List ℕ)). length l) p.cut ∙ length-map (file_lines p.contents) _
    ∙ sym (ap (λ (l : List LineAt). length (line_names files l)) p.stand ∙ length-map (places_of_lines (file_lines p.contents)) _ ∙ length-map (file_lines p.contents) _)

-- a text is empty where its length is found to be 0, and else isn't
pub empty_is : (text : List ℕ) → (length text == 0) ≡ true → text ≡ []
empty_is [] h = refl
empty_is (c ∷ text) h = absurd (let e : suc (length text) ≡ 0 = true-eqb (suc (length text)) 0 (sym h) in cc)

pub filled_is : (text : List ℕ) → (length text == 0) ≡ false → text ≢ []
filled_is text h is = absurd (false-eqb (length text) 0 (sym h) (ap length is))

pub finds_sound : (b : Bool) (db : Option (List ℕ)) (names contents : List (List ℕ)) (sound faultless : Bool) (told lines text : List ℕ) → TellsGiven db sound told → AreFaultsOf b names contents lines → text ≡ told ++ lines
    → sound ≡ true → (faultless ≡ true → lines ≡ []) → (faultless ≡ false → lines ≢ []) → FindsIn b db names contents faultless text
finds_sound b db names contents sound faultless told lines text database faults both is none some = record {
  sound = sound;
  told = told;
  lines = lines;
  database = database;
  faults = faults;
  both = both;
  none = λ yes. (is, none yes);
  some = λ never. inr (some never);
}

pub finds_unsound : (b : Bool) (db : Option (List ℕ)) (names contents : List (List ℕ)) (sound faultless : Bool) (told lines text : List ℕ) → TellsGiven db sound told → AreFaultsOf b names contents lines → text ≡ told ++ lines
    → sound ≡ false → faultless ≡ false → FindsIn b db names contents faultless text
finds_unsound b db names contents sound faultless told lines text database faults both is never = record {
  sound = sound;
  told = told;
  lines = lines;
  database = database;
  faults = faults;
  both = both;
  none = λ yes. absurd (let e : ◌≡◌ {A = Bool} true false = sym yes ∙ never in cc);
  some = λ _. inl is;
}
