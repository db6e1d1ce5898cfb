-- Where an argument's value came from, by the rows.
use Rattle.std.proofs.Common.{◌≡◌, ℕ, List, [], ◌∷◌, Bool, true, false, map, refl, sym, ap, subst, ◌∙◌}
use Rattle.std.specs.Prelude.{Option, None, Some, find, option_and_then, option_map}
use Rattle.std.specs.Str.{bytes_eq}
use Rattle.clap.specs.Facts.{Entry}
use Rattle.clap.specs.Matches.{matched_of}
use Rattle.clap.specs.Walk.{Row, Text, row_of, rows_of}
use Rattle.clap.specs.declared.parser.matches.Found.{Found}
use Rattle.clap.specs.declared.parser.matches.MatchedArg.{MatchedArg}
use Rattle.clap.specs.declared.parser.matches.ValueSource.{ValueSource}
use Rattle.command_words.specs.Plans.{IsBase, IsBaseNumber, IsPartWritten, IsPartCount, IsPartNumber, is_given, is_of_words}

find_row : (id : Text) (es : List Entry) → find (λ (r : Row). bytes_eq r.id id) (map row_of es) ≡ option_map row_of (find (λ (e : Entry). bytes_eq e.0.now id) es)
find_row id [] = refl
find_row id (e ∷ es) = go (bytes_eq e.0.now id) refl (find_row id es)
  where
    go : (b : Bool) → bytes_eq e.0.now id ≡ b
        → find (λ (r : Row). bytes_eq r.id id) (map row_of es) ≡ option_map row_of (find (λ (x : Entry). bytes_eq x.0.now id) es)
        → find (λ (r : Row). bytes_eq r.id id) (map row_of (e ∷ es)) ≡ option_map row_of (find (λ (x : Entry). bytes_eq x.0.now id) (e ∷ es))
    go true is rest = rw is refl
    go false is rest = rw is rest

source : (o : Option Entry) → option_and_then (λ (a : MatchedArg). a.source) (option_map (λ (e : Entry). e.1) o) ≡ option_and_then (λ (r : Row). r.source) (option_map row_of o)
source None = refl
source (Some e) = refl

pub source-rows : (f : Found) (id : Text) → option_and_then (λ (a : MatchedArg). a.source) (matched_of f id) ≡ option_and_then (λ (r : Row). r.source) (find (λ (r : Row). bytes_eq r.id id) (rows_of f))
source-rows f id = source (find (λ (e : Entry). bytes_eq e.0.now id) f.entries.items) ∙ ap (option_and_then (λ (r : Row). r.source)) (sym (find_row id f.entries.items))

pub given : (f : Found) (id : Text) (o : Option ValueSource) → o ≡ option_and_then (λ (a : MatchedArg). a.source) (matched_of f id) → is_of_words o ≡ is_given (rows_of f) id
given f id o is = ap is_of_words (is ∙ source-rows f id)

-- a text that writes no number writes no base
pub no_base : (text : List ℕ) (base : Option ℕ) → ((n : ℕ) → IsBaseNumber text n → ⊥) → IsBase (Some text) base → ⊥
no_base text (Some n) none has = none n has
no_base text None none has = has

-- a text that is the number of no part of so many names no part, however many they are said to be
pub no_part : (word text : List ℕ) (count n : ℕ) (part : Option ℕ) → IsPartCount word count → ((i : ℕ) → IsPartNumber text count i → ⊥)
    → IsPartCount word n → IsPartWritten (Some text) n part → ⊥
no_part word text count n (Some i) at none are has =
    none i (subst (λ (k : ℕ). IsPartNumber text k i) (sym are.is_number.value ∙ at.is_number.value) has)
no_part word text count n None at none are has = has
