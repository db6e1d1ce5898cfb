-- What the lines of an answer to `kinds` say.
use Rattle.std.proofs.Common.{◌≡◌, ◌≤◌, ◌<◌, ◌^◌, ℕ, List, [], map, length, Option, Some, sym, ap, ap₂, ◌∙◌, subst, arith}
use Rattle.std.specs.Option.{option_and_then}
use Rattle.std.proofs.lemmas.Cmp.{nat_list_cmp_total}
use Rattle.std.proofs.lemmas.List.{length-map}
use Rattle.std.proofs.lemmas.Map.Lookups.{exact_bytes}
use Rattle.serde_json.specs.Data.{Data, array, depth, item, number, string, unsigned}
use Rattle.serde_json.specs.Find.{as_number, as_u64, at}
use Rattle.serde_json.specs.Read.{max_depth, read}
use Rattle.serde_json.specs.Written.{compact_text}
use Rattle.attributes.specs.Bytes.{byte_cmp}
use Rattle.attributes.specs.Event.{EventValue, kind_of}
use Rattle.attributes.specs.Exact.{IsExact}
use Rattle.attributes.proofs.LineLemmas.{line as seen_line}
use Rattle.inbox.specs.Shown.{is_shown, shown}
use Rattle.views.specs.Line.{kind_data, kind_lines}
use Rattle.views.specs.Question.{IsAnswer}
use Rattle.views.specs.Tally.{kinds}
use Rattle.views.specs.declared.query.Query.TheVariants as query
use Rattle.parts.specs.Combined.{AreAnswers}
use Rattle.parts.specs.Counts.{AreKindLines, AreKinds, IsCounted, IsSummed, RefusesCounts}
use Rattle.parts.specs.Lines.{AreLinesOf, IsOneLine}
use Rattle.parts.specs.declared.fault.CombineFault.{CombineFault}
use Rattle.parts.specs.declared.fault.CombineFault.TheVariants.{OutOfMemory}
use Rattle.parts.proofs.CountLemmas.{tally_counts}
use Rattle.parts.proofs.LineLemmas.{lines_are, rows_one, seen_plain}
use Rattle.parts.proofs.ReadLemmas.{IsTextOf}
use Rattle.parts.proofs.SummedLemmas.{count_left, memory_of_counts, sums}
use Rattle.parts.proofs.TallyLemmas.{kinds_add}

abbrev pub ReadsBack : Type 0
ReadsBack = (d : Data) → IsExact d → depth d ≤ max_depth → read (compact_text d) ≡ Some d

abbrev pub Row : Type 0
Row = List ℕ × ℕ

abbrev pub row_data : Row → Data
row_data row = kind_data row.0 row.1

abbrev pub row_text : Row → List ℕ
row_text row = compact_text (row_data row)

abbrev pub is_line : Row → List ℕ → Type 0
is_line row l = IsCounted row × (l ≡ row_text row)

pub exact_row : (row : Row) → IsCounted row → IsExact (row_data row)
exact_row row own = (tt, (own.1, tt))

pub shallow_row : (row : Row) → depth (row_data row) ≤ max_depth
shallow_row row = omega arith

pub kind_text : (row : Row) (line : List ℕ) → IsCounted row → line ≡ row_text row → IsTextOf line (row_data row)
kind_text row line own is = record { exact = exact_row row own; shallow = shallow_row row; is = is }

-- the count in the value of a line
abbrev pub count_at : Data → Option ℕ
count_at d = option_and_then (λ n. option_and_then as_u64 (as_number n)) (at 1 d)

kind_in : Data → List ℕ
kind_in (array (item (string k) ds)) = k
kind_in d = []

count_in : Data → ℕ
count_in (array (item d (item (number (unsigned n)) ds))) = n
count_in d = 0

pub some_is : (x y : Data) → Some x ≡ Some y → x ≡ y
some_is x y h = cc

-- a text that reads back is that of one value
pub data_one : ReadsBack → (c d : Data) → IsExact c → depth c ≤ max_depth → IsExact d → depth d ≤ max_depth → compact_text c ≡ compact_text d → c ≡ d
data_one reads c d a m b n same = some_is c d (sym (reads c a m) ∙ ap read same ∙ reads d b n)

module _ (reads : ReadsBack) where
  row_one : (r s : Row) (l : List ℕ) → is_line r l → is_line s l → r ≡ s
  unfolding count_in kind_in
  row_one r s l a b =
      let same : row_data r ≡ row_data s =
      data_one reads (row_data r) (row_data s) (exact_row r a.0) (shallow_row r) (exact_row s b.0) (shallow_row s) (sym a.1 ∙ b.1) in
      ap₂ (λ k n. (k, n)) (ap kind_in same) (ap count_in same)

  plain_row : (row : Row) → IsCounted row → IsOneLine (row_text row)
  plain_row row own = seen_plain (row_text row) (seen_line (row_data row) (exact_row row own))

  pub kinds_lines : (t : List ℕ) (rows : List Row) → AreKinds t rows → AreLinesOf is_line rows t
  kinds_lines t rows h = subst (AreLinesOf is_line rows) (sym h.1) (lines_are IsCounted row_text plain_row rows h.0.1)

  pub kinds_one : (t : List ℕ) (rows others : List Row) → AreKinds t rows → AreKinds t others → rows ≡ others
  kinds_one t rows others a b = rows_one is_line row_one rows others t (kinds_lines t rows a) (kinds_lines t others b)

pub kinds_fit : (E : List EventValue) → length (map kind_of (shown E)) ≤ length E
kinds_fit E = let n = length-map (shown E) kind_of in let m = count_left (is_shown E) E in omega (arith, n, m)

pub kinds_answered : (E : List EventValue) → length E < 2 ^ 64 → (t : List ℕ) → IsAnswer query.Kinds E t → AreKinds t (kinds E)
kinds_answered E small t h =
    let most = kinds_fit E in (tally_counts nat_list_cmp_total exact_bytes (map kind_of (shown E)) (omega (arith, most, small)), h)

module _ (reads : ReadsBack) (p : List ℕ → ℕ) (E : List EventValue) (small : length E < 2 ^ 64) (texts : List (List ℕ)) (answers : AreAnswers query.Kinds p E texts) where
  pub kinds_together : (t : List ℕ) → IsSummed AreKinds byte_cmp AreKindLines texts t → IsAnswer query.Kinds E t
  kinds_together t (rows, joined, is) =
      is ∙ ap kind_lines
      (sums nat_list_cmp_total exact_bytes query.Kinds AreKinds (λ E. map kind_of (shown E)) (kinds_one reads) kinds_fit kinds_answered p E small texts answers (kinds_add p (length texts) E answers.below) rows joined)

  pub kinds_memory : (f : CombineFault) → RefusesCounts AreKinds byte_cmp texts f → f ≡ OutOfMemory
  kinds_memory =
      memory_of_counts nat_list_cmp_total exact_bytes query.Kinds AreKinds (λ E. map kind_of (shown E)) (kinds_one reads) kinds_fit kinds_answered p E small texts answers (kinds_add p (length texts) E answers.below)
