-- What the lines of an answer to `days` say.
use Rattle.std.proofs.Common.{◌≡◌, ◌≤◌, ◌<◌, ◌^◌, ◌++◌, ℕ, ℤ, List, [], ◌∷◌, filter_map, length, Option, Some, None, Result, Ok, Err, refl, sym, ap, ap₂, ◌∙◌, subst, arith, append_assoc}
use Rattle.std.specs.List.{AllByRecursion, cons_option}
use Rattle.std.specs.Option.{option_and_then}
use Rattle.jiff_core.specs.Calendar.{days_from_civil}
use Rattle.jiff_core.specs.Date.{epoch_day}
use Rattle.jiff_core.specs.declared.civil.date.Date.{Date}
use Rattle.jiff_core.specs.declared.error.Error.{Error}
use Rattle.jiff_fmt.specs.Temporal.{DateParts, date_parts, date_view, parse_date}
use Rattle.jiff_fmt.proofs.RoundTrip.{parse_date-date_text}
use Rattle.serde_json.specs.Data.{Data, array, depth, item, number, string, unsigned}
use Rattle.serde_json.specs.Find.{as_number, as_u64, at}
use Rattle.serde_json.specs.Read.{max_depth}
use Rattle.serde_json.specs.Written.{compact_text}
use Rattle.attributes.specs.Event.{EventValue}
use Rattle.attributes.specs.Exact.{IsExact}
use Rattle.attributes.proofs.LineLemmas.{line as seen_line}
use Rattle.inbox.specs.Shown.{is_shown, shown}
use Rattle.views.specs.Day.{IsDayText}
use Rattle.views.specs.Line.{AreDayLines, day_data}
use Rattle.views.specs.Question.{IsAnswer}
use Rattle.views.specs.Tally.{day_cmp, days, kind_and_day}
use Rattle.views.specs.declared.query.Query.TheVariants as query
use Rattle.views.proofs.OrderLemmas.{day_cmp_total}
use Rattle.parts.specs.Combined.{AreAnswers}
use Rattle.parts.specs.Counts.{AreDays, IsCounted, IsSummed, RefusesCounts}
use Rattle.parts.specs.Lines.{AreLinesOf, IsOneLine}
use Rattle.parts.specs.declared.fault.CombineFault.{CombineFault}
use Rattle.parts.specs.declared.fault.CombineFault.TheVariants.{OutOfMemory}
use Rattle.parts.proofs.CountLemmas.{tally_counts}
use Rattle.parts.proofs.KindLemmas.{ReadsBack, data_one}
use Rattle.parts.proofs.LineLemmas.{rows_one, seen_plain}
use Rattle.parts.proofs.ReadLemmas.{IsTextOf}
use Rattle.parts.proofs.SummedLemmas.{count_left, memory_of_counts, sums}
use Rattle.parts.proofs.TallyLemmas.{days_add, exact_days}

-- ---- a day's text

pub ok_one : {X Y : Type 0} (x y : X) → ◌≡◌ {A = Result X Y} (Ok x) (Ok y) → x ≡ y
ok_one x y h = cc

abbrev day_at : DateParts → ℤ
day_at p = days_from_civil p.year p.month p.day

day_one : (x y : ℤ) (t u : List ℕ) → IsDayText x t → IsDayText y u → t ≡ u → x ≡ y
day_one x y t u a b same =
    let parts = ok_one (date_parts a.0) (date_parts b.0) (sym (parse_date-date_text a.0) ∙ ap parse_date (sym a.2 ∙ same ∙ b.2) ∙ parse_date-date_text b.0) in
    sym a.1 ∙ ap day_at parts ∙ b.1

pub no_date : (d : Date) (e : Error) → ◌≡◌ {A = Result Date Error} (Ok d) (Err e) → ⊥
no_date d e h = cc

-- what is read of a day's text
pub date_read : (r : Result Date Error) (text : List ℕ) (day : ℤ) → date_view r ≡ parse_date text → IsDayText day text → (d : Date) × (r ≡ Ok d) × (epoch_day d ≡ day)
date_read (Ok d) text day view is =
    (d, refl, ap day_at (ok_one (date_parts d) (date_parts is.0) (view ∙ ap parse_date is.2 ∙ parse_date-date_text is.0)) ∙ is.1)
date_read (Err e) text day view is = absurd (let both = view ∙ ap parse_date is.2 ∙ parse_date-date_text is.0 in cc)

-- ---- lines

abbrev pub Row : Type 0
Row = (List ℕ × ℤ) × ℕ

abbrev pub is_line : Row → List ℕ → Type 0
is_line row l = IsCounted row × ((day : List ℕ) × IsDayText row.0.1 day × (l ≡ compact_text (day_data row.0.0 day row.1)))

exact_row : (row : Row) (day : List ℕ) → IsCounted row → IsExact (day_data row.0.0 day row.1)
exact_row row day own = (tt, (tt, (own.1, tt)))

shallow_row : (row : Row) (day : List ℕ) → depth (day_data row.0.0 day row.1) ≤ max_depth
shallow_row row day = omega arith

pub day_text : (row : Row) (day line : List ℕ) → IsCounted row → line ≡ compact_text (day_data row.0.0 day row.1) → IsTextOf line (day_data row.0.0 day row.1)
day_text row day line own is = record { exact = exact_row row day own; shallow = shallow_row row day; is = is }

-- the count in the value of a line
abbrev pub count_at : Data → Option ℕ
count_at d = option_and_then (λ n. option_and_then as_u64 (as_number n)) (at 2 d)

kind_in : Data → List ℕ
kind_in (array (item (string k) ds)) = k
kind_in d = []

day_in : Data → List ℕ
day_in (array (item d (item (string k) ds))) = k
day_in d = []

count_in : Data → ℕ
count_in (array (item c (item d (item (number (unsigned n)) ds)))) = n
count_in d = 0

module _ (reads : ReadsBack) where
  row_one : (r s : Row) (l : List ℕ) → is_line r l → is_line s l → r ≡ s
  unfolding count_in day_in kind_in
  row_one r s l a b =
      let d = a.1.0 in
      let e = b.1.0 in
      let same : day_data r.0.0 d r.1 ≡ day_data s.0.0 e s.1 =
      data_one reads (day_data r.0.0 d r.1) (day_data s.0.0 e s.1) (exact_row r d a.0) (shallow_row r d) (exact_row s e b.0) (shallow_row s e) (sym a.1.2 ∙ b.1.2) in
      let day : r.0.1 ≡ s.0.1 = day_one r.0.1 s.0.1 d e a.1.1 b.1.1 (ap day_in same) in
      ap₂ (λ k n. (k, n)) (ap₂ (λ k m. (k, m)) (ap kind_in same) day) (ap count_in same)

  plain_row : (row : Row) (day : List ℕ) → IsCounted row → IsOneLine (compact_text (day_data row.0.0 day row.1))
  plain_row row day own = seen_plain (compact_text (day_data row.0.0 day row.1)) (seen_line (day_data row.0.0 day row.1) (exact_row row day own))

  lines_of : (rows : List Row) (t : List ℕ) → AllByRecursion IsCounted rows → AreDayLines rows t → AreLinesOf is_line rows t
  lines_of [] t counted are = are
  lines_of (row ∷ rows) t counted (first, rest, (day, is_day, written), more, is) =
      let own = compact_text (day_data row.0.0 day row.1) in (
        own,
        rest,
        (counted.0, (day, is_day, refl)),
        plain_row row day counted.0,
        is ∙ ap (λ l. l ++ rest) written ∙ append_assoc own (10 ∷ []) rest,
        lines_of rows rest counted.1 more,
      )

  pub days_lines : (t : List ℕ) (rows : List Row) → AreDays t rows → AreLinesOf is_line rows t
  days_lines t rows h = lines_of rows t h.0.1 h.1

  pub days_one : (t : List ℕ) (rows others : List Row) → AreDays t rows → AreDays t others → rows ≡ others
  days_one t rows others a b = rows_one is_line row_one rows others t (days_lines t rows a) (days_lines t others b)

mapped_left : {X Y : Type 0} (f : X → Option Y) (xs : List X) → length (filter_map f xs) ≤ length xs
mapped_left f [] = omega arith
mapped_left {X} {Y} f (x ∷ xs) = by (f x) (mapped_left f xs)
  where
    by : (m : Option Y) → length (filter_map f xs) ≤ length xs → length (cons_option m (filter_map f xs)) ≤ length (x ∷ xs)
    by None h = omega (arith, h)
    by (Some y) h = omega (arith, h)

days_fit : (E : List EventValue) → length (filter_map kind_and_day (shown E)) ≤ length E
days_fit E = let n = mapped_left kind_and_day (shown E) in let m = count_left (is_shown E) E in omega (arith, n, m)

days_answered : (E : List EventValue) → length E < 2 ^ 64 → (t : List ℕ) → IsAnswer query.Days E t → AreDays t (days E)
days_answered E small t h =
    let most = days_fit E in (tally_counts day_cmp_total exact_days (filter_map kind_and_day (shown E)) (omega (arith, most, small)), h)

module _ (reads : ReadsBack) (p : List ℕ → ℕ) (E : List EventValue) (small : length E < 2 ^ 64) (texts : List (List ℕ)) (answers : AreAnswers query.Days p E texts) where
  pub days_together : (t : List ℕ) → IsSummed AreDays day_cmp AreDayLines texts t → IsAnswer query.Days E t
  days_together t (rows, joined, is) =
      subst (λ l. AreDayLines l t)
      (sums day_cmp_total exact_days query.Days AreDays (λ E. filter_map kind_and_day (shown E)) (days_one reads) days_fit days_answered p E small texts answers (days_add p (length texts) E answers.below) rows joined) is

  pub days_memory : (f : CombineFault) → RefusesCounts AreDays day_cmp texts f → f ≡ OutOfMemory
  days_memory =
      memory_of_counts day_cmp_total exact_days query.Days AreDays (λ E. filter_map kind_and_day (shown E)) (days_one reads) days_fit days_answered p E small texts answers (days_add p (length texts) E answers.below)
