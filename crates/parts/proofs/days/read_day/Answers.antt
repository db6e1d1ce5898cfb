use Rattle.std.proofs.Common.{◌∙◌, Some, ap, ap₂, refl, subst, sym}
use Rattle.serde_json.specs.View.{view}
use Rattle.views.specs.Day.{IsDayText}
use Rattle.views.specs.Line.{day_data}
use Rattle.parts.proofs.DayLemmas.{count_at, day_text}
use Rattle.parts.proofs.ReadLemmas.{no_value, no_word, none_some, some_one, value_is, word_is}
use Rattle.parts.proofs.days.read_day.Goals as goal

pub returns-in_default : goal.returns-in_default
returns-in_default c row day own is_day line = absurd (no_value c.args.line.now c.in_ok-value.field-0 c.in_ok-value.ensures (day_data row.0.0 day row.1) (day_text row day c.args.line.now own line) c.in_default.is)

pub returns-in_default-word_at : goal.returns-in_default-word_at
returns-in_default-word_at c row day own is_day line =
    let d = day_data row.0.0 day row.1 in
    let is = value_is c.args.line.now c.in_ok-value.field-0 c.in_ok-value.ensures d (day_text row day c.args.line.now own line) c.in-Some.value c.in-Some.is in
    absurd (no_word (view c.in-Some.value) d 0 c.word_at.result row.0.0 c.word_at.ensures is refl c.in_default-word_at.is)

pub returns-in_default-word_at-2 : goal.returns-in_default-word_at-2
returns-in_default-word_at-2 c row day own is_day line =
    let d = day_data row.0.0 day row.1 in
    let is = value_is c.args.line.now c.in_ok-value.field-0 c.in_ok-value.ensures d (day_text row day c.args.line.now own line) c.in-Some.value c.in-Some.is in
    absurd (no_word (view c.in-Some.value) d 1 c.word_at-2.result day c.word_at-2.ensures is refl c.in_default-word_at-2.is)

pub returns-in_default-whole_at : goal.returns-in_default-whole_at
returns-in_default-whole_at c row day own is_day line =
    let is = value_is c.args.line.now c.in_ok-value.field-0 c.in_ok-value.ensures (day_data row.0.0 day row.1) (day_text row day c.args.line.now own line) c.in-Some.value c.in-Some.is in
    absurd (none_some row.1 (sym c.in_default-whole_at.is ∙ c.whole_at.ensures ∙ ap (λ d. count_at d) is))

pub returns-in_default-of_text : goal.returns-in_default-of_text
returns-in_default-of_text c row day own is_day line =
    let d = day_data row.0.0 day row.1 in
    let is = value_is c.args.line.now c.in_ok-value.field-0 c.in_ok-value.ensures d (day_text row day c.args.line.now own line) c.in-Some.value c.in-Some.is in
    let word = word_is (view c.in-Some.value) d 1 c.word_at-2.result c.in-Some-word_at-2.word day c.word_at-2.ensures is refl c.in-Some-word_at-2.is in
    absurd (none_some row.0.1 (sym c.in_default-of_text.is ∙ c.of_text.ensures row.0.1 (subst (IsDayText row.0.1) (sym word) is_day)))

pub returns : goal.returns
returns c row day own is_day line =
    let d = day_data row.0.0 day row.1 in
    let is = value_is c.args.line.now c.in_ok-value.field-0 c.in_ok-value.ensures d (day_text row day c.args.line.now own line) c.in-Some.value c.in-Some.is in
    let kind = word_is (view c.in-Some.value) d 0 c.word_at.result c.in-Some-word_at.kind row.0.0 c.word_at.ensures is refl c.in-Some-word_at.is in
    let word = word_is (view c.in-Some.value) d 1 c.word_at-2.result c.in-Some-word_at-2.word day c.word_at-2.ensures is refl c.in-Some-word_at-2.is in
    let count = some_one c.in-Some-whole_at.count row.1 (sym c.in-Some-whole_at.is ∙ c.whole_at.ensures ∙ ap (λ d. count_at d) is) in
    let number = some_one c.in-Some-of_text.day row.0.1 (sym c.in-Some-of_text.is ∙ c.of_text.ensures row.0.1 (subst (IsDayText row.0.1) (sym word) is_day)) in
    ap₂ (λ k n. Some (k, n)) (ap₂ (λ k m. (k, m)) (c.in_ok-of.ensures ∙ kind) number) count
