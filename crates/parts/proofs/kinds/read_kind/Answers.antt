use Rattle.std.proofs.Common.{◌∙◌, Some, ap, ap₂, refl, sym}
use Rattle.serde_json.specs.View.{view}
use Rattle.parts.proofs.KindLemmas.{kind_text, row_data}
use Rattle.parts.proofs.ReadLemmas.{no_value, no_word, none_some, some_one, value_is, word_is}
use Rattle.parts.proofs.kinds.read_kind.Goals as goal

pub returns-in_default : goal.returns-in_default
returns-in_default c row own line = absurd (no_value c.args.line.now c.in_ok-value.field-0 c.in_ok-value.ensures (row_data row) (kind_text row c.args.line.now own line) c.in_default.is)

pub returns-in_default-word_at : goal.returns-in_default-word_at
returns-in_default-word_at c row own line =
    let is = value_is c.args.line.now c.in_ok-value.field-0 c.in_ok-value.ensures (row_data row) (kind_text row c.args.line.now own line) c.in-Some.value c.in-Some.is in
    absurd (no_word (view c.in-Some.value) (row_data row) 0 c.word_at.result row.0 c.word_at.ensures is refl c.in_default-word_at.is)

pub returns-in_default-whole_at : goal.returns-in_default-whole_at
returns-in_default-whole_at c row own line =
    let is = value_is c.args.line.now c.in_ok-value.field-0 c.in_ok-value.ensures (row_data row) (kind_text row c.args.line.now own line) c.in-Some.value c.in-Some.is in
    absurd (none_some row.1 (sym c.in_default-whole_at.is ∙ c.whole_at.ensures ∙ ap (λ d. Rattle.parts.proofs.KindLemmas.count_at d) is))

pub returns : goal.returns
returns c row own line =
    let is = value_is c.args.line.now c.in_ok-value.field-0 c.in_ok-value.ensures (row_data row) (kind_text row c.args.line.now own line) c.in-Some.value c.in-Some.is in
    let word = word_is (view c.in-Some.value) (row_data row) 0 c.word_at.result c.in-Some-word_at.kind row.0 c.word_at.ensures is refl c.in-Some-word_at.is in
    let count = some_one c.in-Some-whole_at.count row.1 (sym c.in-Some-whole_at.is ∙ c.whole_at.ensures ∙ ap (λ d. Rattle.parts.proofs.KindLemmas.count_at d) is) in
    ap₂ (λ k n. Some (k, n)) (c.in_ok-of.ensures ∙ word) count
