use Rattle.std.proofs.Common.{◌∙◌, subst, sym, true≢false}
use Rattle.views.specs.Line.{AreDayLines}
use Rattle.views.proofs.LineLemmas.{day_lines_one}
use Rattle.parts.specs.Counts.{AreDays}
use Rattle.parts.proofs.DayLemmas.{days_lines}
use Rattle.parts.proofs.PartReadLemmas.{equal_texts, unequal_texts}
use Rattle.parts.proofs.ReadLemmas.{none_some, some_one}
use Rattle.parts.proofs.days.read_days.Goals as goal

pub returns-in_default-clause-none : goal.returns-in_default-clause-none
returns-in_default-clause-none c rows are = none_some rows (sym c.in_default.is ∙ c.in_ok-rows.ensures rows (days_lines c.exact_json_reads_back.ensures c.args.text.now rows are))

pub returns-then-not-are_counts-clause-none : goal.returns-then-not-are_counts-clause-none
returns-then-not-are_counts-clause-none c rows are =
    let same = some_one c.in-Some.rows rows (sym c.in-Some.is ∙ c.in_ok-rows.ensures rows (days_lines c.exact_json_reads_back.ensures c.args.text.now rows are)) in
    let own = subst (AreDays c.args.text.now) (sym same) are in
    true≢false (sym (c.are_counts.ensures.1 own.0) ∙ c.if-not-are_counts.true)

pub returns-then-ne-clause-none : goal.returns-then-ne-clause-none
returns-then-ne-clause-none c rows are =
    let same = some_one c.in-Some.rows rows (sym c.in-Some.is ∙ c.in_ok-rows.ensures rows (days_lines c.exact_json_reads_back.ensures c.args.text.now rows are)) in
    let own = subst (AreDays c.args.text.now) (sym same) are in
    unequal_texts c.as_str.result.now c.args.text.now c.if-ne.ensures
    (c.as_str.ensures ∙ day_lines_one c.in-Some.rows c.in_ok-printed.printed c.args.text.now c.in_ok-printed.ensures own.1)

pub returns-clause-some : goal.returns-clause-some
returns-clause-some c =
    let text = sym c.as_str.ensures ∙ equal_texts c.as_str.result.now c.args.text.now c.if-ne.ensures in
    (c.are_counts.ensures.0 c.if-not-are_counts.false, subst (AreDayLines c.in-Some.rows) text c.in_ok-printed.ensures)
