use Rattle.std.proofs.Common.{◌∙◌, ap, refl, subst, sym, true≢false}
use Rattle.std.specs.Option.{IfNone, IfSome}
use Rattle.views.specs.Line.{kind_lines}
use Rattle.parts.specs.Counts.{AreKinds, TellsNoRows}
use Rattle.parts.proofs.KindLemmas.{kinds_lines}
use Rattle.parts.proofs.PartReadLemmas.{equal_texts, unequal_texts}
use Rattle.parts.proofs.ReadLemmas.{none_some, some_one}
use Rattle.parts.proofs.kinds.read_kinds.Goals as goal

pub returns-in_default-clause-none : goal.returns-in_default-clause-none
returns-in_default-clause-none c rows are = none_some rows (sym c.in_default.is ∙ c.in_ok-rows.ensures rows (kinds_lines c.exact_json_reads_back.ensures c.args.text.now rows are))

pub returns-then-not-are_counts-clause-none : goal.returns-then-not-are_counts-clause-none
returns-then-not-are_counts-clause-none c rows are =
    let same = some_one c.in-Some.rows rows (sym c.in-Some.is ∙ c.in_ok-rows.ensures rows (kinds_lines c.exact_json_reads_back.ensures c.args.text.now rows are)) in
    let own = subst (AreKinds c.args.text.now) (sym same) are in
    true≢false (sym (c.are_counts.ensures.1 own.0) ∙ c.if-not-are_counts.true)

pub returns-then-ne-clause-none : goal.returns-then-ne-clause-none
returns-then-ne-clause-none c rows are =
    let same = some_one c.in-Some.rows rows (sym c.in-Some.is ∙ c.in_ok-rows.ensures rows (kinds_lines c.exact_json_reads_back.ensures c.args.text.now rows are)) in
    unequal_texts c.as_str.result.now c.args.text.now c.if-ne.ensures
    (c.as_str.ensures ∙ c.in_ok-printed.ensures.lines ∙ ap kind_lines same ∙ sym are.1)

pub returns-clause-some : goal.returns-clause-some
returns-clause-some c =
    let text = sym (sym c.in_ok-printed.ensures.lines ∙ sym c.as_str.ensures ∙ equal_texts c.as_str.result.now c.args.text.now c.if-ne.ensures) in
    subst (λ o. IfSome o (AreKinds c.args.text.now)) (sym (c.kinds_in.ensures c.in-Some.rows refl)) (c.are_counts.ensures.0 c.if-not-are_counts.false, text)

pub returns-clause-none : goal.returns-clause-none
returns-clause-none c =
    subst (λ o. IfNone o (TellsNoRows AreKinds c.args.text.now)) (sym (c.kinds_in.ensures c.in-Some.rows refl)) tt
