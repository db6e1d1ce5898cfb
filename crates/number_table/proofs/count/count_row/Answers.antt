use Rattle.std.proofs.Common.{◌≡◌, ◌⊎◌, ◌∙◌, ℕ, List, ap, subst, sym}
use Rattle.std.specs.List.{AllByRecursion}
use Rattle.sqlite.specs.Held.{state}
use Rattle.attributes.specs.Event.{EventValue, source_of, text}
use Rattle.numbers.specs.Counts.{IsCounted, next}
use Rattle.numbers.specs.Filter.{MayHave}
use Rattle.numbers.specs.Numbered.{HasNoOther, HasNumber}
use Rattle.numbers.proofs.UncountedLemmas.{number_is}
use Rattle.number_table.specs.Counting.{HasRows}
use Rattle.number_table.proofs.PageLemmas.{counts_row, of_none, of_some, refuses_next, refuses_other}
use Rattle.number_table.proofs.count.count_row.Goals as goal

pub returns-in_default-clause-refused : goal.returns-in_default-clause-refused
returns-in_default-clause-refused g c clean is =
    refuses_next c.args.row.now (state g.S.Store c.args.table.now.conn) c.args.counted.now (of_none _ _ c.in_default.is c.in_ok-found.ensures.none)

pub returns-then-not-branch-clause-refused : goal.returns-then-not-branch-clause-refused
returns-then-not-branch-clause-refused g c clean is =
    let x = c.args.row.now in
    let e = c.in-Some.event in
    let k = c.number-number.result in
    let own = of_some _ e _ c.in-Some.is c.in_ok-found.ensures.next in
    let its : next c.args.counted.now (source_of e) ≡ k = number_is e x (next c.args.counted.now (source_of e)) k own.1 c.number-number.ensures in
    refuses_other x e k (state g.S.Store c.args.table.now.conn) c.args.counted.now own.0 (subst (λ (m : ℕ). HasNumber m e x) its own.1) (c.in_ok-has_no_other_row.ensures.other clean c.if-not-branch.true)

pub add-requires : goal.add-requires
add-requires g c =
    let e = c.in-Some.event in
    let own = of_some _ e _ c.in-Some.is c.in_ok-found.ensures.next in
    sym (number_is e c.args.row.now (next c.args.counted.now (source_of e)) c.number-number.result own.1 c.number-number.ensures)
    ∙ ap (next c.args.counted.now) (sym c.source.ensures.value)

pub returns-clause-counts : goal.returns-clause-counts
returns-clause-counts g c clean is =
    let x = c.args.row.now in
    let e = c.in-Some.event in
    let k = c.number-number.result in
    let counts = c.args.counted.now in
    let s = state g.S.Store c.args.table.now.conn in
    let own = of_some _ e _ c.in-Some.is c.in_ok-found.ensures.next in
    let its : next counts (source_of e) ≡ k = number_is e x (next counts (source_of e)) k own.1 c.number-number.ensures in
    let new = subst (λ (m : ℕ). (MayHave counts.seen (text e) → ⊥) ⊎ ((rows : List EventValue) → HasRows s rows → AllByRecursion (HasNoOther m e) rows)) (sym its) (c.in_ok-has_no_other_row.ensures.none clean c.if-not-branch.false) in
    let more : IsCounted counts c.add.new.self (text e) (source_of e) = subst (λ s. IsCounted counts c.add.new.self (text e) s) c.source.ensures.value (subst (λ t. IsCounted counts c.add.new.self t c.source.result.now) c.text.ensures.text c.in_ok-add.ensures) in
    counts_row x e s counts c.add.new.self c.in_ok-found.ensures.event own.0 own.1 new more
