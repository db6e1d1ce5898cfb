use Rattle.std.proofs.Common.{◌≡◌, ◌∙◌, [], ◌∷◌, length, slice_index_or, refl, rules, subst, sym}
use Rattle.database_layout.specs.Tables.{key_places}
use Rattle.database_layout.specs.steps.Parts.{IsBareTable}
use Rattle.database_layout.proofs.TermLemmas.{keyed_is, one_key, one_order}
use Rattle.database_layout.proofs.form.is_keyed.Goals as goal

pub returns-then-are_none : goal.returns-then-are_none
returns-then-are_none c =
    let t = c.args.table.now in
    let name : t.name ≡ c.args.name.now = search rules in
    let one : length c.as_slice.result.now ≡ 1 = search rules in
    let one-2 : length c.as_slice-2.result.now ≡ 1 = search rules in
    let key : c.key-item.result ≡ key_places = sym c.as_slice-then-order-eq0.ensures ∙ c.if-is_key.ensures.0 refl in
    let zero : (slice_index_or c.as_slice-2.result.now 0 (record { digits = 0 })).digits ≡ 0 = search rules in
    let uniques : t.uniques ≡ key_places ∷ [] = sym c.as_slice.ensures ∙ one_key c.as_slice.result.now c.key-item.result one c.key-item.is key in
    let orders : t.orders ≡ record { digits = 0 } ∷ [] = sym c.as_slice-2.ensures ∙ one_order c.as_slice-2.result.now one-2 zero in
    let checks : t.checks ≡ [] = search rules in
    (λ bare. keyed_is t c.args.name.now name uniques orders checks (c.is_bare.ensures.0 bare), λ is. c.is_bare.ensures.1 (subst IsBareTable (sym is) (record { key = refl; primary = refl; references = refl; computed = refl; stamps = refl; uncounted = refl })))
