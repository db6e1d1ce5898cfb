use Rattle.std.proofs.Common.{◌≡◌, ◌/◌, pos, w64, FitsSigned, rules, refl, sym, ap, subst, ◌∙◌, Some, IsSome, unwrap_or, [], ◌∷◌, Ok}
use Rattle.std.proofs.lemmas.Int.{to_z-of_z}
use Rattle.sqlite_value.specs.declared.value.Value.TheVariants.{Int, Text as Words}
use Rattle.sqlite.specs.State.{ExecutesInside}
use Rattle.sqlite.specs.Held.{state}
use Rattle.attributes.specs.Event.{id_of, source_of, text}
use Rattle.attributes.specs.Fault.{IsEvent}
use Rattle.attributes.specs.Sequence.{number_of}
use Rattle.inbox_table.specs.Rows.{IsNumbered, number_in}
use Rattle.inbox_table.specs.Texts.{insert_new_text}
use Rattle.inbox_table.proofs.InsertLemmas.{puts_new_inside, refused_inside}
use Rattle.inbox_table.proofs.statement.put_new.Goals as goal

pub returns-in-Ok-clause-put : goal.returns-in-Ok-clause-put
returns-in-Ok-clause-put g c clean inside =
    let e = c.args.event.now in
    let old = state g.S.Store c.args.tx.now.conn.now in
    let last = state g.S.Store c.insert_new.new.tx.conn.now in
    let sequence : number_of e ≡ Some c.number.result = c.number.ensures in
    let number : c.number-number.result ≡ number_in e = c.number-number.ensures.value ∙ sym (ap (λ o. unwrap_or o 0) sequence) in
    let numbered : IsNumbered e = record { event = subst IsEvent c.event-event.ensures c.text.ensures.event; number = subst IsSome (sym sequence) refl } in
    let fits_place : FitsSigned w64 c.signed.result = search rules in
    let fits : FitsSigned w64 c.signed-2.result = search rules in
    let fits_block : FitsSigned w64 c.signed-3.result = search rules in
    let ran = rw (c.in-Ok.is, to_z-of_z w64 c.signed.result fits_place, to_z-of_z w64 c.signed-2.result fits, to_z-of_z w64 c.signed-3.result fits_block, c.signed.ensures, c.signed-2.ensures, c.signed-3.ensures, c.block_of.ensures, c.source.ensures.value, c.id.ensures.value, c.text.ensures.text, c.event-event.ensures) at (c.insert_new.ensures.runs clean inside) in
    let told = subst (λ n. ExecutesInside 0 insert_new_text (Int (pos c.args.place) ∷ Words (source_of e) ∷ Words (id_of e) ∷ Int (pos n) ∷ Words (text e) ∷ Int (pos (n / 1024)) ∷ []) old last (Ok c.in-Ok.field-0)) number ran in
    puts_new_inside old last c.args.place e c.in-Ok.field-0 numbered told

pub returns-in-Err-SqliteFailure-ConstraintViolation-clause-put :
    goal.returns-in-Err-SqliteFailure-ConstraintViolation-clause-put
returns-in-Err-SqliteFailure-ConstraintViolation-clause-put g c clean inside =
    let why = c.in-Err-SqliteFailure-ConstraintViolation in
    refused_inside _ _ _ _ _ (rw (why.is, why.field-0-is, why.field-0-0-is) at (c.insert_new.ensures.runs clean inside))
