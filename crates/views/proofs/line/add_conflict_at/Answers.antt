use Rattle.std.proofs.Common.{◌≡◌, ◌∙◌, ◌++◌, List, ℕ, Option, Some, None, true, drop, map, take, string_bytes, ap, ap₂, sym}
use Rattle.attributes.specs.Event.{EventValue, id_of, source_of}
use Rattle.inbox.specs.Conflicts.{conflict_of, of_key}
use Rattle.inbox.specs.Shown.{is_shown}
use Rattle.inbox.specs.Kept.{events}
use Rattle.inbox.specs.declared.conflict.Conflict.{Conflict}
use Rattle.views.specs.Line.{conflict_line}
use Rattle.views.proofs.ConflictLemmas.{line_of_conflict}
use Rattle.views.proofs.line.add_conflict_at.Goals as goal

abbrev conflict_with : List ℕ → List ℕ → List EventValue → Conflict
conflict_with source id events = record { source = source; id = id; events = events }

abbrev first_or : EventValue → Option EventValue → EventValue
first_or e None = e
first_or e (Some f) = f

pub returns-in_ok-add_conflict-clause-line : goal.returns-in_ok-add_conflict-clause-line
returns-in_ok-add_conflict-clause-line c = λ e there.
    let E = events c.args.inbox.now in
    let own = string_bytes c.args.out.now in
    let i = c.args.i in
    let n = c.key_len-n.result in
    let same : c.at.result.now ≡ e = ap (first_or c.at.result.now) (sym c.at.ensures ∙ there) in
    let run : of_key E e ≡ take n (drop i E) = c.key_len-n.ensures.run e there in
    let source : c.source.result.now ≡ source_of e = c.source.ensures.value ∙ ap source_of (c.event-event.ensures ∙ same) in
    let id : c.id.result.now ≡ id_of e = c.id.ensures.value ∙ ap id_of (c.event-event.ensures ∙ same) in
    let list : map (λ e. e.now) c.deref.result.now ≡ of_key E e = ap (map (λ e. e.now)) c.deref.ensures.value ∙ c.in_ok-events.ensures ∙ sym run in
    let row : conflict_with c.source.result.now c.id.result.now (map (λ e. e.now) c.deref.result.now) ≡ conflict_of E e =
    ap₂ (λ s d. conflict_with s d (map (λ e. e.now) c.deref.result.now)) source id ∙ ap (conflict_with (source_of e) (id_of e)) list in
    let shown : is_shown E e ≡ true = sym (c.is_shown.ensures e there) ∙ c.if-not-is_shown.false in
    c.in_ok-add_conflict.ensures
    ∙ ap (λ r. own ++ conflict_line r) row
    ∙ ap (λ l. own ++ l) (sym (line_of_conflict E e i n shown run c.key_len-n.ensures.fits c.if-n-gt1.true))
