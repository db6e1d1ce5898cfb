use Rattle.std.proofs.Common.{rules, sym, ap, subst, ◌∙◌, Some}
use Rattle.std.specs.Map.{lookup}
use Rattle.std.specs.Option.{option_copied_mut}
use Rattle.std.proofs.lemmas.Result.{err_from_is_err_and}
use Rattle.kept_views.specs.steps.Moves.{SetsSlot}
use Rattle.kept_views.specs.steps.Seen.{rank_in, slot_in, entity_in, entities_in}
use Rattle.kept_views.proofs.TableLemmas.{at_entity, put_back, puts_at, rows_begin, rows_change}
use Rattle.kept_views.proofs.entities.put_row.Goals as goal

pub returns-in_err-insert-clause-err : goal.returns-in_err-insert-clause-err
returns-in_err-insert-clause-err c =
    let exit = err_from_is_err_and c.from_residual.result c.from_residual.ensures.1 in
    rw exit.1 (put_back (entity_in c.args.slot.entity) c.args.entities.now.entries (c.get_mut.follows.lender c.insert.new.self).entries c.in-Some.rows.now c.insert.new.self
    (sym c.in-Some.ensures.value) (c.get_mut.follows.holds c.insert.new.self).0 c.in_err-insert.ensures.err)

pub returns-in-Some-clause-ok : goal.returns-in-Some-clause-ok
returns-in-Some-clause-ok c =
    let there = sym c.in-Some.ensures.value in
    let updates = (c.get_mut.follows.holds c.insert.new.self).3 (search rules) in
    puts_at (entity_in c.args.slot.entity) (rank_in c.args.slot.rank) (Some c.args.place) c.args.entities.now.entries (c.get_mut.follows.lender c.insert.new.self).entries (Some c.insert.new.self) updates.3 updates.1
    (rows_change (entity_in c.args.slot.entity) (rank_in c.args.slot.rank) (Some c.args.place) c.args.entities.now.entries c.in-Some.rows.now c.insert.new.self there c.in_ok-insert.ensures.updates.3 c.in_ok-insert.ensures.updates.1)

pub returns-clause-ok : goal.returns-clause-ok
returns-clause-ok c =
    let none = sym c.get_mut.ensures.value ∙ ap option_copied_mut c.in_default.is in
    let rows = c.insert-2.new.self in
    let was = c.get_mut.follows.lender-at-none in
    let none-was = ap (λ m. lookup (at_entity (entity_in c.args.slot.entity)) m.entries) c.get_mut.follows.holds-at-none ∙ none in
    subst (λ m. SetsSlot (Some (slot_in c.args.slot)) (Some c.args.place) (entities_in m.entries) (entities_in c.insert-3.new.self.entries)) c.get_mut.follows.holds-at-none
    (puts_at (entity_in c.args.slot.entity) (rank_in c.args.slot.rank) (Some c.args.place) was.entries c.insert-3.new.self.entries (Some rows) c.in_ok-insert-3.ensures.updates.3 c.in_ok-insert-3.ensures.updates.1
    (rows_begin (entity_in c.args.slot.entity) (rank_in c.args.slot.rank) (Some c.args.place) was.entries c.new-rows.result rows none-was c.new-rows.ensures.empty c.in_ok-insert-2.ensures.updates.3 c.in_ok-insert-2.ensures.updates.1))
