use Rattle.std.proofs.Common.{rules, sym, ap, subst, ◌∙◌, None, Some}
use Rattle.std.specs.Option.{option_copied_mut}
use Rattle.kept_views.specs.steps.Moves.{SetsSlot}
use Rattle.kept_views.specs.steps.Seen.{rank_in, slot_in, entity_in, entities_in}
use Rattle.kept_views.proofs.TableLemmas.{nothing_there, puts_at, rows_change, entity_goes}
use Rattle.kept_views.proofs.entities.take_row_out.Goals as goal

pub returns-in_default-clause-rows : goal.returns-in_default-clause-rows
returns-in_default-clause-rows c =
    let none = sym c.get_mut.ensures.value ∙ ap option_copied_mut c.in_default.is in
    subst (λ m. SetsSlot (Some (slot_in c.args.slot.now)) None (entities_in c.args.entities.now.entries) (entities_in m.entries)) (sym c.get_mut.follows.holds-at-none)
    (nothing_there (entity_in c.args.slot.now.entity) (rank_in c.args.slot.now.rank) c.args.entities.now.entries none)

pub returns-then-is_empty-clause-rows : goal.returns-then-is_empty-clause-rows
returns-then-is_empty-clause-rows c =
    let there = sym c.in-Some.ensures.value in
    let updates = (c.get_mut.follows.holds c.remove.new.self).3 (search rules) in
    entity_goes (entity_in c.args.slot.now.entity) (rank_in c.args.slot.now.rank) c.args.entities.now.entries (c.get_mut.follows.lender c.remove.new.self).entries c.swap_remove.new.self.entries c.in-Some.rows.now c.remove.new.self there
    updates.3 c.swap_remove.ensures.updates.3 c.swap_remove.ensures.updates.1 c.remove.ensures.updates.3 c.remove.ensures.updates.1 (c.is_empty.ensures.0 c.if-is_empty.true)

pub returns-else-is_empty-clause-rows : goal.returns-else-is_empty-clause-rows
returns-else-is_empty-clause-rows c =
    let there = sym c.in-Some.ensures.value in
    let updates = (c.get_mut.follows.holds c.remove.new.self).3 (search rules) in
    puts_at (entity_in c.args.slot.now.entity) (rank_in c.args.slot.now.rank) None c.args.entities.now.entries (c.get_mut.follows.lender c.remove.new.self).entries (Some c.remove.new.self) updates.3 updates.1
    (rows_change (entity_in c.args.slot.now.entity) (rank_in c.args.slot.now.rank) None c.args.entities.now.entries c.in-Some.rows.now c.remove.new.self there c.remove.ensures.updates.3 c.remove.ensures.updates.1)
