use Rattle.std.proofs.Common.{◌≡◌, ◌∙◌, ◌≤◌, ◌+◌, [], arith, false, length, true, ap, rules, subst, sym}
use Rattle.attributes.specs.Character.{is_filled}
use Rattle.sqlite.specs.Held.{state}
use Rattle.sqlite.specs.State.{HasCleanDisk}
use Rattle.outbox.specs.Service.{IsService}
use Rattle.outbox.specs.Shown.{max_source}
use Rattle.outbox.proofs.CountLemmas.{keeps_none}
use Rattle.sqlite.specs.Effect.{Database}
use Rattle.database_layout.specs.Layout.{has_name}
use Rattle.outbox.proofs.FoundLemmas.{has_all, not_both}
use Rattle.outbox.proofs.service.Service.create.Goals as goal

pub returns-in-Ok-found_in_room-clause-first : goal.returns-in-Ok-found_in_room-clause-first
returns-in-Ok-found_in_room-clause-first g c source base commands box =
    let none : has_name c.args.conn.schema ≡ false = search rules in
    not_both (has_name c.args.conn.schema) (ap has_name box.schema ∙ has_all box.layout) none

pub returns-in-Ok-found_in_room-clause-settled : goal.returns-in-Ok-found_in_room-clause-settled
returns-in-Ok-found_in_room-clause-settled g c clean still db leaves = g.met.S.Store.settled c.found_in_room.new.conn.store db still leaves ∙ ap (λ (d : Database). d.trees) (c.in-Ok-found_in_room.ensures.committed clean)

pub invariant_of-result : goal.invariant_of-result
invariant_of-result g c =
    let it = state g.S.Store c.found_in_room.new.conn in
    let same : c.in-Ok.copy ≡ c.args.source.now = search rules in
    let made : HasCleanDisk it → IsService it.now c.in-Ok.copy c.args.base [] = λ clean. subst (λ s. IsService it.now s c.args.base []) (sym same) (c.in-Ok-found_in_room.ensures.made clean).service in (
      record {
        filled = subst (λ s. is_filled s ≡ true) (sym same) c.requires.source.0;
        short = subst (λ s. length s ≤ max_source) (sym same) c.requires.source.1;
        low = omega arith;
        high = c.requires.base;
        stands = λ clean still. record { commands = []; table = made clean; count = (let e : c.args.base ≡ c.args.base + 0 = omega arith in e) };
      },
      keeps_none it c.in-Ok.copy c.args.base made,
    )
