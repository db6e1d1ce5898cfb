use Rattle.std.proofs.Common.{List, ap, ◌∙◌, subst}
use Rattle.std.specs.Prelude.{IfErr, Some}
use Rattle.attributes.specs.Event.{EventValue}
use Rattle.site.specs.Arrival.{LacksArrivalAt}
use Rattle.site.specs.Desk.{taken_of, took}
use Rattle.site.specs.Machine.{call}
use Rattle.site.specs.declared.call.Command.TheVariants as command
use Rattle.site_lock.proofs.SeatLemmas.{made_from, shows_site}
use Rattle.site_lock.proofs.shared.SharedSite.take.Goals as goal

pub returns-clause-made : goal.returns-clause-made
returns-clause-made g c =
    made_from _ _ _ c.pass.inside.seat.me c.enter-site.new.pass.me c.end.new.seat.me _ _ c.pass.view_is (c.end.ensures.own.0 ∙ c.enter-site.ensures.own.0)
    c.pass.invariant c.enter-site.ensures.hears (ap (λ l. Some (call (command.Take l) (took c.take_batch-reply.result))) c.of-before.ensures) c.end.ensures.ended c.end.ensures.rest c.end.ensures.numbered

pub returns-clause-short_of_new : goal.returns-clause-short_of_new
returns-clause-short_of_new g c =
    subst (λ (A : List EventValue). IfErr c.take_batch-reply.result (λ fault. LacksArrivalAt A c.args.batch.now (taken_of fault)))
    (c.take_batch-reply.ensures.arrivals ∙ shows_site c.end.new.seat.table_id c.enter-site.new.pass.me c.end.new.seat.me c.enter-site.result.site _ _ c.enter-site.ensures.turn
    (ap (λ l. Some (call (command.Take l) (took c.take_batch-reply.result))) c.of-before.ensures) c.end.ensures.ended) c.take_batch-reply.ensures.short_of_new
