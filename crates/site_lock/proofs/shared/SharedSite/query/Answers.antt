use Rattle.std.proofs.Common.{◌≢◌, List, [], refl, ◌∙◌, subst}
use Rattle.std.specs.Prelude.{OnErr}
use Rattle.attributes.specs.Event.{EventValue}
use Rattle.inbox.specs.Sets.{set_of}
use Rattle.views.specs.Question.{MayWantMemory}
use Rattle.site_lock.proofs.SeatLemmas.{made_from, shows_site}
use Rattle.site_lock.proofs.shared.SharedSite.query.Goals as goal

pub returns-clause-made : goal.returns-clause-made
returns-clause-made g c =
    made_from _ _ _ c.pass.inside.seat.me c.enter-site.new.pass.me c.end.new.seat.me _ _ c.pass.view_is (c.end.ensures.own.0 ∙ c.enter-site.ensures.own.0)
    c.pass.invariant c.enter-site.ensures.hears refl c.end.ensures.ended c.end.ensures.rest c.end.ensures.numbered

pub returns-clause-err : goal.returns-clause-err
returns-clause-err g c =
    subst (λ (A : List EventValue). OnErr c.answer-reply.result (set_of A ≢ []))
    (shows_site c.end.new.seat.table_id c.enter-site.new.pass.me c.end.new.seat.me c.enter-site.result.site _ _ c.enter-site.ensures.turn refl c.end.ensures.ended) c.answer-reply.ensures.err

pub returns-clause-rows : goal.returns-clause-rows
returns-clause-rows g c =
    subst (λ (A : List EventValue). OnErr c.answer-reply.result (MayWantMemory c.args.query (set_of A)))
    (shows_site c.end.new.seat.table_id c.enter-site.new.pass.me c.end.new.seat.me c.enter-site.result.site _ _ c.enter-site.ensures.turn refl c.end.ensures.ended) c.answer-reply.ensures.rows
