use Rattle.std.proofs.Common.{[], ◌∷◌, ◌+◌, refl}
use Rattle.site.specs.Machine.{call}
use Rattle.site.specs.declared.call.Command.TheVariants as command
use Rattle.site.specs.declared.call.Reply.TheVariants.{Paged}
use Rattle.feeds.proofs.GateLemmas.{gated_call}
use Rattle.feeds.proofs.PullLemmas.{page_few}
use Rattle.feeds.proofs.pulling.next_page.Goals as goal

pub returns-in-Ok-page-clause-page : goal.returns-in-Ok-page-clause-page
returns-in-Ok-page-clause-page g c = (
  call (command.DeltaPage c.args.peer.now (c.args.tally.now.fresh + c.args.tally.now.repeated) 100) (Paged c.in-Ok-page.events) ∷ [],
  c.in-Ok-page.ensures.went,
  (refl, page_few _ _ _ _ _ c.in-Ok-page.ensures.step),
  gated_call _ _ _ _ _ c.in-Ok.ensures c.tell.ensures refl refl refl (λ s. absurd (cc)),
)
