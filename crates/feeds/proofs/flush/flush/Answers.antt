use Rattle.std.proofs.Common.{rules, [], ◌∷◌, ap, sym, refl, ◌∙◌}
use Rattle.std.specs.Prelude.{Ok, Err}
use Rattle.site.specs.Desk.{took}
use Rattle.site.specs.Machine.{call}
use Rattle.site.specs.declared.call.Command.TheVariants as command
use Rattle.feeds.proofs.GateLemmas.{gated_call}
use Rattle.feeds.proofs.TallyLemmas.{flushed_ok, flushed_short, refused_within}
use Rattle.feeds.proofs.flush.flush.Goals as goal
use Rattle.feeds.proofs.flush.flush.Goals.{in-Ok-take, in-Err-take}

pub overflow_add-tally-in-Err-take : goal.overflow_add-tally-in-Err-take
overflow_add-tally-in-Err-take g c = let within = refused_within _ _ _ _ c.in-Err-take.ensures.step in search (rules, within)

pub overflow_sub-tally : goal.overflow_sub-tally
overflow_sub-tally g c = let within = refused_within _ _ _ _ c.in-Err-take.ensures.step in search (rules, within)

pub returns-clause-flushed : goal.returns-clause-flushed
returns-clause-flushed g c = elim c.match-take.branch [
  | in-Ok-take w ↦ (call (command.Take c.args.batch.now) (took (Ok w.in-Ok-take.counts)) ∷ [], w.in-Ok-take.ensures.went, flushed_ok _ _ _ _ _ _ _ _ c.requires.most w.in-Ok-take.ensures.step (search rules) (ap (λ z. z.fresh) w.tally-is) (ap (λ z. z.repeated) w.tally-is) (ap (λ z. z.refused) w.tally-is) w.ended-is, gated_call _ _ _ _ _ c.in-Ok.ensures c.tell.ensures refl (ap (λ z. z.calls) w.tally-is) (ap (λ z. z.calls) w.tally-is) (λ s. let no = sym w.ended-is ∙ s in absurd (cc)))
  | in-Err-take w ↦ (call (command.Take c.args.batch.now) (took (Err w.in-Err-take.fault)) ∷ [], w.in-Err-take.ensures.went, flushed_short _ _ _ _ _ _ _ _ _ c.requires.most w.in-Err-take.ensures.step w.short_of-short.ensures (ap (λ z. z.fresh) w.tally-is) (ap (λ z. z.repeated) w.tally-is) (ap (λ z. z.refused) w.tally-is) w.ended-is, gated_call _ _ _ _ _ c.in-Ok.ensures c.tell.ensures refl (ap (λ z. z.calls) w.tally-is) (ap (λ z. z.calls) w.tally-is) (λ s. let no = sym w.ended-is ∙ s in absurd (cc)))
]
