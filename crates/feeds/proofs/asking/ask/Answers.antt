use Rattle.std.proofs.Common.{[], ◌++◌, refl, sym, ap, ◌∙◌, ◌+◌, rules}
use Rattle.std.specs.Prelude.{map}
use Rattle.std.proofs.lemmas.List.{take_more}
use Rattle.site.specs.declared.call.Command.TheVariants as command
use Rattle.feeds.proofs.GateLemmas.{gated_all, gated_more, gated_none, gated_went}
use Rattle.feeds.proofs.AskLemmas.{answered_more, answered_on, stops_at}
use Rattle.feeds.proofs.asking.ask.Goals as goal

pub returns-in-Some : goal.returns-in-Some
returns-in-Some g c = let i = c.loop-place.invariant in let f = c.ask_one.ensures in
    (i.0 ++ f.0, g.met.D.Desk.goes_on _ _ _ _ _ i.1 f.1, stops_at _ _ _ _ _ _ _ _ _ _ (take_more _ _ _ c.loop-place-test.true) i.2 i.3 i.5 f.2 c.in-Some.is refl refl, gated_all _ _ _ _ (gated_more _ _ _ i.0 f.0 _ _ refl i.6 f.3) c.in-Some.is)

pub loop-place-preserved : goal.loop-place-preserved
loop-place-preserved g c = let i = c.loop-place.invariant in let f = c.ask_one.ensures in
    let next = take_more _ _ _ c.loop-place-test.true in let a = answered_more _ _ _ _ _ _ _ c.in-None.is i.2 i.3 f.2 in
    (i.0 ++ f.0, g.met.D.Desk.goes_on _ _ _ _ _ i.1 f.1, a.0 ∙ ap (map command.Query) (sym next), a.1, a.2 ∙ ap (λ z. z + 1) i.4, answered_on _ _ _ _ _ _ c.in-None.is i.5 f.2, gated_went _ _ _ _ (gated_more _ _ _ i.0 f.0 _ _ refl i.6 f.3) c.in-None.is)

pub loop-place-init : goal.loop-place-init
loop-place-init g c = ([], g.met.D.Desk.stays _, refl, search rules, search rules, tt, gated_none _ _ _ refl (λ s. absurd (cc)))
