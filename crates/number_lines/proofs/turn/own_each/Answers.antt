use Rattle.std.proofs.Common.{◌≡◌, ◌+◌, ◌++◌, [], ◌∷◌, IfSome, Some, sym, subst, take}
use Rattle.inbox.proofs.ReadLemmas.{take_next}
use Rattle.number_lines.specs.Judged.{AreOwn, IsOwn}
use Rattle.number_lines.proofs.GatherLemmas.{own_more}
use Rattle.number_lines.proofs.turn.own_each.Goals as goal

pub loop-i-preserved : goal.loop-i-preserved
loop-i-preserved c =
    let name = c.args.name.now in
    let given = c.args.given.now in
    let i = c.loop-i.i in
    let e = c.at.result.now in
    let x = c.in-Some.event in
    let X = c.loop-i.events in
    subst (AreOwn (Some name) (take (i + 1) given)) (sym c.in_ok-push-in-Some.ensures.ok) (subst (λ l. AreOwn (Some name) l (X ++ x ∷ [])) (sym (take_next given i e c.at.ensures)) (own_more (Some name) (take i given) X e x c.loop-i.invariant (subst (λ o. IfSome o (IsOwn (Some name) e)) c.in-Some.is c.in_ok-event.ensures.own)))
