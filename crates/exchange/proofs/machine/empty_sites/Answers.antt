use Rattle.std.proofs.Common.{◌+◌, ◌++◌, [], ◌∷◌, sym, subst}
use Rattle.std.proofs.lemmas.List.{replicate-append-replicate}
use Rattle.exchange.specs.declared.world.Hosted.{Hosted}
use Rattle.exchange.specs.Place.{nothing, start}
use Rattle.exchange.specs.Standing.{StandAtPlaces, IsHostOf}
use Rattle.exchange.proofs.StandingLemmas.{all_zip_push, starts_stand}
use Rattle.exchange.proofs.machine.empty_sites.Goals as goal

pub loop-i-preserved : goal.loop-i-preserved
loop-i-preserved c =
    let new : Hosted = record { site = c.empty.result; kept = 0 } in
    let one : IsHostOf new nothing = subst (λ L. IsHostOf (record { site = L; kept = 0 }) nothing) (sym c.empty.ensures) starts_stand in
    subst (λ l. StandAtPlaces l (start (c.loop-i.i + 1))) (sym c.in_ok-push.ensures.items)
    (subst (λ w. StandAtPlaces (c.loop-i.hosts.items ++ new ∷ []) w) (replicate-append-replicate c.loop-i.i 1 nothing) (all_zip_push IsHostOf c.loop-i.hosts.items (start c.loop-i.i) new nothing c.loop-i.invariant one))
