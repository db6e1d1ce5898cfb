use Rattle.std.proofs.Common.{◌≡◌, ◌≢◌, ◌<◌, List, [], length, set, take, vec_len, refl, sym, ap, ap₂, ◌∙◌, subst, arith}
use Rattle.std.proofs.lemmas.Result.{IfErr-weaker}
use Rattle.inbox.specs.Sets.{set_of, union}
use Rattle.exchange.specs.Lacking.{lacking}
use Rattle.exchange.specs.Place.{Place, place_at}
use Rattle.exchange.specs.Schedule.{FitsIn, IsCutShort, IsShortOfNext, MayStopAt, places_after}
use Rattle.exchange.specs.Standing.{StandAtPlaces}
use Rattle.exchange.specs.declared.step.Step.TheVariants.{Deliver, Gossip, Scrub}
use Rattle.exchange.specs.steps.Given.{Gives, after_made, site_at}
use Rattle.exchange.proofs.SelfLemmas.{lacking-self, union-self}
use Rattle.exchange.proofs.StandingLemmas.{flush_at, makes, restart_at, same_stands, site_taken, stands_at, stops_both}
use Rattle.exchange.proofs.machine.make_step.Goals as goal

pub returns-in-Deliver-clause-made : goal.returns-in-Deliver-clause-made
returns-in-Deliver-clause-made c w s =
    let old = c.args.hosts.now.items in
    let new = c.deliver.new.hosts.items in
    let to = c.in-Deliver.site in
    subst (λ st. StandAtPlaces new (after_made c.deliver.result st w)) (sym c.in-Deliver.is)
    (makes c.sets_are_members.ensures old new w (Deliver to c.in-Deliver.batch) to c.in-Deliver.batch refl (λ n. refl) c.deliver.result c.deliver.ensures.gives s)

pub returns-then-from-to-clause-made : goal.returns-then-from-to-clause-made
returns-then-from-to-clause-made c w s =
    let old = c.args.hosts.now.items in
    let from = c.in-Gossip.from in
    let to = c.in-Gossip.to in
    subst (λ st. StandAtPlaces old (places_after st w)) (sym c.in-Gossip.is) (same_stands old w to (lacking (place_at w from).taken (place_at w to).taken)
    (λ l. ap (union (place_at w to).taken) (ap (λ k. lacking (place_at w k).taken (place_at w to).taken) c.if-from-to.true ∙ lacking-self (place_at w to).taken)) s)

pub returns-else-from-to-clause-made : goal.returns-else-from-to-clause-made
returns-else-from-to-clause-made c w s =
    let old = c.args.hosts.now.items in
    let new = c.gossip_between.new.hosts.items in
    let from = c.in-Gossip.from in
    let to = c.in-Gossip.to in
    let fits = subst (FitsIn (vec_len c.args.hosts.now)) c.in-Gossip.is c.requires in
    let from_in : from < length old = subst (λ n. from < n) c.args.hosts.now.ok.0 fits.0 in
    let to_in : to < length old = subst (λ n. to < n) c.args.hosts.now.ok.0 fits.1 in
    subst (λ st. StandAtPlaces new (after_made c.gossip_between.result st w)) (sym c.in-Gossip.is)
    (makes c.sets_are_members.ensures old new w (Gossip from to) to (lacking (place_at w from).taken (place_at w to).taken) refl (λ n. refl) c.gossip_between.result
    (subst (λ L. Gives old new to L c.gossip_between.result) (ap₂ lacking (site_taken old w from s from_in) (site_taken old w to s to_in)) c.gossip_between.ensures.gives) s)

pub returns-then-from-to-2-clause-made : goal.returns-then-from-to-2-clause-made
returns-then-from-to-2-clause-made c w s =
    let old = c.args.hosts.now.items in
    let from = c.in-Scrub.from in
    let to = c.in-Scrub.to in
    subst (λ st. StandAtPlaces old (places_after st w)) (sym c.in-Scrub.is) (same_stands old w to (place_at w from).taken
    (λ l. ap (λ k. union (place_at w to).taken (place_at w k).taken) c.if-from-to-2.true ∙ subst (λ E. union E E ≡ E) (site_taken old w to s l) (union-self c.sets_are_members.ensures (site_at old to))) s)

pub returns-else-from-to-2-clause-made : goal.returns-else-from-to-2-clause-made
returns-else-from-to-2-clause-made c w s =
    let old = c.args.hosts.now.items in
    let new = c.scrub_between.new.hosts.items in
    let from = c.in-Scrub.from in
    let to = c.in-Scrub.to in
    let fits = subst (FitsIn (vec_len c.args.hosts.now)) c.in-Scrub.is c.requires in
    let from_in : from < length old = subst (λ n. from < n) c.args.hosts.now.ok.0 fits.0 in
    subst (λ st. StandAtPlaces new (after_made c.scrub_between.result st w)) (sym c.in-Scrub.is)
    (makes c.sets_are_members.ensures old new w (Scrub from to) to (place_at w from).taken refl (λ n. refl) c.scrub_between.result
    (subst (λ L. Gives old new to L c.scrub_between.result) (site_taken old w from s from_in) c.scrub_between.ensures.gives) s)

pub returns-in-Flush-clause-made : goal.returns-in-Flush-clause-made
returns-in-Flush-clause-made c w s =
    let old = c.args.hosts.now.items in
    let i = c.in-Flush.site in
    let i_in : i < length old = subst (λ n. i < n) c.args.hosts.now.ok.0 (subst (FitsIn (vec_len c.args.hosts.now)) c.in-Flush.is c.requires) in
    subst (λ st. StandAtPlaces (set old i (record { site = c.index_mut-host.result.now.site; kept = c.arrived-host.result })) (places_after st w)) (sym c.in-Flush.is)
    (flush_at old w i c.index_mut-host.result.now c.arrived-host.result i_in c.index_mut-host.ensures.value c.arrived-host.ensures.count s)

pub returns-in-Ok-clause-made : goal.returns-in-Ok-clause-made
returns-in-Ok-clause-made c w s =
    let old = c.args.hosts.now.items in
    let i = c.in-Restart.site in
    let h = c.index_mut-host-in-Restart.result.now in
    let i_in : i < length old = subst (λ n. i < n) c.args.hosts.now.ok.0 (subst (FitsIn (vec_len c.args.hosts.now)) c.in-Restart.is c.requires) in
    subst (λ st. StandAtPlaces (set old i (record { site = c.in-Ok.again; kept = h.kept })) (places_after st w)) (sym c.in-Restart.is)
    (restart_at c.sets_are_members.ensures old w i h c.in-Ok.again i_in c.index_mut-host-in-Restart.ensures.value c.in-Ok.ensures.arrivals c.in-Ok.ensures.set s)

pub returns-in-Deliver-clause-stops : goal.returns-in-Deliver-clause-stops
returns-in-Deliver-clause-stops c =
    let old = c.args.hosts.now.items in
    let to = c.in-Deliver.site in
    let batch = c.in-Deliver.batch in
    let to_in : to < length old = subst (λ n. to < n) c.args.hosts.now.ok.0 (subst (FitsIn (vec_len c.args.hosts.now)) c.in-Deliver.is c.requires) in
    IfErr-weaker c.deliver.result (λ part. IsShortOfNext (set_of (site_at old to)) part batch) (λ part. (w : List Place) → StandAtPlaces old w → MayStopAt part c.args.step.now w)
    (λ part short w s. subst (λ st. MayStopAt part st w) (sym c.in-Deliver.is) (subst (λ E. IsShortOfNext E part batch) (site_taken old w to s to_in) short))
    c.deliver.ensures.short

pub returns-else-from-to-clause-stops : goal.returns-else-from-to-clause-stops
returns-else-from-to-clause-stops c =
    let old = c.args.hosts.now.items in
    let from = c.in-Gossip.from in
    let to = c.in-Gossip.to in
    let fits = subst (FitsIn (vec_len c.args.hosts.now)) c.in-Gossip.is c.requires in
    let from_in : from < length old = subst (λ n. from < n) c.args.hosts.now.ok.0 fits.0 in
    let to_in : to < length old = subst (λ n. to < n) c.args.hosts.now.ok.0 fits.1 in
    stops_both c.gossip_between.result (set_of (site_at old from) ≢ []) (λ part. IsCutShort part (lacking (set_of (site_at old from)) (set_of (site_at old to)))) (λ part. (w : List Place) → StandAtPlaces old w → MayStopAt part c.args.step.now w)
    (λ part some short w s. subst (λ st. MayStopAt part st w) (sym c.in-Gossip.is)
    (c.if-from-to.false, subst (λ E. E ≢ []) (site_taken old w from s from_in) some, subst (IsCutShort part) (ap₂ lacking (site_taken old w from s from_in) (site_taken old w to s to_in)) short))
    c.gossip_between.ensures.giver c.gossip_between.ensures.short

pub returns-else-from-to-2-clause-stops : goal.returns-else-from-to-2-clause-stops
returns-else-from-to-2-clause-stops c =
    let old = c.args.hosts.now.items in
    let from = c.in-Scrub.from in
    let to = c.in-Scrub.to in
    let fits = subst (FitsIn (vec_len c.args.hosts.now)) c.in-Scrub.is c.requires in
    let from_in : from < length old = subst (λ n. from < n) c.args.hosts.now.ok.0 fits.0 in
    let to_in : to < length old = subst (λ n. to < n) c.args.hosts.now.ok.0 fits.1 in
    IfErr-weaker c.scrub_between.result (λ part. IsShortOfNext (set_of (site_at old to)) part (set_of (site_at old from))) (λ part. (w : List Place) → StandAtPlaces old w → MayStopAt part c.args.step.now w)
    (λ part short w s. subst (λ st. MayStopAt part st w) (sym c.in-Scrub.is)
    (c.if-from-to-2.false, subst (λ E. IsShortOfNext E part (place_at w from).taken) (site_taken old w to s to_in) (subst (IsShortOfNext (set_of (site_at old to)) part) (site_taken old w from s from_in) short)))
    c.scrub_between.ensures.short

pub returns-in_default-clause-stops : goal.returns-in_default-clause-stops
returns-in_default-clause-stops c w s =
    let old = c.args.hosts.now.items in
    let i = c.in-Restart.site in
    let h = c.index_mut-host-in-Restart.result.now in
    let i_in : i < length old = subst (λ n. i < n) c.args.hosts.now.ok.0 (subst (FitsIn (vec_len c.args.hosts.now)) c.in-Restart.is c.requires) in
    let one = stands_at old w i h s i_in c.index_mut-host-in-Restart.ensures.value in
    subst (λ st. MayStopAt 0 st w) (sym c.in-Restart.is)
    (refl, λ none. absurd (omega (arith, c.in_default.ensures.err, one.mark, ap length none)))
