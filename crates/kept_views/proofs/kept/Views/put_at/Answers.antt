use Rattle.std.proofs.Common.{◌≡◌, false, arith, sym, subst, ◌∙◌}
use Rattle.std.proofs.lemmas.Result.{on_err_weaker, on_ok_weaker}
use Rattle.attributes.specs.Event.{id_of, kind_of, source_of}
use Rattle.inbox.specs.Sets.{set_of}
use Rattle.inbox.specs.Shown.{NoneHas}
use Rattle.kept_views.specs.steps.Moves.{ComesIn}
use Rattle.kept_views.proofs.StandsLemmas.{comes_new, count_fits, day_fits, first_is_shown, stands_first}
use Rattle.kept_views.proofs.kept.Views.put_at.Goals as goal

pub admit-requires : goal.admit-requires
admit-requires c =
    record { fits = omega (arith, count_fits c.args.inbox.now.arrivals c.args.self.now (kind_of c.args.event.now) c.requires.stands, c.arrived-place.ensures.count); days_fit = λ k. omega (arith, day_fits c.args.inbox.now.arrivals c.args.self.now k c.requires.stands, c.arrived-place.ensures.count) }

pub returns-clause-stands : goal.returns-clause-stands
returns-clause-stands c =
    let A = c.args.inbox.now.arrivals in
    let e = c.args.event.now in
    let new = c.requires.new in
    let none : NoneHas (set_of A) (source_of e) (id_of e) = sym c.has_key_of.ensures ∙ c.if-has_key_of.false in
    on_ok_weaker c.admit.result (λ comes. comes_new A e c.admit.new.self new (stands_first A e new c.args.self.now c.requires.stands c.admit.new.self
    (subst (λ n. ComesIn e n c.args.self.now c.admit.new.self) c.arrived-place.ensures.count comes) none)) c.admit.ensures.comes

pub returns-clause-shown : goal.returns-clause-shown
returns-clause-shown c =
    let A = c.args.inbox.now.arrivals in
    let e = c.args.event.now in
    let none : NoneHas (set_of A) (source_of e) (id_of e) = sym c.has_key_of.ensures ∙ c.if-has_key_of.false in
    on_err_weaker c.admit.result (λ _. first_is_shown A e c.requires.new none) c.admit.ensures.same
