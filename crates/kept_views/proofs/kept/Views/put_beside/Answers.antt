use Rattle.std.proofs.Common.{rules, ◌≡◌, false, true, arith, sym, ap, ap₂, subst, ◌∙◌}
use Rattle.std.specs.Ordering.{is_lt}
use Rattle.std.proofs.lemmas.Result.{err_from_is_err_and, on_err_weaker, on_ok_weaker}
use Rattle.attributes.specs.Bytes.{byte_cmp}
use Rattle.attributes.specs.Event.{EventValue, id_of, kind_of, source_of, text}
use Rattle.inbox.specs.KeyOrder.{key_cmp, text_cmp}
use Rattle.inbox.specs.Ordered.{has}
use Rattle.inbox.specs.Sets.{set_of}
use Rattle.kept_views.specs.steps.Moves.{ComesIn, GoesOut}
use Rattle.kept_views.proofs.StandsLemmas.{comes_new, count_fits, day_fits, first_is_shown, none_at, replaced_is_shown, shown_at, stands_first, stands_hidden, stands_replaced, was_counted}
use Rattle.kept_views.proofs.kept.Views.put_beside.Goals as goal

pub admit-requires : goal.admit-requires
admit-requires c =
    record { fits = omega (arith, count_fits c.args.inbox.now.arrivals c.args.self.now (kind_of c.args.event.now) c.requires.stands, c.arrived-place.ensures.count); days_fit = λ k. omega (arith, day_fits c.args.inbox.now.arrivals c.args.self.now k c.requires.stands, c.arrived-place.ensures.count) }

pub admit-requires-in-Some : goal.admit-requires-in-Some
admit-requires-in-Some c =
    record { fits = omega (arith, count_fits c.args.inbox.now.arrivals c.args.self.now (kind_of c.args.event.now) c.requires.stands, c.arrived-place.ensures.count); days_fit = λ k. omega (arith, day_fits c.args.inbox.now.arrivals c.args.self.now k c.requires.stands, c.arrived-place.ensures.count) }

pub returns-in-None-clause-stands : goal.returns-in-None-clause-stands
returns-in-None-clause-stands c =
    let A = c.args.inbox.now.arrivals in
    let e = c.args.event.now in
    let new = c.requires.new in
    let none = none_at (set_of A) e _ _ (c.source.ensures.value ∙ ap source_of c.event-came.ensures) (c.id.ensures.value ∙ ap id_of c.event-came.ensures) c.in-None.ensures.none in
    on_ok_weaker c.admit.result (λ comes. comes_new A e c.admit.new.self new (stands_first A e new c.args.self.now c.requires.stands c.admit.new.self
    (subst (λ n. ComesIn e n c.args.self.now c.admit.new.self) c.arrived-place.ensures.count comes) none)) c.admit.ensures.comes

pub returns-in-None-clause-shown : goal.returns-in-None-clause-shown
returns-in-None-clause-shown c =
    let A = c.args.inbox.now.arrivals in
    let e = c.args.event.now in
    let new = c.requires.new in
    let none = none_at (set_of A) e _ _ (c.source.ensures.value ∙ ap source_of c.event-came.ensures) (c.id.ensures.value ∙ ap id_of c.event-came.ensures) c.in-None.ensures.none in
    on_err_weaker c.admit.result (λ _. first_is_shown A e new none) c.admit.ensures.same

pub returns-then-not-is_lt-clause-stands : goal.returns-then-not-is_lt-clause-stands
returns-then-not-is_lt-clause-stands c =
    let A = c.args.inbox.now.arrivals in
    let e = c.args.event.now in
    let o = c.in-Some.other.now in
    let new = c.requires.new in
    let there = shown_at (set_of A) e o _ _ (c.source.ensures.value ∙ ap source_of c.event-came.ensures) (c.id.ensures.value ∙ ap id_of c.event-came.ensures) c.in-Some.ensures.some in
    let texts : is_lt (text_cmp e o) ≡ false =
    ap is_lt (sym (c.compare.ensures.order ∙ ap₂ (λ (x y : EventValue). byte_cmp (text x) (text y)) c.event-came.ensures c.event.ensures)) ∙ sym c.is_lt.ensures ∙ c.if-not-is_lt.true in
    comes_new A e c.args.self.now new (stands_hidden A e new c.args.self.now c.requires.stands o there texts)

pub returns-in_err-slot-in-Some-clause-shown : goal.returns-in_err-slot-in-Some-clause-shown
returns-in_err-slot-in-Some-clause-shown c =
    let A = c.args.inbox.now.arrivals in
    let e = c.args.event.now in
    let o = c.in-Some.other.now in
    let new = c.requires.new in
    let there = shown_at (set_of A) e o _ _ (c.source.ensures.value ∙ ap source_of c.event-came.ensures) (c.id.ensures.value ∙ ap id_of c.event-came.ensures) c.in-Some.ensures.some in
    let texts : is_lt (text_cmp e o) ≡ true =
    ap is_lt (sym (c.compare.ensures.order ∙ ap₂ (λ (x y : EventValue). byte_cmp (text x) (text y)) c.event-came.ensures c.event.ensures)) ∙ sym c.is_lt.ensures ∙ c.if-not-is_lt.false in
    let exit = err_from_is_err_and c.from_residual.result c.from_residual.ensures.1 in
    rw exit.1 (replaced_is_shown A e new o there texts)

pub returns-in_err-day-in-Some-clause-shown : goal.returns-in_err-day-in-Some-clause-shown
returns-in_err-day-in-Some-clause-shown c =
    let A = c.args.inbox.now.arrivals in
    let e = c.args.event.now in
    let o = c.in-Some.other.now in
    let new = c.requires.new in
    let there = shown_at (set_of A) e o _ _ (c.source.ensures.value ∙ ap source_of c.event-came.ensures) (c.id.ensures.value ∙ ap id_of c.event-came.ensures) c.in-Some.ensures.some in
    let texts : is_lt (text_cmp e o) ≡ true =
    ap is_lt (sym (c.compare.ensures.order ∙ ap₂ (λ (x y : EventValue). byte_cmp (text x) (text y)) c.event-came.ensures c.event.ensures)) ∙ sym c.is_lt.ensures ∙ c.if-not-is_lt.false in
    let exit = err_from_is_err_and c.from_residual-in_err-day-in-Some.result c.from_residual-in_err-day-in-Some.ensures.1 in
    rw exit.1 (replaced_is_shown A e new o there texts)

pub returns-in_err-admit-in-Some-clause-shown : goal.returns-in_err-admit-in-Some-clause-shown
returns-in_err-admit-in-Some-clause-shown c =
    let A = c.args.inbox.now.arrivals in
    let e = c.args.event.now in
    let o = c.in-Some.other.now in
    let new = c.requires.new in
    let there = shown_at (set_of A) e o _ _ (c.source.ensures.value ∙ ap source_of c.event-came.ensures) (c.id.ensures.value ∙ ap id_of c.event-came.ensures) c.in-Some.ensures.some in
    let texts : is_lt (text_cmp e o) ≡ true =
    ap is_lt (sym (c.compare.ensures.order ∙ ap₂ (λ (x y : EventValue). byte_cmp (text x) (text y)) c.event-came.ensures c.event.ensures)) ∙ sym c.is_lt.ensures ∙ c.if-not-is_lt.false in
    let exit = err_from_is_err_and c.from_residual-in_err-admit-in-Some.result c.from_residual-in_err-admit-in-Some.ensures.1 in
    rw exit.1 (replaced_is_shown A e new o there texts)

pub dismiss-requires : goal.dismiss-requires
dismiss-requires c =
    let A = c.args.inbox.now.arrivals in
    let e = c.args.event.now in
    let o = c.in-Some.other.now in
    let mid = c.admit-in-Some.new.self in
    let new = c.requires.new in
    let there = shown_at (set_of A) e o _ _ (c.source.ensures.value ∙ ap source_of c.event-came.ensures) (c.id.ensures.value ∙ ap id_of c.event-came.ensures) c.in-Some.ensures.some in
    let texts : is_lt (text_cmp e o) ≡ true =
    ap is_lt (sym (c.compare.ensures.order ∙ ap₂ (λ (x y : EventValue). byte_cmp (text x) (text y)) c.event-came.ensures c.event.ensures)) ∙ sym c.is_lt.ensures ∙ c.if-not-is_lt.false in
    record { counted = was_counted A e new c.args.self.now c.requires.stands mid (subst (λ n. ComesIn e n c.args.self.now mid) c.arrived-place.ensures.count c.in_ok-admit-in-Some.ensures.comes) o there texts; own = c.in_ok-day-in-Some.ensures }

pub returns-in_ok-admit-in-Some-clause-stands : goal.returns-in_ok-admit-in-Some-clause-stands
returns-in_ok-admit-in-Some-clause-stands c =
    let A = c.args.inbox.now.arrivals in
    let e = c.args.event.now in
    let o = c.in-Some.other.now in
    let mid = c.admit-in-Some.new.self in
    let after = c.dismiss.new.self in
    let new = c.requires.new in
    let there = shown_at (set_of A) e o _ _ (c.source.ensures.value ∙ ap source_of c.event-came.ensures) (c.id.ensures.value ∙ ap id_of c.event-came.ensures) c.in-Some.ensures.some in
    let texts : is_lt (text_cmp e o) ≡ true =
    ap is_lt (sym (c.compare.ensures.order ∙ ap₂ (λ (x y : EventValue). byte_cmp (text x) (text y)) c.event-came.ensures c.event.ensures)) ∙ sym c.is_lt.ensures ∙ c.if-not-is_lt.false in
    comes_new A e after new (stands_replaced A e new c.args.self.now c.requires.stands mid (subst (λ n. ComesIn e n c.args.self.now mid) c.arrived-place.ensures.count c.in_ok-admit-in-Some.ensures.comes) o there texts after
    (subst (λ s. GoesOut o s mid after) c.in_ok-slot-in-Some.ensures c.dismiss.ensures.goes) c.arrived-place.ensures.events c.text_tells_events.ensures)
