use Rattle.std.proofs.Common.{◌≡◌, ◌≢◌, [], drop, take, slice_get, Some, sym, ap, ◌∙◌, subst}
use Rattle.std.proofs.lemmas.Option.{slice_get_within}
use Rattle.std.proofs.lemmas.Result.{IfOk-weaker}
use Rattle.attributes.specs.Event.{EventValue}
use Rattle.inbox.specs.Sets.{set_of}
use Rattle.inbox.specs.Shown.{IsShownOf, NoneHas}
use Rattle.site.specs.Key.{with_key}
use Rattle.site.proofs.KeyLemmas.{key_none, key_run, key_some, run_first, wanted}
use Rattle.site.proofs.site.Site.get.Goals as goal

pub returns-in_default-clause-events : goal.returns-in_default-clause-events
returns-in_default-clause-events c =
    c.empty.ensures ∙ sym (key_none (set_of c.args.self.now) c.args.source.now c.args.id.now
    (subst (λ A. NoneHas (set_of A) c.args.source.now c.args.id.now) c.self.view_is c.in_default.ensures.none))

pub returns-in_default-place_of-clause-err : goal.returns-in_default-place_of-clause-err
returns-in_default-place_of-clause-err c =
    key_some (set_of c.args.self.now) c.args.source.now c.args.id.now c.in-Some.first.now
    (subst (λ A. IsShownOf (set_of A) c.args.source.now c.args.id.now c.in-Some.first.now) c.self.view_is c.in-Some.ensures.some)

pub key_len-requires-clause-in_range : goal.key_len-requires-clause-in_range
key_len-requires-clause-in_range c =
    slice_get_within (set_of c.self.inside.inbox.arrivals) c.in-Ok.place c.in-Some.first.now c.in-Ok.ensures.there

pub returns-clause-events : goal.returns-clause-events
returns-clause-events c =
    let E = set_of c.args.self.now in
    let run = ap (λ A. take c.key_len.result (drop c.in-Ok.place (set_of A))) (sym c.self.view_is)
    ∙ sym (c.key_len.ensures.run c.in-Some.first.now c.in-Ok.ensures.there)
    ∙ key_run (set_of c.self.inside.inbox.arrivals) c.args.source.now c.args.id.now c.in-Some.first.now c.in-Some.ensures.some
    ∙ ap (λ A. with_key c.args.source.now c.args.id.now (set_of A)) c.self.view_is in
    IfOk-weaker c.copies.result (λ batch. batch ≡ take c.key_len.result (drop c.in-Ok.place E)) (λ batch. batch ≡ with_key c.args.source.now c.args.id.now E)
    (λ batch is. is ∙ run) c.copies.ensures

pub returns-clause-shown : goal.returns-clause-shown
returns-clause-shown c =
    let E = set_of c.args.self.now in
    let shown = subst (λ A. IsShownOf (set_of A) c.args.source.now c.args.id.now c.in-Some.first.now) c.self.view_is c.in-Some.ensures.some in
    let here = ap (λ A. slice_get (set_of A) c.in-Ok.place) (sym c.self.view_is) ∙ c.in-Ok.ensures.there in
    IfOk-weaker c.copies.result (λ batch. batch ≡ take c.key_len.result (drop c.in-Ok.place E))
    (λ batch. (e : EventValue) → slice_get batch 0 ≡ Some e → IsShownOf E c.args.source.now c.args.id.now e)
    (λ batch is e first. subst (IsShownOf E c.args.source.now c.args.id.now)
    (sym (run_first E c.in-Ok.place c.key_len.result c.in-Some.first.now e here (ap (λ l. slice_get l 0) (sym is) ∙ first)))
    shown) c.copies.ensures

pub returns-clause-err : goal.returns-clause-err
returns-clause-err c =
    wanted c.copies.result (with_key c.args.source.now c.args.id.now (set_of c.args.self.now) ≢ [])
    (key_some (set_of c.args.self.now) c.args.source.now c.args.id.now c.in-Some.first.now
    (subst (λ A. IsShownOf (set_of A) c.args.source.now c.args.id.now c.in-Some.first.now) c.self.view_is c.in-Some.ensures.some))
