use Rattle.std.proofs.Common.{◌≡◌, ◌≢◌, ◌∙◌, [], ◌∷◌, Some, None, ap, sym, subst, rules}
use Rattle.attributes.specs.Event.{EventValue}
use Rattle.event_json.specs.declared.fault.ReadFault.TheVariants as read
use Rattle.numbers.specs.Numbered.{HasNumber}
use Rattle.numbers.specs.Refusal.{refusal_at}
use Rattle.numbers.specs.declared.fault.NumberFault.{NumberFault}
use Rattle.numbers.proofs.BareLemmas.{again_is, none_at, reads_back}
use Rattle.numbers.proofs.BatchLemmas.{bare_at}
use Rattle.numbers.proofs.event.bare.Goals as goal

some_is : (m n : Rattle.std.proofs.Common.ℕ) → Some m ≡ Some n → m ≡ n
some_is m n h = cc

one_event : (x y : EventValue) → x ∷ [] ≡ y ∷ [] → x ≡ y
one_event x y h = cc

no_refusal : (r : NumberFault) → Some r ≡ None → ⊥
no_refusal r h = cc

pub returns-in-Err : goal.returns-in-Err
returns-in-Err c = record {
  bare = tt;
  none = λ e n bare has.
      let reads = reads_back c.texts_read_back.ensures e c.args.event.now _ n _ _ c.as_bytes.ensures.value c.in_ok-text.ensures.text c.event.ensures bare has in
      let other : c.in-Err.field-0 ≢ read.OutOfMemory = search rules in
      c.readings_are_one.ensures.apart c.as_bytes.result.now (e ∷ []) c.in-Err.field-0 reads (c.in-Err.ensures.refused other);
  event = search rules;
}

pub returns-in_default-clause-none : goal.returns-in_default-clause-none
returns-in_default-clause-none c e n bare has =
    let reads = reads_back c.texts_read_back.ensures e c.args.event.now _ n _ _ c.as_bytes.ensures.value c.in_ok-text.ensures.text c.event.ensures bare has in
    c.in_default.ensures.none e (c.readings_are_one.ensures.one c.as_bytes.result.now c.in-Ok.events (e ∷ []) c.in-Ok.ensures.ok reads)

pub returns-in-Some-refusal_at-clause-none : goal.returns-in-Some-refusal_at-clause-none
returns-in-Some-refusal_at-clause-none c e n bare has =
    let reads = reads_back c.texts_read_back.ensures e c.args.event.now _ n _ _ c.as_bytes.ensures.value c.in_ok-text.ensures.text c.event.ensures bare has in
    let same = one_event c.in-Some.found e (sym c.in-Some.ensures.some ∙ c.readings_are_one.ensures.one c.as_bytes.result.now c.in-Ok.events (e ∷ []) c.in-Ok.ensures.ok reads) in
    no_refusal c.in-Some-refusal_at._refusal (c.in-Some-refusal_at.ensures.value ∙ ap (refusal_at 0) same ∙ none_at 0 e bare)

pub returns : goal.returns
returns c = record {
  bare = tt;
  none = λ e n bare has.
      let reads = reads_back c.texts_read_back.ensures e c.args.event.now _ n _ _ c.as_bytes.ensures.value c.in_ok-text.ensures.text c.event.ensures bare has in
      let same = one_event c.in-Some.found e (sym c.in-Some.ensures.some ∙ c.readings_are_one.ensures.one c.as_bytes.result.now c.in-Ok.events (e ∷ []) c.in-Ok.ensures.ok reads) in
      let again = again_is e c.in-Some.found c.args.event.now c.in_ok-again.again n c.number.result has c.number.ensures same c.in_ok-again.ensures.numbered in
      c.in_default-compare.not-Equal (c.compare.ensures.same.1 (c.event-2.ensures ∙ again ∙ sym c.event-3.ensures));
  event = search rules;
}

pub returns-in-Equal-clause-bare : goal.returns-in-Equal-clause-bare
returns-in-Equal-clause-bare c =
    let e = c.in-Some.found in
    let x = c.args.event.now in (
      bare_at 0 e c.in_default-refusal_at.ensures.event (sym c.in_default-refusal_at.ensures.value),
      λ n is.
          let number : c.number.result ≡ n = some_is _ _ (sym c.number.ensures ∙ is) in
          let same : c.in_ok-again.again ≡ x = sym c.event-2.ensures ∙ c.compare.ensures.same.0 c.in-Equal.is ∙ c.event-3.ensures in
          subst (λ m. HasNumber m e x) number (subst (HasNumber c.number.result e) same c.in_ok-again.ensures.numbered),
    )
