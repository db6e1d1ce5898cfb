use Rattle.std.proofs.Common.{◌≡◌, ◌∙◌, ap, sym, subst, refl, inr, ◌<◌, [], ◌∷◌}
use Rattle.attributes.specs.Event.{source_of, text}
use Rattle.attributes.specs.Members.{value_at, with_value}
use Rattle.attributes.specs.Sequence.{max_sequence}
use Rattle.numbers.specs.Counts.{IsCounted, KeepsKnown, TextNumbers, next}
use Rattle.numbers.specs.Numberer.{taken}
use Rattle.numbers.proofs.CountLemmas.{found_known, found_step, new_known, new_step, next_is, none_known, too_many}
use Rattle.numbers.proofs.KnownLemmas.{new_only}
use Rattle.numbers.proofs.NumberLemmas.{only_stays}
use Rattle.numbers.proofs.turn.number_of.Goals as goal

pub returns-in-Some-clause-counts : goal.returns-in-Some-clause-counts
returns-in-Some-clause-counts c base A h its =
    let known = c.args.known.now in
    let e = c.args.event.now in
    found_step base A c.args.counted.now known e c.in-Some.number (ap (λ t. value_at t known) (sym c.text.ensures.text) ∙ c.in-Some.ensures.some) its h

pub returns-in-Some-clause-known : goal.returns-in-Some-clause-known
returns-in-Some-clause-known c base A h its =
    let known = c.args.known.now in
    let e = c.args.event.now in
    found_known base A known e c.in-Some.number (ap (λ t. value_at t known) (sym c.text.ensures.text) ∙ c.in-Some.ensures.some) its

pub returns-in_default-next_of-clause-refused : goal.returns-in_default-next_of-clause-refused
returns-in_default-next_of-clause-refused c =
    let counts = c.args.counted.now in
    let known = c.args.known.now in
    let e = c.args.event.now in
    let over : max_sequence < next counts (source_of e) = subst (λ s. max_sequence < next counts s) c.source.ensures.value c.in_default-next_of.ensures in
    inr (refl, λ base A h its. too_many base A counts known e (none_known base A counts known e c.text.result.now c.text.ensures.text c.in_default.ensures.none h its) over h its)

pub returns-clause-counts : goal.returns-clause-counts
returns-clause-counts c base A h its =
    let counts = c.args.counted.now in
    let known = c.args.known.now in
    let e = c.args.event.now in
    let none = none_known base A counts known e c.text.result.now c.text.ensures.text c.in_default.ensures.none h its in
    let more : IsCounted counts c.add.new.self (text e) (source_of e) = subst (λ s. IsCounted counts c.add.new.self (text e) s) c.source-2.ensures.value (subst (λ t. IsCounted counts c.add.new.self t c.source-2.result.now) c.text-2.ensures.text c.in_ok-add.ensures) in (
      c.in-Some-next_of.ensures ∙ ap (next counts) c.source.ensures.value ∙ next_is base A counts known e none its h,
      new_step base A counts known e c.text.ensures.event none its h c.add.new.self more,
    )

pub returns-clause-known : goal.returns-clause-known
returns-clause-known c base A h its =
    let counts = c.args.counted.now in
    let known = c.args.known.now in
    let e = c.args.event.now in
    let none = none_known base A counts known e c.text.result.now c.text.ensures.text c.in_default.ensures.none h its in
    let next_one : c.in-Some-next_of.number ≡ next counts (source_of e) = c.in-Some-next_of.ensures ∙ ap (next counts) c.source.ensures.value in
    let then : c.add-2.new.self ≡ with_value (text e) (next counts (source_of e)) known = c.in_ok-add-2.ensures ∙ ap (λ t. with_value t c.in-Some-next_of.number known) c.text-3.ensures.text ∙ ap (λ n. with_value (text e) n known) next_one in
    subst (λ (K : TextNumbers). KeepsKnown base A (taken A (e ∷ [])) known K) (sym then) (new_known base A counts known e c.text.ensures.event none its h)

pub returns-in-Some-clause-only : goal.returns-in-Some-clause-only
returns-in-Some-clause-only c base A h its only = only_stays base A (c.args.event.now ∷ []) c.args.known.now only

pub returns-clause-only : goal.returns-clause-only
returns-clause-only c base A h its only =
    let counts = c.args.counted.now in
    let known = c.args.known.now in
    let e = c.args.event.now in
    let none = none_known base A counts known e c.text.result.now c.text.ensures.text c.in_default.ensures.none h its in
    let next_one : c.in-Some-next_of.number ≡ next counts (source_of e) = c.in-Some-next_of.ensures ∙ ap (next counts) c.source.ensures.value in
    let then : c.add-2.new.self ≡ with_value (text e) (next counts (source_of e)) known = c.in_ok-add-2.ensures ∙ ap (λ t. with_value t c.in-Some-next_of.number known) c.text-3.ensures.text ∙ ap (λ n. with_value (text e) n known) next_one in
    new_only base A counts known c.add-2.new.self e c.text.ensures.event none its h then only
