use Rattle.std.proofs.Common.{true≢false, refl, inl, inr, sym, subst, ◌∙◌}
use Rattle.std.specs.Option.{IfSome}
use Rattle.serde_json.specs.View.{view}
use Rattle.coverage.specs.Numbers.{AreListed}
use Rattle.coverage.proofs.RoundLemmas.{same_texts-same}
use Rattle.coverage.proofs.TextLemmas.{as_first, no_first, other_first, shape_of_first}
use Rattle.coverage.proofs.numbers.Numbers.of_value.Goals as goal

pub returns-then-not-is_shaped-clause-refused : goal.returns-then-not-is_shaped-clause-refused
returns-then-not-is_shaped-clause-refused c = (view c.args.value, (c.requires.json, inr (inl (c.requires.version, sym c.if-not-is_shaped.ensures))))

pub returns-then-not-is_shaped-clause-accepted : goal.returns-then-not-is_shaped-clause-accepted
returns-then-not-is_shaped-clause-accepted c = λ s h e. absurd (true≢false (sym (c.if-not-is_shaped.ensures ∙ shape_of_first c.args.bytes.now (view c.args.value) s c.requires.json h e)))

pub returns-in_default-clause-refused : goal.returns-in_default-clause-refused
returns-in_default-clause-refused c =
    let none = rw c.in_default.is at c.in_ok-numbers.ensures.complete in
    (view c.args.value, (c.requires.json, inl (c.requires.version, sym c.if-not-is_shaped.ensures), no_first c.args.bytes.now (view c.args.value) c.requires.json c.requires.version none))

pub returns-in_default-clause-accepted : goal.returns-in_default-clause-accepted
returns-in_default-clause-accepted c =
    let none = rw c.in_default.is at c.in_ok-numbers.ensures.complete in
    λ s h e. absurd (as_first c.args.bytes.now (no_first c.args.bytes.now (view c.args.value) c.requires.json c.requires.version none) s h e)

pub returns-then-not-is_text-clause-refused : goal.returns-then-not-is_text-clause-refused
returns-then-not-is_text-clause-refused c =
    let only = rw c.in-Some.is at c.in_ok-numbers.ensures.complete in (
      view c.args.value,
      (
        c.requires.json,
        inl (c.requires.version, sym c.if-not-is_shaped.ensures),
        other_first c.args.bytes.now c.in_ok-text.text (view c.args.value) c.in-Some.numbers c.requires.json c.requires.version only c.in_ok-text.ensures.text (λ e. true≢false (sym (c.if-not-is_text.ensures.1 e))),
      ),
    )

pub returns-then-not-is_text-clause-accepted : goal.returns-then-not-is_text-clause-accepted
returns-then-not-is_text-clause-accepted c =
    let only = rw c.in-Some.is at c.in_ok-numbers.ensures.complete in
    λ s h e. absurd (as_first c.args.bytes.now (other_first c.args.bytes.now c.in_ok-text.text (view c.args.value) c.in-Some.numbers c.requires.json c.requires.version only c.in_ok-text.ensures.text
    (λ same. true≢false (sym (c.if-not-is_text.ensures.1 same)))) s h e)

pub returns-clause-accepted : goal.returns-clause-accepted
returns-clause-accepted c =
    let summary = subst (λ o. IfSome o AreListed) c.in-Some.is c.in_ok-numbers.ensures.summary in
    let text = sym (c.if-not-is_text.ensures.0 refl) ∙ c.in_ok-text.ensures.text in
    λ s h e. same_texts-same c.in-Some.numbers s summary h (sym text ∙ e)
