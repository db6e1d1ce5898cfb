use Rattle.std.proofs.Common.{true≢false, inr, sym, ◌∙◌}
use Rattle.serde_json.specs.View.{view}
use Rattle.coverage.proofs.TextLemmas.{as_second, no_second, only_second, other_second, shape_of_second}
use Rattle.coverage.proofs.numbers.Numbers.of_value_with.Goals as goal

pub returns-then-not-is_shaped_with_blocks-clause-refused : goal.returns-then-not-is_shaped_with_blocks-clause-refused
returns-then-not-is_shaped_with_blocks-clause-refused c = (view c.args.value, (c.requires.json, inr (inr (c.requires.version, sym c.if-not-is_shaped_with_blocks.ensures))))

pub returns-then-not-is_shaped_with_blocks-clause-accepted : goal.returns-then-not-is_shaped_with_blocks-clause-accepted
returns-then-not-is_shaped_with_blocks-clause-accepted c = λ es ds h a e.
    absurd (true≢false (sym (c.if-not-is_shaped_with_blocks.ensures ∙ shape_of_second c.args.bytes.now (view c.args.value) es ds c.requires.json h a e)))

pub returns-in_default-clause-refused : goal.returns-in_default-clause-refused
returns-in_default-clause-refused c =
    let none = rw c.in_default.is at c.in_ok-numbers.ensures.complete in
    (view c.args.value, (c.requires.json, inr (c.requires.version, sym c.if-not-is_shaped_with_blocks.ensures), no_second c.args.bytes.now (view c.args.value) c.requires.json c.requires.version none))

pub returns-in_default-clause-accepted : goal.returns-in_default-clause-accepted
returns-in_default-clause-accepted c =
    let none = rw c.in_default.is at c.in_ok-numbers.ensures.complete in
    λ es ds h a e. absurd (as_second c.args.bytes.now (no_second c.args.bytes.now (view c.args.value) c.requires.json c.requires.version none) es ds h a e)

pub returns-then-not-is_text-clause-refused : goal.returns-then-not-is_text-clause-refused
returns-then-not-is_text-clause-refused c =
    let only = rw c.in-Some.is at c.in_ok-numbers.ensures.complete in (
      view c.args.value,
      (
        c.requires.json,
        inr (c.requires.version, sym c.if-not-is_shaped_with_blocks.ensures),
        other_second c.args.bytes.now c.in_ok-written.written (view c.args.value) c.in-Some.numbers c.in-Some.digests c.requires.json c.requires.version only c.in_ok-written.ensures.text (λ e. true≢false (sym (c.if-not-is_text.ensures.1 e))),
      ),
    )

pub returns-then-not-is_text-clause-accepted : goal.returns-then-not-is_text-clause-accepted
returns-then-not-is_text-clause-accepted c =
    let only = rw c.in-Some.is at c.in_ok-numbers.ensures.complete in
    λ es ds h a e. absurd (as_second c.args.bytes.now (other_second c.args.bytes.now c.in_ok-written.written (view c.args.value) c.in-Some.numbers c.in-Some.digests c.requires.json c.requires.version only c.in_ok-written.ensures.text
    (λ same. true≢false (sym (c.if-not-is_text.ensures.1 same)))) es ds h a e)

pub returns-clause-accepted : goal.returns-clause-accepted
returns-clause-accepted c =
    let only = rw c.in-Some.is at c.in_ok-numbers.ensures.complete in
    λ es ds h a e. only es ds h a (only_second c.args.bytes.now (view c.args.value) es ds c.requires.json h a e)
