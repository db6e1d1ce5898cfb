use Rattle.std.proofs.Common.{true≢false, refl, sym, subst, ap, ◌∙◌}
use Rattle.coverage.specs.Numbers.{byte_cmp, AreListed}
use Rattle.coverage.proofs.ReadLemmas.{ends_before_last, last_before, ends_before_none}
use Rattle.coverage.proofs.numbers.Numbers.ends_before.Goals as goal

pub returns-in-Less : goal.returns-in-Less
returns-in-Less c =
    let es = c.self.inside.entries.entries in
    let source = c.args.source.now in
    let less = ap (λ k. byte_cmp k source) (sym c.as_str.ensures.value) ∙ sym c.in-Less.ensures in (
      λ _. ends_before_last es c.args.self.now (c.in-Some.last.now, c.in-Some.field-0-1.now) source c.self.view_is (subst AreListed c.self.view_is c.self.invariant) c.in-Some.ensures.last less,
      λ _. refl,
    )

pub returns-in_default : goal.returns-in_default
returns-in_default c =
    let es = c.self.inside.entries.entries in
    let source = c.args.source.now in (
      λ t. absurd (true≢false (sym t)),
      λ before. absurd (c.in_default.not-Less (c.cmp.ensures ∙ ap (λ k. byte_cmp k source) c.as_str.ensures.value
          ∙ last_before es c.args.self.now (c.in-Some.last.now, c.in-Some.field-0-1.now) source c.self.view_is c.in-Some.ensures.last before)),
    )

pub returns-in-None : goal.returns-in-None
returns-in-None c = (λ _. ends_before_none c.self.inside.entries.entries c.args.self.now c.args.source.now c.self.view_is (λ lt. true≢false (sym (c.in-None.ensures.variant.1 lt))), λ _. refl)
