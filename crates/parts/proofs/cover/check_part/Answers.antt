use Rattle.std.proofs.Common.{◌<◌, length, below_more, subst, arith}
use Rattle.std.specs.Option.{IfNone}
use Rattle.parts.specs.Combined.{ShareNone}
use Rattle.parts.proofs.CoverLemmas.{at_place}
use Rattle.parts.proofs.cover.check_part.Goals as goal

pub loop-i-preserved : goal.loop-i-preserved
loop-i-preserved c =
    let all = c.args.summaries.now in
    let own = c.index-summaries-i.result in
    let other = c.index-summaries-second.result in
    let within : c.loop-i.i < length all = omega (arith, c.loop-i-test.true, c.requires) in
    let none = subst (λ o. IfNone o (ShareNone own other)) c.in_default.is c.in_ok-name.ensures.none in
    below_more _ _ c.loop-i.invariant
    (λ s t first second.
    subst (λ x. ShareNone x t) (at_place all c.loop-i.i own s within c.index-summaries-i.is first)
    (subst (ShareNone own) (at_place all c.args.second other t c.requires c.index-summaries-second.is second) none))

pub returns-clause-apart : goal.returns-clause-apart
returns-clause-apart c i lt =
    let below : i < c.loop-i.i = omega (arith, lt, c.loop-i-test.false) in
    c.loop-i.invariant i below
