use Rattle.std.proofs.Common.{◌<◌, length, refl, below_more, sym, subst, arith}
use Rattle.std.proofs.lemmas.Option.{slice_get_read, slice_get_within}
use Rattle.parts.specs.Combined.{HasSource}
use Rattle.parts.proofs.CoverLemmas.{at_place, none_met}
use Rattle.parts.proofs.cover.check_apart.Goals.{else-branch, then-branch+in_ok-check_part}
use Rattle.parts.proofs.cover.check_apart.Goals as goal

pub loop-i-preserved : goal.loop-i-preserved
loop-i-preserved c =
    let all = c.args.summaries.now in
    let i = c.loop-i.i in
    let own = c.index-summaries-i.result in
    let there = slice_get_read all (length all) i own refl c.loop-i-test.true c.index-summaries-i.is in
    let added = c.in_ok-add_sources.ensures in (
      below_more _ _ c.loop-i.invariant.0 (elim c.if-branch.branch [
        | then-branch+in_ok-check_part w ↦ w.in_ok-check_part.ensures.apart
        | else-branch w ↦ none_met all c.loop-i.sources i own there (c.in_ok-has_any.ensures w.if-branch.false) c.loop-i.invariant.1
      ]),
      below_more _ _ (λ k lt s got source has. added.keeps source (c.loop-i.invariant.1 k lt s got source has))
          (λ s got source has. added.has source (subst (λ t. HasSource t source) (sym (at_place all i own s c.loop-i-test.true c.index-summaries-i.is got)) has)),
    )

pub returns-clause-apart : goal.returns-clause-apart
returns-clause-apart c i j source lt a b =
    let within = slice_get_within c.args.summaries.now j b.0 b.1 in
    let below : j < c.loop-i.i = omega (arith, within, c.loop-i-test.false) in
    c.loop-i.invariant.0 j below i lt a.0 b.0 a.1 b.1 source a.2 b.2
