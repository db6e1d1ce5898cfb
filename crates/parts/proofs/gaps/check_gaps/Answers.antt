use Rattle.std.proofs.Common.{◌<◌, arith, below_more, length, map}
use Rattle.std.proofs.lemmas.List.{length-map}
use Rattle.std.proofs.lemmas.Option.{slice_get_within}
use Rattle.parts.proofs.GapLemmas.{other_here, told_here}
use Rattle.parts.proofs.gaps.check_gaps.Goals as goal

pub returns-then-not-branch-clause-refused : goal.returns-then-not-branch-clause-refused
returns-then-not-branch-clause-refused c covers are =
    let summaries = c.args.summaries.now in
    let i = c.loop-i.i in
    let le : i < length summaries = omega (arith, c.requires, c.loop-i-test.true) in
    other_here c.args.texts.now summaries covers i _ c.index-summaries-i.result c.loop-i-test.true le are c.index-summaries-i.is (c.in_ok-tells_gaps.ensures.none c.if-not-branch.true)

pub loop-i-preserved : goal.loop-i-preserved
loop-i-preserved c =
    let summaries = c.args.summaries.now in
    let i = c.loop-i.i in
    let le : i < length summaries = omega (arith, c.requires, c.loop-i-test.true) in
    below_more _ _ c.loop-i.invariant
    (told_here c.args.texts.now summaries i _ c.index-summaries-i.result c.loop-i-test.true le c.index-summaries-i.is (c.in_ok-tells_gaps.ensures.some c.if-not-branch.false))

pub returns-clause-told : goal.returns-clause-told
returns-clause-told c i text s got there =
    let texts = c.args.texts.now in
    let within = slice_get_within (map (λ t. t.now) texts) i text got in
    let count = length-map texts (λ t. t.now) in
    let below : i < c.loop-i.i = omega (arith, within, count, c.loop-i-test.false) in
    c.loop-i.invariant i below text s got there
