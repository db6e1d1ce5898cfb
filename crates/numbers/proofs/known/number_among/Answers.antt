use Rattle.std.proofs.Common.{◌∙◌, sym, true≢false, arith}
use Rattle.numbers.proofs.KnownLemmas.{all_others, found_among, none_among, others_more}
use Rattle.numbers.proofs.known.number_among.Goals as goal

pub loop-i-preserved : goal.loop-i-preserved
loop-i-preserved c =
    others_more c.args.rows.now c.loop-i.i c.args.event.now c.at-row.result.now c.at-row.ensures c.loop-i.invariant
    (λ n has. true≢false (sym (c.in_ok-is_row_of.ensures.1 (n, has)) ∙ c.if-branch.false))

pub returns-then-branch : goal.returns-then-branch
returns-then-branch c m events bare have =
    let is = c.in_ok-is_row_of.ensures.0 c.if-branch.true in
    found_among m events c.args.rows.now c.loop-i.i c.args.event.now c.at-row.result.now is.0 c.number.result c.at-row.ensures c.requires is.1 c.number.ensures bare have

pub returns : goal.returns
returns c m events bare have =
    none_among m events c.args.rows.now c.args.event.now c.requires (all_others c.args.rows.now c.loop-i.i c.args.event.now (omega arith) c.loop-i.invariant) bare have
