use Rattle.std.proofs.Common.{◌∙◌, refl, sym, true≢false, arith}
use Rattle.numbers.specs.Numbered.{HasNoOther}
use Rattle.numbers.proofs.CountLemmas.{knows_at}
use Rattle.numbers.proofs.KnownLemmas.{all_of, more_at}
use Rattle.numbers.proofs.known.has_no_other.Goals as goal

pub loop-i-preserved : goal.loop-i-preserved
loop-i-preserved c = more_at (HasNoOther c.args.number c.args.event.now) c.args.rows.now c.loop-i.i c.at.result.now c.at.ensures c.loop-i.invariant (c.in_ok-is_other_row_of.ensures.0 c.if-branch.false)

pub returns-then-branch : goal.returns-then-branch
returns-then-branch c = (
  λ is. absurd (true≢false (sym is)),
  λ all. absurd (true≢false (sym c.if-branch.true ∙ c.in_ok-is_other_row_of.ensures.1 (knows_at (HasNoOther c.args.number c.args.event.now) c.args.rows.now c.loop-i.i c.at.result.now all c.at.ensures))),
)

pub returns : goal.returns
returns c = (λ is. all_of (HasNoOther c.args.number c.args.event.now) c.args.rows.now c.loop-i.i (omega arith) c.loop-i.invariant, λ all. refl)
