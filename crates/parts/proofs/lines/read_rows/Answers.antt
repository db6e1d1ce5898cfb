use Rattle.std.proofs.Common.{ap, Some, arith, rules}
use Rattle.std.proofs.lemmas.Str.Pattern.{split_once_first}
use Rattle.parts.proofs.LineLemmas.{all_read, row_missed, row_read}
use Rattle.parts.proofs.lines.read_rows.Goals as goal

pub returns-in-None : goal.returns-in-None
returns-in-None g c all are =
    let l = c.loop-line in
    let cut = rw c.in-Some.is at (split_once_first 10 l.rest.now c.split_once.result c.split_once.ensures.cases (omega arith)) in
    let left = l.invariant.1 all are in
    absurd (row_missed g.R.Row.is_line left.0 c.in-Some.line.now l.rest.now c.in_ok-row.field-0 left.2 cut.0 cut.1 c.in_ok-row.ensures c.in-None.is)

pub loop-line-preserved : goal.loop-line-preserved
loop-line-preserved g c =
    let l = c.loop-line in
    let cut = rw c.in-Some.is at (split_once_first 10 l.rest.now c.split_once.result c.split_once.ensures.cases (omega arith)) in (
      search rules,
      λ all are.
          let left = l.invariant.1 all are in
          row_read g.R.Row.is_line all l.rows left.0 c.push.new.self c.in-Some.line.now l.rest.now c.in-Some.more.now c.in_ok-row.field-0 c.in-Some-2.row left.1 left.2 cut.0 cut.1 cut.2
          c.in_ok-row.ensures c.in-Some-2.is c.in_ok-push-in-Some-2.ensures.ok,
    )

pub returns : goal.returns
returns g c all are =
    let l = c.loop-line in
    let none = rw c.in_default.is at (split_once_first 10 l.rest.now c.split_once.result c.split_once.ensures.cases (omega arith)) in
    let left = l.invariant.1 all are in
    ap Some (all_read g.R.Row.is_line all l.rows left.0 l.rest.now left.1 left.2 none)
