use Rattle.std.proofs.Common.{◌≡◌, map, take}
use Rattle.attributes.specs.Bytes.{byte_cmp}
use Rattle.parts.specs.Merge.{added}
use Rattle.parts.proofs.kinds.sum_kinds.Given as goal

abbrev pub invariant-loop-row : goal.invariant-loop-row
invariant-loop-row l = map (λ e. (e.0.now, e.1)) l.table.entries ≡ added byte_cmp (take l.row-index l.rows)
