use Rattle.std.proofs.Common.{◌≡◌, ◌++◌, map}
use Rattle.parts.proofs.kinds.listed_kinds.Given as goal

abbrev pub invariant-loop-kind : goal.invariant-loop-kind
invariant-loop-kind l = l.rows ++ map (λ e. (e.0.now, e.1)) l.kind-iterator ≡ map (λ e. (e.0.now, e.1)) l.table.entries
