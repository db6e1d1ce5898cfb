use Rattle.std.proofs.Common.{◌≡◌, ◌++◌, map}
use Rattle.parts.proofs.days.listed_days.Given as goal

abbrev pub invariant-loop-key : goal.invariant-loop-key
invariant-loop-key l = l.rows ++ map (λ e. ((e.0.0.now, e.0.1), e.1)) l.key-iterator ≡ map (λ e. ((e.0.0.now, e.0.1), e.1)) l.table.entries
