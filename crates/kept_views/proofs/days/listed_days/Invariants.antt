use Rattle.std.proofs.Common.{◌≡◌, ◌++◌, map}
use Rattle.kept_views.proofs.days.listed_days.Given as goal

abbrev pub invariant-loop-day : goal.invariant-loop-day
invariant-loop-day l = l.rows ++ map (λ e. ((e.0.0.now, e.0.1), e.1)) l.day-iterator ≡ map (λ e. ((e.0.0.now, e.0.1), e.1)) l.table.entries
