use Rattle.std.proofs.Common.{◌≡◌, ◌++◌, map}
use Rattle.kept_views.proofs.latest.copied.Given as goal

abbrev pub invariant-loop-entry : goal.invariant-loop-entry
invariant-loop-entry l = l.batch ++ map (λ e. e.1.now) l.entry-iterator ≡ map (λ e. e.1.now) l.latest.entries
