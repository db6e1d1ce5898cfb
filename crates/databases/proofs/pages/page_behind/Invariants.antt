use Rattle.std.proofs.Common.{◌≡◌, take, drop}
use Rattle.databases.proofs.pages.page_behind.Given as goal

abbrev pub invariant-loop-k : goal.invariant-loop-k
invariant-loop-k l = l.batch ≡ take l.k (drop l.passed l.events)
