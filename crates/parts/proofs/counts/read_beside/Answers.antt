use Rattle.std.proofs.Common.{subst}
use Rattle.parts.specs.Combined.{AreApart}
use Rattle.parts.proofs.counts.read_beside.Goals as goal

pub returns-clause-apart : goal.returns-clause-apart
returns-clause-apart c = subst AreApart c.deref.ensures.value c.in_ok-check_apart.ensures.apart
