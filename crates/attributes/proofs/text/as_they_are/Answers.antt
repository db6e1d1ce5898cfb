use Rattle.std.proofs.Common.{arith}
use Rattle.attributes.proofs.text.as_they_are.Goals as goal

pub returns-clause-bytes : goal.returns-clause-bytes
returns-clause-bytes c = λ i. omega (arith, c.type_inv.bytes i)
