use Rattle.coverage.proofs.EntriesLemmas.{numbers_found, some_found, canonical_found}
use Rattle.coverage.proofs.numbers.Numbers.of_source.Goals as goal

pub returns-clause-numbers : goal.returns-clause-numbers
returns-clause-numbers c = numbers_found c.get.result _ c.args.self.now c.args.source.now c.self.view_is c.get.ensures.value

pub returns-clause-some : goal.returns-clause-some
returns-clause-some c = some_found c.get.result _ c.args.source.now c.self.invariant c.get.ensures.value

pub returns-clause-canonical : goal.returns-clause-canonical
returns-clause-canonical c = canonical_found c.get.result _ c.args.source.now c.self.invariant c.get.ensures.value
