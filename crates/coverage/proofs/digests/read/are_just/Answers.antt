use Rattle.coverage.proofs.ReadDigestsLemmas.{just_by_sets, not_just}
use Rattle.coverage.proofs.digests.read.are_just.Goals as goal

pub returns-in-Some : goal.returns-in-Some
returns-in-Some c =
    let found = rw c.in-Some.is at c.in_ok-found.ensures in
    let due = c.in_ok-due.ensures in
    just_by_sets c.args.numbers.now c.args.blocks.now.entries c.in_ok-due.due c.in-Some.found c.same.result due.canonical found.0 due.members found.1 c.same.ensures.numbers

pub returns : goal.returns
returns c =
    let found = rw c.in-None.is at c.in_ok-found.ensures in
    not_just c.args.numbers.now c.args.blocks.now.entries found.0 c.in_ok-due.ensures.own found.1.0 found.1.1
