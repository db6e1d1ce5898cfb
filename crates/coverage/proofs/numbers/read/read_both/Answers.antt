use Rattle.std.proofs.Common.{sym, subst, ◌∙◌}
use Rattle.coverage.specs.BlockDigests.{AreDigests}
use Rattle.coverage.proofs.ReadDigestsLemmas.{blocks_member, blocks_taken, digests_data-object, no_blocks_taken, sources_left, sources_member, value_taken}
use Rattle.coverage.proofs.numbers.read.read_both.Goals as goal

pub returns-in_default-clause-complete : goal.returns-in_default-clause-complete
returns-in_default-clause-complete c = λ es ds h a e. digests_data-object _ es ds c.in_default.ensures e

pub returns-in_default-remove-clause-complete : goal.returns-in_default-remove-clause-complete
returns-in_default-remove-clause-complete c = λ es ds h a e.
    no_blocks_taken ds c.remove.result (sym c.in_default-remove.is) (blocks_taken ds c.in-Some.members.entries c.remove.result c.remove.ensures.value (blocks_member _ es ds _ c.in-Some.ensures e))

pub returns-in_default-2-clause-complete : goal.returns-in_default-2-clause-complete
returns-in_default-2-clause-complete c =
    let none = rw c.in_default-2.is at c.in_ok-numbers.ensures.complete in
    λ es ds h a e. none es h (sources_left c.in-Some.members.entries _ c.remove.ensures.entries ∙ sources_member _ es ds _ c.in-Some.ensures e)

pub returns-in_default-3-clause-complete : goal.returns-in_default-3-clause-complete
returns-in_default-3-clause-complete c =
    let only = rw c.in-Some-2.is at c.in_ok-numbers.ensures.complete in
    let none = rw c.in_default-3.is at c.in_ok-digests.ensures.complete in
    λ es ds h a e.
    let same = only es h (sources_left c.in-Some.members.entries _ c.remove.ensures.entries ∙ sources_member _ es ds _ c.in-Some.ensures e) in
    none ds (subst (λ l. AreDigests l ds) (sym same) a) (value_taken ds c.in-Some-remove.blocks (blocks_taken ds c.in-Some.members.entries _ c.in-Some-remove.ensures.value (blocks_member _ es ds _ c.in-Some.ensures e)))

pub returns-clause-complete : goal.returns-clause-complete
returns-clause-complete c =
    let only = rw c.in-Some-2.is at c.in_ok-numbers.ensures.complete in
    let digests = rw c.in-Some-3.is at c.in_ok-digests.ensures.complete in
    λ es ds h a e.
    let same = only es h (sources_left c.in-Some.members.entries _ c.remove.ensures.entries ∙ sources_member _ es ds _ c.in-Some.ensures e) in
    (same, digests ds (subst (λ l. AreDigests l ds) (sym same) a) (value_taken ds c.in-Some-remove.blocks (blocks_taken ds c.in-Some.members.entries _ c.in-Some-remove.ensures.value (blocks_member _ es ds _ c.in-Some.ensures e))))
