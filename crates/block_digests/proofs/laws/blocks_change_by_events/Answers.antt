use Rattle.block_digests.proofs.GrowthLemmas.{block_is_one_list, digests_of_arrivals, greater_appends, others_stay}
use Rattle.block_digests.proofs.LineLemmas.{exact_lines}
use Rattle.block_digests.proofs.laws.blocks_change_by_events.Goals as goal

pub returns-clause-list : goal.returns-clause-list
returns-clause-list c = block_is_one_list c.sets_are_members.ensures (exact_lines c.text_tells_events.ensures)

pub returns-clause-others : goal.returns-clause-others
returns-clause-others c = others_stay c.sets_are_members.ensures (exact_lines c.text_tells_events.ensures)

pub returns-clause-greater : goal.returns-clause-greater
returns-clause-greater c = greater_appends c.sets_are_members.ensures (exact_lines c.text_tells_events.ensures)

pub returns-clause-arrivals : goal.returns-clause-arrivals
returns-clause-arrivals c = digests_of_arrivals c.sets_are_members.ensures (exact_lines c.text_tells_events.ensures)
