use Rattle.serde_json.specs.View.{members_view}
use Rattle.coverage.proofs.ReadLemmas.{ReadsEntriesUpTo}
use Rattle.coverage.proofs.numbers.read.read_entries.Given as goal

abbrev pub invariant-loop-name : goal.invariant-loop-name
invariant-loop-name l = ReadsEntriesUpTo (members_view l.fn.sources.entries) l.summary (members_view l.name-iterator)
