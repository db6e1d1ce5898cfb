use Rattle.std.proofs.Common.{sym}
use Rattle.std.proofs.lemmas.Result.{IfOk-weaker}
use Rattle.coverage.proofs.ReadLemmas.{sources_taken, some_taken, object_taken, members_taken}
use Rattle.coverage.proofs.numbers.read.take_sources.Goals as goal

pub returns-in_default-clause-complete : goal.returns-in_default-clause-complete
returns-in_default-clause-complete c = λ s h e. some_taken s c.remove.result (sym c.in_default.is) (sources_taken s c.args.members.entries c.remove.result c.remove.ensures.value e)

pub returns-in_default-members_of-clause-complete : goal.returns-in_default-members_of-clause-complete
returns-in_default-members_of-clause-complete c =
    λ s h e. object_taken s c.in-Some.member c.in_default-members_of.ensures (sources_taken s c.args.members.entries _ c.in-Some.ensures.value e)

pub returns-clause-complete : goal.returns-clause-complete
returns-clause-complete c =
    IfOk-weaker c.read_entries.result _ _
    (λ o complete s h e. complete s h (members_taken s c.in-Some.member _ c.in-Some-members_of.ensures (sources_taken s c.args.members.entries _ c.in-Some.ensures.value e)))
    c.read_entries.ensures.complete
