use Rattle.std.proofs.Common.{◌∙◌}
use Rattle.coverage.proofs.EntriesLemmas.{OnOk-along, insert_entry-last}
use Rattle.coverage.proofs.numbers.Numbers.append.Goals as goal

pub returns : goal.returns
returns c = OnOk-along c.put.result _ _ (λ put. put ∙ insert_entry-last c.args.self.now c.args.source.now c.args.numbers c.requires.last) c.put.ensures
