use Rattle.fault_lines.proofs.QuietLemmas.{good, quiet}
use Rattle.fault_lines.proofs.laws.good_files_are_quiet.Goals as goal

pub returns : goal.returns
returns c = λ name b. (quiet name b, good name b)
