use Rattle.site_commands.proofs.CombineLemmas.{fault_ending}
use Rattle.site_commands.proofs.combine.ending_of_contents.Goals as goal

pub returns-in-Err : goal.returns-in-Err
returns-in-Err g c =
    fault_ending c.args.query c.args.files.now c.args.cover_files.now c.args.answers.now c.args.covers.now c.blamed_files-blamed.result.now
    c.in-Err.blamed.fault c.in-Err.blamed.is_of_covers c.ending_of_fault.result c.blamed_files-blamed.ensures c.in-Err.ensures.refused
    c.in-Err.ensures.blamed c.ending_of_fault.ensures
