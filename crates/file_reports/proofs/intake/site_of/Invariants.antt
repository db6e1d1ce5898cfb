use Rattle.std.proofs.Common.{◌≡◌, ◌++◌, ℕ, List, length}
use Rattle.file_reports.specs.Reports.{KeepsFiles}
use Rattle.file_reports.proofs.intake.site_of.Given as goal

-- the files that are done, and the others
abbrev pub invariant-loop-bytes : goal.invariant-loop-bytes
invariant-loop-bytes g l =
    (done : List (List ℕ)) × (done ++ l.bytes-iterator.rest.items ≡ l.fn.files.items)
    × (l.file ≡ length done) × KeepsFiles done l.site
