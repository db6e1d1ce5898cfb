-- Reports, one more at a time.
use Rattle.std.proofs.Common.{◌≡◌, ◌+◌, List, [], ◌∷◌, ◌++◌, arith}
use Rattle.feeds.specs.declared.report.Report.{Report}
use Rattle.run_command.specs.Tally.{read_in, refused_in}

pub read_more : (rs : List Report) (r : Report) → read_in (rs ++ r ∷ []) ≡ read_in rs + r.read
read_more [] r = omega arith
read_more (x ∷ xs) r = omega (arith, read_more xs r)

pub refused_more : (rs : List Report) (r : Report) → refused_in (rs ++ r ∷ []) ≡ refused_in rs + r.refused
refused_more [] r = omega arith
refused_more (x ∷ xs) r = omega (arith, refused_more xs r)
