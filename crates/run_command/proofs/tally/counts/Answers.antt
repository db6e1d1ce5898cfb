use Rattle.std.proofs.Common.{rules, arith, ap, take}
use Rattle.std.specs.Prelude.{slice_index_or}
use Rattle.std.proofs.lemmas.List.{take_more}
use Rattle.feeds.specs.declared.report.WorkerEnd.TheVariants.{Done}
use Rattle.feeds.specs.declared.report.Report.{Report}
use Rattle.run_command.specs.Tally.{read_in, refused_in}
use Rattle.run_command.proofs.TallyLemmas.{read_more, refused_more}
use Rattle.run_command.proofs.tally.counts.Goals as goal

pub loop-report-preserved : goal.loop-report-preserved
loop-report-preserved c =
    let i = c.loop-report.invariant in
    let none : Report = record { read = 0; fresh = 0; repeated = 0; refused = 0; ended = Done } in
    let r : Report = slice_index_or c.args.reports.now c.loop-report.report-index none in
    let passed = take c.loop-report.report-index c.args.reports.now in
    let next = take_more c.args.reports.now c.loop-report.report-index none c.loop-report-test.true in
    let read = ap read_in next in let read_next = read_more passed r in
    let refused = ap refused_in next in let refused_next = refused_more passed r in
    (omega (arith, i.0, read, read_next), omega (arith, i.1, refused, refused_next), search (rules, i.2), search (rules, i.3))
