use Rattle.std.proofs.Common.{rules, ◌≡◌, ◌+◌, ◌<◌, Err, ap, arith, length, refl}
use Rattle.std.proofs.lemmas.Option.{slice_get_within}
use Rattle.run_command.specs.Outcome.{IsOutcome}
use Rattle.run_command.specs.Run.{IsFeedFault}
use Rattle.run_command.specs.declared.fault.RunFault.TheVariants as run
use Rattle.site_program.proofs.FeedLemmas.{feeds_length}
use Rattle.site_program.proofs.workers.run_workers.Goals as goal

pub run-requires-clause-few : goal.run-requires-clause-few
run-requires-clause-few g c = omega (arith, feeds_length c.args.has_lines c.args.first c.args.contents.items c.in-Ok.feeds c.in-Ok.ensures.ok, c.requires.few, ap length c.empty.ensures)

pub returns-in-Err-Feed-clause-err : goal.returns-in-Err-Feed-clause-err
returns-in-Err-Feed-clause-err g c =
    let feeds = c.in-Ok.feeds in
    let refused : IsFeedFault feeds (run.Feed c.in-Err-Feed.feed c.in-Err-Feed.fault) = search rules in
    let left : IsOutcome feeds c.args.peers (Err (run.Feed c.in-Err-Feed.feed c.in-Err-Feed.fault)) = search rules in
    let small : c.in-Err-Feed.feed < length feeds = slice_get_within feeds c.in-Err-Feed.feed refused.0 refused.1 in
    let at : c.saturating_add.result ≡ c.args.first + c.in-Err-Feed.feed = omega (arith, c.saturating_add.ensures, small, feeds_length c.args.has_lines c.args.first c.args.contents.items feeds c.in-Ok.ensures.ok, c.requires.few, c.requires.first) in (
      feeds,
      c.in-Ok.ensures.ok,
      record { feed = c.in-Err-Feed.feed; at = at; bytes = refused.0; is_there = refused.1; fault = c.in-Err-Feed.fault; why = refl; refuses = refused.2; told = left },
    )

pub returns-in-Err-NoThread-clause-err : goal.returns-in-Err-NoThread-clause-err
returns-in-Err-NoThread-clause-err g c =
    let left : IsOutcome c.in-Ok.feeds c.args.peers (Err run.NoThread) = search rules in
    (c.in-Ok.feeds, c.in-Ok.ensures.ok, left)
