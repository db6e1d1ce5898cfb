use Rattle.stream_laws.proofs.ShellLemmas.{each_ok, followed_pages}
use Rattle.sqlite.specs.Held.{state}
use Rattle.stream_laws.proofs.shell.follow_pages.Goals as goal

pub returns : goal.returns
returns g c clean =
    each_ok c.follow.result.outcome _ _ c.follow.ensures.followed
    (λ faults f es held a b is holds. followed_pages c.pages_are_taken.ensures _ _ _ (state g.S.Store c.args.conn).now (state g.S.Store c.follow.result.conn).now faults (record {
      turns = f.turns;
      last = f.last;
      are = f.are;
      over = f.over;
      out_is = f.out_is;
      kept = f.kept clean;
      faulty = f.faulty;
    }) es held a b is holds)
