use Rattle.std.proofs.lemmas.Result.{IfErr-weaker, IfOk-weaker}
use Rattle.database_commands.proofs.StreamLemmas.{all_begun, tells_none, unread_or_stops, until_begun}
use Rattle.database_commands.proofs.named.follow_named.Goals as goal

pub returns-in-Ok-open_over-clause-did : goal.returns-in-Ok-open_over-clause-did
returns-in-Ok-open_over-clause-did g c = let it = c.follow.ensures in record {
  first = c.in-Ok-open_over.conn;
  over = c.in-Ok-open_over.ensures.over;
  clean = it.clean;
  did = record {
    left = _;
    begun = c.in-Ok.ensures;
    followed = it.followed;
    settled = it.settled;
    stops = IfErr-weaker c.follow.result.outcome _ _ (λ f stops. unread_or_stops _ _ _ _ _ _ f stops) it.stops;
    beside = it.beside;
    clean = it.clean;
  };
}

pub returns-in-Ok-open_over-clause-told : goal.returns-in-Ok-open_over-clause-told
returns-in-Ok-open_over-clause-told g c =
    IfOk-weaker c.follow.result.outcome _ _ (λ faults told. all_begun _ _ _ _ faults c.in-Ok.ensures told) c.follow.ensures.told

pub returns-in-Ok-open_over-clause-until : goal.returns-in-Ok-open_over-clause-until
returns-in-Ok-open_over-clause-until g c =
    IfErr-weaker c.follow.result.outcome _ _ (λ f until. until_begun _ _ _ _ f c.in-Ok.ensures until) c.follow.ensures.until

pub returns-clause-unopened : goal.returns-clause-unopened
returns-clause-unopened g c = tells_none (g.R.Read.remaining c.args.input.now) (g.W.Write.contents c.args.out.now)

pub returns-in-Err-clause-unopened : goal.returns-in-Err-clause-unopened
returns-in-Err-clause-unopened g c = tells_none (g.R.Read.remaining c.args.input.now) (g.W.Write.contents c.args.out.now)
