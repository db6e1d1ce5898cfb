use Rattle.std.proofs.lemmas.Result.{IfErr-weaker, IfOk-weaker}
use Rattle.database_commands.proofs.StreamLemmas.{all_begun, tells_none, until_begun}
use Rattle.database_commands.proofs.files.OpenerDatabases.follow.Goals as goal

pub returns-in-Ok-open-clause-told : goal.returns-in-Ok-open-clause-told
returns-in-Ok-open-clause-told g c =
    IfOk-weaker c.follow-conn.result.outcome _ _ (λ faults told. all_begun _ _ _ _ faults c.in-Ok.ensures told) c.follow-conn.ensures.told

pub returns-in-Ok-open-clause-until : goal.returns-in-Ok-open-clause-until
returns-in-Ok-open-clause-until g c =
    IfErr-weaker c.follow-conn.result.outcome _ _ (λ f until. until_begun _ _ _ _ f c.in-Ok.ensures until) c.follow-conn.ensures.until

pub returns-clause-until : goal.returns-clause-until
returns-clause-until g c = tells_none (g.R.Read.remaining c.args.input.now) (g.W.Write.contents c.args.out.now)

pub returns-in-Err-clause-until : goal.returns-in-Err-clause-until
returns-in-Err-clause-until g c = tells_none (g.R.Read.remaining c.args.input.now) (g.W.Write.contents c.args.out.now)
