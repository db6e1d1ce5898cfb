use Rattle.std.proofs.Common.{refl}
use Rattle.std.proofs.lemmas.Option.{slice_get_read}
use Rattle.site_commands.proofs.CombineLemmas.{no_text}
use Rattle.site_commands.proofs.combine.texts_in.Goals as goal

pub returns-in-Err-clause-err : goal.returns-in-Err-clause-err
returns-in-Err-clause-err c = λ i same.
    no_text c.args.contents.now c.loop-i.i i c.index-contents-i.result c.as_bytes.result.now
    (slice_get_read _ _ _ c.index-contents-i.result refl c.loop-i-test.true c.index-contents-i.is)
    c.as_bytes.ensures.value c.in-Err.ensures.cases.0 same
