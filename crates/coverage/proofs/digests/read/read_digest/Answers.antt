use Rattle.std.proofs.Common.{sym, ◌∙◌}
use Rattle.coverage.proofs.ReadDigestsLemmas.{digest_only, digest_read, no_digest}
use Rattle.coverage.proofs.digests.read.read_digest.Goals as goal

pub returns-in-Ok : goal.returns-in-Ok
returns-in-Ok c =
    let decoded = sym c.from_hex.ensures ∙ c.in-Ok.is in
    (digest_read c.args.text.now c.in-Ok.digest decoded, digest_only c.args.text.now c.in-Ok.digest decoded)

pub returns-in-Err : goal.returns-in-Err
returns-in-Err c = no_digest c.args.text.now _ (sym c.from_hex.ensures ∙ c.in-Err.is)
