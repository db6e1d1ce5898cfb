use Rattle.std.proofs.Common.{◌≡◌, Some, None, ap, sym, if◌then◌else◌, ◌∙◌}
use Rattle.sha2.specs.Sha256.{sha256}
use Rattle.block_digests.specs.Block.{block_text}
use Rattle.block_digests.specs.steps.Rows.{joined}
use Rattle.block_digests.proofs.RowLemmas.{joined_block}
use Rattle.block_digests.proofs.block.digest_of_block.Goals as goal

pub returns-clause-ok : goal.returns-clause-ok
returns-clause-ok c =
    let E = c.args.events.now in
    let text : c.digest_of_rows.result ≡ sha256 (block_text E c.args.source.now c.args.k) = c.digest_of_rows.ensures ∙ ap (λ rs. sha256 (joined rs)) c.in_ok-rows.ensures ∙ ap sha256 (joined_block E c.args.source.now c.args.k) in
    ap (λ d. Some d) text ∙ ap (λ b. if b then Some (sha256 (block_text E c.args.source.now c.args.k)) else None) (sym (sym c.if-not-has_block.ensures))
