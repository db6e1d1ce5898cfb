use Rattle.std.proofs.Common.{◌∙◌, ap, sym, slice_index_or, take_all, arith}
use Rattle.std.specs.Prelude.{fold}
use Rattle.std.proofs.lemmas.List.Sums.{fold_more}
use Rattle.numbers.specs.Filter.{hash_step}
use Rattle.numbers.proofs.filter.hash_of.Goals as goal

pub loop-i-preserved : goal.loop-i-preserved
loop-i-preserved c =
    let bytes = c.as_bytes-bytes.result.now in
    ap (λ h. hash_step h (slice_index_or bytes c.loop-i.i 0)) c.loop-i.invariant ∙ sym (fold_more hash_step 14695981039346656037 bytes c.loop-i.i 0 (omega arith))

pub returns : goal.returns
returns c = c.loop-i.invariant ∙ ap (fold hash_step 14695981039346656037) (take_all c.loop-i.i c.as_bytes-bytes.result.now c.loop-i-test.false ∙ c.as_bytes-bytes.ensures.value)
