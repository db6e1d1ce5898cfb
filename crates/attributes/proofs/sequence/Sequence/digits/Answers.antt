use Rattle.std.proofs.Common.{◌≡◌, ◌≤◌, ◌∙◌, ◌-◌, ◌+◌, ◌<◌, ◌^◌, ap, ap₂, string_bytes, length, arith, decimal, ◌++◌, ◌∷◌, [], Some, List, ℕ}
use Rattle.attributes.specs.Sequence.{sequence_of}
use Rattle.attributes.proofs.SequenceLemmas.{zeros, bounded, one_more_zero, short_decimal, sequence_of-padded}
use Rattle.attributes.proofs.sequence.Sequence.digits.Goals as goal

pub loop-place-preserved : goal.loop-place-preserved
unfolding lib.Utf8.encode
loop-place-preserved c =
    let k = c.loop-place._place - length (string_bytes c.in_ok-digits.digits) in
    c.in_ok-push.ensures.bytes
    ∙ (ap (λ (t : List ℕ). t ++ 48 ∷ []) c.loop-place.invariant
    ∙ one_more_zero k (c.loop-place._place + 1 - length (string_bytes c.in_ok-digits.digits)) (omega (arith, c.loop-place.auto._place, ap length c.as_str-place.ensures.value)))

pub returns : goal.returns
returns c =
    let n = c.self.inside.number in
    let small : n < 2 ^ 63 = bounded n c.self.invariant in
    let is : string_bytes c.in_ok-digits.digits ≡ decimal n = c.in_ok-digits.ensures.ok in
    let short : length (decimal n) ≤ 19 = short_decimal n small in
    let same : length (string_bytes c.in_ok-digits.digits) ≡ length (decimal n) = ap length is in
    let starts : length c.as_str-place.result.now ≡ length (string_bytes c.in_ok-digits.digits) = ap length c.as_str-place.ensures.value in
    let ends : c.loop-place._place ≤ 20 = c.loop-place.auto._place-end (omega arith) in
    let k = c.loop-place._place - length (string_bytes c.in_ok-digits.digits) in
    let whole : k + length (decimal n) ≡ 20 = omega (arith, c.loop-place-test.false) in
    let bytes : c.from_string.result ≡ zeros k ++ decimal n = c.from_string.ensures ∙ (c.in_ok-push_str.ensures.bytes ∙ ap₂ (λ (a b : List ℕ). a ++ b) c.loop-place.invariant (c.as_str.ensures.value ∙ is)) in
    ap sequence_of bytes ∙ (sequence_of-padded n k c.self.invariant small whole ∙ ap (λ (m : ℕ). Some m) c.self.view_is)
