use Rattle.std.proofs.Common.{◌≡◌, ◌++◌, ap₂, ◌∙◌}
use Rattle.std.specs.String.{string_bytes}
use Rattle.json.specs.Print.{print}
use Rattle.coverage.proofs.DigestsWriteLemmas.{blocks_written, numbers_written, print-digests}
use Rattle.coverage.proofs.numbers.Numbers.to_text_with.Goals as goal

pub returns-clause-text : goal.returns-clause-text
returns-clause-text c =
    let own = c.args.digests.now in
    let numbers = c.args.self.now in
    let first = blocks_written own _ _ _ _ _ c.new-out.ensures.tokens c.in_ok-begin_object.ensures.ok c.in_ok-key.ensures.ok c.in_ok-begin_object-2.ensures.ok c.in_ok-write.ensures.tokens in
    let tokens = numbers_written numbers own _ _ _ _ _ _ _ _ _ first c.in_ok-end_object.ensures.ok c.in_ok-key-2.ensures.ok c.in_ok-begin_object-3.ensures.ok c.in_ok-write-2.ensures.tokens c.in_ok-end_object-2.ensures.ok c.in_ok-key-3.ensures.ok c.in_ok-u64.ensures.ok c.in_ok-end_object-3.ensures.ok in
    let before = c.end_object-3.ensures.room.0 ∙ c.u64.ensures.room.0 ∙ c.key-3.ensures.room.0 ∙ c.end_object-2.ensures.room.0 ∙ c.in_ok-write-2.ensures.before ∙ c.begin_object-3.ensures.room.0 ∙ c.key-2.ensures.room.0 ∙ c.end_object.ensures.room.0 ∙ c.in_ok-write.ensures.before ∙ c.begin_object-2.ensures.room.0 ∙ c.key.ensures.room.0 ∙ c.begin_object.ensures.room.0 ∙ c.new-out.ensures.before ∙ c.new.ensures.items in
    let bytes = rw c.unwrap-text.ensures at c.from_utf8.ensures.ok in
    let same : string_bytes c.unwrap-text.result ≡ c.into_inner.result.items = cc bytes in
    c.from_string.ensures ∙ same ∙ c.into_inner.ensures.items ∙ ap₂ (λ a b. a ++ print b) before tokens ∙ print-digests numbers own
