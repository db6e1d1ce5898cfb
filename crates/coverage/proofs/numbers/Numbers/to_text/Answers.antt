use Rattle.std.proofs.Common.{◌≡◌, ◌++◌, ap, ap₂, refl, subst, ◌∙◌}
use Rattle.std.specs.String.{string_bytes}
use Rattle.json.specs.Print.{print}
use Rattle.coverage.specs.Numbers.{AreListed}
use Rattle.std.proofs.Common.{[], ◌∷◌}
use Rattle.std.specs.Prelude.{codes}
use Rattle.json.specs.Token.{begin_object, key}
use Rattle.coverage.specs.steps.Tokens.{sources_tokens}
use Rattle.coverage.proofs.WriteLemmas.{tokens_written, print-summary}
use Rattle.coverage.proofs.numbers.Numbers.to_text.Goals as goal

pub returns : goal.returns
returns c =
    let own = c.args.self.now in
    let tokens = tokens_written own _ _ _ _ _ (c.in_ok-write.ensures.tokens ∙ ap (λ l. l ++ sources_tokens own) (c.in_ok-begin_object-2.ensures.ok ∙ ap (λ l. l ++ begin_object ∷ []) (c.in_ok-key.ensures.ok ∙ ap (λ l. l ++ key (codes "sources") ∷ []) (c.in_ok-begin_object.ensures.ok ∙ ap (λ l. l ++ begin_object ∷ []) c.new-out.ensures.tokens)))) c.in_ok-end_object.ensures.ok c.in_ok-key-2.ensures.ok c.in_ok-u64.ensures.ok c.in_ok-end_object-2.ensures.ok in
    let before = c.end_object-2.ensures.room.0 ∙ c.u64.ensures.room.0 ∙ c.key-2.ensures.room.0 ∙ c.end_object.ensures.room.0 ∙ c.in_ok-write.ensures.before ∙ c.begin_object-2.ensures.room.0 ∙ c.key.ensures.room.0 ∙ c.begin_object.ensures.room.0 ∙ c.new-out.ensures.before ∙ c.new.ensures.items in
    let bytes = rw c.unwrap-text.ensures at c.from_utf8.ensures.ok in
    let same : string_bytes c.unwrap-text.result ≡ c.into_inner.result.items = cc bytes in
    let text = c.from_string.ensures ∙ same ∙ c.into_inner.ensures.items ∙ ap₂ (λ a b. a ++ print b) before tokens ∙ print-summary own in
    let summary = subst AreListed c.self.view_is c.self.invariant in record {
      text = text;
      cover_text = record { summary = own; is_summary = summary; exact = λ _ _. refl; written = text };
      summary = summary;
    }
