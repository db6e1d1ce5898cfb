use Rattle.std.proofs.Common.{◌≡◌, ◌∙◌, ◌++◌, ap, ap₂, string_bytes}
use Rattle.json.specs.Print.{print}
use Rattle.databases.specs.steps.Tokens.{service_tokens}
use Rattle.databases.proofs.PrintLemmas.{print-service}
use Rattle.databases.proofs.text.service_text.Goals as goal

pub returns : goal.returns
returns c =
    let before = c.in_ok-write_service.ensures.0 ∙ c.new-out.ensures.before ∙ c.new.ensures.items in
    let tokens = c.in_ok-write_service.ensures.1 ∙ ap (λ l. l ++ service_tokens c.args.source.now c.args.base c.args.orders c.args.rows) c.new-out.ensures.tokens in
    let bytes = rw c.unwrap-text.ensures at c.from_utf8.ensures.ok in
    let same : string_bytes c.unwrap-text.result ≡ c.into_inner.result.items = cc bytes in
    same ∙ c.into_inner.ensures.items ∙ ap₂ (λ a b. a ++ print b) before tokens ∙ print-service c.args.source.now c.args.base c.args.orders c.args.rows
