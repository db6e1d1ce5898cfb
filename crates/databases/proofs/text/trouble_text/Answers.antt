use Rattle.std.proofs.Common.{◌≡◌, ◌∙◌, ◌++◌, ap, ap₂, string_bytes}
use Rattle.json.specs.Print.{print}
use Rattle.databases.specs.steps.Tokens.{trouble_tokens}
use Rattle.databases.proofs.PrintLemmas.{print-trouble}
use Rattle.databases.proofs.text.trouble_text.Goals as goal

pub returns : goal.returns
returns c =
    let before = c.in_ok-write_trouble.ensures.0 ∙ c.new-out.ensures.before ∙ c.new.ensures.items in
    let tokens = c.in_ok-write_trouble.ensures.1 ∙ ap (λ l. l ++ trouble_tokens c.args.name.now c.args.fault.now c.args.hint.now) c.new-out.ensures.tokens in
    let bytes = rw c.unwrap-text.ensures at c.from_utf8.ensures.ok in
    let same : string_bytes c.unwrap-text.result ≡ c.into_inner.result.items = cc bytes in
    same ∙ c.into_inner.ensures.items ∙ ap₂ (λ a b. a ++ print b) before tokens ∙ print-trouble c.args.name.now c.args.fault.now c.args.hint.now
