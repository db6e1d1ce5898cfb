use Rattle.std.proofs.Common.{◌≡◌, [], ◌∷◌, ◌++◌, ap, ap₂, ◌∙◌, string_bytes}
use Rattle.json.specs.Token.{string}
use Rattle.json.specs.Print.{print}
use Rattle.views.proofs.LineLemmas.{print-string}
use Rattle.views.proofs.line.string_text.Goals as goal

pub returns : goal.returns
returns c =
    let before = c.string.ensures.room.0 ∙ c.new-out.ensures.before ∙ c.new.ensures.items in
    let tokens = (c.in_ok-string.ensures.ok ∙ ap (λ l. l ++ string c.args.words.now ∷ []) c.new-out.ensures.tokens) in
    let bytes = rw c.unwrap-text.ensures at c.from_utf8.ensures.ok in
    let same : string_bytes c.unwrap-text.result ≡ c.into_inner.result.items = cc bytes in
    c.from_string.ensures ∙ same ∙ c.into_inner.ensures.items ∙ ap₂ (λ a b. a ++ print b) before tokens ∙ print-string c.args.words.now
