use Rattle.std.proofs.Common.{◌≡◌, [], ◌∷◌, ◌++◌, ap, ap₂, ◌∙◌, string_bytes}
use Rattle.std.specs.Prelude.{decimal}
use Rattle.json.specs.Token.{begin_array, end_array, string, number}
use Rattle.json.specs.Print.{print}
use Rattle.views.proofs.LineLemmas.{print-day}
use Rattle.parts.proofs.days.row_text.Goals as goal

pub returns : goal.returns
returns c =
    let before = c.end_array.ensures.room.0 ∙ c.u64.ensures.room.0 ∙ c.string-2.ensures.room.0 ∙ c.string.ensures.room.0 ∙ c.begin_array.ensures.room.0 ∙ c.new-out.ensures.before ∙ c.new.ensures.items in
    let tokens = (c.in_ok-end_array.ensures.ok ∙ ap (λ l. l ++ end_array ∷ []) (c.in_ok-u64.ensures.ok ∙ ap (λ l. l ++ number (decimal c.args.count) ∷ []) (c.in_ok-string-2.ensures.ok ∙ ap (λ l. l ++ string c.args.day.now ∷ []) (c.in_ok-string.ensures.ok ∙ ap (λ l. l ++ string c.args.kind.now ∷ []) (c.in_ok-begin_array.ensures.ok ∙ ap (λ l. l ++ begin_array ∷ []) c.new-out.ensures.tokens))))) in
    let bytes = rw c.unwrap-text.ensures at c.from_utf8.ensures.ok in
    let same : string_bytes c.unwrap-text.result ≡ c.into_inner.result.items = cc bytes in
    c.from_string.ensures ∙ same ∙ c.into_inner.ensures.items ∙ ap₂ (λ a b. a ++ print b) before tokens ∙ print-day c.args.kind.now c.args.day.now c.args.count
