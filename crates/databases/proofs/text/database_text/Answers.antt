use Rattle.std.proofs.Common.{◌≡◌, [], ◌∷◌, ◌++◌, ap, ap₂, ◌∙◌, string_bytes}
use Rattle.std.specs.Prelude.{codes, decimal}
use Rattle.json.specs.Token.{begin_object, end_object, key, number, string}
use Rattle.json.specs.Print.{print}
use Rattle.databases.proofs.PrintLemmas.{print-database}
use Rattle.databases.proofs.text.database_text.Goals as goal

pub returns : goal.returns
returns c =
    let before = c.end_object.ensures.room.0 ∙ c.u64-3.ensures.room.0 ∙ c.key-4.ensures.room.0 ∙ c.u64-2.ensures.room.0 ∙ c.key-3.ensures.room.0 ∙ c.u64.ensures.room.0 ∙ c.key-2.ensures.room.0 ∙ c.string.ensures.room.0 ∙ c.key.ensures.room.0 ∙ c.begin_object.ensures.room.0 ∙ c.new-out.ensures.before ∙ c.new.ensures.items in
    let named = c.in_ok-string.ensures.ok ∙ ap (λ l. l ++ string c.args.name.now ∷ []) (c.in_ok-key.ensures.ok ∙ ap (λ l. l ++ key (codes "db") ∷ []) (c.in_ok-begin_object.ensures.ok ∙ ap (λ l. l ++ begin_object ∷ []) c.new-out.ensures.tokens)) in
    let counted = c.in_ok-u64.ensures.ok ∙ ap (λ l. l ++ number (decimal c.args.events) ∷ []) (c.in_ok-key-2.ensures.ok ∙ ap (λ l. l ++ key (codes "events") ∷ []) named) in
    let sourced = c.in_ok-u64-2.ensures.ok ∙ ap (λ l. l ++ number (decimal c.args.sources) ∷ []) (c.in_ok-key-3.ensures.ok ∙ ap (λ l. l ++ key (codes "sources") ∷ []) counted) in
    let tokens = c.in_ok-end_object.ensures.ok ∙ ap (λ l. l ++ end_object ∷ []) (c.in_ok-u64-3.ensures.ok ∙ ap (λ l. l ++ number (decimal c.args.version) ∷ []) (c.in_ok-key-4.ensures.ok ∙ ap (λ l. l ++ key (codes "version") ∷ []) sourced)) in
    let bytes = rw c.unwrap-text.ensures at c.from_utf8.ensures.ok in
    let same : string_bytes c.unwrap-text.result ≡ c.into_inner.result.items = cc bytes in
    same ∙ c.into_inner.ensures.items ∙ ap₂ (λ a b. a ++ print b) before tokens ∙ print-database c.args.name.now c.args.events c.args.sources c.args.version
