use Rattle.std.proofs.Common.{[], ◌∷◌, ◌++◌, map, ap, ap₂, ◌∙◌, string_bytes}
use Rattle.std.specs.Prelude.{codes}
use Rattle.std.specs.List.{join_with_byte}
use Rattle.attributes.specs.Event.{text}
use Rattle.views.specs.Line.{string_text}
use Rattle.views.proofs.LineLemmas.{conflict_pieces}
use Rattle.views.proofs.line.add_conflict.Goals as goal

pub returns : goal.returns
returns c =
    let out = string_bytes c.args.out.now in
    let texts = join_with_byte 44 (map text (map (λ e. e.now) c.args.events.now)) in
    let id = c.as_str.ensures ∙ c.in_ok-id.ensures in
    let source = c.as_str-2.ensures ∙ c.in_ok-source.ensures in
    let opened = c.in_ok-push_texts.ensures ∙ ap (λ l. l ++ texts) c.in_ok-push_str.ensures.bytes in
    let named = c.in_ok-push_str-3.ensures.bytes ∙ ap₂ (λ l t. l ++ t) (c.in_ok-push_str-2.ensures.bytes ∙ ap (λ l. l ++ codes "],\"id\":") opened) id in
    let placed = c.in_ok-push_str-5.ensures.bytes ∙ ap₂ (λ l t. l ++ t) (c.in_ok-push_str-4.ensures.bytes ∙ ap (λ l. l ++ codes ",\"source\":") named) source in
    let closed = c.in_ok-push_str-6.ensures.bytes ∙ ap (λ l. l ++ codes "}") placed in
    c.in_ok-push_str-7.ensures.bytes ∙ ap (λ l. l ++ 10 ∷ []) closed
    ∙ conflict_pieces out (codes "{\"events\":[") texts (codes "],\"id\":") (string_text c.args.id.now) (codes ",\"source\":") (string_text c.args.source.now) (codes "}") (10 ∷ [])
