use Rattle.std.proofs.Common.{List, ℕ, ◌++◌, ap₂, ◌∙◌}
use Rattle.site_commands.proofs.line.made_lines.Goals as goal

pub returns : goal.returns
returns c =
    c.from_string.ensures ∙ c.in_ok-push_str-2.ensures.bytes
    ∙ ap₂ (λ (a b : List ℕ). a ++ b)
    (c.in_ok-push_str.ensures.bytes ∙ ap₂ (λ (a b : List ℕ). a ++ b) c.new-lines.ensures.bytes (c.as_str.ensures ∙ c.in_ok-file.ensures))
    (c.as_str-2.ensures ∙ c.in_ok-service.ensures)
