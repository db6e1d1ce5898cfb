-- Lines, one after another.
use Rattle.std.proofs.Common.{◌≡◌, List, [], ◌∷◌, ◌++◌, refl, sym, ap, ◌∙◌, append_assoc}
use Rattle.attributes.specs.Event.{EventValue, text}
use Rattle.block_digests.specs.Block.{lines}

pub lines-append : (E F : List EventValue) → lines (E ++ F) ≡ lines E ++ lines F
unfolding lines
lines-append [] F = refl
lines-append (e ∷ E) F = ap (λ l. text e ++ 10 ∷ l) (lines-append E F) ∙ sym (append_assoc (text e) (10 ∷ lines E) (lines F))
