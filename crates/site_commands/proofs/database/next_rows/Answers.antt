use Rattle.std.proofs.Common.{◌≡◌, ◌≤◌, ◌∙◌, ℕ, List, ap, sym, subst, refl, arith, length, true}
use Rattle.std.specs.Prelude.{codes}
use Rattle.std.specs.Str.{chars}
use Rattle.attributes.specs.Character.{is_filled}
use Rattle.site_commands.proofs.database.next_rows.Goals as goal

filled : is_filled (codes "/orders") ≡ true
unfolding chars
filled = refl

pub relay-requires : goal.relay-requires
relay-requires g c =
    let same : c.in-Ok.source ≡ codes "/orders" = c.in-Ok.ensures in
    (ap is_filled same ∙ filled, subst (λ (t : List ℕ). length t ≤ 1024) (sym same) (omega arith))
