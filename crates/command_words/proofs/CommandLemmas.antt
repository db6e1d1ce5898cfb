-- The table of the commands, in the order of help.
use Rattle.std.proofs.Common.{◌≡◌, ℕ, List, [], ◌∷◌, refl}
use Rattle.std.specs.Prelude.{Some, slice_get}
use Rattle.command_words.specs.declared.command.Command.{Command}
use Rattle.command_words.specs.declared.command.Command.TheVariants.{Arrivals, Ask, Check, Combine, Delta, Follow, Number, Order, Part, Relay, Run, Scrub, Service, Summary, Take}
use Rattle.views.specs.declared.query.Query.TheVariants.{Conflicts, Cover, Days, Gaps, Kinds, Latest, Shown}

abbrev pub all : List Command
all =
    Ask Cover ∷ Ask Gaps ∷ Ask Shown ∷ Ask Latest ∷ Ask Kinds ∷ Ask Days ∷ Ask Conflicts ∷ Check ∷ Take ∷ Follow ∷ Summary
    ∷ Delta ∷ Scrub ∷ Arrivals ∷ Run ∷ Service ∷ Order ∷ Relay ∷ Number ∷ Part ∷ Combine ∷ []

-- each command has a place there
pub place_of : (command : Command) → (i : ℕ) × (slice_get all i ≡ Some command)
place_of (Ask Cover) = (0, refl)
place_of (Ask Gaps) = (1, refl)
place_of (Ask Shown) = (2, refl)
place_of (Ask Latest) = (3, refl)
place_of (Ask Kinds) = (4, refl)
place_of (Ask Days) = (5, refl)
place_of (Ask Conflicts) = (6, refl)
place_of Check = (7, refl)
place_of Take = (8, refl)
place_of Follow = (9, refl)
place_of Summary = (10, refl)
place_of Delta = (11, refl)
place_of Scrub = (12, refl)
place_of Arrivals = (13, refl)
place_of Run = (14, refl)
place_of Service = (15, refl)
place_of Order = (16, refl)
place_of Relay = (17, refl)
place_of Number = (18, refl)
place_of Part = (19, refl)
place_of Combine = (20, refl)
