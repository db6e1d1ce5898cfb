-- What is given as the value of an attribute, as its tests look at it.
use Rattle.std.specs.Prelude.{◌≡◌, ℕ, List, ◌∷◌, Bool, true, Option, Some, None}
use Rattle.std.specs.Option.{option_or}
use Rattle.attributes.specs.Fault.{is_attribute}
use Rattle.attributes.specs.Members.{value_at}
use Rattle.attributes.specs.declared.scalar.Scalar.{Scalar}
use Rattle.attributes.specs.declared.scalar.Scalar.TheVariants as scalar
use Rattle.attributes.specs.declared.scalar.Given.{Given}
use Rattle.attributes.specs.declared.scalar.Given.TheVariants as given

-- what is given for an attribute, as the attribute
abbrev pub lent_of : Given → Option Scalar
lent_of (given.Flag b) = Some (scalar.Flag b)
lent_of (given.Whole z) = Some (scalar.Whole z)
lent_of (given.Words t) = Some (scalar.Words t)
lent_of given.Other = None

-- what is given for an attribute, where it is a text
abbrev pub given_words : Option Given → Option (List ℕ)
given_words (Some (given.Words t)) = Some t
given_words _ = None

-- where something is given for an attribute's name, it may be an attribute
abbrev pub is_allowed_value : Option Given → Bool
is_allowed_value None = true
is_allowed_value (Some g) = is_attribute g

-- of an attribute's name that is sought: what was found before, or else at a name with what is given
-- there, is what is found after it, whatever members stand behind
abbrev pub FindsAt : List ℕ → List ℕ → Given → Option Given → Option Given → Type 0
FindsAt sought name given before after =
    (rest : List (List ℕ × Given)) → option_or after (value_at sought rest)
    ≡ option_or before (value_at sought ((name, given) ∷ rest))
