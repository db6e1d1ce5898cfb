-- Codes of what an event and its parts are made of, by which a proof tells them apart: a kind and
-- what each kind holds.
use Rattle.std.specs.Prelude.{◌≡◌, ℕ, ◌==◌, ℤ, pos, List, [], Bool, false, cond, refl}
use Rattle.std.specs.Coded.{Coded, code_by, coded×, coded_list, coded_ℕ, coded_ℤ, coded_bool}
use Rattle.serde_json.specs.Data.{Data, null}
use Rattle.attributes.specs.TreeCode.{tree_code}
use Rattle.attributes.specs.Event.{EventValue, OfferValue}
use Rattle.attributes.specs.declared.scalar.Scalar.{Scalar}
use Rattle.attributes.specs.declared.scalar.Scalar.TheVariants as scalar
use Rattle.attributes.specs.declared.scalar.Given.{Given}
use Rattle.attributes.specs.declared.scalar.Given.TheVariants as given
use Rattle.attributes.specs.declared.content.Content.{Content}
use Rattle.attributes.specs.declared.content.Content.TheVariants as content
use Rattle.attributes.specs.declared.content.Offered.{Offered}
use Rattle.attributes.specs.declared.content.Offered.TheVariants as offered

-- of an attribute's value: a kind, a truth value, a whole number and a text
abbrev Plain : Type 0
Plain = ℕ × (Bool × (ℤ × List ℕ))

-- the code of an attribute value's kind, truth value, whole number and text
abbrev plain_code : Coded Plain
plain_code = coded× coded_ℕ (coded× coded_bool (coded× coded_ℤ (coded_list coded_ℕ)))

-- the kind of an attribute's value, and what it holds
abbrev scalar_parts : Scalar → Plain
scalar_parts (scalar.Flag b) = (0, (b, (pos 0, [])))
scalar_parts (scalar.Whole z) = (1, (false, (z, [])))
scalar_parts (scalar.Words t) = (2, (false, (pos 0, t)))

-- the attribute's value again, from its kind and what it holds
abbrev scalar_from : Plain → Scalar
scalar_from p =
    cond (p.0 == 0) (scalar.Flag p.1.0)
    (cond (p.0 == 1) (scalar.Whole p.1.1.0) (scalar.Words p.1.1.1))

pub scalar_back : (s : Scalar) → scalar_from (scalar_parts s) ≡ s
scalar_back (scalar.Flag b) = refl
scalar_back (scalar.Whole z) = refl
scalar_back (scalar.Words t) = refl

-- the code of attributes' values
abbrev pub scalar_code : Coded Scalar
scalar_code = code_by Plain plain_code scalar_parts scalar_from scalar_back

-- the kind of what is given for an attribute, and what it holds
abbrev given_parts : Given → Plain
given_parts (given.Flag b) = (0, (b, (pos 0, [])))
given_parts (given.Whole z) = (1, (false, (z, [])))
given_parts (given.Words t) = (2, (false, (pos 0, t)))
given_parts given.Other = (3, (false, (pos 0, [])))

-- what was given for an attribute again
abbrev given_from : Plain → Given
given_from p =
    cond (p.0 == 0) (given.Flag p.1.0) (cond (p.0 == 1) (given.Whole p.1.1.0)
    (cond (p.0 == 2) (given.Words p.1.1.1) given.Other))

pub given_back : (g : Given) → given_from (given_parts g) ≡ g
given_back (given.Flag b) = refl
given_back (given.Whole z) = refl
given_back (given.Words t) = refl
given_back given.Other = refl

-- the code of what is given for an attribute
abbrev pub given_code : Coded Given
given_code = code_by Plain plain_code given_parts given_from given_back

-- of an event's data: a kind, a tree and bytes
abbrev Payload : Type 0
Payload = ℕ × (Data × List ℕ)

-- the code of an event data's kind, tree and bytes
abbrev payload_code : Coded Payload
payload_code = coded× coded_ℕ (coded× tree_code (coded_list coded_ℕ))

-- the kind of an event's content, and what it holds
abbrev content_parts : Content → Payload
content_parts content.Nothing = (0, (null, []))
content_parts (content.Tree d) = (1, (d, []))
content_parts (content.Bytes b) = (2, (null, b))

-- the event's content again, from its kind and what it holds
abbrev content_from : Payload → Content
content_from p =
    cond (p.0 == 0) content.Nothing
    (cond (p.0 == 1) (content.Tree p.1.0) (content.Bytes p.1.1))

pub content_back : (c : Content) → content_from (content_parts c) ≡ c
content_back content.Nothing = refl
content_back (content.Tree d) = refl
content_back (content.Bytes b) = refl

-- the code of events' contents
abbrev pub content_code : Coded Content
content_code = code_by Payload payload_code content_parts content_from content_back

-- the kind of what is offered as an event's data, and what it holds
abbrev offered_parts : Offered → Payload
offered_parts offered.Nothing = (0, (null, []))
offered_parts (offered.Tree d) = (1, (d, []))
offered_parts (offered.Bytes b) = (2, (null, b))
offered_parts offered.Both = (3, (null, []))
offered_parts offered.Undecodable = (4, (null, []))

-- what was offered as an event's data again
abbrev offered_from : Payload → Offered
offered_from p =
    cond (p.0 == 0) offered.Nothing (cond (p.0 == 1) (offered.Tree p.1.0)
    (cond (p.0 == 2) (offered.Bytes p.1.1) (cond (p.0 == 3) offered.Both offered.Undecodable)))

pub offered_back : (o : Offered) → offered_from (offered_parts o) ≡ o
offered_back offered.Nothing = refl
offered_back (offered.Tree d) = refl
offered_back (offered.Bytes b) = refl
offered_back offered.Both = refl
offered_back offered.Undecodable = refl

-- the code of what is offered as an event's data
abbrev pub offered_code : Coded Offered
offered_code = code_by Payload payload_code offered_parts offered_from offered_back

-- the code of event values
abbrev pub event_code : Coded EventValue
event_code =
    code_by (List (List ℕ × Scalar) × Content)
    (coded× (coded_list (coded× (coded_list coded_ℕ) scalar_code)) content_code)
    (λ e. (e.attributes, e.content)) (λ p. record { attributes = p.0; content = p.1 }) (λ _. refl)

-- the code of an event's parts
abbrev pub offer_code : Coded OfferValue
offer_code =
    code_by (List (List ℕ × Given) × Offered)
    (coded× (coded_list (coded× (coded_list coded_ℕ) given_code)) offered_code)
    (λ p. (p.members, p.offered)) (λ p. record { members = p.0; offered = p.1 }) (λ _. refl)
