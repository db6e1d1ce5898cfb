use Rattle.std.proofs.Common.{◌≡◌, ◌∙◌, ◌∷◌, ◌++◌, [], ℕ, List, Option, None, Some, ap, ap₂, sym, append_assoc, string_bytes}
use Rattle.std.specs.Option.{option_map}
use Rattle.attributes.specs.Event.{direct, given_member, json_of, scalar_of}
use Rattle.attributes.specs.steps.Given.{lent_of}
use Rattle.attributes.specs.steps.ObjectText.{pending, with_members}
use Rattle.attributes.specs.steps.Place.{drafted}
use Rattle.attributes.specs.declared.body.Attribute.{Attribute}
use Rattle.attributes.specs.declared.scalar.Given.{Given}
use Rattle.attributes.specs.declared.scalar.Given.TheVariants as given
use Rattle.attributes.specs.declared.scalar.Scalar.{Scalar}
use Rattle.attributes.proofs.canonical.push_next.Goals as goal

none_given : (name : List ℕ) (g : Given) (rest : List (List ℕ × Scalar)) → lent_of g ≡ None → rest ≡ given_member name g rest
none_given name (given.Flag b) rest h = cc
none_given name (given.Whole z) rest h = cc
none_given name (given.Words t) rest h = cc
none_given name given.Other rest h = cc

one_given : (name : List ℕ) (g : Given) (s : Scalar) (rest : List (List ℕ × Scalar)) → lent_of g ≡ Some s → (name, s) ∷ rest ≡ given_member name g rest
one_given name (given.Flag b) s rest h = cc
one_given name (given.Whole z) s rest h = cc
one_given name (given.Words t) s rest h = cc
one_given name given.Other s rest h = cc

pub returns-in_default-clause-text : goal.returns-in_default-clause-text
returns-in_default-clause-text c = λ d rest _.
    let none : lent_of c.args.given.now ≡ None = sym c.lent.ensures ∙ ap (λ (o : Option Attribute). option_map scalar_of o) c.in_default.is in
    ap (λ (xs : List (List ℕ × Scalar)). with_members c.args.draft.now (pending c.args.waiting c.args.payload.now.name.now d (direct xs))) (none_given c.args.name.now c.args.given.now rest none)

pub returns-in_default-clause-shows : goal.returns-in_default-clause-shows
returns-in_default-clause-shows c = λ rest.
    let none : lent_of c.args.given.now ≡ None = sym c.lent.ensures ∙ ap (λ (o : Option Attribute). option_map scalar_of o) c.in_default.is in
    ap (λ (xs : List (List ℕ × Scalar)). drafted c.args.draft.now ++ xs) (none_given c.args.name.now c.args.given.now rest none)

pub returns-clause-text : goal.returns-clause-text
returns-clause-text c = λ d rest waiting.
    let s = scalar_of c.in-Some.value in
    let k = c.args.payload.now.name.now in
    let one : lent_of c.args.given.now ≡ Some s = sym c.lent.ensures ∙ ap (λ (o : Option Attribute). option_map scalar_of o) c.in-Some.is in
    c.in_ok-push_member.ensures.text (pending c.in_ok-waits.waits k d (direct rest))
    ∙ (c.in_ok-waits.ensures.text d (json_of s) (direct rest) waiting
    ∙ ap (λ (xs : List (List ℕ × Scalar)). with_members c.args.draft.now (pending c.args.waiting k d (direct xs))) (one_given c.args.name.now c.args.given.now s rest one))

pub returns-clause-shows : goal.returns-clause-shows
returns-clause-shows c = λ rest.
    let s = scalar_of c.in-Some.value in
    let one : lent_of c.args.given.now ≡ Some s = sym c.lent.ensures ∙ ap (λ (o : Option Attribute). option_map scalar_of o) c.in-Some.is in
    ap (λ (xs : List (List ℕ × Scalar)). xs ++ rest) c.in_ok-push_member.ensures.shows
    ∙ (append_assoc (drafted c.push_before.new.draft) ((c.args.name.now, s) ∷ []) rest
    ∙ ap₂ (λ (xs ys : List (List ℕ × Scalar)). xs ++ ys) c.in_ok-waits.ensures.shows (one_given c.args.name.now c.args.given.now s rest one))

pub returns-clause-payload : goal.returns-clause-payload
returns-clause-payload c = λ holds. c.in_ok-push_member.ensures.payload c.in_ok-waits.waits (string_bytes c.args.payload.now.json) (c.in_ok-waits.ensures.payload holds)
