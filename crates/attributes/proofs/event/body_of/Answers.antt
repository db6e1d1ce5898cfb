use Rattle.std.proofs.Common.{◌∙◌, ℕ, List, ◌≡◌, true, length, ap, sym, subst, arith, IsUtf8}
use Rattle.std.proofs.lemmas.Str.{IsUtf8-string_bytes}
use Rattle.std.specs.Prelude.{codes, string_bytes}
use Rattle.attributes.specs.Character.{is_filled}
use Rattle.attributes.specs.Event.{words_or_empty}
use Rattle.attributes.specs.Members.{named, value_at}
use Rattle.attributes.specs.declared.scalar.Scalar.{Scalar}
use Rattle.attributes.proofs.BuildLemmas.{ordered_scalars}
use Rattle.attributes.proofs.FaultLemmas.{given_words-or_empty, kind_passes, names_pass, values_pass}
use Rattle.attributes.proofs.event.body_of.Goals as goal

pub canonical-requires-clause-ordered : goal.canonical-requires-clause-ordered
canonical-requires-clause-ordered c = λ order. ordered_scalars (named c.args.members.now.entries) c.requires.members order

pub canonical-requires-clause-named : goal.canonical-requires-clause-named
canonical-requires-clause-named c = names_pass (named c.args.members.now.entries) c.requires.members

pub returns-clause-text : goal.returns-clause-text
returns-clause-text c = λ content is. c.in_ok-sealed.ensures.text ∙ c.in_ok-draft.ensures.text content is

pub returns-clause-short : goal.returns-clause-short
returns-clause-short c = omega (arith, c.if-len-gt-MAX_TEXT.false, c.len.ensures, ap (λ (t : List ℕ). length t) c.in_ok-sealed.ensures.text)

pub returns-clause-utf8 : goal.returns-clause-utf8
returns-clause-utf8 c = subst IsUtf8 (sym c.in_ok-sealed.ensures.text) (IsUtf8-string_bytes c.in_ok-draft.draft.text)

pub returns-clause-shows : goal.returns-clause-shows
returns-clause-shows c = c.in_ok-sealed.ensures.shows ∙ c.in_ok-draft.ensures.shows

pub returns-clause-source : goal.returns-clause-source
returns-clause-source c =
    let ms = named c.args.members.now.entries in
    c.in_ok-sealed.ensures.source ∙ (c.words_or_empty_at-source.ensures ∙ given_words-or_empty (codes "source") ms (values_pass ms c.requires.members))

pub returns-clause-id : goal.returns-clause-id
returns-clause-id c =
    let ms = named c.args.members.now.entries in
    c.in_ok-sealed.ensures.id ∙ (c.words_or_empty_at-id.ensures ∙ given_words-or_empty (codes "id") ms (values_pass ms c.requires.members))

pub returns-clause-kind : goal.returns-clause-kind
returns-clause-kind c = c.in_ok-sealed.ensures.kind ∙ ap (λ (a : List (List ℕ × Scalar)). words_or_empty (value_at (codes "type") a)) c.in_ok-draft.ensures.shows

pub sealed-requires-clause-kind : goal.sealed-requires-clause-kind
sealed-requires-clause-kind c =
    subst (λ (a : List (List ℕ × Scalar)). is_filled (words_or_empty (value_at (codes "type") a)) ≡ true) (sym c.in_ok-draft.ensures.shows)
    (kind_passes (named c.args.members.now.entries) c.requires.members)

pub sealed-requires-clause-payload : goal.sealed-requires-clause-payload
sealed-requires-clause-payload c = (string_bytes c.args.payload.now.json, c.in_ok-draft.ensures.payload)

pub returns-clause-payload : goal.returns-clause-payload
returns-clause-payload c = c.in_ok-sealed.ensures.payload (string_bytes c.args.payload.now.json) c.in_ok-draft.ensures.payload
