use Rattle.std.proofs.Common.{◌≡◌, ◌∙◌, ℕ, Bool, true, List, Option, ap, sym}
use Rattle.std.specs.Prelude.{codes}
use Rattle.std.specs.List.{list_all}
use Rattle.attributes.specs.Fault.{is_attribute}
use Rattle.attributes.specs.Members.{named, value_at}
use Rattle.attributes.specs.declared.scalar.Given.{Given}
use Rattle.attributes.specs.steps.Given.{is_allowed_value}
use Rattle.attributes.proofs.FaultLemmas.{value_at-passes}
use Rattle.attributes.proofs.validation.first_member_fault.Goals as goal

-- what was found at a name may be an attribute, where all values pass
allowed : (name : List ℕ) (ms : List (List ℕ × Given)) (found : Option Given) (values : Bool) → found ≡ value_at name ms → values ≡ list_all (λ m. is_attribute m.1) ms → values ≡ true → is_allowed_value found ≡ true
allowed name ms found values is all passed = ap is_allowed_value is ∙ value_at-passes name ms (sym all ∙ passed)

pub is_filled_text-requires : goal.is_filled_text-requires
is_filled_text-requires c = allowed (codes "id") (named c.args.members.now.entries) _ _ c.go_over-found.ensures.id c.go_over-found.ensures.values

pub is_filled_text-requires-2 : goal.is_filled_text-requires-2
is_filled_text-requires-2 c = allowed (codes "source") (named c.args.members.now.entries) _ _ c.go_over-found.ensures.source c.go_over-found.ensures.values

pub is_filled_text-requires-3 : goal.is_filled_text-requires-3
is_filled_text-requires-3 c = allowed (codes "type") (named c.args.members.now.entries) _ _ c.go_over-found.ensures.kind c.go_over-found.ensures.values

pub is_allowed_text-requires : goal.is_allowed_text-requires
is_allowed_text-requires c = allowed (codes "subject") (named c.args.members.now.entries) _ _ c.go_over-found.ensures.subject c.go_over-found.ensures.values

pub is_allowed_text-requires-2 : goal.is_allowed_text-requires-2
is_allowed_text-requires-2 c = allowed (codes "datacontenttype") (named c.args.members.now.entries) _ _ c.go_over-found.ensures.content_type c.go_over-found.ensures.values

pub is_allowed_text-requires-3 : goal.is_allowed_text-requires-3
is_allowed_text-requires-3 c = allowed (codes "dataschema") (named c.args.members.now.entries) _ _ c.go_over-found.ensures.schema c.go_over-found.ensures.values
