-- The laws of events and of exact JSON that the proofs on batch texts rest on; `attributes` has
-- each on a public function.
use Rattle.std.proofs.Common.{◌≡◌, ◌≤◌, true, Some}
use Rattle.std.specs.List.{AllByRecursion}
use Rattle.serde_json.specs.Data.{Data, depth, members_depth, object}
use Rattle.serde_json.specs.Read.{max_depth, read}
use Rattle.serde_json.specs.Written.{compact_text}
use Rattle.attributes.specs.Character.{is_name}
use Rattle.attributes.specs.Event.{EventValue, members_of, with_content, direct}
use Rattle.attributes.specs.Exact.{IsExact}
use Rattle.attributes.specs.Fault.{IsEvent, given_of, is_attribute}

pub record Laws : Type 0 where
  pub members : (e : EventValue) → IsEvent e → members_of e ≡ with_content e.content (direct e.attributes)
  pub names : (e : EventValue) → IsEvent e → AllByRecursion (λ a. is_name a.0 ≡ true) e.attributes
  pub values : (e : EventValue) → IsEvent e → AllByRecursion (λ a. is_attribute (given_of a.1) ≡ true) e.attributes
  pub exact : (e : EventValue) → IsEvent e → IsExact (object (members_of e))
  pub shallow : (e : EventValue) → IsEvent e → members_depth (members_of e) ≤ 120
  pub reads : (d : Data) → IsExact d → depth d ≤ max_depth → read (compact_text d) ≡ Some d
