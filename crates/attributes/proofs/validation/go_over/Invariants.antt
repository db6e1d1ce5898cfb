use Rattle.std.proofs.Common.{◌≡◌, ◌&&◌}
use Rattle.std.specs.Prelude.{codes}
use Rattle.std.specs.List.{list_all}
use Rattle.std.specs.Option.{option_copied, option_or}
use Rattle.attributes.specs.Character.{is_name}
use Rattle.attributes.specs.Fault.{is_attribute}
use Rattle.attributes.specs.Members.{named, value_at}
use Rattle.attributes.proofs.validation.go_over.Given as goal

abbrev pub invariant-loop-name : goal.invariant-loop-name
invariant-loop-name l = record {
  by_names : (l.found.names && list_all (λ m. is_name m.0) (named l.name-iterator)) ≡ list_all (λ m. is_name m.0) (named l.members.entries);
  by_values : (l.found.values && list_all (λ m. is_attribute m.1) (named l.name-iterator)) ≡ list_all (λ m. is_attribute m.1) (named l.members.entries);
  version : option_or (option_copied l.found.version) (value_at (codes "specversion") (named l.name-iterator)) ≡ value_at (codes "specversion") (named l.members.entries);
  id : option_or (option_copied l.found.id) (value_at (codes "id") (named l.name-iterator)) ≡ value_at (codes "id") (named l.members.entries);
  source : option_or (option_copied l.found.source) (value_at (codes "source") (named l.name-iterator)) ≡ value_at (codes "source") (named l.members.entries);
  kind : option_or (option_copied l.found.kind) (value_at (codes "type") (named l.name-iterator)) ≡ value_at (codes "type") (named l.members.entries);
  subject : option_or (option_copied l.found.subject) (value_at (codes "subject") (named l.name-iterator)) ≡ value_at (codes "subject") (named l.members.entries);
  time : option_or (option_copied l.found.time) (value_at (codes "time") (named l.name-iterator)) ≡ value_at (codes "time") (named l.members.entries);
  content_type : option_or (option_copied l.found.content_type) (value_at (codes "datacontenttype") (named l.name-iterator)) ≡ value_at (codes "datacontenttype") (named l.members.entries);
  schema : option_or (option_copied l.found.schema) (value_at (codes "dataschema") (named l.name-iterator)) ≡ value_at (codes "dataschema") (named l.members.entries);
}
