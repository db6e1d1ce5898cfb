use Rattle.std.proofs.Common.{◌≡◌, ◌++◌, true, string_bytes}
use Rattle.std.specs.List.{list_all}
use Rattle.serde_json.specs.Data.{Data}
use Rattle.serde_json.specs.Written.{compact_text}
use Rattle.attributes.specs.Character.{is_name}
use Rattle.attributes.specs.Event.{scalars_of, direct}
use Rattle.attributes.specs.Members.{named}
use Rattle.attributes.specs.steps.Place.{HasPlaces, HoldsPayload, drafted}
use Rattle.attributes.specs.steps.ObjectText.{onto, pending}
use Rattle.attributes.proofs.canonical.push_members.Given as goal

abbrev pub invariant-loop-name : goal.invariant-loop-name
invariant-loop-name l = record {
  waits : l.waiting ≡ true → l.payload.is_there ≡ true;
  names : list_all (λ m. is_name m.0) (named l.name-iterator) ≡ true;
  text : (d : Data) → (l.payload.is_there ≡ true → string_bytes l.payload.json ≡ compact_text d) → onto (string_bytes l.draft.text) (pending l.waiting l.payload.name.now d (direct (scalars_of (named l.name-iterator)))) ≡ onto (string_bytes l.fn.draft.text) (pending l.payload.is_there l.payload.name.now d (direct (scalars_of (named l.members.entries))));
  shows : drafted l.draft ++ scalars_of (named l.name-iterator) ≡ drafted l.fn.draft ++ scalars_of (named l.members.entries);
  places : HasPlaces l.draft;
  payload : HoldsPayload l.payload.is_there (string_bytes l.payload.json) l.fn.draft → HoldsPayload l.waiting (string_bytes l.payload.json) l.draft;
}
