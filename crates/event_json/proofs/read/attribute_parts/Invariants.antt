-- The entries that were taken are set, from the last one on, and nothing is offered as data.
use Rattle.std.proofs.Common.{◌≡◌, ◌++◌, List}
use Rattle.attributes.specs.declared.content.Offered.TheVariants.{Nothing}
use Rattle.event_json.proofs.SpellingLemmas.{Entry, set_all}
use Rattle.event_json.proofs.read.attribute_parts.Given as goal

abbrev pub invariant-loop-name : goal.invariant-loop-name
invariant-loop-name l = record {
  taken : List Entry;
  entries : l.fn.members.entries ≡ l.name-iterator.iter ++ taken;
  set : l.parts.members ≡ set_all taken;
  offered : l.parts.offered ≡ Nothing;
}
