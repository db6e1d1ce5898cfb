use Rattle.std.proofs.Common.{sym}
use Rattle.attributes.specs.Fault.{IsEvent}
use Rattle.inbox.proofs.OrderLemmas.{key_cmp_total, tied_events}
use Rattle.inbox.proofs.SetLemmas.{Contains-from_has, has-from_Contains, all-in_order, has-in_order, in_order-present, sets_are_members, sorted-in_order}
use Rattle.inbox.proofs.laws.sets_are_members.Goals as goal

pub returns : goal.returns
returns c = record {
  sorted = sorted-in_order key_cmp_total;
  members = has-in_order key_cmp_total;
  are_events = all-in_order key_cmp_total IsEvent;
  is_there = λ A e. Contains-from_has key_cmp_total IsEvent (tied_events c.text_tells_events.ensures) A e;
  is_found = has-from_Contains key_cmp_total;
  again = λ A e h. sym (in_order-present key_cmp_total A e h);
  same = sets_are_members key_cmp_total IsEvent (tied_events c.text_tells_events.ensures);
}
