use Rattle.event_json.proofs.Laws.{Laws}
use Rattle.event_json.proofs.BatchTextLemmas.{same_batch}
use Rattle.event_json.proofs.write.batch_texts_tell_lists.Goals as goal

pub returns : goal.returns
returns c =
    let laws : Laws = record {
      members = c.objects_hold_attributes.ensures.members;
      names = c.objects_hold_attributes.ensures.names;
      values = c.objects_hold_attributes.ensures.values;
      exact = c.objects_hold_attributes.ensures.exact;
      shallow = c.objects_hold_attributes.ensures.shallow;
      reads = c.exact_json_reads_back.ensures;
    } in
    same_batch laws c.text_tells_events.ensures
