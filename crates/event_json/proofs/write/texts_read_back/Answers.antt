use Rattle.event_json.proofs.Laws.{Laws}
use Rattle.event_json.proofs.TextLemmas.{Reads-text}
use Rattle.event_json.proofs.write.texts_read_back.Goals as goal

pub returns : goal.returns
returns c =
    let laws : Laws = record {
      members = c.objects_hold_attributes.ensures.members;
      names = c.objects_hold_attributes.ensures.names;
      values = c.objects_hold_attributes.ensures.values;
      exact = c.objects_hold_attributes.ensures.exact;
      shallow = c.objects_hold_attributes.ensures.shallow;
      reads = c.exact_json_reads_back.ensures;
    } in
    Reads-text laws c.parts_make_events.ensures c.text_reads_back.ensures
