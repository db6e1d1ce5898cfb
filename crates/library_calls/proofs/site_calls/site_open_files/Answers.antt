use Rattle.std.proofs.Common.{rules}
use Rattle.library_calls.proofs.site_calls.site_open_files.Goals as goal

pub returns-in-Ok : goal.returns-in-Ok
returns-in-Ok c = record {
  opened = λ _. (c.in-Ok.durable, c.of.ensures.site, c.in-Ok.ensures.ok, c.arrived-reply.ensures.count);
  refused = λ h. elim (h (search rules)) [ ];
  text = c.of.ensures.text;
  none = search rules;
  length_is = search rules;
}
