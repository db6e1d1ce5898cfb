use Rattle.site_commands.proofs.RefusalLemmas.{numbered_if_quiet, quiet_if_numbered}
use Rattle.site_commands.proofs.refusal.what_can_be_numbered_is_quiet.Goals as goal

pub returns : goal.returns
returns c = λ name b text t. (
  numbered_if_quiet c.readings_are_one.ensures.one c.readings_are_one.ensures.apart c.events_are_quiet.ensures name b text t,
  quiet_if_numbered c.readings_are_one.ensures.one c.readings_are_one.ensures.apart c.events_are_quiet.ensures name b text t,
)
