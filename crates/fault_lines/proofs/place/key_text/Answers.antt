use Rattle.std.proofs.lemmas.Str.{IsUtf8-past_char}
use Rattle.std.proofs.lemmas.List.{nil_from_length}
use Rattle.fault_lines.proofs.PlaceLemmas.{key_text-end, key_text-next}
use Rattle.fault_lines.proofs.place.key_text.Goals as goal

pub loop-c-preserved : goal.loop-c-preserved
loop-c-preserved c =
    let parts = c.in-Some.ensures.steps.0 in
    record {
      text = IsUtf8-past_char _ _ c.in-Some.c c.loop-c.invariant.text parts;
      pushed = key_text-next _ _ _ _ _ c.in-Some.c c.in_ok-push_key_char.ensures c.loop-c.invariant.text parts c.loop-c.invariant.pushed;
    }

pub returns : goal.returns
returns c = key_text-end _ _ _ (nil_from_length _ c.in-None.ensures.steps.0.0) c.loop-c.invariant.pushed
