use Rattle.std.proofs.Common.{rules}
use Rattle.turn_lock.proofs.StepLemmas.{splits_note}
use Rattle.turn_lock.proofs.turnstile.Turnstile.note.Goals as goal

pub split_seat-requires : goal.split_seat-requires
split_seat-requires g c = (search rules, search rules, splits_note _ _ _ _ _ _)
