use Rattle.std.proofs.Common.{◌≡◌, false, take}
use Rattle.block_digests.specs.Block as spec
use Rattle.block_digests.proofs.block.has_block.Given as goal

-- none so far
abbrev pub invariant-loop-i : goal.invariant-loop-i
invariant-loop-i l = spec.has_block (take l.i l.events) l.source l.k ≡ false
