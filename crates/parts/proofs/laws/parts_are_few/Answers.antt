use Rattle.std.proofs.Common.{mod-lt}
use Rattle.std.specs.Int.{from_be_bytes, w64}
use Rattle.std.proofs.Common.{take}
use Rattle.sha2.specs.Sha256.{sha256}
use Rattle.parts.proofs.laws.parts_are_few.Goals as goal

pub returns : goal.returns
returns c n h source = mod-lt (from_be_bytes w64 (take 8 (sha256 source))) h
