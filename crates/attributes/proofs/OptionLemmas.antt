-- What an option that holds something tells of it.
use Rattle.std.proofs.Common.{◌≡◌, Some}

pub same_some : {A : Type 0} (x y : A) → Some x ≡ Some y → x ≡ y
same_some x y h = cc
