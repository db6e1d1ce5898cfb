-- Contents of files by their names, one more at a time.
use Rattle.std.proofs.Common.{List, ℕ, [], ◌∷◌, ◌++◌}
use Rattle.event_files.specs.Shelves.{AreContents}

pub AreContents-more : (R : List ℕ → List ℕ → Type 0) (names contents : List (List ℕ)) (name bytes : List ℕ)
    → AreContents R names contents → R name bytes → AreContents R (names ++ name ∷ []) (contents ++ bytes ∷ [])
AreContents-more R [] [] name bytes h r = (r, tt)
AreContents-more R [] (c ∷ cs) name bytes h r = absurd h
AreContents-more R (n ∷ ns) [] name bytes h r = absurd h
AreContents-more R (n ∷ ns) (c ∷ cs) name bytes h r = (h.0, AreContents-more R ns cs name bytes h.1 r)
