-- What a seed hashes by.
use Rattle.std.specs.declared.hash.DefaultHasher.{DefaultHasher}
use Rattle.std.specs.Hash.DefaultHasher.{initial}
use Rattle.std.specs.Option.{option_map_or}
use Rattle.std.specs.RandomState.{initial_hasher}
use Rattle.kept_views.specs.declared.seed.Seed.{Seed}

-- the hasher of the kept views' seed: that of its random state, else the one that everybody knows
abbrev pub hasher_of : Seed → DefaultHasher
hasher_of seed = option_map_or initial_hasher seed.state initial
