-- Tables as the code holds them, seen as contracts see them.
use Rattle.std.specs.Prelude.{ℕ, ℤ, List, [], ◌∷◌, Option, map, string_bytes}
use Rattle.std.specs.BTreeMap.{BTreeMap}
use Rattle.std.specs.declared.string.String.{String}
use Rattle.std.specs.declared.random_state.RandomState.{RandomState}
use Rattle.indexmap.specs.IndexMap.{IndexMap, hasher_of}
use Rattle.kept_views.specs.declared.entities.Slot.{Slot}
use Rattle.kept_views.specs.declared.seed.Seed.{Seed}
use Rattle.kept_views.specs.Tables.{KindDay, Rank, Rows, Entity}

module _ {Y : Type 0} where
  abbrev pub kinds_in : List (String Y × ℕ) → List (List ℕ × ℕ)
  kinds_in es = map (λ e. (string_bytes e.0, e.1)) es

  abbrev pub day_in : String Y × ℤ → KindDay
  day_in d = (string_bytes d.0, d.1)

  abbrev pub days_in : List ((String Y × ℤ) × ℕ) → List (KindDay × ℕ)
  days_in es = map (λ e. (day_in e.0, e.1)) es

  abbrev pub entity_in : String Y × String Y → Entity
  entity_in t = (string_bytes t.0, string_bytes t.1)

  abbrev pub rank_in : ℕ × String Y → Rank
  rank_in r = (r.0, string_bytes r.1)

  abbrev pub rows_in : BTreeMap (ℕ × String Y) ℕ → Rows
  rows_in rows = map (λ r. (rank_in r.0, r.1)) rows.entries

  abbrev pub entities_in : List ((String Y × String Y) × BTreeMap (ℕ × String Y) ℕ)
      → List (Entity × Rows)
  entities_in es = map (λ e. (entity_in e.0, rows_in e.1)) es

-- what the keys of the three kept tables are hashed by
abbrev pub states_in : {K L M U V W : Type 0} → IndexMap K U Seed → IndexMap L V Seed
    → IndexMap M W Seed → List (Option RandomState)
states_in k d e =
    (hasher_of k).state ∷ (hasher_of d).state ∷ (hasher_of e).state ∷ []

abbrev pub slot_in : Slot → Entity × Rank
slot_in s = (entity_in s.entity, rank_in s.rank)
