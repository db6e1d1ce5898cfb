-- What stands of a table beside its name, columns, UNIQUEs and CHECKs.
use Rattle.std.specs.Prelude.{◌≡◌, [], ◌∷◌, false, Some}
use Rattle.sqlite_schema.specs.declared.schema.Table.{Table}

-- the table's key is its first column, and nothing else in the CREATE says more of it
pub record IsBareTable (t : Table) : Type 0 where
  pub key : t.key ≡ Some 0
  pub primary : t.primary ≡ 0 ∷ []
  pub references : t.references ≡ []
  pub computed : t.computed ≡ []
  pub stamps : t.stamps ≡ record { places = []; terms = []; formats = [] }
  pub uncounted : t.is_counted ≡ false
