-- What the rows of sqlite_schema tell of a schema.
use Rattle.std.proofs.Common.{◌≡◌, subst}
use Rattle.sqlite_schema.specs.declared.schema.Schema.{Schema}
use Rattle.sqlite_trees.specs.Objects.{catalog_tree}
use Rattle.sqlite_trees.specs.Tree.{Trees}
use Rattle.sqlite_catalog.specs.Listing.{Lists}
use Rattle.sqlite_catalog.proofs.ReadLemmas.{lists_once}
use Rattle.database_layout.specs.Law.{TreesTellTables}

pub same_database : TreesTellTables
same_database db again sound back trees =
    let listed = subst (λ (t : Trees). Lists (t catalog_tree) again.schema) trees back.lists in
    let schemas = lists_once (db.trees catalog_tree) again.schema db.schema listed sound.lists in
    λ i. record { schema = schemas i; trees = trees i }
