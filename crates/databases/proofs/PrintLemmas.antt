-- What is written as tokens is the text of the data.
use Rattle.std.proofs.Common.{◌≡◌, ℕ, List, [], ◌∷◌}
use Rattle.std.specs.Prelude.{codes, decimal}
use Rattle.json.specs.Token.{begin_object, end_object, key, number, string}
use Rattle.json.specs.Print.{print}
use Rattle.serde_json.specs.Written.{compact_text}
use Rattle.serde_json.proofs.Texts.{print-outline}
use Rattle.databases.specs.Print.{database_data, service_data}
use Rattle.databases.specs.Trouble.{trouble_data}

pub print-database : (db : List ℕ) (events sources version : ℕ) → print (begin_object ∷ key (codes "db") ∷ string db ∷ key (codes "events") ∷ number (decimal events) ∷ key (codes "sources") ∷ number (decimal sources) ∷ key (codes "version") ∷ number (decimal version) ∷ end_object ∷ []) ≡ compact_text (database_data db events sources version)
print-database db events sources version = print-outline (database_data db events sources version)

pub print-service : (source : List ℕ) (base orders rows : ℕ) → print (begin_object ∷ key (codes "base") ∷ number (decimal base) ∷ key (codes "orders") ∷ number (decimal orders) ∷ key (codes "rows") ∷ number (decimal rows) ∷ key (codes "source") ∷ string source ∷ end_object ∷ []) ≡ compact_text (service_data source base orders rows)
print-service source base orders rows = print-outline (service_data source base orders rows)

pub print-trouble : (db fault hint : List ℕ) → print (begin_object ∷ key (codes "db") ∷ string db ∷ key (codes "fault") ∷ string fault ∷ key (codes "hint") ∷ string hint ∷ end_object ∷ []) ≡ compact_text (trouble_data db fault hint)
print-trouble db fault hint = print-outline (trouble_data db fault hint)
