-- The code of what a table shows, by which a proof tells two apart.
use Rattle.std.specs.Prelude.{ℕ, refl}
use Rattle.std.specs.Coded.{Coded, code_by, coded×, coded_ℕ}
use Rattle.sqlite.specs.Held.{Held, held_code}
use Rattle.inbox_table.specs.Calls.{KeptTable}

abbrev pub kept_table_code : {S : Type 0} → Coded S → Coded (KeptTable S)
kept_table_code {S} store =
    code_by (Held S × ℕ) (coded× (held_code store) coded_ℕ)
    (λ k. (k.conn, k.rows)) (λ p. record { conn = p.0; rows = p.1 }) (λ _. refl)
