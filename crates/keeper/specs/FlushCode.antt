-- The code of what a flusher shows, by which a proof tells two apart.
use Rattle.std.specs.Prelude.{Option, refl}
use Rattle.std.specs.Coded.{Coded, code_by, coded×, coded_option}
use Rattle.atomic_table.specs.Seated.{TableId, table_id_coded}
use Rattle.inbox_table.specs.Calls.{KeptTable}
use Rattle.inbox_table.specs.Codes.{kept_table_code}
use Rattle.site_lock.specs.Pass.{ShownPass}
use Rattle.site_lock.specs.PassCode.{shown_pass_code}
use Rattle.keeper.specs.Flush.{Flushing}
use Rattle.keeper.specs.contracts.fault.KeepFault as fault
use Rattle.keeper.specs.declared.fault.KeepFault.{KeepFault}

abbrev pub flushing_code : {S : Type 0} → Coded S → Coded (Flushing S)
flushing_code {S} store =
    code_by (TableId × (KeptTable S × (ShownPass × Option KeepFault)))
    (coded× table_id_coded (coded× (kept_table_code store)
    (coded× shown_pass_code (coded_option fault.the_row.coded))))
    (λ f. (f.site, (f.keeper, (f.pass, f.fault))))
    (λ p. record { site = p.0; keeper = p.1.0; pass = p.1.1.0; fault = p.1.1.1 })
    (λ _. refl)
