-- The code of what a pass shows, by which a proof tells two apart.
use Rattle.std.specs.Prelude.{ℕ, List, refl}
use Rattle.std.specs.Coded.{Coded, code_by, coded×, coded_list, coded_ℕ}
use Rattle.atomic_table.specs.Seated.{TableId, table_id_coded}
use Rattle.attributes.specs.Event.{EventValue}
use Rattle.attributes.specs.EventCode.{event_code}
use Rattle.site.specs.contracts.call.Call as call
use Rattle.site.specs.declared.call.Call.{Call}
use Rattle.turn_lock.specs.declared.machine.Entry.{Entry}
use Rattle.site_lock.specs.Pass.{ShownPass}

-- an entry in the shared site's history is its number and its call
abbrev pub entry_code : Coded (Entry Call)
entry_code =
    code_by (List ℕ × Call) (coded× (coded_list coded_ℕ) call.the_row.coded)
    (λ e. (e.number, e.call)) (λ p. record { number = p.0; call = p.1 }) (λ _. refl)

-- what a pass of the shared site shows is the tuple of its fields
abbrev Fields : Type 0
Fields =
    TableId × (List ℕ × (ℕ × (List EventValue × (List (Entry Call) × List (Entry Call)))))

abbrev fields_code : Coded Fields
fields_code = coded× table_id_coded (coded× (coded_list coded_ℕ) (coded× coded_ℕ
    (coded× (coded_list event_code) (coded× (coded_list entry_code) (coded_list entry_code)))))

abbrev pub shown_pass_code : Coded ShownPass
shown_pass_code =
    code_by Fields fields_code
    (λ s. (s.table, (s.number, (s.splits, (s.opening, (s.seen, s.mine))))))
    (λ p. record {
      table = p.0;
      number = p.1.0;
      splits = p.1.1.0;
      opening = p.1.1.1.0;
      seen = p.1.1.1.1.0;
      mine = p.1.1.1.1.1;
    })
    (λ _. refl)
