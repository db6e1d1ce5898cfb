-- A record is a value of no bytes, at whatever list of calls.
use Rattle.std.proofs.Common.{List, [], ◌∷◌, refl}
use seplogic.Ra.Ura.{Ura}
use mir.Val.{Val, vstruct, vcons, vnil}
use types.Logic.{Logic}
use types.Kit.{Goal, Step, Item, ‵}
use denote.Shadow.{pure_i}
use Rattle.sqlite_disk.specs.Events.{Event}
use Rattle.file_disk.specs.declared.system.record.Record.{Record}
use Rattle.file_disk.specs.contracts.system.record.Record.{the_row as R}

-- the machine's value of every record
abbrev pub nothing_in : Val
nothing_in = vstruct (vcons (vstruct vnil) vnil)

abbrev pub with_calls : List Event → Record
with_calls calls = record { marker = record {}; calls = calls }

module _ {M : Type 1} {𝓤 : Ura M} {𝓛 : Logic 𝓤} {K : Type 0} {Γ : List (Item 𝓤)} {G : Goal 𝓤 𝓛.H} where
  pub empty_made : K → (calls : List Event)
      → Step K 𝓛 (‵ (R.own_val (with_calls calls) (nothing_in ∷ [])) ∷ Γ) G Γ G
  empty_made t calls = pure_i t (R.own_val (with_calls calls) (nothing_in ∷ []))
      ((λ vss. (tt, ((λ uss. (tt, tt)), tt))), tt)
      (((vstruct vnil ∷ [], tt), (refl, ((tt, (refl, tt)), tt))), tt)
