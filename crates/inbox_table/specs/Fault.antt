-- The numbers by which refusals are known.
use Rattle.std.specs.Prelude.{◌≡◌, ◌⊎◌, ℕ}
use Rattle.inbox_table.specs.declared.fault.TableFault.{TableFault}
use Rattle.inbox_table.specs.declared.fault.TableFault.TheVariants.{OutOfMemory, Store, Foreign}

-- the number of a refusal of an inbox's table
abbrev pub fault_number : TableFault → ℕ
fault_number OutOfMemory = 1
fault_number Store = 2
fault_number Foreign = 3

-- a call of an inbox's table was refused: want of memory, or another refusal of the store
abbrev pub IsOfStore : TableFault → Type 0
IsOfStore f = (f ≡ OutOfMemory) ⊎ (f ≡ Store)
