-- The numbers by which refusals are known.
use Rattle.std.specs.Prelude.{ℕ}
use Rattle.inbox_table.specs.declared.fault.TableFault.{TableFault}
use Rattle.inbox_table.specs.declared.fault.TableFault.TheVariants as table
use Rattle.keeper.specs.declared.fault.KeepFault.{KeepFault}
use Rattle.keeper.specs.declared.fault.KeepFault.TheVariants as keep

-- the number of a keeper's refusal
abbrev pub fault_number : KeepFault → ℕ
fault_number keep.OutOfMemory = 1
fault_number keep.Store = 2
fault_number keep.Foreign = 3

-- the refusal of the keeper that one of the table is
abbrev pub of_table : TableFault → KeepFault
of_table table.OutOfMemory = keep.OutOfMemory
of_table table.Store = keep.Store
of_table table.Foreign = keep.Foreign
