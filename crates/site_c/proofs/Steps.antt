-- What the walks of the exports cite.
pub use Rattle.std.proofs.Common.{◌≡◌, ℕ, zero, suc, ◌+◌, List, [], ◌∷◌, ◌++◌, refl, sym, ap, length, w8, w32, w64}
pub use Rattle.std.proofs.raw_atomic.Walks.{proved, leaves}
pub use base.Fraction.{full_share}
pub use base.Logic.{id⊢, emp, ex, ex_i, sep}
pub use base.Fml.{ftrue, fsep, feq, fat}
pub use mir.Syntax.{named}
pub use mir.Val.{Val, vunit, vint}
pub use contract.Monad.{fact, fact_i}
pub use contract.Running.{tables}
pub use prog.Wp.{WpFn}
pub use types.Logic.{sem}
pub use types.Kit.{‵, raw, ◌⊛◌, some, later, prop, ◌$◌, ◌∵◌, !, qed, by, move, keep, drop, use0, use1, split, join, fsplit, fjoin, feq_i, feq_l, pick, await, regoal}
pub use types.Run.{enter, of_opd, unit_lit, addr, load, look, store, init, forget, stop, no_more, and_then, assigns, returns}
pub use types.ByLocal.{alloc_all, pass_all, free_all, look_at, get, through, sets, lands_as}
pub use denote.Builtin.{SliceRefOf, u8, u32, u64, unit}
pub use denote.Exit.{yes, left}
pub use denote.Laws.{Is, shows}
pub use denote.Memory.{part_at, lone}
pub use denote.Plain.{uint_vals, uint_Tells}
pub use denote.RattleType.{owns}
pub use denote.RawPtr.{Ptr, RawPtr, block_ptr, lies_at, room_at, in_a_block, rawptr_vals, rawptr_Tells}
pub use denote.Ref.{MutRef, mut_vals, mut_Tells}
pub use denote.Signature.{plain, types_at}
pub use denote.Slice.{ShrSlice, MutSlice, shr_slice_vals, shr_slice_Tells, mut_slice_vals, mut_slice_Tells}
pub use denote.Steps.{nothing, heard, peeks, only}
pub use denote.Triple.Call.{calls_at}
pub use denote.Triple.Clauses.{lasts, Lasts}
pub use denote.Triple.End.{lasts_of}
pub use denote.Triple.Entry.{alive}
pub use denote.Triple.Spec.{triple_of}
pub use denote.Triple.Table.{framed}
pub use denote.Triple.Walked.{Stays, walk_of, has_of, stay_dropped, gave_ref, gave_slice, Goes-dropped, Goes-gave_ref, Goes-gave_slice}
pub use borrow.Table.OneValue.{part_out, part_in}
