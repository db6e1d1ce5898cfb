-- A closure may go to another thread where all that it captures may.
use mathlib.Core.List.{List}
use mir.Syntax.{Sym, Ty}
use denote.Exit.{no}
use Prim.Native.Nat.{ℕ}
use denote.Param.{arg, param}
use denote.Param.Send.{AllSend, IsSend, arg_send, param_send, recorded_send, struct_send}
use denote.RattleType.{RattleType}
use denote.Struct.Declared.{shape}
use denote.Struct.Tuple.{TupleAt, field_at, type_at}

pub closure_is_send : (i : ℕ) (δ : Ty) (name : Sym) (captured : List RattleType)
    → AllSend (shape (type_at name captured)).fields → IsSend (param i (arg δ no (TupleAt name captured)))
closure_is_send i δ name captured all =
    param_send i _ (arg_send δ no _ (recorded_send (field_at name captured).row _ _ (type_at name captured).to_one (struct_send (shape (type_at name captured)) all)))
