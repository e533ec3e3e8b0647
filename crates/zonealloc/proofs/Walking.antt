-- What walks by hand cite.
pub use Rattle.std.proofs.BoxSteps.Steps.{box_in, box_out}
pub use Rattle.std.proofs.Common.{List, [], ap, lit<, map, refl, subst, suc, sym, zero, ℕ, ◌++◌, ◌∙◌, ◌∷◌, ◌≡◌}
pub use Rattle.std.proofs.ResultValues.{and_tt}
pub use Rattle.std.proofs.alloc.Calls.{Al, Goes-blank, handle_tells}
pub use Rattle.std.proofs.alloc.Shapes.{after}
pub use Rattle.std.proofs.cell.Inside.{Good}
pub use Rattle.std.proofs.raw_atomic.Walks.{leaves, proved, proved_at}
pub use Rattle.std.specs.Box.Ownership.{box_owns}
pub use Rattle.std.specs.Prelude.{IsSome, None, Option, Some}
pub use Rattle.std.specs.contracts.impls.GlobalAllocator.TheImpl.{ghosts}
pub use Rattle.std.specs.declared.alloc.Allocator.{Ghosts}
pub use base.Fml.{Fml, GName, Lft, flft, fsep, ftrue}
pub use base.Fraction.{full_share}
pub use base.Logic.{SProp, emp, ent, fst∗, id⊢, never, sep}
pub use base.Shift.{Keyless}
pub use base.Stored.{Coded}
pub use contract.BorrowLft.{◌⊑◌}
pub use contract.Monad.{fact, fact_i}
pub use contract.Running.{MachineTables, Running, tables}
unfoldable pub use contract.Running.{tables_of}
pub use denote.Builtin.{RawPtr}
pub use denote.Exit.{Exit, hidden, leaves as leaving, no, unchanged, under, yes}
pub use denote.Follow.{Part, follows, lends_Part}
pub use denote.Memory.{cell_at, lone, mem, part_at}
unfoldable pub use denote.Memory.{part_of}
pub use denote.Param.{bounded, layout, param}
pub use denote.Param.Laws.{Laws, param_laws}
pub use denote.Param.Send.{AllSend, IsSend, Quiet, owning_send, part_keyless, sendable, struct_send}
pub use denote.RattleType.{RattleType, Valss, owns}
pub use denote.RawPtr.{Ptr, block_ptr, in_a_block, lies_at, null_ptr, ptr_val}
pub use denote.Ref.{MutRef, mut_Tells, mut_vals}
pub use denote.Shadow.{makes_shadow, shadow}
pub use denote.Signature.{mut_ref_to, plain, types_at}
pub use denote.Steps.{heard, nothing, only, opens}
pub use denote.Struct.Field.{RawPtr-field, rows}
pub use denote.Struct.Owning.{Owning, fields, row, shape, to}
pub use denote.Struct.Struct.{Struct, exits_of, within}
pub use denote.Struct.Tuple.{Tuple}
pub use denote.Struct.Values.{intos}
pub use denote.Triple.Call.{calls_at, calls_at_last}
pub use denote.Triple.Clauses.{Clauses, Ended, Lasts, closing, lasts}
pub use denote.Triple.Entry.{alive}
pub use denote.Triple.Spec.{Meets, triple_of}
pub use denote.Triple.Walked.{Goes-spent_ref, Stays, ends_at, says, stay_dropped, walk_of}
pub use lib.Dec.{T}
pub use mathlib.Core.Bool.{true, ◌&&◌}
pub use mir.MapTy.{inst_fn}
pub use mir.Raw.{raw as bare}
pub use mir.Syntax.{Body, Callee, Fn, Step as Way, Sym, Ty, a_type, aggregate, assign, copy, dcons, dnil, field, impl, int, local, named, place, return, rv_opd, seq, tcons, tnil, ty_ptr, ty_struct, value_local, w64}
pub use mir.Val.{Val, WT, has_ty, of_list, vcons, vnil, vptr, vstruct}
pub use prog.Model.{Model}
pub use prog.Wp.{Closed, Env, WpFn}
pub use seplogic.Ra.Ura.{Ura}
pub use sound.WpLaws.{fm_of}
pub use types.ByLocal.{alloc_all, env, free_all, get, get_in, lands_as, lands_last, look_at, pass_all, sets, sets_last, through}
pub use types.Kit.{ !, Goal, Item, Seq, Step, at_ret, await, by, done, drop, feq_i, feq_l, fjoin, fpack, fpick, frame, fsplit, fsplit3, group, join, keep, later, move, pick, prop, qed, raw, regoal, rewrite, some, split, split3, step, suffices, use0, use1, ‵, ◌$◌, ◌∵◌, ◌⊛◌}
pub use types.Logic.{Logic, sem}
pub use types.Part.{agg, look_in, sub, whole}
pub use types.Run.{addr, and_then, blocks, enter, exec, first, fld, lit, load, no_more, of_opd, returns, stop}
