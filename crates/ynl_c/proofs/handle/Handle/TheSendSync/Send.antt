use mir.Raw.{raw}
use base.Fraction.{full_share}
use base.Shift.{Keyless}
use denote.Memory.{lone}
use denote.RawPtr.{Ptr, RawPtr, block_ptr, null_ptr}
use denote.Param.Send.{IsSend, part_keyless, struct_send}
use denote.Struct.Owning.{shape, to}
use Rattle.std.specs.declared.alloc.Global.{Global}
use Rattle.std.specs.declared.option.Option.{Option}
use Rattle.std.specs.declared.option.Option.TheVariants.{None, Some}
use Rattle.std.proofs.alloc.Global.TheSendSync as heap
use Rattle.std.proofs.Crossing.{frees}
use Rattle.ynl_c.specs.Held.{held}
use Rattle.ynl_c.specs.contracts.handle.Handle.{the_row, the_type}
use Rattle.ynl_c.proofs.desk.desk.Desk.TheSendSync as desk
use Rattle.ynl_c.proofs.Handles.{D, tok}

held_keyless : (a : Global) (p : Ptr) (x : Option D.Denot) → Keyless (held (tok a) D p x)
unfolding held
held_keyless a p None = tt
held_keyless a null_ptr (Some x) = (tt, frees.frees a (raw (lone D.mir)) null_ptr)
held_keyless a (block_ptr b o) (Some x) = (part_keyless D desk.the_send full_share x b o, frees.frees a (raw (lone D.mir)) (block_ptr b o))

pointer_send : IsSend RawPtr
pointer_send = record { owned = λ x vs. tt; leaving = λ k d w. tt }

pub send : IsSend the_row
send = record { owned = λ d vs. ((struct_send (shape the_type) (pointer_send, (heap.the_field_send, tt))).owned (to the_type d) vs, held_keyless d.alloc d.at d.value); leaving = λ k d w. tt }
