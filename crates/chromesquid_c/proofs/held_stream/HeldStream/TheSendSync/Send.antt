-- A `HeldStream` may go to another thread, as its value may.
use mir.Raw.{raw}
use base.Shift.{Keyless}
use denote.Builtin.{RawPtr}
use denote.Memory.{lone}
use denote.RawPtr.{Ptr}
use denote.Param.Send.{IsSend, owning_send, struct_send, sendable}
use denote.Struct.Struct.{exits_of}
use denote.Struct.Owning.{shape, fields, to}
use Rattle.std_alloc.proofs.SendSync.{lies, quiet}
use Rattle.std_alloc.specs.Box.Ownership.{box_owns}
use Rattle.std.proofs.Crossing.{frees}
use Rattle.std.proofs.alloc.Global.TheSendSync as heap
use Rattle.std.specs.declared.alloc.Global.{Global}
use Rattle.std.specs.declared.option.Option.{Option}
use Rattle.std.specs.declared.option.Option.TheVariants.{None, Some}
use Rattle.std.specs.contracts.impls.GlobalAllocator.TheImpl.{ghosts}
use Rattle.chromesquid_c.specs.Owned.{if_some}
use Rattle.chromesquid_c.specs.Streaming.{PushedStream}
use Rattle.chromesquid_c.specs.contracts.pushed.Pushed.{the_row as R}
use Rattle.chromesquid_c.proofs.pushed.Pushed.TheSendSync as inner
use Rattle.chromesquid_c.specs.contracts.held_stream.HeldStream.{the_row, the_type}

keyless : (a : Global) (p : Ptr) (v : Option PushedStream) → Keyless (if_some (box_owns (ghosts.dealloc_token a) R p) v)
keyless a p None = tt
keyless a p (Some x) = (lies R inner.the_send p x, frees.frees a (raw (lone R.mir)) p)

ps : IsSend RawPtr
ps = search sendable

pub send : IsSend the_row
send = owning_send the_type (ps, (heap.the_field_send, tt)) (λ h. keyless h.alloc h.at h.value) (λ k. quiet (to the_type) (exits_of k (fields the_type)) ((struct_send (shape the_type) (ps, (heap.the_field_send, tt))).leaving k))
