-- A handle may go to another thread: what it owns may, and any thread may free its block.
use base.Shift.{Keyless}
use denote.Builtin.{RawPtr}
use denote.Memory.{lone}
use denote.Param.Send.{IsSend, owning_send, struct_send, sendable}
use denote.RawPtr.{Ptr}
use denote.Struct.Owning.{shape, fields, to}
use denote.Struct.Struct.{exits_of}
use mir.Raw.{raw}
use Rattle.machine.proofs.machine.Machine.TheSendSync.{the_send}
use Rattle.machine.specs.MachineState.{MachineState}
use Rattle.machine_c.specs.contracts.handle.MachineHandle.{the_row, the_type}
use Rattle.machine.specs.contracts.machine.Machine as owned
use Rattle.raw_box.specs.Contents.{contents}
use Rattle.std.proofs.Crossing.{frees}
use Rattle.std.specs.Prelude.{Option, Some, None}
use Rattle.std.specs.contracts.alloc.Global as heap
use Rattle.std.specs.declared.alloc.Global.{Global}
use Rattle.std_alloc.proofs.SendSync.{quiet, lies}

parts : IsSend RawPtr × (IsSend (heap.the_field).row × Unit {0})
parts = (search sendable, (search sendable depth 20, tt))

contents_keyless : (alloc : Global) (at : Ptr) (value : Option MachineState) → Keyless (contents owned.the_row alloc at value)
contents_keyless alloc at None = tt
contents_keyless alloc at (Some x) =
    (lies owned.the_row the_send at x, frees.frees alloc (raw (lone (owned.the_row).mir)) at)

pub send : IsSend the_row
send =
    owning_send the_type parts (λ h. contents_keyless h.alloc h.at h.value)
    (λ k. quiet (to the_type) (exits_of k (fields the_type)) ((struct_send (shape the_type) parts).leaving k))
