-- A handle may go to another thread: what it owns may, and any thread may free its block.
use base.Shift.{Keyless}
use denote.Builtin.{RawPtr}
use denote.Memory.{lone}
use denote.Param.Send.{IsSend, owning_send, sendable, struct_send}
use denote.RawPtr.{Ptr}
use denote.Struct.Owning.{shape, to, fields}
use denote.Struct.Struct.{exits_of}
use mir.Raw.{raw}
use Rattle.raw_box.specs.Contents.{contents}
use Rattle.screen_c.proofs.owned_screen.OwnedScreen.TheSendSync.{the_send as owned_send}
use Rattle.screen_c.specs.contracts.handle.ScreenHandle.{the_row, the_type}
use Rattle.screen_c.specs.contracts.owned_screen.OwnedScreen as owned
use Rattle.std.proofs.Crossing.{frees}
use Rattle.std.specs.Prelude.{Option, None, Some}
use Rattle.std.specs.contracts.alloc.Global as heap
use Rattle.std.specs.declared.alloc.Global.{Global}
use Rattle.std_alloc.proofs.SendSync.{quiet, lies}

fields_send : IsSend RawPtr × (IsSend (heap.the_field).row × Unit {0})
fields_send = (search sendable, (search sendable depth 20, tt))

contents_keyless : (alloc : Global) (p : Ptr) (x : Option (owned.the_row).Denot) → Keyless (contents owned.the_row alloc p x)
contents_keyless alloc p None = tt
contents_keyless alloc p (Some y) =
    (lies owned.the_row owned_send p y, frees.frees alloc (raw (lone (owned.the_row).mir)) p)

pub send : IsSend the_row
send =
    owning_send the_type fields_send (λ h. contents_keyless h.alloc h.at h.value)
    (λ k. quiet (to the_type) (exits_of k (fields the_type)) ((struct_send (shape the_type) fields_send).leaving k))
