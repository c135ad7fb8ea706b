-- A loan may go to another thread if many threads may read its value.
use base.Shift.{Keyless}
use denote.Builtin.{RawPtr}
use denote.Param.Send.{IsSend, owning_send, sendable, struct_send}
use denote.RawPtr.{Ptr}
use denote.Struct.Owning.{shape, to, fields}
use denote.Struct.Struct.{exits_of}
use mathlib.Core.List.{[], ◌∷◌}
use Prim.Native.Nat.{ℕ}
use Rattle.machine.proofs.machine.Machine.TheSendSync.{the_sync}
use Rattle.raw_box.specs.Contents.{loan}
use Rattle.machine_c.specs.contracts.loan.MachineLoan.{the_row, the_type}
use Rattle.machine.specs.contracts.machine.Machine as machine
use Rattle.std.specs.Prelude.{Option, None, Some}
use Rattle.std_alloc.proofs.SendSync.{quiet, seen}

fields_send : IsSend RawPtr × Unit {0}
fields_send = (search sendable, tt)

loan_keyless : (p : Ptr) (x : Option (machine.the_row).Denot) (life part : ℕ) → Keyless (loan machine.the_row p x life part)
loan_keyless p None life part = tt
loan_keyless p (Some y) life part = ((tt, seen machine.the_row the_sync p y (life ∷ [])), tt)

pub send : IsSend the_row
send =
    owning_send the_type fields_send (λ h. loan_keyless h.at h.value h.life h.part)
    (λ k. quiet (to the_type) (exits_of k (fields the_type)) ((struct_send (shape the_type) fields_send).leaving k))
