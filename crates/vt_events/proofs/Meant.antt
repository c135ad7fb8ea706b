-- Calls without the room of their bytes.
use Rattle.std.proofs.Common.{◌≡◌, refl, ap}
use Rattle.vt_events.specs.Charge.{charge_of}
use Rattle.vt_events.specs.Plain.{plain_event}
use Rattle.vt_events.specs.declared.event.Event.{Event}
use Rattle.vt_events.specs.declared.event.Event.TheVariants as event
use Rattle.vt_events.proofs.Calls.{call_of_parts, parts-plain}

-- room is removed once
pub plain-twice : (e : Event) → plain_event (plain_event e) ≡ plain_event e
plain-twice e = ap call_of_parts (parts-plain e)

-- the room is not charged
pub charge-meant : (e : Event) → charge_of (plain_event e) ≡ charge_of e
charge-meant event.Exit = refl
charge-meant e = refl
