-- Histories without spare room: the room of the bytes of calls and answers changes nothing.
use Rattle.std.specs.Prelude.{◌≡◌, List, map, Some, Option}
use Rattle.session_order.specs.Calls.{as_meant}
use Rattle.session_order.specs.Ends.{Ends, Setup}
use Rattle.vt_journal.specs.Room.{tail_at}
use Rattle.session_order.specs.Follows.{Follows}
use Rattle.session_text.specs.Programs.{Call, next}
use Rattle.session_text.specs.declared.program.Program.{Program}
use Rattle.vt_events.specs.Plain.{plain_entry, plain_event}
use Rattle.vt_events.specs.declared.entry.Entry.{Entry}
use Rattle.vt_events.specs.declared.event.Event.{Event}
use Rattle.vt_journal.specs.declared.full.Full.{Full}
use Rattle.vt_world.specs.History.{IsLegal, replay}
use Rattle.vt_world.specs.State.{WorldState}

-- the entries without the spare room of their bytes
abbrev pub plain_history : List Entry → List Entry
plain_history entries = map plain_entry entries

-- the next call depends on the calls without their spare room, and has no spare room itself
abbrev pub NextIsMeant : Type 0
NextIsMeant =
    (p : Program) (made : List Call) → next p (map as_meant made) ≡ next p made

abbrev pub NextIsPlain : Type 0
NextIsPlain =
    (p : Program) (made : List Call) (e : Event) → next p made ≡ Some e → plain_event e ≡ e

-- replay, and whether a history is right, don't depend on spare room either
abbrev pub ReplayIsMeant : Type 0
ReplayIsMeant =
    (start : WorldState) (entries : List Entry) → replay start (plain_history entries) ≡ replay start entries

abbrev pub LegalIsMeant : Type 0
LegalIsMeant =
    (start : WorldState) (entries : List Entry) → IsLegal start (plain_history entries)
    → IsLegal start entries

abbrev pub FollowsIsMeant : Type 0
FollowsIsMeant =
    (start : WorldState) (programs : List Program) (entries : List Entry)
    → Follows start programs (plain_history entries) → Follows start programs entries

abbrev pub EndsIsMeant : Type 0
EndsIsMeant =
    (o : Setup) (entries : List Entry) (stop : Option Full)
    → Ends o (plain_history entries) (tail_at (plain_history entries) stop) → Ends o entries (tail_at entries stop)
