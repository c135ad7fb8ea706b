-- A call by its words, and what it leaves.
use Rattle.std.specs.Prelude.{◌≡◌, ◌<◌, ◌≤◌, ◌⊎◌, ◌&&◌, ◌||◌, ◌==◌, ℕ, Bool, true, List, length, Option, Some, is_some}
use Rattle.machine.specs.MachineState.{HasCalled, MachineState, greatest_number, made_by}
use Rattle.c_calls.specs.Codes.{FULL, NO_MEMORY, NO_ROOM, OK}
use Rattle.c_calls.specs.Places.{with_items}
use Rattle.machine_c.specs.Shown.{c_reply}
use Rattle.machine_c.specs.declared.vt_reply.VtReply.{VtReply}
use Rattle.vt_events.specs.Calls.{held_of, numbers_of}
use Rattle.vt_events.specs.Charge.{charge_of, greatest_reply, text_of_reply}
use Rattle.vt_events.specs.Kinds.{blank, name_of, takes}
use Rattle.vt_events.specs.declared.event.Event.{Event}
use Rattle.vt_events.specs.declared.kind.Kind.{Kind}
use Rattle.vt_journal.specs.Room.{HasRoom}

-- a call of this kind may hold that many bytes: a scan one, and a kind without bytes none
abbrev pub may_hold : Kind → ℕ → Bool
may_hold kind count = takes kind count && (is_some (held_of (blank kind)) || count == 0)

-- there is such a caller, and the words are those of a call of this kind
pub record IsCall (caller : ℕ) (name numbers held : List ℕ) (kind : Kind) : Type 0 where
  pub known : caller < 68
  pub named : name_of kind ≡ name
  pub counted : length numbers ≡ length (numbers_of (blank kind))
  pub fit : may_hold kind (length held) ≡ true

-- the journal has no room for the call; or it has, and the caller has no number for it
abbrev pub IsFull : ℕ → Event → MachineState → Type 0
IsFull caller e m =
    (¬ HasRoom m.log (charge_of e)) ⊎ (HasRoom m.log (charge_of e) × (made_by m caller ≡ greatest_number))

-- what a call may change: the machine, the answer, and the places for the answer's bytes
pub record Places : Type 0 where
  pub machine : Option MachineState
  pub reply : VtReply
  pub bytes : List ℕ

abbrev pub places : Option MachineState → VtReply → List ℕ → Places
places machine reply bytes = record { machine = machine; reply = reply; bytes = bytes }

-- OK: the machine takes the call, and the answer is written, its bytes into the first places
pub record IsTaken (caller : ℕ) (e : Event) (m : MachineState) (old new : Places) (code : ℕ) : Type 0 where
  pub fine : code ≡ OK
  pub enough : greatest_reply e ≤ length old.bytes
  pub room : ¬ IsFull caller e m
  pub next : MachineState
  pub called : HasCalled caller e m next
  pub places : new ≡ places (Some next) (c_reply called.reply) (with_items (text_of_reply called.reply) old.bytes)

-- no room: the answer may need more places
pub record LacksPlaces (e : Event) (old new : Places) (code : ℕ) : Type 0 where
  pub refused : code ≡ NO_ROOM
  pub small : length old.bytes < greatest_reply e
  pub same : new ≡ old

-- full: the places are enough, and the journal is full
pub record LacksEntry (caller : ℕ) (e : Event) (m : MachineState) (old new : Places) (code : ℕ) : Type 0 where
  pub refused : code ≡ FULL
  pub enough : greatest_reply e ≤ length old.bytes
  pub full : IsFull caller e m
  pub same : new ≡ old

-- no memory: nothing changes
pub record LacksMemory (old new : Places) (code : ℕ) : Type 0 where
  pub refused : code ≡ NO_MEMORY
  pub same : new ≡ old

-- one of the four
abbrev pub Answers : ℕ → Event → MachineState → Places → Places → ℕ → Type 0
Answers caller e m old new code =
    IsTaken caller e m old new code
    ⊎ (LacksPlaces e old new code ⊎ (LacksEntry caller e m old new code ⊎ LacksMemory old new code))
