-- A turn: one byte is read, and its echo is written. This project's own.
use Rattle.std.specs.Prelude.{◌≡◌, ◌≤◌, ◌⊎◌, ⊤, ℕ, false, List, [], ◌∷◌, ◌++◌, length, Option, Some, None, Result, Ok, Err}
use Rattle.turn_lock.specs.declared.seal.Seal.{Seal}
use Rattle.vt_events.specs.Kinds.{text}
use Rattle.vt_events.specs.Plain.{plain_event, plain_reply}
use Rattle.vt_events.specs.declared.entry.Entry.{Entry}
use Rattle.vt_events.specs.declared.event.Event.TheVariants as event
use Rattle.vt_events.specs.declared.reply.Reply.{Reply}
use Rattle.vt_events.specs.declared.reply.Reply.TheVariants as reply
use Rattle.vt_base.specs.declared.errno.Errno.{Errno}
use Rattle.vt_hub.specs.Histories.{BeginsWith, IsRead, awaits, made_by}
use Rattle.vt_hub.specs.Views.{PassView}
use Rattle.vt_journal.specs.declared.full.Full.{Full}
use Rattle.vt_world.specs.History.{IsLegal}
use Rattle.vt_world.specs.State.{WorldState}
use Rattle.cooked.specs.Cooked.{Typing, make_typing}
use Rattle.cooked.specs.Echo.{echo_of}
use Rattle.cooked.specs.Fresh.{fresh}
use Rattle.cooked.specs.Given.{items_after, items_of, line_in}
use Rattle.cooked.specs.declared.given.Given.TheVariants as answer
use Rattle.cooked.specs.declared.stop.Stop.{Stop}
use Rattle.cooked.specs.declared.stop.Stop.TheVariants as stop
use Rattle.cooked.specs.declared.turn.Turn.{Turn}

-- the entry is a read of one byte of this descriptor
abbrev pub ReadsOne : ℕ → Entry → Type 0
ReadsOne fd entry = entry.event ≡ event.ReadIn fd 1

-- the stop that an answer causes: an error stops a turn
abbrev pub stop_of : Reply → Option Stop
stop_of (reply.Err errno) = Some (stop.Err errno)
stop_of r = None

-- these bytes were written in one entry, whose error is the stop
pub record Wrote (fd : ℕ) (bytes : List ℕ) (made : List Entry) (stopped : Option Stop) : Type 0 where
  pub entry : Entry
  pub alone : made ≡ entry ∷ []
  pub event : plain_event entry.event ≡ event.Write fd (text bytes)
  pub stop : stopped ≡ stop_of entry.reply

-- the hub had stopped, or stopped: no entry was made
pub record MetFull (made : List Entry) (stopped : Option Stop) : Type 0 where
  pub full : Full
  pub none : made ≡ []
  pub stop : stopped ≡ Some (stop.Full full)

-- the echo was written, unless it is empty
abbrev pub Echoes : ℕ → List ℕ → List Entry → Option Stop → Type 0
Echoes fd [] made stopped = (made ≡ []) × (stopped ≡ None)
Echoes fd (b ∷ more) made stopped =
    Wrote fd (b ∷ more) made stopped ⊎ MetFull made stopped

-- a byte was read and pushed, and its echo written; these are the entries that were made
pub record Typed (fd : ℕ) (old new : Typing) (turn : Turn) (made : List Entry) : Type 0 where
  pub byte : ℕ
  pub read : Entry
  pub reads : ReadsOne fd read
  pub told : plain_reply read.reply ≡ reply.Text (text (byte ∷ []))
  pub writes : List Entry
  pub made_are : made ≡ read ∷ writes
  pub pushed : new
      ≡ make_typing old.termios (fresh old.termios (old.fresh ++ byte ∷ []))
      (line_in (items_after old.termios old.fresh byte))
  pub gave : items_of turn.given new.line ≡ items_after old.termios old.fresh byte
  pub echoes : Echoes fd (echo_of old.termios old.fresh byte) writes turn.stop

-- the read was refused
pub record Refused (fd : ℕ) (made : List Entry) (stopped : Option Stop) : Type 0 where
  pub read : Entry
  pub reads : ReadsOne fd read
  pub errno : Errno
  pub told : read.reply ≡ reply.Err errno
  pub alone : made ≡ read ∷ []
  pub stop : stopped ≡ Some (stop.Err errno)

-- no byte was read, so nothing is pushed or given: the read was refused, or the hub had stopped
pub record Untyped (fd : ℕ) (old new : Typing) (turn : Turn) (made : List Entry) : Type 0 where
  pub same : new ≡ old
  pub nothing : turn.given ≡ answer.Nothing
  pub cause : Refused fd made turn.stop ⊎ MetFull made turn.stop

abbrev pub IsTurn : ℕ → Typing → Typing → Turn → List Entry → Type 0
IsTurn fd old new turn made = Typed fd old new turn made ⊎ Untyped fd old new turn made

-- the pass has met a stop exactly if the hub's stop stopped the turn
abbrev pub Meets : Option Stop → Option (Seal Full) → Type 0
Meets (Some (stop.Full full)) met = (by : ℕ) × (met ≡ Some (record { by = by; what = full }))
Meets (Some (stop.Err errno)) met = met ≡ None
Meets None met = met ≡ None

-- the pass w after calls of the pass v, which made these entries: it has seen a legal history
pub record GoesOn (start : WorldState) (v w : PassView) (made : List Entry) : Type 0 where
  pub hub : w.hub ≡ v.hub
  pub number : w.number ≡ v.number
  pub known : w.known ≡ v.known
  pub read : w.read ≡ v.read
  pub mine : w.mine ≡ v.mine ++ made
  pub later : List Entry
  pub seen : w.seen ≡ v.seen ++ later
  pub own : w.mine ≡ made_by w.number w.seen
  pub legal : IsLegal start w.seen
  pub word : IsRead start w.seen w.known
  pub kept : BeginsWith w.seen w.read

-- a whole turn, with the pass before and after it
pub record Turns (start : WorldState) (fd : ℕ) (old new : Typing) (turn : Turn) (v w : PassView) : Type 0 where
  pub made : List Entry
  pub is : IsTurn fd old new turn made
  pub goes_on : GoesOn start v w made
  pub met : Meets turn.stop w.stop
  -- the next turn may be made
  pub free : w.stop ≡ None → awaits w.mine ≡ false

-- a byte was read by one entry
pub record ReadsByte (start : WorldState) (fd : ℕ) (v w : PassView) (byte : ℕ) : Type 0 where
  pub read : Entry
  pub reads : ReadsOne fd read
  pub told : plain_reply read.reply ≡ reply.Text (text (byte ∷ []))
  pub goes_on : GoesOn start v w (read ∷ [])
  pub met : w.stop ≡ None
  pub free : awaits w.mine ≡ false

-- no byte was read
pub record ReadsNone (start : WorldState) (fd : ℕ) (v w : PassView) (stopped : Stop) : Type 0 where
  pub made : List Entry
  pub cause : Refused fd made (Some stopped) ⊎ MetFull made (Some stopped)
  pub goes_on : GoesOn start v w made
  pub met : Meets (Some stopped) w.stop
  pub free : w.stop ≡ None → awaits w.mine ≡ false

abbrev pub Reads : WorldState → ℕ → PassView → PassView → Result ℕ Stop → Type 0
Reads start fd v w (Ok byte) = ReadsByte start fd v w byte
Reads start fd v w (Err stopped) = ReadsNone start fd v w stopped

-- the bytes were written after the entries that the pass v made, if there are any
pub record Writes (start : WorldState) (fd : ℕ) (bytes : List ℕ) (v w : PassView) (stopped : Option Stop) : Type 0 where
  pub made : List Entry
  pub echoes : Echoes fd bytes made stopped
  pub goes_on : (first : PassView) (before : List Entry) → GoesOn start first v before
      → GoesOn start first w (before ++ made)
  pub met : Meets stopped w.stop
  pub free : w.stop ≡ None → awaits w.mine ≡ false

-- the possible answers to a read of so many bytes: bytes, at least one and no more than these, or an error
abbrev pub ReadAnswer : ℕ → Reply → Type 0
ReadAnswer most (reply.Text b) = (1 ≤ length b.bytes) × (length b.bytes ≤ most)
ReadAnswer most (reply.Err errno) = ⊤
ReadAnswer most r = ⊥

-- the answer is an error, which is the stop
pub record Refuses (r : Reply) (stopped : Stop) : Type 0 where
  pub errno : Errno
  pub told : r ≡ reply.Err errno
  pub stop : stopped ≡ stop.Err errno

-- the result of an answer to a read of one byte: the byte, or the stop
abbrev pub ReadResult : Reply → Result ℕ Stop → Type 0
ReadResult r (Ok byte) = plain_reply r ≡ reply.Text (text (byte ∷ []))
ReadResult r (Err stopped) = Refuses r stopped

-- the possible answers to a write: a number, or an error
abbrev pub WriteAnswer : Reply → Type 0
WriteAnswer (reply.Num n) = ⊤
WriteAnswer (reply.Err errno) = ⊤
WriteAnswer r = ⊥
