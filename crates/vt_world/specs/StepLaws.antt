-- The laws of each step, and of a start: the state that no event changes, and the callers that
-- wait. They are this project's own.
use Rattle.std.specs.Prelude.{◌≡◌, ◌⊎◌, ◌==◌, ℕ, Bool, true, false, List, map, replicate, None}
use Rattle.vt_events.specs.declared.entry.Entry.{Entry}
use Rattle.vt_events.specs.declared.event.Event.{Event}
use Rattle.vt_events.specs.declared.event.Event.TheVariants as event
use Rattle.vt_events.specs.declared.reply.Reply.TheVariants as reply
use Rattle.vt_world.specs.History.{replay}
use Rattle.vt_world.specs.Laws.{IsStart}
use Rattle.vt_world.specs.Refusals.{console_by_number, target}
use Rattle.vt_world.specs.State.{WorldState, is_waiting}
use Rattle.vt_world.specs.Step.{step}
use Rattle.vt_world.specs.Terminals.{terminal_at}

-- the size of new screens never changes
abbrev pub SizesStay : Type 0
SizesStay =
    (w : WorldState) (p : ℕ) (e : Event)
    → ((step w p e).world.rows ≡ w.rows) × ((step w p e).world.cols ≡ w.cols)

-- a caller that waits after a step of p waited before it, or is p and was answered "wait"
abbrev pub TicketsAreCalled : Type 0
TicketsAreCalled =
    (w : WorldState) (p : ℕ) (e : Event) (q : ℕ) → is_waiting (step w p e).world q ≡ true
    → (is_waiting w q ≡ true) ⊎ ((p ≡ q) × ((step w p e).reply ≡ reply.Wait))

-- no caller waits at a start
abbrev pub NobodyWaitsAtStart : Type 0
NobodyWaitsAtStart = (w : WorldState) → IsStart w → (p : ℕ) → is_waiting w p ≡ false

-- the console whose screen or count of BELs an event may change, or which it may allocate: the one
-- that is written to or resized, that gets a palette or a table of characters, or that is opened or
-- activated
abbrev pub touches : WorldState → ℕ → Event → ℕ → Bool
touches w p (event.Write fd b) c = target w p fd == c
touches w p (event.Resize fd rows cols) c = target w p fd == c
touches w p (event.SetMap fd b) c = target w p fd == c
touches w p (event.SetPal fd b) c = target w p fd == c
touches w p (event.OpenCon n) c = console_by_number w n == c
touches w p (event.Activate fd n) c = n == c
touches w p e c = false

-- every other console keeps its screen, the rest of its text and its count of BELs, or is freed
abbrev pub TerminalsStay : Type 0
TerminalsStay =
    (w : WorldState) (p : ℕ) (e : Event) (c : ℕ) → touches w p e c ≡ false
    → (terminal_at (step w p e).world.terminals c ≡ terminal_at w.terminals c)
    ⊎ (terminal_at (step w p e).world.terminals c ≡ None)

-- the keycodes by scan number of each keyboard
abbrev pub translations : WorldState → List (List ℕ)
translations w = map (λ s. s.codes) w.board.scanners

-- all four keyboards have the same
abbrev pub IsOneTranslation : WorldState → Type 0
IsOneTranslation w = (codes : List ℕ) × (translations w ≡ replicate 4 codes)

-- after every history from a start, all keyboards have the same keycodes
abbrev pub OneTranslation : Type 0
OneTranslation =
    (w : WorldState) (entries : List Entry) → IsStart w → IsOneTranslation (replay w entries)
