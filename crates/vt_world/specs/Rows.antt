-- The answer and the deeds of an event that isn't refused (ioctl_console(2), vcs(4)). Waits,
-- `accept`, signals and the dump of code points are this project's own.
use Rattle.std.specs.Prelude.{ℕ, ◌^◌, ◌==◌, Bool, not, nat_lt, List, [], ◌∷◌, filter, find, length, map, min, sum, take, Option, Some, None, unwrap_or, if◌then◌else◌}
use Rattle.std.specs.List.{flat_map, range_with_len}
use Rattle.key_machine.specs.Keys.{State}
use Rattle.key_syms.specs.Act.{Act, act}
use Rattle.vt_base.specs.declared.errno.Errno.TheVariants.{Intr}
use Rattle.vt_dump.specs.Dumps.{codes_bytes, vcs_bytes, vcsa_bytes}
use Rattle.vt_events.specs.Kinds.{text}
use Rattle.vt_events.specs.declared.reply.Reply.{Reply}
use Rattle.vt_events.specs.declared.reply.Reply.TheVariants as reply
use Rattle.vt_procs.specs.Callers.{is_opened}
use Rattle.vt_procs.specs.declared.ticket.Ticket.{Ticket}
use Rattle.vt_procs.specs.declared.waiting.Waiting.{Waiting}
use Rattle.vt_procs.specs.declared.waiting.Waiting.TheVariants as waiting
use Rattle.vt_canvas.specs.Screen.{Screen}
use Rattle.vt_canvas.specs.declared.out.Out.{Out}
use Rattle.vt_canvas.specs.declared.out.Out.TheVariants as outs
use Rattle.vt_switch.specs.Acts.{Allocate, Free}
use Rattle.vt_switch.specs.Display.{Display, is_allocated}
use Rattle.vt_world.specs.Deeds.{Deed, Asks, By, Clears, Lights, Own, Puts, Starts, Takes, Waits, Writes}
use Rattle.vt_world.specs.Inputs.{input_at}
use Rattle.vt_world.specs.State.{WorldState}
use Rattle.vt_world.specs.Terminals.{TerminalState, said_of, terminal_at}
use Rattle.vt_world.specs.Refusals.{is_in_use}
use Rattle.vt_world.specs.declared.wanted.Wanted.TheVariants.{Last, Number}

-- an answer, and deeds
pub record EventRow : Type 0 where
  pub reply : Reply
  pub deeds : List Deed

abbrev pub row_of : Reply → List Deed → EventRow
row_of reply deeds = record { reply = reply; deeds = deeds }

-- one deed, and the answer "ok"
abbrev pub does : Deed → EventRow
does deed = row_of reply.Done (deed ∷ [])

-- no deed, and the answer is a number, or bytes
abbrev pub tells : ℕ → EventRow
tells n = row_of (reply.Num n) []

abbrev pub tells_bytes : List ℕ → EventRow
tells_bytes bytes = row_of (reply.Text (text bytes)) []

-- p waits, unless the wait would end at once
abbrev pub waits_unless : Bool → ℕ → Ticket → EventRow
waits_unless is_there p ticket =
    if is_there then row_of reply.Done []
    else row_of reply.Wait (Own (Waits p ticket) ∷ [])

-- the number of bytes that a read takes from console c: this many, or all if there are fewer
abbrev pub read_count : WorldState → ℕ → ℕ → ℕ
read_count w c most = min most (length (input_at w.inputs c).queue.bytes)

-- this many bytes are taken from the front of its queue, and are the answer
abbrev pub takes_front : WorldState → ℕ → ℕ → EventRow
takes_front w c count =
    row_of (reply.Text (text (take count (input_at w.inputs c).queue.bytes)))
    (Own (Takes c count) ∷ [])

-- the answer to `waitend`
abbrev pub ended_reply : Waiting → Reply
ended_reply waiting.Nothing = reply.Done
ended_reply (waiting.Open ticket) = reply.Done
ended_reply waiting.Done = reply.Done
ended_reply waiting.Broken = reply.Err Intr

-- before these deeds, console n is allocated and gets a screen, if it has none
abbrev pub with_allocation : ℕ → List Deed → List Deed
with_allocation n deeds = By (Allocate n) ∷ Own (Starts n) ∷ deeds

-- console n is freed
abbrev pub free_deeds : ℕ → List Deed
free_deeds n = By (Free n) ∷ Own (Clears n) ∷ []

-- console n is freed, or if n is 0, all that aren't in use
abbrev pub disallocate_deeds : WorldState → ℕ → List Deed
disallocate_deeds w n =
    if n == 0 then
    flat_map free_deeds (filter (λ c. not (is_in_use w c)) (range_with_len 1 63))
    else free_deeds n

-- the lowest console that no process has open, 0 if there is none
abbrev pub lowest_unopened : WorldState → ℕ
lowest_unopened w =
    unwrap_or (find (λ c. not (is_opened w.callers c)) (range_with_len 1 63)) 0

-- the consoles that are allocated, as a number: bit n stands for console n
abbrev pub allocated_mask : Display → ℕ
allocated_mask d =
    sum (map (λ n. if is_allocated d n then 2 ^ n else 0) (range_with_len 1 63))

-- the deeds for a side effect of a text: a report goes into its console's queue, all or none; a BEL
-- needs no deed, since it is counted with the text
abbrev pub out_deeds : ℕ → Out → List Deed
out_deeds c (outs.Report text) = Own (Puts c text) ∷ []
out_deeds c (outs.SwitchTo n) = Asks (Number n) ∷ []
out_deeds c outs.SwitchLast = Asks Last ∷ []
out_deeds c (outs.Lights lights) = Own (Lights c lights) ∷ []
out_deeds c outs.Bell = []

-- a text is run on its console's screen, and then come the deeds for its side effects, in order
abbrev pub write_deeds : WorldState → ℕ → List ℕ → List Deed
write_deeds w c bytes =
    Own (Writes c bytes) ∷ flat_map (out_deeds c) (said_of (terminal_at w.terminals c) bytes)

-- the key state of console c
abbrev pub keys : WorldState → ℕ → State
keys w c = (input_at w.inputs c).keys

-- the lights that a number sets; a number above 7 lets them show the flags again
abbrev pub lights_of : ℕ → Option ℕ
lights_of v = if nat_lt 7 v then None else Some v

-- the action of a key; 14 0 if there is no such table
abbrev pub act_of : Option Act → Act
act_of None = act 14 0
act_of (Some a) = a

abbrev pub act_reply : Act → Reply
act_reply a = reply.Act a.kind a.value

-- bytes of a terminal's screen, none if there is no terminal
abbrev pub screen_bytes : (Screen → List ℕ) → Option TerminalState → List ℕ
screen_bytes bytes None = []
screen_bytes bytes (Some t) = bytes t.emu.state

-- a dump of a kind: 0 the characters, 1 with size, cursor and attributes, 2 the code points
abbrev pub dump_of : ℕ → Screen → List ℕ
dump_of kind s =
    if kind == 0 then vcs_bytes s.grid
    else if kind == 1 then vcsa_bytes s.grid s.state.x s.state.y s.state.reverse
    else codes_bytes s.grid

abbrev pub tells_screen : WorldState → ℕ → (Screen → List ℕ) → EventRow
tells_screen w c bytes = tells_bytes (screen_bytes bytes (terminal_at w.terminals c))
