-- What a call leaves of the memory that it was lent. This project's own.
use Rattle.std.specs.Prelude.{ℕ, Bool, Option, Some, None, Result, Ok, Err, if◌then◌else◌}
use Rattle.vt_base.specs.Bytes.{Text}
use Rattle.vt_base.specs.declared.errno.Errno.{Errno}
use Rattle.vt_events.specs.declared.event.Event.{Event}
use Rattle.vt_events.specs.declared.event.Event.TheVariants as event
use Rattle.vt_events.specs.declared.reply.Reply.{Reply}
use Rattle.vt_events.specs.declared.reply.Reply.TheVariants as reply
use Rattle.vt_grid.specs.Grid.{GridView}
use Rattle.vt_switch.specs.Display.{is_allocated}
use Rattle.vt_world.specs.Refusals.{console_by_number, target}
use Rattle.vt_world.specs.Spare.{empty_with}
use Rattle.vt_world.specs.State.{WorldState}
use Rattle.vt_world.specs.Terminals.{TerminalState, terminal_at}

-- the answer to a call, from its result
abbrev pub answer_of : Result Reply Errno → Reply
answer_of (Ok answer) = answer
answer_of (Err errno) = reply.Err errno

-- the first if the answer is an error, otherwise the second
abbrev pub if_error : Reply → Option GridView → Option GridView → Option GridView
if_error (reply.Err errno) first second = first
if_error answer first second = second

-- the grid that is left after a console was opened: none if the console was allocated on it just then
abbrev pub grid_after_allocation : Bool → Option GridView → Option GridView
grid_after_allocation allocated grid = if allocated then grid else None

-- the grid that is left of a resize: the old one of the screen; without a screen the one that was lent
abbrev pub grid_after_resize : Option TerminalState → Option GridView → Option GridView
grid_after_resize None grid = grid
grid_after_resize (Some t) grid = Some t.emu.state.grid

-- the grid that a call leaves of the one that it was lent
abbrev pub grid_after : WorldState → ℕ → Event → Reply → Option GridView → Option GridView
grid_after w p (event.OpenCon n) answer grid =
    if_error answer grid (grid_after_allocation (is_allocated w.display (console_by_number w n)) grid)
grid_after w p (event.Activate fd n) answer grid =
    if_error answer grid (grid_after_allocation (is_allocated w.display n) grid)
grid_after w p (event.Resize fd rows cols) answer grid =
    if_error answer grid (grid_after_resize (terminal_at w.terminals (target w p fd)) grid)
grid_after w p e answer grid = grid

-- the buffer that a copy of an answer leaves: its bytes take the buffer's room
abbrev pub buffer_after : Reply → Text → Text
buffer_after (reply.Text b) buffer = empty_with 0
buffer_after answer buffer = buffer
