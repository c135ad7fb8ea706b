-- The input of each console, its queue and its key state, in a list by the console's number.
use Rattle.std.specs.Prelude.{ℕ, ◌+◌, ◌&&◌, Bool, nat_le, Some, List, length, slice_index_or, slice_set, if◌then◌else◌}
use Rattle.in_queue.specs.Queue.{Queue, empty, with_drop, with_piece, without_front}
use Rattle.key_machine.specs.Keys.{State, start_state}
use Rattle.vt_world.specs.declared.input.Input.{Input}

-- the input of a new console: an empty queue, and the key state at the start
abbrev pub new_input : Input
new_input = record { queue = empty; keys = start_state }

abbrev pub input_at : List Input → ℕ → Input
input_at inputs n = slice_index_or inputs n new_input

-- there is room for a piece; a queue holds 4,096 bytes
abbrev pub has_room : Queue → List ℕ → Bool
has_room q piece = nat_le (length q.bytes + length piece) 4096

-- a piece goes into a queue whole, or is dropped and counted
abbrev pub with_bytes : Queue → List ℕ → Queue
with_bytes q piece = if has_room q piece then with_piece q piece else with_drop q

-- bytes enter with a piece: it has some, and there is room for it
abbrev pub comes : Queue → List ℕ → Bool
comes q piece = nat_le 1 (length piece) && has_room q piece

-- console n has this queue
abbrev pub with_queue : ℕ → Queue → List Input → List Input
with_queue n queue inputs = slice_set inputs n (record (input_at inputs n) { queue = queue })

-- a piece goes into the queue of console n
abbrev pub with_queued : ℕ → List ℕ → List Input → List Input
with_queued n piece inputs = with_queue n (with_bytes (input_at inputs n).queue piece) inputs

-- the first bytes of console n's queue are taken, this many
abbrev pub without_bytes : ℕ → ℕ → List Input → List Input
without_bytes n count inputs =
    with_queue n (without_front (input_at inputs n).queue count) inputs

-- console n has this key state
abbrev pub with_key_state : ℕ → State → List Input → List Input
with_key_state n state inputs = slice_set inputs n (record (input_at inputs n) { keys = state })

-- console n has these lights
abbrev pub lit : ℕ → ℕ → List Input → List Input
lit n lights inputs =
    with_key_state n (record (input_at inputs n).keys { lights = Some lights }) inputs

-- console n's input is that of a new console
abbrev pub with_new_input : ℕ → List Input → List Input
with_new_input n inputs = slice_set inputs n new_input
