-- The charge of a call in a journal, in bytes. This project's own.
use Rattle.std.specs.Prelude.{ℕ, ◌+◌, ◌-◌, ◌*◌, ◌^◌, ◌==◌, min, List, [], length, if◌then◌else◌}
use Rattle.vt_events.specs.Calls.{bytes_of}
use Rattle.vt_events.specs.declared.event.Event.{Event}
use Rattle.vt_events.specs.declared.event.Event.TheVariants as event
use Rattle.vt_events.specs.declared.reply.Reply.{Reply}
use Rattle.vt_events.specs.declared.reply.Reply.TheVariants as reply

-- the bytes that count in the charge of a call: the byte of a scan doesn't
abbrev pub text_of_event : Event → List ℕ
text_of_event (event.Scan b) = []
text_of_event e = bytes_of e

-- the bytes that an answer holds
abbrev pub text_of_reply : Reply → List ℕ
text_of_reply (reply.Text b) = b.bytes
text_of_reply r = []

-- the most bytes of a dump of a kind, for 255 rows and columns: kind 0 has a byte for each cell, kind 1 four bytes of
-- size and place and two for each cell, kind 2 four for each cell, and any other kind none
abbrev pub greatest_dump : ℕ → ℕ
greatest_dump kind =
    if kind == 0 then 255 * 255
    else if kind == 1 then 4 + 2 * (255 * 255)
    else if kind == 2 then 4 * (255 * 255)
    else 0

-- the most bytes that the answer to a call can have
abbrev pub greatest_reply : Event → ℕ
greatest_reply (event.ReadIn fd most) = min most 4096
greatest_reply (event.GetFunc fd i) = 255
greatest_reply (event.GetDia fd) = 12 * 256
greatest_reply (event.GetMap fd) = 2 * 256
greatest_reply (event.GetPal fd) = 3 * 16
greatest_reply (event.Dump kind n) = greatest_dump kind
greatest_reply e = 0

-- 64, the bytes that the call holds, and the most that its answer can have
abbrev pub charge_of : Event → ℕ
charge_of e = min (64 + length (text_of_event e) + greatest_reply e) (2 ^ 32 - 1)
