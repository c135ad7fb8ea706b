-- Calls, answers and entries as data: with the same kind, numbers and bytes, and with no spare room. The room of bytes
-- is not part of a call or an answer.
use Rattle.vt_events.specs.Calls.{bytes_of, kind_of, numbers_of}
use Rattle.vt_events.specs.Kinds.{call_of, text}
use Rattle.vt_events.specs.declared.entry.Entry.{Entry}
use Rattle.vt_events.specs.declared.event.Event.{Event}
use Rattle.vt_events.specs.declared.reply.Reply.{Reply}
use Rattle.vt_events.specs.declared.reply.Reply.TheVariants as reply

-- a call
abbrev pub plain_event : Event → Event
plain_event e = call_of (kind_of e) (numbers_of e) (bytes_of e)

-- an answer
abbrev pub plain_reply : Reply → Reply
plain_reply (reply.Text b) = reply.Text (text b.bytes)
plain_reply r = r

-- an entry
abbrev pub plain_entry : Entry → Entry
plain_entry entry = record entry { event = plain_event entry.event; reply = plain_reply entry.reply }
