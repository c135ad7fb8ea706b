-- Answers by which a caller waits. This project's own.
use Rattle.std.specs.Prelude.{Bool, true, false}
use Rattle.vt_events.specs.declared.reply.Reply.{Reply}
use Rattle.vt_events.specs.declared.reply.Reply.TheVariants as reply

-- the caller waits; `waitend` returns how the wait ended
abbrev pub is_wait : Reply → Bool
is_wait reply.Wait = true
is_wait r = false
