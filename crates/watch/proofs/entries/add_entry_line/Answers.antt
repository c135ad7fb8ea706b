use Rattle.std.proofs.Common.{codes, decimal, arith}
use Rattle.vt_journal.proofs.Lines.{entry_line}
use Rattle.watch.specs.Words.{caller_text}
use Rattle.vt_journal.specs.Words.{event_words, reply_words}
use Rattle.watch.proofs.entries.add_entry_line.Goals as goal

pub returns : goal.returns
returns c =
    let entry = c.args.entry.now in
    entry_line (caller_text entry.caller) (decimal entry.seq) (codes "=") (event_words entry.event)
    (reply_words entry.reply) c.args.text.now.bytes c.add_caller.new.text.bytes c.add_next.new.text.bytes
    c.add_event.new.text.bytes c.add.new.self.bytes c.add_reply.new.text.bytes c.add-2.new.self.bytes
    c.in_ok-add_caller.ensures.adds (grind arith) c.in_ok-add_event.ensures.adds c.in_ok-add.ensures
    c.in_ok-add_reply.ensures.adds c.in_ok-add-2.ensures
