use Rattle.std.proofs.Common.{decimal, arith}
use Rattle.vt_journal.proofs.Lines.{entry_line}
use Rattle.vt_journal.specs.Callers.{caller_word}
use Rattle.vt_journal.specs.Words.{event_words, reply_words}
use Rattle.vt_journal.proofs.printing.add_entry.Goals as goal

pub returns-clause-ok : goal.returns-clause-ok
returns-clause-ok c =
    let entry = c.args.entry.now in
    entry_line (caller_word c.args.version entry.caller) (decimal entry.seq) _ (event_words entry.event)
    (reply_words entry.reply) c.args.text.now.bytes c.add_caller.new.text.bytes
    c.add_next.new.text.bytes c.add_event_words.new.text.bytes c.add.new.self.bytes
    c.add_reply_words.new.text.bytes c.add_end.new.text.bytes c.in_ok-add_caller.ensures.adds (grind arith)
    c.in_ok-add_event_words.ensures.adds c.in_ok-add.ensures c.in_ok-add_reply_words.ensures.adds
    c.in_ok-add_end.ensures
