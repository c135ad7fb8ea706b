use Rattle.vt_journal.proofs.OneSpelling.{fit_whole, whole}
use Rattle.vt_journal.proofs.Spellings.{event_spelling, found_spells}
use Rattle.vt_journal.proofs.reading.read_event.Goals as goal

pub returns : goal.returns
returns c =
    let facts =
    found_spells c.args.words.now _
    (whole event_spelling c.args.words.now c.of-words.result c.take_event.new.words c.in_ok-event.event
    c.of-words.ensures c.in_ok-event.ensures.takes c.in_ok-event.ensures.fit)
    (fit_whole _ c.take_event.new.words c.in_ok-event.event c.in_ok-event.ensures.fit) in
    rw c.if_none_left.ensures (record { found = facts.0; none = facts.1; one = facts.2 })
