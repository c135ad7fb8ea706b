use Rattle.std.proofs.Common.{[], ◌∷◌, subst}
use Rattle.std.specs.List.{All}
use Rattle.std.proofs.lemmas.List.{take_all}
use Rattle.std.proofs.lemmas.List.Elements.{All-map}
use Rattle.vt_events.specs.Plain.{plain_entry}
use Rattle.vt_journal.specs.Journal.{entry_words, first_words, line_text}
use Rattle.vt_journal.specs.Says.{IsFitEntry}
use Rattle.vt_journal.proofs.Lines.{all_more, piece_more}
use Rattle.vt_journal.proofs.printing.add_lines.Goals as goal

pub loop-entry-preserved : goal.loop-entry-preserved
loop-entry-preserved c = record {
  lines =
      piece_more line_text (entry_words c.args.version) c.args.rest.now.bytes (first_words c.args.version ∷ [])
      c.args.entries.now c.loop-entry.entry-index c.entry-item.result c.entry-item.result c.loop-entry.rest.bytes
      c.add_entry.new.text.bytes c.loop-entry-test.true c.entry-item.is c.loop-entry.invariant.lines
      c.in_ok-add_entry.ensures.ok;
  fit =
      all_more (λ e. IsFitEntry c.args.version (plain_entry e)) c.args.entries.now c.loop-entry.entry-index
      c.entry-item.result c.loop-entry-test.true c.entry-item.is c.loop-entry.invariant.fit
      c.in_ok-add_entry.ensures.fit;
}

pub returns-clause-fit : goal.returns-clause-fit
returns-clause-fit c =
    All-map (IsFitEntry c.args.version) plain_entry c.args.entries.now
    (subst (All (λ e. IsFitEntry c.args.version (plain_entry e)))
    (take_all c.loop-entry.entry-index c.args.entries.now c.loop-entry-test.false) c.loop-entry.invariant.fit)
