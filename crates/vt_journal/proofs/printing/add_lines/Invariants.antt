use Rattle.std.proofs.Common.{◌≡◌, ◌∷◌, ◌++◌, take, map}
use Rattle.std.specs.List.{All, flat_map}
use Rattle.vt_events.specs.Plain.{plain_entry}
use Rattle.vt_journal.specs.Journal.{entry_words, first_words, line_text}
use Rattle.vt_journal.specs.Says.{IsFitEntry}
use Rattle.vt_journal.proofs.printing.add_lines.Given as goal

abbrev pub invariant-loop-entry : goal.invariant-loop-entry
invariant-loop-entry l = record {
  lines : l.rest.bytes
      ≡ l.fn.rest.bytes
      ++ flat_map line_text
      (first_words l.version ∷ map (entry_words l.version) (take l.entry-index l.entries));
  fit : All (λ e. IsFitEntry l.version (plain_entry e)) (take l.entry-index l.entries);
}
