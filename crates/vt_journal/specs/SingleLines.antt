-- The text of a journal, line by line.
use Rattle.std.specs.Prelude.{◌≡◌, ℕ, List, [], ◌∷◌, ◌++◌, map}
use Rattle.std.specs.List.{flat_map}
use Rattle.vt_events.specs.declared.entry.Entry.{Entry}
use Rattle.vt_journal.specs.Journal.{entry_words, first_words, journal_text, line_text, tail_words}
use Rattle.vt_journal.specs.declared.tail.Tail.{Tail}

-- the lines of entries, one after another
abbrev pub entry_lines : ℕ → List Entry → List ℕ
entry_lines version entries = flat_map line_text (map (entry_words version) entries)

-- a text is its first line, the lines of its entries, and its last line
abbrev pub LinesMakeTheText : Type 0
LinesMakeTheText =
    (version : ℕ) (entries : List Entry) (end : Tail)
    → journal_text version entries end
    ≡ line_text (first_words version) ++ (entry_lines version entries ++ line_text (tail_words end))

-- the lines of later entries follow those of the earlier ones
abbrev pub LinesFollow : Type 0
LinesFollow =
    (version : ℕ) (entries later : List Entry)
    → entry_lines version (entries ++ later) ≡ entry_lines version entries ++ entry_lines version later

-- one entry has one line
abbrev pub EntriesAreLines : Type 0
EntriesAreLines =
    (version : ℕ) (entry : Entry) → entry_lines version (entry ∷ []) ≡ line_text (entry_words version entry)
