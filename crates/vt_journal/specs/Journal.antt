-- The journal text of a version: the one spelling of entries and their end. This project's own.
use Rattle.std.specs.Prelude.{ℕ, List, [], ◌∷◌, ◌++◌, codes, decimal, map}
use Rattle.std.specs.List.{flat_map}
use Rattle.vt_events.specs.declared.entry.Entry.{Entry}
use Rattle.vt_journal.specs.Callers.{caller_word}
use Rattle.vt_journal.specs.declared.tail.Tail.{Tail}
use Rattle.vt_journal.specs.declared.tail.Tail.TheVariants as tail
use Rattle.vt_journal.specs.Words.{event_words, reply_words, joined_by_blanks}

-- the caller, its count of earlier calls, the call, and the answer after an equals sign
abbrev pub entry_words : ℕ → Entry → List (List ℕ)
entry_words version entry =
    caller_word version entry.caller ∷ decimal entry.seq
    ∷ event_words entry.event ++ codes "=" ∷ reply_words entry.reply

-- the number of entries and the sum of their charges; if a call found no room, its charge too
abbrev pub tail_words : Tail → List (List ℕ)
tail_words (tail.End events bytes) = codes "%end" ∷ decimal events ∷ decimal bytes ∷ []
tail_words (tail.Full full) =
    codes "%full" ∷ decimal full.events ∷ decimal full.bytes ∷ decimal full.charge ∷ []

-- the words of the first line
abbrev pub first_words : ℕ → List (List ℕ)
first_words version = codes "%journal" ∷ decimal version ∷ []

-- the lines of a journal, each as its words
abbrev pub journal_lines : ℕ → List Entry → Tail → List (List (List ℕ))
journal_lines version entries end =
    first_words version ∷ map (entry_words version) entries ++ tail_words end ∷ []

-- words as a line of text
abbrev pub line_text : List (List ℕ) → List ℕ
line_text words = joined_by_blanks words ++ 0x0A ∷ []

-- the text of a journal
abbrev pub journal_text : ℕ → List Entry → Tail → List ℕ
journal_text version entries end = flat_map line_text (journal_lines version entries end)
