-- The meaning of a text as a journal: its version, its entries and their end, or its first fault. This project's own.
use Rattle.std.specs.Prelude.{◌≡◌, ◌≢◌, ℕ, ◌+◌, ◌≤◌, ⊤, List, [], ◌++◌, Result, Ok, Err, length, map}
use Rattle.std.specs.List.{All, flat_map}
use Rattle.vt_events.specs.Plain.{plain_entry, plain_event}
use Rattle.vt_events.specs.declared.entry.Entry.{Entry}
use Rattle.vt_journal.specs.Callers.{HasWord, IsVersion}
use Rattle.vt_journal.specs.Journal.{entry_words, first_words, journal_text, line_text, tail_words}
use Rattle.vt_journal.specs.Replies.{IsFitReply}
use Rattle.vt_journal.specs.Words.{IsFit}
use Rattle.vt_journal.specs.declared.j_error.JError.{JError}
use Rattle.vt_journal.specs.declared.j_error.JError.TheVariants as errors
use Rattle.vt_journal.specs.declared.j_fault.JFault.{JFault}
use Rattle.vt_journal.specs.declared.journal.Journal.{Journal}
use Rattle.vt_journal.specs.declared.tail.Tail.{Tail}
use Rattle.vt_journal.specs.declared.tail.Tail.TheVariants as tail

-- an entry that a line of that version can spell: its caller has a word, its numbers are within their
-- types, and its bytes have no room
pub record IsFitEntry (version : ℕ) (entry : Entry) : Type 0 where
  pub caller : HasWord version entry.caller
  pub seq : entry.seq ≤ 4294967295
  pub call : IsFit entry.event
  pub plain : plain_event entry.event ≡ entry.event
  pub answer : IsFitReply entry.reply

-- an end that a last line can spell
abbrev pub IsFitTail : Tail → Type 0
IsFitTail (tail.End events bytes) = (events ≤ 4294967295) × (bytes ≤ 18446744073709551615)
IsFitTail (tail.Full full) =
    (full.events ≤ 4294967295) × (full.bytes ≤ 18446744073709551615) × (full.charge ≤ 4294967295)

-- a text is the first line of the version, the lines of these entries, and the rest
pub record Begins (version : ℕ) (text : List ℕ) (entries : List Entry) (rest : List ℕ) : Type 0 where
  pub known : IsVersion version
  pub fit : All (IsFitEntry version) entries
  pub parts :
      text
      ≡ line_text (first_words version)
      ++ (flat_map line_text (map (entry_words version) entries) ++ rest)

-- the text begins with the first line of the version
pub record HasFirst (version : ℕ) (text : List ℕ) : Type 0 where
  pub known : IsVersion version
  pub rest : List ℕ
  pub parts : text ≡ line_text (first_words version) ++ rest

-- the text begins with the first line of no version
abbrev pub IsNoFirst : List ℕ → Type 0
IsNoFirst text = (version : ℕ) → ¬ HasFirst version text

-- the text begins with no line of an entry
abbrev pub IsNoEntry : ℕ → List ℕ → Type 0
IsNoEntry version text =
    (entry : Entry) (rest : List ℕ) → IsFitEntry version entry
    → text ≢ line_text (entry_words version entry) ++ rest

-- the text begins with no last line
abbrev pub IsNoTail : List ℕ → Type 0
IsNoTail text =
    (end : Tail) (rest : List ℕ) → IsFitTail end → text ≢ line_text (tail_words end) ++ rest

-- the most entries of a journal
abbrev pub most_entries : ℕ
most_entries = 1000000

-- a fault of that kind in that line, counted from 1
abbrev pub fault : ℕ → ℕ → Result Journal JFault
fault kind line = Err (record { kind = kind; line = line })

-- the meaning of a text: the journal, if it is the text of one; otherwise the first fault, in the last line that was
-- read
pub data JournalSays (text : List ℕ) : Result Journal JFault → Type 0 where
  Whole : (version : ℕ) (entries : List Entry) (end : Tail) → IsVersion version → All (IsFitEntry version) entries → IsFitTail end → length entries ≤ most_entries → text ≡ journal_text version entries end → JournalSays text (Ok (record { version = version; entries = entries; tail = end }))
  NoFirst : IsNoFirst text → JournalSays text (fault 40 0)
  BadLine : (version : ℕ) (entries : List Entry) (rest : List ℕ) → Begins version text entries rest → length entries ≤ most_entries → rest ≢ [] → IsNoEntry version rest → IsNoTail rest → JournalSays text (fault 41 (length entries + 2))
  NoLast : (version : ℕ) (entries : List Entry) → Begins version text entries [] → length entries ≤ most_entries → JournalSays text (fault 42 (length entries + 1))
  More : (version : ℕ) (entries : List Entry) (end : Tail) (rest : List ℕ) → Begins version text entries (line_text (tail_words end) ++ rest) → length entries ≤ most_entries → IsFitTail end → rest ≢ [] → JournalSays text (fault 43 (length entries + 2))
  TooMany : (version : ℕ) (entries : List Entry) (rest : List ℕ) → Begins version text entries rest → length entries ≡ most_entries + 1 → JournalSays text (fault 44 (length entries + 1))

-- a text has one meaning
abbrev pub OneJournal : Type 0
OneJournal = (text : List ℕ) (a b : Result Journal JFault) → JournalSays text a → JournalSays text b → a ≡ b

-- a printed journal is read again, without the room of its bytes
abbrev pub PrintedIsRead : Type 0
PrintedIsRead =
    (version : ℕ) (entries : List Entry) (end : Tail) → IsVersion version
    → All (IsFitEntry version) (map plain_entry entries) → IsFitTail end
    → length entries ≤ most_entries
    → JournalSays (journal_text version entries end)
    (Ok (record { version = version; entries = map plain_entry entries; tail = end }))

-- the result of a call has the meaning, unless memory ran out
abbrev pub Reads : Result Journal JError → (Result Journal JFault → Type 0) → Type 0
Reads (Ok j) says = says (Ok j)
Reads (Err (errors.Fault f)) says = says (Err f)
Reads (Err errors.NoMemory) says = ⊤
