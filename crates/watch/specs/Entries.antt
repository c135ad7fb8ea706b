-- The text of an entry: lines for a person, or an object of JSON (RFC 8259). This project's own.
use Rattle.std.specs.Prelude.{ℕ, ◌==◌, nat_lt, List, [], ◌∷◌, ◌++◌, codes, decimal, if◌then◌else◌}
use Rattle.std.specs.List.{flat_map}
use Rattle.std.specs.Str.{bytes_eq}
use Rattle.watch.specs.Words.{by_form, caller_text, error_name, joined, list_text}
use Rattle.watch.specs.declared.form.Form.{Form}
use Rattle.watch.specs.declared.form.Form.TheVariants as form
use Rattle.vt_events.specs.declared.entry.Entry.{Entry}
use Rattle.vt_events.specs.declared.reply.Reply.{Reply}
use Rattle.vt_events.specs.declared.reply.Reply.TheVariants as reply
use Rattle.vt_journal.specs.Hex.{hex_text}
use Rattle.vt_journal.specs.Journal.{entry_words, line_text}
use Rattle.vt_journal.specs.Text.{blank_before_each}
use Rattle.vt_journal.specs.Words.{event_words, reply_words}

-- the error, if the answer is one: a line below the entry's, or a value
abbrev pub error_text : Form → Reply → List ℕ
error_text f (reply.Err errno) =
    joined (by_form f (codes "    answer ") (codes "\"")
    ∷ error_name errno
    ∷ by_form f (codes "\n") (codes "\"")
    ∷ [])
error_text f other = joined (by_form f [] (codes "null") ∷ [])

-- the words of the state after an entry, if they aren't those before it
abbrev pub change_text : List ℕ → List ℕ → List ℕ
change_text before after =
    if bytes_eq before after then [] else joined (codes "    " ∷ after ∷ codes "\n" ∷ [])

-- the lines below that of an entry: the error, the facts, and the state, if the entry changed it
unfoldable pub lower_lines : Reply → List ℕ → List ℕ → List ℕ → List ℕ
lower_lines answer facts before after =
    joined (error_text form.Lines answer ∷ facts ∷ change_text before after ∷ [])

-- an entry: its line of the journal, and the lines below it
unfoldable pub entry_lines : Entry → List ℕ → List ℕ → List ℕ → List ℕ
entry_lines entry facts before after =
    line_text (entry_words 2 entry) ++ lower_lines entry.reply facts before after

-- the members of an entry, from the words of its call and of its answer with a blank before each, the value of its
-- error, its facts and the members of the state after it
unfoldable pub object_row : ℕ → Entry → List ℕ → List ℕ → List ℕ → List ℕ → List ℕ → List ℕ
object_row place entry call answer error facts state =
    joined (codes "{\"entry\":"
    ∷ decimal place
    ∷ codes ",\"caller\":\""
    ∷ caller_text entry.caller
    ∷ codes "\",\"count\":"
    ∷ decimal entry.seq
    ∷ codes ",\"call\":\""
    ∷ list_text form.Json call
    ∷ codes "\",\"answer\":\""
    ∷ list_text form.Json answer
    ∷ codes "\",\"error\":"
    ∷ error
    ∷ codes ",\"did\":["
    ∷ list_text form.Json facts
    ∷ codes "]"
    ∷ state
    ∷ codes "}\n"
    ∷ [])

-- an entry: its members, its facts, and the state after it
unfoldable pub entry_object : ℕ → Entry → List ℕ → List ℕ → List ℕ
entry_object place entry facts state =
    object_row place entry (blank_before_each (event_words entry.event)) (blank_before_each (reply_words entry.reply))
    (error_text form.Json entry.reply) facts state

-- a byte of a text: a quote, a backslash and LF have a backslash before them, other controls are in hexadecimal
abbrev pub escaped_byte : ℕ → List ℕ
escaped_byte b =
    if b == 0x22 then codes "\\\""
    else if b == 0x5C then codes "\\\\"
    else if b == 0x0A then codes "\\n"
    else if nat_lt b 0x20 then codes "\\u00" ++ hex_text (b ∷ [])
    else b ∷ []

-- the end: how many entries there are, and the final text
unfoldable pub end_object : ℕ → List ℕ → List ℕ
end_object entries last =
    joined (codes "{\"entries\":"
    ∷ decimal entries
    ∷ codes ",\"final\":\""
    ∷ flat_map escaped_byte last
    ∷ codes "\"}\n"
    ∷ [])
