-- The lines of a keymap: those of its rows in order, with the texts that it includes (keymaps(5)).
use Rattle.std.specs.Prelude.{ℕ, zero, suc, cond, length, nat_le, Option, Some, None, unwrap_or, Result, Ok, Err, List, [], ◌∷◌, ◌++◌}
use Rattle.std.specs.Option.{option_map}
use Rattle.key_text.specs.Fault.{fault, ◌>>=◌}
use Rattle.key_text.specs.Included.{Named, text_named}
use Rattle.key_text.specs.Lines.{StatementView, nothing, means, includes, statement_from}
use Rattle.key_text.specs.Rows.{Row, rows_of}
use Rattle.key_text.specs.KeymapLine.{KeymapLine}
use Rattle.key_text.specs.Tally.{MOST_INCLUDES, is_too_long, none_included, tally_after}
use Rattle.key_text.specs.View.{keymap_line}
use Rattle.key_text.specs.Words.{place_of_word, word_at}
use Rattle.key_text.specs.declared.fault.KeyFault.{KeyFault}
use Rattle.key_text.specs.FaultKinds.{NOT_GIVEN, TOO_DEEP, TOO_LONG_INCLUDES, TOO_MANY_INCLUDES}
use Rattle.key_text.specs.declared.placed.Place.{Place}
use Rattle.key_text.specs.declared.placed.Placed.{Placed}
use Rattle.key_text.specs.declared.tally.Tally.{Tally}

-- lines, and the tally of the texts included up to the last of them
pub record Got : Type 0 where
  pub lines : List KeymapLine
  pub tally : Tally

abbrev pub make_got : List KeymapLine → Tally → Got
make_got lines tally = record { lines = lines; tally = tally }

-- the place at which a text begins
abbrev pub start : Place
start = record { line = 1; column = 1 }

-- a fault in an included text is at the outermost include line
abbrev pub blamed_fault : Option Place → KeyFault → KeyFault
blamed_fault outer f =
    fault f.kind (unwrap_or outer (record { line = f.line; column = f.column }))

abbrev pub at_outer_include : {A : Type 0} → Option Place → Result A KeyFault → Result A KeyFault
at_outer_include outer (Ok x) = Ok x
at_outer_include outer (Err f) = Err (blamed_fault outer f)

-- the text of an include line, read by `deeper`, if it is given; the place is that of the quoted name
abbrev pub got_from_include : (List ℕ → Result Got KeyFault) → Place → Option (List ℕ) → Result Got KeyFault
got_from_include deeper quoted None = Err (fault NOT_GIVEN quoted)
got_from_include deeper quoted (Some text) = deeper text

-- the reading of a text at a place, given the place of the quoted name, the place of the include line, the
-- fault of the words after the name, and the tally of the texts included before
abbrev pub Deeper : Type 0
Deeper = Place → Place → Option KeyFault → Tally → List ℕ → Result Got KeyFault

-- the result of a row that starts at this place
abbrev pub got_from_row : Deeper → List Named → Option Place → Place → Tally → StatementView → Result Got KeyFault
got_from_row deeper texts outer first tally nothing = Ok (make_got [] tally)
got_from_row deeper texts outer first tally (means meaning) =
    let at = unwrap_or outer first in
    Ok (make_got (keymap_line meaning at.line at.column ∷ []) tally)
got_from_row deeper texts outer first tally (includes name quoted bad_end) =
    let at = unwrap_or outer quoted in
    got_from_include (deeper at (unwrap_or outer first) (option_map (blamed_fault outer) bad_end) tally) at
    (text_named name texts)

-- the result of a row by its first word; a row without a word gives no lines
abbrev pub read_row_by : Deeper → List Named → Option Place → Tally → Place → Option (List Placed × List Placed) → Result Got KeyFault
read_row_by deeper texts outer tally end None = Ok (make_got [] tally)
read_row_by deeper texts outer tally end (Some word) =
    at_outer_include outer (statement_from end word) >>= λ said. got_from_row deeper texts outer (place_of_word word.0) tally said

unfoldable pub read_row : Deeper → List Named → Option Place → Tally → Place → List Placed → Result Got KeyFault
read_row deeper texts outer tally end items =
    read_row_by deeper texts outer tally end (word_at items)

-- lines before those that are read
abbrev pub with_lines : List KeymapLine → Result Got KeyFault → Result Got KeyFault
with_lines front read = read >>= λ g. Ok (make_got (front ++ g.lines) g.tally)

-- the result of rows, one after another
abbrev pub read_rows : Deeper → List Named → Option Place → Tally → List Row → Result Got KeyFault
read_rows deeper texts outer tally [] = Ok (make_got [] tally)
read_rows deeper texts outer tally (row ∷ rows) =
    read_row deeper texts outer tally row.end row.items >>= λ g.
    with_lines g.lines (read_rows deeper texts outer g.tally rows)

-- the result, if the include line has no fault
abbrev pub unless : Option KeyFault → Result Got KeyFault → Result Got KeyFault
unless None read = read
unless (Some f) read = Err f

-- an included text, if texts may be included this deep: the name is judged first, then the number of texts and
-- of their bytes, then the rest of its line, and then the text is read
abbrev pub within : ℕ → List Named → Deeper
within zero texts quoted first bad_end tally text = Err (fault TOO_DEEP first)
within (suc n) texts quoted first bad_end tally text =
    cond (nat_le MOST_INCLUDES tally.texts) (Err (fault TOO_MANY_INCLUDES quoted))
    (cond (is_too_long tally.room (length text)) (Err (fault TOO_LONG_INCLUDES quoted))
    (unless bad_end
    (read_rows (within n texts) texts (Some first) (tally_after tally (length text)) (rows_of start text))))

-- how deep texts may be included
abbrev pub most_deep : ℕ
most_deep = 8

-- the lines of a text that may include these, after the texts of a tally
abbrev pub lines_after : Tally → List Named → List ℕ → Result (List KeymapLine) KeyFault
lines_after tally texts text =
    read_rows (within most_deep texts) texts None tally (rows_of start text) >>= λ g. Ok g.lines

-- the lines of a text that may include these
unfoldable pub lines_of : List Named → List ℕ → Result (List KeymapLine) KeyFault
lines_of texts text = lines_after (none_included None) texts text

-- the same, where the included texts have at most so many bytes together, each as often as it is included
unfoldable pub lines_within : ℕ → List Named → List ℕ → Result (List KeymapLine) KeyFault
lines_within most texts text = lines_after (none_included (Some most)) texts text
