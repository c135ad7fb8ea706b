-- The lines of a review. This project's own: docs/reference/review.md.
use Rattle.std.specs.Prelude.{ℕ, ◌+◌, ◌==◌, List, [], ◌∷◌, ◌++◌, codes, decimal, if◌then◌else◌}
use Rattle.vt_journal.specs.Text.{blank_before_each}
use Rattle.vt_review.specs.Ears.{says}
use Rattle.vt_review.specs.declared.ear_table.EarTable.{EarTable}
use Rattle.vt_review.specs.declared.notice.Notice.{Notice}

-- a notice, and the end of its line after the console's number
pub record Told : Type 0 where
  pub notice : Notice
  pub end : List ℕ

abbrev pub make_told : ℕ → ℕ → List ℕ → Told
make_told kind console end = record {
  notice = record { kind = kind; console = console };
  end = end;
}

abbrev pub kind_word : ℕ → List ℕ
kind_word kind =
    if kind == 0 then codes "display" else if kind == 1 then codes "bell" else codes "row"

-- the words of a line for entry e, a kind and a console
abbrev pub words_of : ℕ → ℕ → ℕ → List ℕ
words_of e kind console = blank_before_each (decimal e ∷ kind_word kind ∷ decimal console ∷ [])

-- the end of a line for row y, with this text. No public clause names this
abbrev pub row_end : ℕ → List ℕ → List ℕ
row_end y text = 0x20 ∷ decimal y ++ 0x20 ∷ text

-- the line of the ear at place a, for entry e
abbrev pub ear_line : ℕ → ℕ → Told → List ℕ
ear_line a e t = decimal a ++ (words_of e t.notice.kind t.notice.console ++ t.end)

-- the lines of a notice: one for each ear from place a on, whose tables are these, that hears it
abbrev pub ear_lines : ℕ → ℕ → List EarTable → Told → List ℕ
ear_lines a e [] t = []
ear_lines a e (table ∷ tables) t =
    (if says table t.notice then ear_line a e t else []) ++ ear_lines (a + 1) e tables t
