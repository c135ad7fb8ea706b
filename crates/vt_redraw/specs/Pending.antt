-- The part of a row that is drawn and isn't in the text yet. No public clause names this.
use Rattle.std.specs.Prelude.{ℕ, Bool, ◌+◌, ◌/◌, ◌%◌, ◌==◌, List, [], ◌∷◌, ◌++◌, replicate, if◌then◌else◌}
use Rattle.vt_cells.specs.AttrByte.{vga}
use Rattle.vt_cells.specs.declared.cell.Cell.{Cell}
use Rattle.vt_redraw.specs.Cells.{cells_text}
use Rattle.vt_redraw.specs.declared.pending.Pending.{Pending}

-- a space with this byte
abbrev pub space_with : ℕ → Cell
space_with b = record { code = 0x20; attr = b }

-- the text of the pending cells and of the cells after them
abbrev pub pending_text : Bool → Pending → List Cell → List ℕ
pending_text erases p more = p.front ++ cells_text erases p.attr (replicate p.blanks (space_with p.attr) ++ more)

-- the text of an attribute byte up to the digit of its first colour, and from there on
abbrev pub start_of_byte : ℕ → List ℕ
start_of_byte b =
    0x1B ∷ 0x5B ∷ 0x30 ∷ 0x3B ∷ (if b / 8 % 2 == 1 then 0x31 ∷ 0x3B ∷ [] else [])
    ++ ((if b / 128 == 1 then 0x35 ∷ 0x3B ∷ [] else []) ++ 0x33 ∷ [])

abbrev pub end_of_byte : ℕ → List ℕ
end_of_byte b = (0x30 + vga (b % 8)) ∷ 0x3B ∷ 0x34 ∷ (0x30 + vga (b / 16 % 8)) ∷ 0x6D ∷ []
