-- A text as rows: its bytes with their places, joined if a backslash stands before a line's end, and cut at
-- the line ends (keymaps(5)).
use Rattle.std.specs.Prelude.{ℕ, ◌+◌, Bool, false, ◌==◌, ◌&&◌, ◌||◌, cond, min, List, [], ◌∷◌, drop}
use Rattle.key_text.specs.declared.placed.Place.{Place}
use Rattle.key_text.specs.declared.placed.Placed.{Placed}

abbrev pub line_feed : ℕ
line_feed = 0x0A

abbrev pub carriage_return : ℕ
carriage_return = 0x0D

abbrev pub backslash : ℕ
backslash = 0x5C

-- one more, up to the greatest number of 32 bits
abbrev pub more : ℕ → ℕ
more n = min (n + 1) 4294967295

-- the place of the byte after one here
abbrev pub after : Place → Place
after at = record { line = at.line; column = more at.column }

-- the first place of the next line
abbrev pub next_line : Place → Place
next_line at = record { line = more at.line; column = 1 }

-- a byte at a place
abbrev pub put_at : Place → ℕ → Placed
put_at at b = record { byte = b; line = at.line; column = at.column }

-- the place of a byte
abbrev pub place_of : Placed → Place
place_of p = record { line = p.line; column = p.column }

-- the place after a byte: a new line begins after a line feed
abbrev pub place_after : Place → ℕ → Place
place_after at b = cond (b == line_feed) (next_line at) (after at)

-- each byte of a text with its place
abbrev pub with_places : Place → List ℕ → List Placed
with_places at [] = []
with_places at (b ∷ bs) = put_at at b ∷ with_places (place_after at b) bs

-- the list begins with LF
abbrev pub begins_lf : List Placed → Bool
begins_lf [] = false
begins_lf (p ∷ ps) = p.byte == line_feed

-- the list begins with a line's end: LF or CR LF
abbrev pub begins_end : List Placed → Bool
begins_end [] = false
begins_end (p ∷ ps) = p.byte == line_feed || (p.byte == carriage_return && begins_lf ps)

-- a backslash before a line's end is removed with that end, and any other CR LF becomes a line feed at the
-- place of CR
abbrev pub join_continuations : List Placed → List Placed
join_continuations [] = []
join_continuations (p ∷ ps) =
    cond (p.byte == backslash && begins_end ps) (drop 1 (join_continuations ps))
    (cond (p.byte == carriage_return && begins_lf ps)
    (put_at (place_of p) line_feed ∷ drop 1 (join_continuations ps))
    (p ∷ join_continuations ps))

-- a row: its bytes, and the place after the last one
pub record Row : Type 0 where
  pub items : List Placed
  pub end : Place

abbrev pub row_of : List Placed → Place → Row
row_of items end = record { items = items; end = end }

-- an item before the first row
abbrev pub with_item : Placed → List Row → List Row
with_item p [] = []
with_item p (row ∷ rows) = row_of (p ∷ row.items) row.end ∷ rows

-- the rows of these items, each with the place after its last byte; the last row may be empty
abbrev pub rows : Place → List Placed → List Row
rows at [] = row_of [] at ∷ []
rows at (p ∷ ps) =
    cond (p.byte == line_feed)
    (row_of [] (place_of p) ∷ rows (next_line (place_of p)) ps)
    (with_item p (rows (after (place_of p)) ps))

-- the rows of a text that starts at this place
unfoldable pub rows_of : Place → List ℕ → List Row
rows_of at text = rows at (join_continuations (with_places at text))
