-- The names of the table by their places, and in the order of their bytes.
use Rattle.std.specs.Prelude.{ℕ, ◌+◌, List, slice_index, slice_range}
use Rattle.key_syms.specs.declared.index.TheConstants.{LENGTHS, ORDER, STARTS}
use Rattle.key_syms.specs.declared.table.TheConstants.{NAMES}

-- the name at a place of the table
unfoldable pub name_at : ℕ → List ℕ
name_at place =
    let start = slice_index STARTS place in
    slice_range NAMES start (start + slice_index LENGTHS place)

-- the place of the name of a rank, in the order of the names
unfoldable pub place_of_rank : ℕ → ℕ
place_of_rank rank = slice_index ORDER rank
