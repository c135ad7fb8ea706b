-- The numbers at the top of a session's table. This project's own.
use Rattle.std.specs.Int.RustNames.{bit_or}
use Rattle.std.specs.List.{range_with_len}
use Rattle.std.specs.Prelude.{ℕ, ℤ, ◌-◌, ◌^◌, ◌≤◌, not, Option, Some, None, Result, Ok, Err, List, [], ◌∷◌, codes, find, ok_or}
use Rattle.table_fields.specs.FaultCodes.{OUT_OF_RANGE, WRONG_KIND}
use Rattle.table_fields.specs.Arrays.{array_of}
use Rattle.table_fields.specs.Checked.{check, fault, ◌>>=◌}
use Rattle.table_fields.specs.Fields.{number_in, number_of, number_within}
use Rattle.table_fields.specs.declared.fault.TableFault.{TableFault}
use Rattle.toml.specs.Data.{Data, Members, as_integer, get_member}
use Rattle.vt_base.specs.ConsoleSet.{IsFitSet, is_among}
use Rattle.session_text.specs.declared.session_header.SessionHeader.{SessionHeader}

-- the consoles of a list in addition to those of a set: each from 1 to 63, and none twice
abbrev pub consoles_in : ℕ → List ℤ → Result ℕ TableFault
consoles_in set [] = Ok set
consoles_in set (z ∷ zs) = do
  n ← number_within 1 63 (fault OUT_OF_RANGE 0 3) z
  new ← check (not (is_among set n)) (fault OUT_OF_RANGE 0 3)
  consoles_in (bit_or set (2 ^ n)) zs

-- a list of consoles has at least one
abbrev pub some_consoles : List ℤ → Result ℕ TableFault
some_consoles [] = Err (fault OUT_OF_RANGE 0 3)
some_consoles (z ∷ zs) = consoles_in 0 (z ∷ zs)

-- the consoles at a key (default: console 1)
abbrev pub consoles_of : Option Data → Result ℕ TableFault
consoles_of None = Ok 2
consoles_of (Some d) = array_of as_integer 0 3 (Some d) >>= some_consoles

-- the lowest console of a set from n on
unfoldable pub lowest_from : ℕ → ℕ → Option ℕ
lowest_from set n = find (is_among set) (range_with_len n (64 - n))

-- the console in front, which is one of the set (default: the lowest of the set)
abbrev pub front_of : ℕ → Option Data → Result ℕ TableFault
front_of set None = ok_or (lowest_from set 1) (fault OUT_OF_RANGE 0 4)
front_of set (Some d) = do
  n ← number_in 1 63 (fault WRONG_KIND 0 4) (fault OUT_OF_RANGE 0 4) (as_integer d)
  among ← check (is_among set n) (fault OUT_OF_RANGE 0 4)
  Ok n

-- the first six keys, in the order of the checks
abbrev pub opening_of : Members → Result SessionHeader TableFault
opening_of members = do
  rows ← number_of 0 1 25 1 255 (get_member (codes "rows") members)
  cols ← number_of 0 2 80 1 255 (get_member (codes "cols") members)
  consoles ← consoles_of (get_member (codes "consoles") members)
  front ← front_of consoles (get_member (codes "front") members)
  events ← number_of 0 5 65536 0 1000000 (get_member (codes "events") members)
  bytes ← number_of 0 6 67108864 64 1073741824 (get_member (codes "bytes") members)
  Ok (record {
    rows = rows;
    cols = cols;
    consoles = consoles;
    front = front;
    events = events;
    bytes = bytes;
  })

-- the bounds that every opening keeps
pub record IsOpening (o : SessionHeader) : Type 0 where
  pub rows : (1 ≤ o.rows) × (o.rows ≤ 255)
  pub cols : (1 ≤ o.cols) × (o.cols ≤ 255)
  pub fit : IsFitSet o.consoles o.front
  pub events : o.events ≤ 1000000
  pub bytes : o.bytes ≤ 1073741824
