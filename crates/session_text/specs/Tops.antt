-- A session's table except its processes. This project's own.
use Rattle.std.specs.Prelude.{ℕ, Bool, ◌||◌, nat_le, Result, Ok, List, length, codes}
use lib.Pointwise.{pointwise}
use lib.Dec.{eqb}
use Rattle.table_fields.specs.FaultCodes.{OUT_OF_RANGE, UNKNOWN_KEY}
use Rattle.table_fields.specs.Arrays.{array_of, count_of}
use Rattle.table_fields.specs.Checked.{check, fault, ◌>>=◌}
use Rattle.table_fields.specs.Fields.{keys_pass}
use Rattle.table_fields.specs.declared.fault.TableFault.{TableFault}
use Rattle.toml.specs.Data.{Members, as_table, get_member}
use Rattle.session_text.specs.Keyboards.{Typed, further_of, keyboards_of, typed_of}
use Rattle.session_text.specs.Openings.{opening_of}
use Rattle.session_text.specs.Turns.{turns_of}
use Rattle.session_text.specs.declared.session_header.SessionHeader.{SessionHeader}

-- the keys of a session, counted from 1 in faults
abbrev pub is_screen_key : List ℕ → Bool
is_screen_key key =
    ((((pointwise eqb key (codes "rows") || pointwise eqb key (codes "cols"))
    || pointwise eqb key (codes "consoles")) || pointwise eqb key (codes "front"))
    || pointwise eqb key (codes "events")) || pointwise eqb key (codes "bytes")

abbrev pub is_top_key : List ℕ → Bool
is_top_key key =
    (((((is_screen_key key || pointwise eqb key (codes "include"))
    || pointwise eqb key (codes "keymap")) || pointwise eqb key (codes "keys"))
    || pointwise eqb key (codes "turns")) || pointwise eqb key (codes "process"))
    || pointwise eqb key (codes "more_keys")

-- the values of a session's table, and the tables of its processes, which aren't read yet
pub record Top : Type 0 where
  pub opening : SessionHeader
  pub typed : Typed
  pub turns : List ℕ
  pub tables : List Members
  pub further : List (List ℕ)

-- its keys, in the order of the checks: there are at most 64 processes
abbrev pub top_of : Members → Result Top TableFault
top_of members = do
  known ← check (keys_pass is_top_key members) (fault UNKNOWN_KEY 0 0)
  opening ← opening_of members
  typed ← typed_of members
  turns ← turns_of
      (count_of (get_member (codes "process") members)) (keyboards_of (get_member (codes "more_keys") members))
      (get_member (codes "turns") members)
  tables ← array_of as_table 0 11 (get_member (codes "process") members)
  few ← check (nat_le (length tables) 64) (fault OUT_OF_RANGE 0 11)
  further ← further_of (get_member (codes "more_keys") members)
  Ok (record {
    opening = opening;
    typed = typed;
    turns = turns;
    tables = tables;
    further = further;
  })
