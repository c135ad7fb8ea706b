-- The processes of a session's table. This project's own.
use Rattle.std.specs.Prelude.{ℕ, Bool, ◌||◌, nat_le, Result, Ok, List, length, codes}
use lib.Pointwise.{pointwise}
use lib.Dec.{eqb}
use Rattle.table_fields.specs.FaultCodes.{TOO_MANY, UNKNOWN_KEY}
use Rattle.table_fields.specs.Arrays.{array_of, flag_of}
use Rattle.table_fields.specs.Checked.{check, fault, ◌>>=◌}
use Rattle.table_fields.specs.Fields.{keys_pass, number_of}
use Rattle.table_fields.specs.declared.fault.TableFault.{TableFault}
use Rattle.toml.specs.Data.{Members, as_str, get_member}
use Rattle.vt_procs.specs.declared.proc_start.ProcStart.{ProcStart}

-- the keys of a process, counted from 1 in faults
abbrev pub is_process_key : List ℕ → Bool
is_process_key key =
    ((pointwise eqb key (codes "home") || pointwise eqb key (codes "privileged"))
    || pointwise eqb key (codes "script")) || pointwise eqb key (codes "hooks")

-- the most items of a script; this project's own
abbrev pub most_items : ℕ
most_items = 10240

-- the start of a process, and the texts of its script
pub record Head : Type 0 where
  pub start : ProcStart
  pub script : List (List ℕ)

-- the first three keys of process p, in the order of the checks
abbrev pub head_of : ℕ → Members → Result Head TableFault
head_of p members = do
  known ← check (keys_pass is_process_key members) (fault UNKNOWN_KEY p 0)
  home ← number_of p 1 0 0 63 (get_member (codes "home") members)
  privileged ← flag_of p 2 (get_member (codes "privileged") members)
  texts ← array_of as_str p 3 (get_member (codes "script") members)
  few ← check (nat_le (length texts) most_items) (fault TOO_MANY p 3)
  Ok (record { start = record { home = home; privileged = privileged }; script = texts })
