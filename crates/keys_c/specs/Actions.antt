-- The action of a key as C gets it.
use Rattle.std.specs.Prelude.{ℕ, Option, Some, None}
use Rattle.key_syms.specs.Act.{Act}
use Rattle.keys_c.specs.declared.vt_action.VtAction.{VtAction}

-- VT_ACTION_NO_TABLE: there is no such table
abbrev pub NO_TABLE : ℕ
NO_TABLE = 14

-- the kind and the value of docs/reference/keys.md, "Actions"
abbrev pub c_action : Option Act → VtAction
c_action None = record { kind = NO_TABLE; value = 0 }
c_action (Some a) = record { kind = a.kind; value = a.value }
