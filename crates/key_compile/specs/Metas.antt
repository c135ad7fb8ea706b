-- The entries that `alt_is_meta` sets, over tables whose lines are done.
use Rattle.std.specs.Prelude.{ℕ, ◌+◌, ◌-◌, Bool, ◌==◌, ◌&&◌, cond, nat_le, nat_lt, Option, Some, None}
use Rattle.key_syms.specs.Act.{Act, act}
use Rattle.key_syms.specs.Kinds.{HOLE, META}
use Rattle.key_tables.specs.Tables.{Tables, entry_of}
use Rattle.key_compile.specs.Entries.{is_ascii_act}

-- the meta of a character over a hole
abbrev pub meta_given : Act → Act → Option Act
meta_given below a =
    cond (a.kind == HOLE && is_ascii_act below) (Some (act META below.value)) None

-- the meta of a character over a hole, if both tables exist
abbrev pub meta_of : Option Act → Option Act → Option Act
meta_of None e = None
meta_of (Some below) None = None
meta_of (Some below) (Some a) = meta_given below a

abbrev pub is_keycode : ℕ → Bool
is_keycode c = nat_le 1 c && nat_lt c 256

-- the entry that the table with Alt gets for the table t below it
unfoldable pub meta_at : Tables → ℕ → ℕ → Option Act
meta_at k t c = cond (is_keycode c) (meta_of (entry_of k t c) (entry_of k (t + 8) c)) None

-- tables 8 to 15, up to one
unfoldable pub metas_below : Tables → ℕ → ℕ → ℕ → Option Act
metas_below k n u c = cond (nat_le 8 u && nat_lt u (8 + n)) (meta_at k (u - 8) c) None
