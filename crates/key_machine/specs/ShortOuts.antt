-- Results of key events with the string of a function key by its number.
use Rattle.std.specs.Prelude.{ℕ, List, [], ◌∷◌}
use Rattle.key_machine.specs.Bytes.{out_of}
use Rattle.key_machine.specs.declared.key_out.KeyOut.{KeyOut}
use Rattle.key_machine.specs.declared.key_out.KeyOut.TheVariants as key_out
use Rattle.key_machine.specs.declared.short_out.ShortOut.{ShortOut}
use Rattle.key_machine.specs.declared.short_out.ShortOut.TheVariants.{Attention, Bytes, Function, Last, Next, Nothing, Prev, Spawn, Switch}
use Rattle.key_tables.specs.Tables.{Tables, func_of}

-- the result with the string of these tables
abbrev pub out_with : Tables → ShortOut → KeyOut
out_with tables (Bytes bytes) = key_out.Bytes bytes
out_with tables (Function i) = out_of (func_of tables i)
out_with tables (Switch n) = key_out.Switch n
out_with tables Last = key_out.Last
out_with tables Next = key_out.Next
out_with tables Prev = key_out.Prev
out_with tables Spawn = key_out.Spawn
out_with tables Attention = key_out.Attention
out_with tables Nothing = key_out.Nothing

-- bytes are sent, if there are any
abbrev pub short_of : List ℕ → ShortOut
short_of [] = Nothing
short_of (b ∷ bytes) = Bytes (b ∷ bytes)
