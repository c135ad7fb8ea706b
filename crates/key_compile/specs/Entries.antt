-- The line that decides an entry: the last one that names its table and code.
use Rattle.std.specs.Prelude.{ℕ, Bool, true, false, ◌==◌, ◌&&◌, cond, nat_le, nat_lt, Option, Some, None, unwrap_or, List, [], ◌∷◌, ◌-◌}
use Rattle.std.specs.List.{list_any}
use Rattle.std.specs.Option.{option_or}
use Rattle.key_syms.specs.Act.{Act, act}
use Rattle.key_syms.specs.Kinds.{HOLE, META}
use Rattle.key_tables.specs.Tables.{hole}
use Rattle.key_text.specs.KeymapLine.{LineMeaning, KeymapLine, keymaps, keys, one, string, compose, alt_is_meta, usual_strings, usual_pairs}
use Rattle.key_compile.specs.Fill.{filled_action, is_character_act}
use Rattle.key_compile.specs.Union.{is_declared, union_of}

-- the action of a table, if actions stand for tables in order
abbrev pub action_of_table : List ℕ → List Act → ℕ → Option Act
action_of_table [] actions t = None
action_of_table (u ∷ us) [] t = None
action_of_table (u ∷ us) (a ∷ rest) t = option_or (action_of_table us rest t) (cond (t == u) (Some a) None)

-- the action of a table, if one symbol stands for all of them
abbrev pub everywhere : List ℕ → Act → ℕ → Option Act
everywhere tables a t = cond (list_any (λ u. t == u) tables) (Some (filled_action t a)) None

-- the action that symbols give a table: one symbol is for all tables of the union, several are for the first
-- of them
abbrev pub by_symbols : List ℕ → List Act → ℕ → Option Act
by_symbols union [] t = None
by_symbols union (a ∷ []) t = everywhere union a t
by_symbols union (a ∷ b ∷ rest) t = action_of_table union (a ∷ b ∷ rest) t

-- the action that a line gives a table and a code, if it names them
abbrev pub gives : List ℕ → LineMeaning → ℕ → ℕ → Option Act
gives union (keymaps tables) t c = None
gives union (keys code actions) t c = cond (c == code) (by_symbols union actions t) None
gives union (one table code action) t c = cond (t == table && c == code) (Some action) None
gives union (string func bytes) t c = None
gives union (compose pair) t c = None
gives union alt_is_meta t c = None
gives union usual_strings t c = None
gives union usual_pairs t c = None

-- the action by the last line that names a table and a code
abbrev pub last_action : List ℕ → List KeymapLine → ℕ → ℕ → Option Act
last_action union [] t c = None
last_action union (l ∷ ls) t c = option_or (last_action union ls t c) (gives union l.meaning t c)

-- the entry by the lines: a hole if none names it
unfoldable pub line_entry : List KeymapLine → ℕ → ℕ → Act
line_entry lines t c = unwrap_or (last_action (union_of lines) lines t c) hole

-- a line `alt_is_meta`
abbrev pub is_alt : LineMeaning → Bool
is_alt (keymaps tables) = false
is_alt (keys code actions) = false
is_alt (one table code action) = false
is_alt (string func bytes) = false
is_alt (compose pair) = false
is_alt alt_is_meta = true
is_alt usual_strings = false
is_alt usual_pairs = false

-- an action that `alt_is_meta` makes a meta of: a character or letter below 128
abbrev pub is_ascii_act : Act → Bool
is_ascii_act a = is_character_act a && nat_lt a.value 128

-- an entry over the one of the table without Alt: a hole becomes the meta of a character
abbrev pub meta_over : Act → Act → Act
meta_over below a =
    cond (a.kind == HOLE && is_ascii_act below) (act META below.value) a

-- the entry of a table and a code: tables 8 to 15 are filled from those without Alt
unfoldable pub entry_in : List KeymapLine → ℕ → ℕ → Act
entry_in lines t c =
    cond (list_any (λ l. is_alt l.meaning) lines && (nat_le 8 t && nat_lt t 16)
    && is_declared lines (t - 8))
    (meta_over (line_entry lines (t - 8) c) (line_entry lines t c))
    (line_entry lines t c)
