-- The count of the texts that are included, and the bound on their bytes.
use Rattle.std.specs.Prelude.{ℕ, ◌+◌, ◌-◌, Bool, false, nat_lt, Option, Some, None}
use Rattle.std.specs.Option.{option_map}
use Rattle.key_text.specs.declared.tally.Tally.{Tally}

-- the most texts that are included
abbrev pub MOST_INCLUDES : ℕ
MOST_INCLUDES = 1000

-- no text is included yet, and those to come may have so many bytes together; with no bound any number
abbrev pub none_included : Option ℕ → Tally
none_included room = record { texts = 0; room = room }

-- a text of this length has more bytes than there is room for
abbrev pub is_too_long : Option ℕ → ℕ → Bool
is_too_long None len = false
is_too_long (Some room) len = nat_lt room len

-- a text of this length was included
abbrev pub tally_after : Tally → ℕ → Tally
tally_after tally len = record {
  texts = tally.texts + 1;
  room = option_map (λ room. room - len) tally.room;
}
