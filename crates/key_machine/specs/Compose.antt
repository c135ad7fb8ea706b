-- Accents, and the characters that they make (keymaps(5), "COMPOSE DEFINITIONS"). Which accents wait, and for
-- how long, is this project's own.
use Rattle.std.specs.Prelude.{ℕ, false, ◌==◌, ◌||◌, Option, Some, None, List, [], ◌∷◌, if◌then◌else◌}
use Rattle.key_machine.specs.Keys.{nothing_waits}
use Rattle.key_machine.specs.declared.waiting.Waiting.{Waiting}
use Rattle.key_syms.specs.declared.pair.Pair.{Pair}
use Rattle.key_tables.specs.Tables.{found_in}

-- the characters that go out, and the accent or Compose that then waits
pub record Typed : Type 0 where
  pub codes : List ℕ
  pub waiting : Waiting

abbrev pub make_typed : List ℕ → Waiting → Typed
make_typed codes waiting = record { codes = codes; waiting = waiting }

-- a character waits as an accent
abbrev pub waits : ℕ → Waiting
waits code = record { accent = Some code; composing = false }

-- an accent and a character: the result of their first pair; otherwise the accent alone, if the character is
-- a space or the accent; otherwise both
abbrev pub joined_by : Option ℕ → ℕ → ℕ → List ℕ
joined_by (Some result) accent code = result ∷ []
joined_by None accent code =
    if code == 0x20 || code == accent then accent ∷ [] else accent ∷ code ∷ []

-- a character without Compose before it: with the accent that waits
abbrev pub typed_character : List Pair → Option ℕ → ℕ → Typed
typed_character pairs None code = make_typed (code ∷ []) nothing_waits
typed_character pairs (Some accent) code =
    make_typed (joined_by (found_in pairs accent code) accent code) nothing_waits

-- a character; the first one after Compose waits as an accent, in place of one that waits
unfoldable pub character : List Pair → Waiting → ℕ → Typed
character pairs w code =
    if w.composing then make_typed [] (waits code) else typed_character pairs w.accent code

-- a second accent: the result of their first pair; otherwise the accent, if both are the same; otherwise the
-- first goes out and the second waits
abbrev pub accented_by : Option ℕ → ℕ → ℕ → Typed
accented_by (Some result) accent new = make_typed (result ∷ []) nothing_waits
accented_by None accent new =
    make_typed (accent ∷ []) (if accent == new then nothing_waits else waits new)

-- a dead key without Compose before it
abbrev pub typed_dead_key : List Pair → Option ℕ → ℕ → Typed
typed_dead_key pairs None new = make_typed [] (waits new)
typed_dead_key pairs (Some accent) new = accented_by (found_in pairs accent new) accent new

-- a dead key; after Compose its accent waits in place of one that waits
unfoldable pub dead : List Pair → Waiting → ℕ → Typed
dead pairs w new = if w.composing then make_typed [] (waits new) else typed_dead_key pairs w.accent new

-- the accents of the dead keys: grave, acute, circumflex, tilde, diaeresis, cedilla
unfoldable pub accent_of : ℕ → ℕ
accent_of v =
    if v == 0 then 0x60
    else if v == 1 then 0x27
    else if v == 2 then 0x5E
    else if v == 3 then 0x7E
    else if v == 4 then 0x22
    else 0x2C
