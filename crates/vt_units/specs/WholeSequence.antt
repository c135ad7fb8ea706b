-- The sequences that are read at once, if they stand whole at the start of a text.
use Rattle.std.specs.Prelude.{ℕ, Bool, true, false, not, ◌+◌, ◌==◌, ◌&&◌, ◌||◌, List, [], ◌∷◌, length, take, Option, Some, None, if◌then◌else◌}
use Rattle.vt_chars.specs.Utf8.{within}
use Rattle.vt_units.specs.Bytes.{is_mid, opens_string}
use Rattle.vt_units.specs.Numbers.{params_of}
use Rattle.vt_units.specs.Reading.{after_prefix, longest_prefix, is_empty}
use Rattle.vt_units.specs.Rest.{Rest, fresh}
use Rattle.vt_units.specs.Sequences.{is_parameter}
use Rattle.vt_units.specs.declared.whole_sequence.WholeSequence.{WholeSequence}
use Rattle.vt_units.specs.declared.whole_sequence.WholeSequence.TheVariants as ahead
use Rattle.vt_units.specs.declared.mode.Mode.{Mode}
use Rattle.vt_units.specs.declared.unit.Unit as units
use Rattle.vt_units.specs.declared.unit.Unit.TheVariants.{Esc, Csi}

-- a unit, and how many bytes of the text it has
pub record Sequence : Type 0 where
  pub unit : units.Unit
  pub count : ℕ

-- the last byte of a control sequence, except [, after which another byte may follow
abbrev pub ends_control : ℕ → Bool
ends_control b = within 0x40 0x7E b && not (b == 0x5B)

-- the last byte of an escape sequence of two bytes: it opens no longer text
abbrev pub ends_escape : ℕ → Bool
ends_escape b = within 0x30 0x7E b && not (opens_string b || b == 0x5B || b == 0x5D)

-- parameters, and the text after them
abbrev pub numbers_end : Bool → ℕ → List ℕ → List ℕ → Option Sequence
numbers_end private before numbers [] = None
numbers_end private before numbers (last ∷ more) =
    if ends_control last
    then Some (record { unit = Csi private (params_of numbers) last; count = before + length numbers + 1 })
    else None

-- parameters and a last byte, after so many bytes
abbrev pub numbers_ahead : Bool → ℕ → List ℕ → Option Sequence
numbers_ahead private before text =
    numbers_end private before (longest_prefix is_parameter text) (after_prefix is_parameter text)

-- the sequence that goes on after ESC [: a question mark may come first
abbrev pub control_ahead : List ℕ → Option Sequence
control_ahead [] = None
control_ahead (b ∷ more) =
    if b == 0x3F then numbers_ahead true 3 more else numbers_ahead false 2 (b ∷ more)

-- the sequence that goes on after ESC and an intermediate byte
abbrev pub mid_ahead : ℕ → List ℕ → Option Sequence
mid_ahead mid [] = None
mid_ahead mid (last ∷ more) =
    if within 0x30 0x7E last then Some (record { unit = Esc mid last; count = 3 }) else None

-- the sequence that goes on after ESC
abbrev pub escape_ahead : ℕ → List ℕ → Option Sequence
escape_ahead b more =
    if b == 0x5B then control_ahead more
    else if is_mid b then mid_ahead b more
    else if ends_escape b then Some (record { unit = Esc 0 b; count = 2 })
    else None

abbrev pub opened_ahead : List ℕ → Option Sequence
opened_ahead [] = None
opened_ahead (esc ∷ []) = None
opened_ahead (esc ∷ b ∷ more) = if esc == 0x1B then escape_ahead b more else None

-- a control sequence of parameters alone, or an escape sequence with at most one intermediate byte,
-- of at most 256 bytes and begun by ESC. Others are read byte by byte
abbrev pub sequence_ahead : List ℕ → Option Sequence
sequence_ahead text = opened_ahead (take 256 text)

-- the sequence that an answer and the parameters give
abbrev pub sequence_of : WholeSequence → List ℕ → Option Sequence
sequence_of ahead.Nothing params = None
sequence_of (ahead.Esc mid last count) params = Some (record { unit = Esc mid last; count = count })
sequence_of (ahead.Csi private last count) params =
    Some (record { unit = Csi private params last; count = count })

-- the parameters of a unit
abbrev pub parameters_of : units.Unit → List ℕ
parameters_of (Csi private params last) = params
parameters_of u = []

abbrev pub parameters_ahead : Option Sequence → List ℕ
parameters_ahead None = []
parameters_ahead (Some s) = parameters_of s.unit

-- the sequence that is read at once with this rest before the text: none unless the rest is empty
abbrev pub taken_ahead : Rest → List ℕ → Option Sequence
taken_ahead old text = if is_empty old.text then sequence_ahead text else None

-- the rest after it
abbrev pub rest_ahead : Rest → Mode → Option Sequence → Rest
rest_ahead old m None = old
rest_ahead old m (Some s) = fresh m
