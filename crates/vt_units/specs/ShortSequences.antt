-- Control sequences of one or two short parameters, and how their numbers are read.
use Rattle.std.specs.Prelude.{◌≡◌, ℕ, Bool, false, ◌+◌, ◌≤◌, List, [], ◌∷◌, length, drop, slice_index, if◌then◌else◌}
use Rattle.vt_units.specs.WholeSequence.{Sequence}
use Rattle.vt_units.specs.Bytes.{is_digit}
use Rattle.vt_units.specs.Numbers.{numbers_after}
use Rattle.vt_units.specs.Reading.{after_prefix, longest_prefix}
use Rattle.vt_units.specs.Sequences.{is_parameter}
use Rattle.vt_units.specs.declared.short_csi.ShortCsi.{ShortCsi}
use Rattle.vt_units.specs.declared.long_sgr.LongSgr.{LongSgr}
use Rattle.vt_units.specs.declared.unit.Unit.TheVariants.{Csi}

-- the numbers of one parameter, or of both
abbrev pub numbers_in : ℕ → ℕ → Bool → List ℕ
numbers_in first second both = if both then first ∷ second ∷ [] else first ∷ []

-- the sequence that it is
abbrev pub csi_in : ShortCsi → Sequence
csi_in b = record {
  unit = Csi false (numbers_in b.first b.second b.both) b.last;
  count = b.count;
}

-- three parameters, or five
abbrev pub more_numbers : LongSgr → List ℕ
more_numbers l =
    l.first ∷ l.second ∷ l.third ∷ (if l.five then l.fourth ∷ l.fifth ∷ [] else [])

-- the sequence of SGR that it is
abbrev pub sgr_in : LongSgr → Sequence
sgr_in l = record { unit = Csi false (more_numbers l) 0x6D; count = l.count }

-- the text begins with ESC [, and has ten bytes. No public clause names this
pub record Begun (text : List ℕ) : Type 0 where
  pub long : 10 ≤ length text
  pub escape : slice_index text 0 ≡ 0x1B
  pub bracket : slice_index text 1 ≡ 0x5B

-- the text from place j on, after the number m, is read like the text from place i on, after the number n. No
-- public clause names this
pub record Goes (text : List ℕ) (n i m j : ℕ) : Type 0 where
  pub numbers : numbers_after n (longest_prefix is_parameter (drop i text)) ≡ numbers_after m (longest_prefix is_parameter (drop j text))
  pub count : length (longest_prefix is_parameter (drop i text)) + i ≡ length (longest_prefix is_parameter (drop j text)) + j
  pub rest : after_prefix is_parameter (drop i text) ≡ after_prefix is_parameter (drop j text)
  pub digits : length (longest_prefix is_digit (drop i text)) + i ≡ length (longest_prefix is_digit (drop j text)) + j
  pub left : after_prefix is_digit (drop i text) ≡ after_prefix is_digit (drop j text)
