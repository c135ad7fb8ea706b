-- The state that the scanner keeps. No public clause names this.
use Rattle.std.specs.Prelude.{◌≡◌, ℕ, List, [], ◌∷◌, length, slice_index}
use Rattle.scan_codes.specs.declared.scanner.ScanPrefix.{ScanPrefix}
use Rattle.scan_codes.specs.declared.scanner.ScanPrefix.TheVariants.{Nothing, E0, E1, E1And}

abbrev pub bytes_of : ScanPrefix → List ℕ
bytes_of Nothing = []
bytes_of E0 = 0xE0 ∷ []
bytes_of E1 = 0xE1 ∷ []
bytes_of (E1And b) = 0xE1 ∷ b ∷ []

-- a keycode for each scan number; a scan number that no key has is without one
pub record IsTranslation (codes : List ℕ) : Type 0 where
  pub all : length codes ≡ 256
  pub first : slice_index codes 0 ≡ 0
  pub after_e0 : slice_index codes 0x80 ≡ 0
