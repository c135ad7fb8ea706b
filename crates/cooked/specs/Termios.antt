-- The settings of a line discipline: termios(3), in this project's own profile.
use Rattle.std.specs.Prelude.{ℕ, Bool, true, ◌==◌, ◌&&◌, ◌||◌, not, nat_lt, List, [], ◌∷◌, IsTrue, if◌then◌else◌}
use Rattle.std.specs.List.{list_all, list_any}
use Rattle.cooked.specs.declared.termios.Termios.{Termios}

-- the usual settings
abbrev pub usual : Termios
usual = record {
  icanon = true;
  echo = true;
  isig = true;
  icrnl = true;
  onlcr = true;
  intr = 0x03;
  quit = 0x1C;
  erase = 0x7F;
  kill = 0x15;
  eof = 0x04;
}

-- the five bytes that have names
abbrev pub named_bytes : Termios → List ℕ
named_bytes t = t.intr ∷ t.quit ∷ t.erase ∷ t.kill ∷ t.eof ∷ []

-- a control character: a byte below 20, or 7F
abbrev pub is_control : ℕ → Bool
is_control b = nat_lt b 0x20 || b == 0x7F

-- a byte may have a name if it is a control character that ends no line
abbrev pub may_be_named : ℕ → Bool
may_be_named b = is_control b && not (b == 0x0A) && not (b == 0x0D)

-- no two of the bytes are equal
abbrev pub all_differ : List ℕ → Bool
all_differ [] = true
all_differ (b ∷ more) = not (list_any (λ c. c == b) more) && all_differ more

-- the five bytes are distinct, each is below 20 or 7F, and none is 0A or 0D
abbrev pub is_valid : Termios → Bool
is_valid t = list_all may_be_named (named_bytes t) && all_differ (named_bytes t)

abbrev pub IsValid : Termios → Type 0
IsValid t = IsTrue (is_valid t)

-- the byte that a byte counts as: ICRNL makes 0A of 0D
abbrev pub mapped_byte : Termios → ℕ → ℕ
mapped_byte t b = if t.icrnl && b == 0x0D then 0x0A else b
