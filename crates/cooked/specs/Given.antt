-- The items that a byte gives.
use Rattle.std.specs.Prelude.{ℕ, List, [], ◌∷◌, ◌++◌, if◌then◌else◌}
use Rattle.cooked.specs.KeptText.{kept_bytes}
use Rattle.cooked.specs.Kinds.{kind}
use Rattle.cooked.specs.Termios.{mapped_byte}
use Rattle.cooked.specs.declared.given.Given.{Given}
use Rattle.cooked.specs.declared.given.Given.TheVariants as answer
use Rattle.cooked.specs.declared.kind.Kind.{Kind}
use Rattle.cooked.specs.declared.kind.Kind.TheVariants.{Interrupt, Quit, Kill, Erase, Eof, End, Data}
use Rattle.cooked.specs.declared.termios.Termios.{Termios}

-- a line, a byte of its own, or a signal by its number
pub data Item : Type 0 where
  line : List ℕ → Item
  byte : ℕ → Item
  signal : ℕ → Item

-- SIGINT and SIGQUIT: signal(7)
abbrev pub interrupt : ℕ
interrupt = 2

abbrev pub quit : ℕ
quit = 3

-- the items that a byte that counts as b gives, by its kind and the fresh bytes before it: an end gives the
-- kept bytes and 0A, an eof the kept bytes, a kill nothing; data is given at once if ICANON is off
abbrev pub given_by : Termios → List ℕ → ℕ → Kind → List Item
given_by t fresh b Interrupt = signal interrupt ∷ []
given_by t fresh b Quit = signal quit ∷ []
given_by t fresh b Kill = []
given_by t fresh b Erase = []
given_by t fresh b Eof = line (kept_bytes t fresh) ∷ []
given_by t fresh b End = line (kept_bytes t fresh ++ 0x0A ∷ []) ∷ []
given_by t fresh b Data = if t.icanon then [] else byte b ∷ []

-- the items that a byte gives after these fresh bytes: one or none
abbrev pub items_after : Termios → List ℕ → ℕ → List Item
items_after t fresh b = given_by t fresh (mapped_byte t b) (kind t b)

-- the items that an answer and the last line stand for
abbrev pub items_of : Given → List ℕ → List Item
items_of answer.Nothing text = []
items_of answer.Line text = line text ∷ []
items_of (answer.Byte b) text = byte b ∷ []
items_of (answer.Sig s) text = signal s ∷ []

-- the line among the items, of which there is at most one: empty, if there is none
abbrev pub line_in : List Item → List ℕ
line_in [] = []
line_in (line text ∷ more) = text
line_in (byte b ∷ more) = []
line_in (signal s ∷ more) = []
