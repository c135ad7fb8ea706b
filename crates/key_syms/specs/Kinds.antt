-- The kinds of actions (docs/reference/keys.md, "Actions").
use Rattle.std.specs.Prelude.{ℕ}

abbrev pub HOLE : ℕ
HOLE = 0

abbrev pub CHARACTER : ℕ
CHARACTER = 1

abbrev pub LETTER : ℕ
LETTER = 2

abbrev pub META : ℕ
META = 3

abbrev pub FUNCTION : ℕ
FUNCTION = 4

abbrev pub PAD : ℕ
PAD = 5

abbrev pub CURSOR : ℕ
CURSOR = 6

abbrev pub DEAD : ℕ
DEAD = 7

abbrev pub MODIFIER : ℕ
MODIFIER = 8

abbrev pub LOCK : ℕ
LOCK = 9

abbrev pub STICKY : ℕ
STICKY = 10

abbrev pub CONSOLE : ℕ
CONSOLE = 11

abbrev pub SPECIAL : ℕ
SPECIAL = 12

abbrev pub ASCII : ℕ
ASCII = 13
