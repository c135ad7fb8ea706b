-- The kinds of faults in a keymap (docs/reference/keys.md, "Faults").
use Rattle.std.specs.Prelude.{ℕ}

abbrev pub UNKNOWN_WORD : ℕ
UNKNOWN_WORD = 1

abbrev pub UNKNOWN_SYMBOL : ℕ
UNKNOWN_SYMBOL = 2

abbrev pub OUT_OF_RANGE : ℕ
OUT_OF_RANGE = 3

abbrev pub WRONG_COUNT : ℕ
WRONG_COUNT = 4

abbrev pub LATE_KEYMAPS : ℕ
LATE_KEYMAPS = 5

abbrev pub BAD_TEXT : ℕ
BAD_TEXT = 6

abbrev pub NOT_GIVEN : ℕ
NOT_GIVEN = 7

abbrev pub TOO_DEEP : ℕ
TOO_DEEP = 8

abbrev pub LEFT_OVER : ℕ
LEFT_OVER = 9

abbrev pub TOO_MANY_PAIRS : ℕ
TOO_MANY_PAIRS = 10

abbrev pub LONG_STRING : ℕ
LONG_STRING = 11

abbrev pub TOO_MANY_INCLUDES : ℕ
TOO_MANY_INCLUDES = 12

abbrev pub TOO_LONG_INCLUDES : ℕ
TOO_LONG_INCLUDES = 13
