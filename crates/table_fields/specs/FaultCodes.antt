-- The codes of faults in a TOML table (docs/reference/sessions.md).
use Rattle.std.specs.Prelude.{ℕ}

abbrev pub NO_DOCUMENT : ℕ
NO_DOCUMENT = 20

abbrev pub UNKNOWN_KEY : ℕ
UNKNOWN_KEY = 21

abbrev pub WRONG_KIND : ℕ
WRONG_KIND = 22

abbrev pub OUT_OF_RANGE : ℕ
OUT_OF_RANGE = 23

abbrev pub KEYMAP : ℕ
KEYMAP = 24

abbrev pub SCRIPT_ITEM : ℕ
SCRIPT_ITEM = 25

abbrev pub HOOK : ℕ
HOOK = 26

abbrev pub SCAN_BYTE : ℕ
SCAN_BYTE = 27

abbrev pub TURN : ℕ
TURN = 28

abbrev pub TOO_MANY : ℕ
TOO_MANY = 29

abbrev pub FURTHER_SCAN_BYTE : ℕ
FURTHER_SCAN_BYTE = 30
