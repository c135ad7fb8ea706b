-- The numbers of keyboard modes, of flags and of actions. The code's constants are proved equal to them.
use Rattle.std.specs.Prelude.{ℕ}

-- keyboard modes: ioctl_console(2), KDSKBMODE
abbrev pub RAW : ℕ
RAW = 0

abbrev pub XLATE : ℕ
XLATE = 1

abbrev pub MEDIUMRAW : ℕ
MEDIUMRAW = 2

abbrev pub UNICODE : ℕ
UNICODE = 3

abbrev pub OFF : ℕ
OFF = 4

-- the uses of Meta: ioctl_console(2), KDSKBMETA
abbrev pub METABIT : ℕ
METABIT = 3

abbrev pub ESCPREFIX : ℕ
ESCPREFIX = 4

-- keyboard flags, by their weights: ioctl_console(2), KDSKBLED
abbrev pub SCROLL : ℕ
SCROLL = 1

abbrev pub NUM : ℕ
NUM = 2

abbrev pub CAPS : ℕ
CAPS = 4

-- the special actions that have an effect, by the values of docs/reference/keys.md
abbrev pub RETURN : ℕ
RETURN = 1

abbrev pub CAPS_LOCK : ℕ
CAPS_LOCK = 2

abbrev pub NUM_LOCK : ℕ
NUM_LOCK = 3

abbrev pub SCROLL_LOCK : ℕ
SCROLL_LOCK = 4

abbrev pub LAST_CONSOLE : ℕ
LAST_CONSOLE = 5

abbrev pub INCR_CONSOLE : ℕ
INCR_CONSOLE = 6

abbrev pub DECR_CONSOLE : ℕ
DECR_CONSOLE = 7

abbrev pub KEYBOARD_SIGNAL : ℕ
KEYBOARD_SIGNAL = 8

abbrev pub SAK : ℕ
SAK = 9

abbrev pub COMPOSE : ℕ
COMPOSE = 10

abbrev pub BARE_NUM_LOCK : ℕ
BARE_NUM_LOCK = 11

abbrev pub CAPS_ON : ℕ
CAPS_ON = 12

-- the function keys of the cursor pad, by the values of docs/reference/keys.md
abbrev pub FIND : ℕ
FIND = 20

abbrev pub INSERT : ℕ
INSERT = 21

abbrev pub REMOVE : ℕ
REMOVE = 22

abbrev pub SELECT : ℕ
SELECT = 23

abbrev pub PRIOR : ℕ
PRIOR = 24

abbrev pub NEXT : ℕ
NEXT = 25

-- the cursor keys, by the values of docs/reference/keys.md
abbrev pub DOWN : ℕ
DOWN = 0

abbrev pub LEFT : ℕ
LEFT = 1

abbrev pub RIGHT : ℕ
RIGHT = 2

abbrev pub UP : ℕ
UP = 3

-- KP_Enter, by the values of docs/reference/keys.md
abbrev pub ENTER : ℕ
ENTER = 14
