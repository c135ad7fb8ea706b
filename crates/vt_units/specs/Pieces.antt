-- A piece of text: the bytes of one unit, with the bytes among them that acted or were ignored.
use Rattle.std.specs.Prelude.{◌≡◌, ℕ, Bool, false, ◌==◌, ◌||◌, List, [], ◌∷◌, ◌++◌, if◌then◌else◌}
use Rattle.vt_units.specs.Answer.{acts_in}
use Rattle.vt_units.specs.Bytes.{is_swallowed}
use Rattle.vt_units.specs.Reading.{Reading, sequence, string, whole, dropped, unfinished, none, reading}
use Rattle.vt_units.specs.Rest.{Rest, fresh, rest_with_byte}
use Rattle.vt_units.specs.Run.{Effects, Reached, make_reached}
use Rattle.vt_units.specs.declared.mode.Mode.{Mode}

-- DEL in a sequence
abbrev pub is_ignored_in : Reading → ℕ → Bool
is_ignored_in (unfinished sequence) b = b == 0x7F
is_ignored_in r b = false

abbrev pub is_left_out : Reading → ℕ → Bool
is_left_out r b = acts_in r b || is_ignored_in r b

-- the text of a text and bytes after it: without the bytes that act and those that are ignored
abbrev pub text_of : Mode → List ℕ → List ℕ → List ℕ
text_of m text [] = text
text_of m text (b ∷ bytes) =
    if is_left_out (reading m text) b then text_of m text bytes
    else text_of m (text ++ b ∷ []) bytes

-- the control characters among the bytes that act
abbrev pub controls_of : Mode → List ℕ → List ℕ → List ℕ
controls_of m text [] = []
controls_of m text (b ∷ bytes) =
    if acts_in (reading m text) b then b ∷ controls_of m text bytes
    else if is_left_out (reading m text) b then controls_of m text bytes
    else controls_of m (text ++ b ∷ []) bytes

-- the state after control characters, in order
abbrev pub after_controls : {S : Type 0} → Effects S → List ℕ → S → S
after_controls e [] s = s
after_controls e (c ∷ controls) s = after_controls e controls (e.on_control c s)

-- a byte that a string swallows
abbrev pub is_swallowed_in : Reading → ℕ → Bool
is_swallowed_in (unfinished string) b = is_swallowed b
is_swallowed_in r b = false

-- the ESC that may end a string
abbrev pub is_end_in : Reading → ℕ → Bool
is_end_in (unfinished string) b = b == 0x1B
is_end_in r b = false

-- the rest with one more byte, by the reading of its text: a byte that acts, is ignored or is swallowed isn't
-- kept; a string has the mode at the ESC that may end it, and so has the sequence that may begin there
abbrev pub read_on : Reading → Mode → Rest → ℕ → Rest
read_on now mode r b =
    if is_left_out now b || is_swallowed_in now b then r
    else if is_end_in now b then record { mode = mode; text = r.text ++ b ∷ [] }
    else rest_with_byte r b

-- the rest with these bytes, from a state on: a control character among them acts on the state
abbrev pub rest_with : {S : Type 0} → Effects S → S → Rest → List ℕ → Rest
rest_with e s r [] = r
rest_with e s r (b ∷ bytes) =
    let now = reading r.mode r.text in
    rest_with e (if acts_in now b then e.on_control b s else s) (read_on now (e.mode_of s) r b) bytes

-- from s on, the bytes had the effects of the control characters among them, then that of the unit, and no
-- text is left. A sequence that is dropped has no effect of its own. An unfinished text leaves this rest; a
-- unit or a drop leaves its mode
abbrev pub HasEffect : {S : Type 0} → Effects S → Reading → List ℕ → Rest → Reached S → S → Type 0
HasEffect e (whole u) controls left after s =
    after ≡ make_reached (e.on_unit u (after_controls e controls s)) (fresh left.mode)
HasEffect e dropped controls left after s = after ≡ make_reached (after_controls e controls s) (fresh left.mode)
HasEffect e (unfinished k) controls left after s = after ≡ make_reached (after_controls e controls s) left
HasEffect e none controls left after s = Unit {0}
