-- The rest that a text is read on from.
use Rattle.std.proofs.Common.{◌≡◌, ℕ, false, List, [], ◌∷◌, refl, sym}
use Rattle.std.proofs.lemmas.Bool.{cond-false, or_from, false≢true}
use Rattle.vt_units.proofs.Openers.{in_string}
use Rattle.vt_units.specs.Pieces.{is_left_out, read_on}
use Rattle.vt_units.specs.Reading.{Kind, character, command, reading, sequence, string, string_end, unfinished}
use Rattle.vt_units.specs.Rest.{Rest, fresh, rest_with_byte}
use Rattle.vt_units.specs.declared.mode.Mode.{Mode}

-- a rest that stands for a text, or the one of no text in this mode
abbrev pub base : Rest → Mode → List ℕ → Rest
base r m [] = fresh m
base r m (x ∷ q) = r

pub base_some : (r : Rest) (m : Mode) (q : List ℕ) → (q ≡ [] → ⊥) → base r m q ≡ r
base_some r m [] some = absurd (some refl)
base_some r m (x ∷ q) some = refl

pub unfinished_some : (m : Mode) (q : List ℕ) (k : Kind) → reading m q ≡ unfinished k → q ≡ [] → ⊥
unfinished_some m [] k is nothing = let e : ⊥ = cc in e
unfinished_some m (x ∷ q) k is nothing = let e : ⊥ = cc in e

-- a byte of a text that is no string
pub plain_read : (k : Kind) (n : Mode) (r : Rest) (b : ℕ) → in_string (unfinished k) ≡ false
    → is_left_out (unfinished k) b ≡ false → read_on (unfinished k) n r b ≡ rest_with_byte r b
plain_read character n r b out part = refl
plain_read sequence n r b out part = cond-false _ _ _ (or_from _ _ part refl)
plain_read command n r b out part = cond-false _ _ _ (or_from _ _ part refl)
plain_read string n r b out part = absurd (false≢true (sym out))
plain_read string_end n r b out part = absurd (false≢true (sym out))
