-- Texts that grow.
use Rattle.std.specs.Prelude.{◌≡◌, ℕ, List, ◌∷◌, ◌++◌, Result, Ok, Err, length, take}
use Rattle.std.specs.List.{flat_map}
use Rattle.vt_base.specs.Bytes.{Text}

-- a text begins with another one
pub record Begins (before text : List ℕ) : Type 0 where
  pub front : take (length before) text ≡ before

-- the piece is added; if memory runs out, the text begins with the bytes that it had. It is for texts of the crate's
-- own: a text of a caller is unchanged then
abbrev pub AddsPart : {T E : Type 0} → List ℕ → Text → Text → Result T E → Type 0
AddsPart piece old new (Ok done) = new.bytes ≡ old.bytes ++ piece
AddsPart piece old new (Err e) = Begins old.bytes new.bytes

-- words, with a blank before each
abbrev pub blank_before_each : List (List ℕ) → List ℕ
blank_before_each words = flat_map (λ word. 0x20 ∷ word) words
