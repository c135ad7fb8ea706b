-- Where an input is cut: before the first of its lines that begins with a mark. This project's own:
-- docs/reference/journal.md.
use Rattle.std.specs.Prelude.{◌≡◌, ◌⊎◌, ℕ, ◌≤◌, List, [], ◌∷◌, ◌++◌, codes, length}
use Rattle.vt_journal.specs.Says.{HasFirst}
use Rattle.vt_tool.specs.declared.commands.cut.CutMark.{CutMark}
use Rattle.vt_tool.specs.declared.commands.cut.CutMark.TheVariants as mark

-- a certificate begins with this word
abbrev pub cert_mark : List ℕ
cert_mark = codes "%explain "

-- a text begins with the mark; the mark of a journal is its whole first line, of either version
abbrev pub HasMark : CutMark → List ℕ → Type 0
HasMark mark.Journal text = (version : ℕ) × HasFirst version text
HasMark mark.Certificate text = (rest : List ℕ) × (text ≡ cert_mark ++ rest)

-- a line begins after this text: it is empty, or it ends with LF
abbrev pub BeginsLine : List ℕ → Type 0
BeginsLine text = (text ≡ []) ⊎ ((before : List ℕ) × (text ≡ before ++ 0x0A ∷ []))

-- the input is this text and the text after it, which begins a line with the mark
pub record IsMarked (what : CutMark) (input text after : List ℕ) : Type 0 where
  pub parts : input ≡ text ++ after
  pub line : BeginsLine text
  pub first : HasMark what after

-- the input is cut before the first such line
pub record IsCutFirst (what : CutMark) (input text after : List ℕ) : Type 0 where
  pub has : IsMarked what input text after
  pub first : (front back : List ℕ) → IsMarked what input front back → length text ≤ length front

-- the input has no such line, so nothing is after the text
pub record IsUncut (what : CutMark) (input text after : List ℕ) : Type 0 where
  pub none : (front back : List ℕ) → ¬ IsMarked what input front back
  pub all : text ≡ input
  pub nothing : after ≡ []

-- the text before the first line with the mark, and the text from that line on
abbrev pub IsCut : CutMark → List ℕ → List ℕ → List ℕ → Type 0
IsCut what input text after = IsCutFirst what input text after ⊎ IsUncut what input text after
