-- The cells of characters stay such cells: the edits of rows keep that.
use Rattle.std.proofs.Common.{◌≡◌, ℕ, zero, suc, ◌==◌, Bool, true, false, List, [], ◌∷◌, ◌++◌, take, drop, replicate, refl, sym, ◌∙◌, subst, cond}
use Rattle.std.proofs.lemmas.Bool.{false≢true}
use Rattle.vt_cells.specs.Width.{columns, half, is_half}
use Rattle.vt_cells.specs.declared.cell.Cell.{Cell}
use Rattle.vt_grid.specs.Grid.{cells_of_codes}
use Rattle.vt_grid.specs.Halves.{split_pair, split_wide, space_in_colours}
use Rattle.vt_screen.proofs.for_laws.Edits.{Edits}
use Rattle.vt_screen.proofs.for_laws.Halved.{Draws}
use Rattle.vt_screen.proofs.for_laws.RowEdits.{KeepsRows, edits_of, half_in}
use Rattle.vt_screen.specs.Characters.{AreCharacters}

-- the code of a cell that isn't followed by a half, and isn't one
abbrev pub IsNarrow : ℕ → Type 0
IsNarrow code = ((code == half) ≡ false) × ((columns code == 2) ≡ false)

abbrev pub IsNarrowCell : Cell → Type 0
IsNarrowCell c = IsNarrow c.code

first-whole : (row : List Cell) → AreCharacters false 0 row → half_in 0 row ≡ false
first-whole [] h = refl
first-whole (c ∷ row) h = h.0

no-half : {A : Type 0} (c : Cell) → is_half c ≡ true → is_half c ≡ false → A
no-half c is none = absurd (false≢true (sym none ∙ is))

any-byte : (a b : ℕ) (cells : List Cell) → AreCharacters false a cells → AreCharacters false b cells
any-byte a b [] h = h
any-byte a b (c ∷ cells) h = h

joined : (wide : Bool) (attr : ℕ) (a b : List Cell) → AreCharacters wide attr a → AreCharacters false 0 b
    → AreCharacters wide attr (a ++ b)
joined true attr [] b first second = absurd (false≢true (sym first))
joined false attr [] b first second = any-byte 0 attr b second
joined true attr (c ∷ a) b first second = (first.0, first.1, joined false 0 a b first.2 second)
joined false attr (c ∷ a) b first second = (first.0, joined (columns c.code == 2) c.attr a b first.1 second)

taken : (wide : Bool) (attr n : ℕ) (cells : List Cell) → AreCharacters wide attr cells → half_in n cells ≡ false
    → AreCharacters wide attr (take n cells)
taken wide attr zero [] h clear = h
taken true attr zero (c ∷ cells) h clear = no-half c h.0 clear
taken false attr zero (c ∷ cells) h clear = refl
taken wide attr (suc n) [] h clear = h
taken true attr (suc n) (c ∷ cells) h clear = (h.0, h.1, taken false 0 n cells h.2 clear)
taken false attr (suc n) (c ∷ cells) h clear = (h.0, taken (columns c.code == 2) c.attr n cells h.1 clear)

dropped : (wide : Bool) (attr n : ℕ) (cells : List Cell) → AreCharacters wide attr cells → half_in n cells ≡ false
    → AreCharacters false 0 (drop n cells)
dropped wide attr zero [] h clear = refl
dropped true attr zero (c ∷ cells) h clear = no-half c h.0 clear
dropped false attr zero (c ∷ cells) h clear = h
dropped wide attr (suc n) [] h clear = refl
dropped true attr (suc n) (c ∷ cells) h clear = dropped false 0 n cells h.2 clear
dropped false attr (suc n) (c ∷ cells) h clear = dropped (columns c.code == 2) c.attr n cells h.1 clear

repeated : (attr n : ℕ) (c : Cell) → IsNarrowCell c → AreCharacters false attr (replicate n c)
repeated attr zero c narrow = refl
repeated attr (suc n) c narrow =
    (narrow.0, subst (λ wide. AreCharacters wide c.attr (replicate n c)) (sym narrow.1) (repeated c.attr n c narrow))

-- a space takes one column
module _ (space : columns 0x20 ≡ 1) where
  space-narrow : (columns 0x20 == 2) ≡ false
  space-narrow = λ i. space i == 2

  -- the two halves of a character become spaces
  two-spaces : (attr : ℕ) (a b : Cell) (cells : List Cell) (wide : Bool) → AreCharacters wide a.attr (b ∷ cells)
      → is_half b ≡ true → AreCharacters false attr (space_in_colours a ∷ space_in_colours b ∷ cells)
  two-spaces attr a b cells false h is = no-half b is h.0
  two-spaces attr a b cells true h is = (
    refl,
    subst (λ wide. AreCharacters wide a.attr (space_in_colours b ∷ cells)) (sym space-narrow)
        (refl, subst (λ wide. AreCharacters wide b.attr cells) (sym space-narrow) (any-byte 0 b.attr cells h.2)),
  )

  pair-keeps : (wide : Bool) (attr : ℕ) (cells : List Cell) → AreCharacters wide attr cells
      → AreCharacters wide attr (split_pair cells)
  pair-keeps wide attr [] h = h
  pair-keeps wide attr (a ∷ []) h = h
  pair-keeps true attr (a ∷ b ∷ cells) h = by (is_half b) refl
    where
      by : (test : Bool) → is_half b ≡ test
          → AreCharacters true attr (cond test (space_in_colours a ∷ space_in_colours b ∷ cells) (a ∷ b ∷ cells))
      by true is = no-half b is h.2.0
      by false is = h
  pair-keeps false attr (a ∷ b ∷ cells) h = by (is_half b) refl
    where
      by : (test : Bool) → is_half b ≡ test
          → AreCharacters false attr (cond test (space_in_colours a ∷ space_in_colours b ∷ cells) (a ∷ b ∷ cells))
      by true is = two-spaces attr a b cells (columns a.code == 2) h.1 is
      by false is = h

  border-keeps : (x : ℕ) (wide : Bool) (attr : ℕ) (row : List Cell) → AreCharacters wide attr row
      → AreCharacters wide attr (take x row ++ split_pair (drop x row))
  border-keeps zero wide attr row h = pair-keeps wide attr row h
  border-keeps (suc x) wide attr [] h = h
  border-keeps (suc x) true attr (c ∷ row) h = (h.0, h.1, border-keeps x false 0 row h.2)
  border-keeps (suc x) false attr (c ∷ row) h = (h.0, border-keeps x (columns c.code == 2) c.attr row h.1)

  split-keeps : (x : ℕ) (row : List Cell) → AreCharacters false 0 row → AreCharacters false 0 (split_wide x row)
  split-keeps zero row h = h
  split-keeps (suc x) row h = border-keeps x false 0 row h

  keeps : KeepsRows IsNarrowCell (AreCharacters false 0)
  keeps = record {
    none = refl;
    first = first-whole;
    split = split-keeps;
    taken = taken false 0;
    dropped = dropped false 0;
    joined = joined false 0;
    filled = repeated 0;
    whole = λ c narrow. narrow.0;
  }

  pub character-edits : Edits IsNarrowCell (AreCharacters false 0)
  character-edits = edits_of IsNarrowCell (AreCharacters false 0) keeps

-- a character of one column or two
pub character-draws : (code : ℕ) → (code == half) ≡ false → Draws (AreCharacters false 0) IsNarrow (columns code) code
character-draws code is attr = by (columns code == 2) refl
  where
    by : (test : Bool) → (columns code == 2) ≡ test
        → AreCharacters false 0 (cells_of_codes (cond test (code ∷ half ∷ []) (code ∷ [])) attr)
    by true wide = (is, subst (λ w. AreCharacters w attr (record { code = half; attr = attr } ∷ [])) (sym wide) (refl, refl, refl))
    by false wide = (is, wide)

pub narrow-draws : (code : ℕ) → IsNarrow code → Draws (AreCharacters false 0) IsNarrow 1 code
narrow-draws code narrow attr = (narrow.0, narrow.1)
