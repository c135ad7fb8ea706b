-- Left of each half stands a character of two columns: the edits of rows keep that.
use Rattle.std.proofs.Common.{◌≡◌, ℕ, zero, suc, ◌==◌, ◌&&◌, Bool, true, false, List, [], ◌∷◌, ◌++◌, take, drop, replicate, refl, sym, ap, ◌∙◌, subst, cond}
use Rattle.std.proofs.lemmas.Bool.{eqb-true, false≢true}
use Rattle.vt_cells.specs.Width.{columns, half, is_half}
use Rattle.vt_cells.specs.declared.cell.Cell.{Cell}
use Rattle.vt_grid.specs.Halves.{ArePaired, IsPairedRow, split_pair, split_wide, space_in_colours}
use Rattle.vt_screen.proofs.for_laws.Edits.{Edits, IsWholeCell}
use Rattle.vt_screen.proofs.for_laws.RowEdits.{KeepsRows, edits_of, half_in}
use Rattle.vt_screen.specs.Halves.{FollowWide}

none_here : (after : Bool) (c : Cell) → is_half c ≡ false → is_half c ≡ true → after ≡ true
none_here after c none is = absurd (false≢true (sym none ∙ is))

first-whole : (row : List Cell) → FollowWide false row → half_in 0 row ≡ false
first-whole [] h = refl
first-whole (c ∷ row) h = by (is_half c) h.0
  where
    by : (test : Bool) → (test ≡ true → false ≡ true) → test ≡ false
    by true is = sym (is refl)
    by false is = refl

weaker : (after : Bool) (cells : List Cell) → FollowWide false cells → FollowWide after cells
weaker after [] h = tt
weaker after (c ∷ cells) h = ((λ is. absurd (false≢true (h.0 is))), h.1)

joined : (after : Bool) (a b : List Cell) → FollowWide after a → FollowWide false b → FollowWide after (a ++ b)
joined after [] b first second = weaker after b second
joined after (c ∷ a) b first second = (first.0, joined (columns c.code == 2) a b first.1 second)

taken : (after : Bool) (n : ℕ) (cells : List Cell) → FollowWide after cells → FollowWide after (take n cells)
taken after zero cells h = tt
taken after (suc n) [] h = tt
taken after (suc n) (c ∷ cells) h = (h.0, taken (columns c.code == 2) n cells h.1)

dropped : (after : Bool) (n : ℕ) (cells : List Cell) → FollowWide after cells → half_in n cells ≡ false
    → FollowWide false (drop n cells)
dropped after zero [] h clear = tt
dropped after zero (c ∷ cells) h clear = (none_here false c clear, h.1)
dropped after (suc n) [] h clear = tt
dropped after (suc n) (c ∷ cells) h clear = dropped (columns c.code == 2) n cells h.1 clear

repeated : (after : Bool) (n : ℕ) (c : Cell) → is_half c ≡ false → FollowWide after (replicate n c)
repeated after zero c none = tt
repeated after (suc n) c none = (none_here after c none, repeated (columns c.code == 2) n c none)

-- a half takes one column itself
module _ (narrow : columns half ≡ 1) where
  after-half : (c : Cell) → is_half c ≡ true → (columns c.code == 2) ≡ false
  after-half c is = ap (λ code. columns code == 2) (eqb-true c.code half is) ∙ ap (λ n. n == 2) narrow

  -- the cell after a half follows no wide character, so two halves never stand side by side
  paired-after : (wide after : Bool) (cells : List Cell) → FollowWide wide cells → (after ≡ true → wide ≡ false)
      → ArePaired after cells
  paired-after wide after [] h one = tt
  paired-after wide after (c ∷ cells) h one =
      (clear after (is_half c) refl refl, paired-after (columns c.code == 2) (is_half c) cells h.1 (after-half c))
    where
      clear : (a b : Bool) → after ≡ a → is_half c ≡ b → (a && b) ≡ false
      clear true true first second = absurd (false≢true (sym (one first) ∙ h.0 second))
      clear true false first second = refl
      clear false b first second = refl

  pub paired-row : (row : List Cell) → FollowWide false row → IsPairedRow row
  paired-row row h = paired-after false true row h (λ _. refl)

  pair-keeps : (after : Bool) (cells : List Cell) → FollowWide after cells → FollowWide after (split_pair cells)
  pair-keeps after [] h = tt
  pair-keeps after (a ∷ []) h = h
  pair-keeps after (a ∷ b ∷ cells) h = by (is_half b) refl
    where
      by : (test : Bool) → is_half b ≡ test
          → FollowWide after (cond test (space_in_colours a ∷ space_in_colours b ∷ cells) (a ∷ b ∷ cells))
      by true is = (
        none_here after (space_in_colours a) refl,
        (
          none_here (columns 0x20 == 2) (space_in_colours b) refl,
          weaker (columns 0x20 == 2) cells (subst (λ t. FollowWide t cells) (after-half b is) h.1.1),
        ),
      )
      by false is = h

  border-keeps : (x : ℕ) (after : Bool) (row : List Cell) → FollowWide after row
      → FollowWide after (take x row ++ split_pair (drop x row))
  border-keeps zero after row h = pair-keeps after row h
  border-keeps (suc x) after [] h = tt
  border-keeps (suc x) after (c ∷ row) h = (h.0, border-keeps x (columns c.code == 2) row h.1)

  parted-follows : (x : ℕ) (row : List Cell) → FollowWide false row → FollowWide false (split_wide x row)
  parted-follows zero row h = h
  parted-follows (suc x) row h = border-keeps x false row h

  keeps : KeepsRows IsWholeCell (FollowWide false)
  keeps = record {
    none = tt;
    first = first-whole;
    split = parted-follows;
    taken = λ n row h clear. taken false n row h;
    dropped = dropped false;
    joined = joined false;
    filled = repeated false;
    whole = λ c none. none;
  }

  pub wide-edits : Edits IsWholeCell (FollowWide false)
  wide-edits = edits_of IsWholeCell (FollowWide false) keeps
