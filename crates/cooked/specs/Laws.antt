-- The laws of cooked lines.
use Rattle.std.specs.Prelude.{◌≡◌, ◌<◌, ℕ, List, [], ◌∷◌, ◌++◌}
use Rattle.cooked.specs.Echo.{echo_of}
use Rattle.cooked.specs.Fresh.{fresh}
use Rattle.cooked.specs.Given.{Item, items_after}
use Rattle.cooked.specs.KeptText.{but_last, kept_characters}
use Rattle.cooked.specs.Whole.{all_echo, all_items}
use Rattle.cooked.specs.declared.termios.Termios.{Termios}

-- the changes that one more byte at the end makes: one push, on the fresh bytes and the byte
pub record IsOneMore (t : Termios) (bytes : List ℕ) (b : ℕ) : Type 0 where
  pub left : fresh t (bytes ++ b ∷ []) ≡ fresh t (fresh t bytes ++ b ∷ [])
  pub items : all_items t (bytes ++ b ∷ []) ≡ all_items t bytes ++ items_after t (fresh t bytes) b
  pub echo : all_echo t (bytes ++ b ∷ []) ≡ all_echo t bytes ++ echo_of t (fresh t bytes) b

abbrev pub OneMore : Type 0
OneMore = (t : Termios) (bytes : List ℕ) (b : ℕ) → IsOneMore t bytes b

-- the state after pushes: the fresh bytes, and the items and the echo so far
pub record Pushed : Type 0 where
  pub fresh : List ℕ
  pub items : List Item
  pub echo : List ℕ

abbrev pub nothing_pushed : Pushed
nothing_pushed = record { fresh = []; items = []; echo = [] }

-- one push more, by the fresh bytes and the byte alone
abbrev pub push : Termios → Pushed → ℕ → Pushed
push t p b = record {
  fresh = fresh t (p.fresh ++ b ∷ []);
  items = p.items ++ items_after t p.fresh b;
  echo = p.echo ++ echo_of t p.fresh b;
}

-- pushes in order
abbrev pub pushes : Termios → Pushed → List ℕ → Pushed
pushes t p [] = p
pushes t p (b ∷ more) = pushes t (push t p b) more

-- a whole list is its pushes, done in order
abbrev pub ListIsItsPushes : Type 0
ListIsItsPushes =
    (t : Termios) (bytes : List ℕ)
    → pushes t nothing_pushed bytes
    ≡ record { fresh = fresh t bytes; items = all_items t bytes; echo = all_echo t bytes }

-- an erase drops the last of the kept characters, if there is one
abbrev pub EraseDropsLast : Type 0
EraseDropsLast =
    (t : Termios) (bytes : List ℕ) → t.erase < 0x80
    → kept_characters t (bytes ++ t.erase ∷ []) ≡ but_last (kept_characters t bytes)
