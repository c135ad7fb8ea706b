-- Whether the terminals of one machine fit at the places of another one's. No public clause names this.
use Rattle.std.specs.Prelude.{◌≡◌, ◌<◌, ◌≤◌, ⊤, ℕ, List, Option, Some, None, slice_index_or}
use Rattle.vt_grid.specs.Grid.{GridView}
use Rattle.vt_world.specs.Terminals.{TerminalState}

-- the place has a terminal with a screen of the other's size, if there is another one
abbrev pub HasRoom : Option TerminalState → Option TerminalState → Type 0
HasRoom place None = ⊤
HasRoom None (Some other) = ⊥
HasRoom (Some own) (Some other) =
    (own.emu.state.grid.rows ≡ other.emu.state.grid.rows) × (own.emu.state.grid.cols ≡ other.emu.state.grid.cols)

-- so do the first n places
abbrev pub HaveRoom : List (Option TerminalState) → List (Option TerminalState) → ℕ → Type 0
HaveRoom places others n =
    (i : ℕ) (place other : Option TerminalState) → i < n → place ≡ slice_index_or places i place
    → other ≡ slice_index_or others i other → HasRoom place other

-- the other's screen, if there is one, has the size of the grid, or fits at the place if there is no grid
abbrev pub IsHeldBy : Option TerminalState → Option GridView → Option TerminalState → Type 0
IsHeldBy place grid None = ⊤
IsHeldBy place None (Some other) = HasRoom place (Some other)
IsHeldBy place (Some grid) (Some other) =
    (grid.rows ≡ other.emu.state.grid.rows) × (grid.cols ≡ other.emu.state.grid.cols)

-- so are those of the places from `from` on, below `to`
abbrev pub AreHeldBy :
    ℕ → ℕ → List (Option TerminalState) → List (Option GridView) → List (Option TerminalState) → Type 0
AreHeldBy from to places grids others =
    (i : ℕ) (place other : Option TerminalState) (grid : Option GridView) → from ≤ i → i < to
    → place ≡ slice_index_or places i place → grid ≡ slice_index_or grids i grid
    → other ≡ slice_index_or others i other → IsHeldBy place grid other
