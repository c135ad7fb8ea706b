-- The memory that an event may need, allocated before it.
use Rattle.std.specs.Prelude.{◌≡◌, ◌≤◌, ⊤, ℕ, Bool, ◌&&◌, nat_le, Option, Some, None, [], if◌then◌else◌}
use Rattle.vt_base.specs.Bytes.{Text}
use Rattle.vt_base.specs.declared.size.Size.{Size}
use Rattle.vt_events.specs.Charge.{greatest_reply}
use Rattle.vt_events.specs.declared.event.Event.{Event}
use Rattle.vt_events.specs.declared.event.Event.TheVariants as event
use Rattle.vt_grid.specs.Grid.{GridView}

-- a grid, and two buffers for the bytes of an answer
pub record SpareView : Type 0 where
  pub grid : Option GridView
  pub reply : Text
  pub for_copy : Text

-- no bytes, and room for n
abbrev pub empty_with : ℕ → Text
empty_with n = record { bytes = []; room = n }

-- no grid, and no room
abbrev pub no_spare : SpareView
no_spare = record { grid = None; reply = empty_with 0; for_copy = empty_with 0 }

-- the number of a console
abbrev pub is_console : ℕ → Bool
is_console n = nat_le 1 n && nat_le n 63

-- rows and columns, also a size that no screen can have
pub record Extent : Type 0 where
  pub rows : ℕ
  pub cols : ℕ

abbrev pub extent : ℕ → ℕ → Extent
extent rows cols = record { rows = rows; cols = cols }

abbrev pub extent_of : Size → Extent
extent_of size = extent size.rows size.cols

-- a screen can have this many rows and columns
abbrev pub is_extent : ℕ → ℕ → Bool
is_extent rows cols = (nat_le 1 rows && nat_le rows 255) && (nat_le 1 cols && nat_le cols 255)

-- the size of the grid that an event may need, in a machine of this size: the machine's if a
-- console may be allocated, and the new one if a screen is resized
abbrev pub needed_grid : Extent → Event → Option Extent
needed_grid size (event.OpenCon n) = if is_console n then Some size else None
needed_grid size (event.Activate fd n) = if is_console n then Some size else None
needed_grid size (event.Resize fd rows cols) =
    if is_extent rows cols then Some (extent rows cols) else None
needed_grid size e = None

-- there is a grid, and it has this size
abbrev pub HasSize : Extent → Option GridView → Type 0
HasSize size None = ⊥
HasSize size (Some grid) = (grid.rows ≡ size.rows) × (grid.cols ≡ size.cols)

-- there is a grid of the size that is needed, if one is needed
abbrev pub HasGrid : Option Extent → Option GridView → Type 0
HasGrid None grid = ⊤
HasGrid (Some size) grid = HasSize size grid

-- a grid is needed, and there is one of the size that is needed
abbrev pub IsFit : Option Extent → Option GridView → Type 0
IsFit None grid = ⊥
IsFit (Some size) grid = HasSize size grid

-- a kept grid that fits is taken, and any other stays kept
pub record IsTaken (needed : Option Extent) (kept grid left : Option GridView) : Type 0 where
  pub fit : IsFit needed kept → (grid ≡ kept) × (left ≡ None)
  pub other : (IsFit needed kept → ⊥) → left ≡ kept

-- the spare is enough for the event, in a machine of this size
pub record Fits (rows cols : ℕ) (e : Event) (spare : SpareView) : Type 0 where
  pub grid : HasGrid (needed_grid (extent rows cols) e) spare.grid
  pub reply : greatest_reply e ≤ spare.reply.room
  pub for_copy : greatest_reply e ≤ spare.for_copy.room
