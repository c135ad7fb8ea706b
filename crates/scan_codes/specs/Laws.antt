-- The laws of scan groups: a list of bytes is groups and one rest, wherever it is cut. Each law is about the
-- definitions alone.
use Rattle.std.specs.Prelude.{◌≡◌, ℕ, List, [], ◌∷◌, ◌++◌, IsTrue, option_to_list}
use Rattle.std.specs.List.{flat_map, list_all}
use Rattle.scan_codes.specs.Groups.{is_group, named_by}
use Rattle.scan_codes.specs.Scan.{bytes_after, event_after}
use Rattle.scan_codes.specs.declared.key_event.KeyEvent.{KeyEvent}

-- the events of bytes after these, byte by byte
abbrev pub events : List ℕ → List ℕ → List ℕ → List KeyEvent
events codes before [] = []
events codes before (b ∷ bytes) =
    option_to_list (event_after codes before b) ++ events codes (bytes_after before b) bytes

-- the bytes since the last whole group, after them
abbrev pub rest : List ℕ → List ℕ → List ℕ
rest before [] = before
rest before (b ∷ bytes) = rest (bytes_after before b) bytes

-- groups, one after another, give the event that each of them names
abbrev pub GroupsAreRead : Type 0
GroupsAreRead =
    (codes : List ℕ) (groups : List (List ℕ)) → IsTrue (list_all is_group groups)
    → events codes [] (flat_map (λ group. group) groups)
    ≡ flat_map (λ group. option_to_list (named_by codes group)) groups

-- any cut: bytes that are read as a whole are read in two parts, wherever they are cut
abbrev pub AnyCut : Type 0
AnyCut =
    (codes before a b : List ℕ)
    → events codes before (a ++ b) ≡ events codes before a ++ events codes (rest before a) b
