-- The places that a call writes.
use Rattle.std.specs.Prelude.{ℕ, List, ◌++◌, length, take, drop}

-- the items stand in the first places, as many as there is room for; the other places stay
abbrev pub with_items : {X : Type 0} → List X → List X → List X
with_items items places = take (length places) items ++ drop (length items) places

-- the items stand in the places from n on, as many as there is room for. No public clause names this
abbrev pub filled : {X : Type 0} → ℕ → List X → List X → List X
filled n items places = take n places ++ with_items items (drop n places)
