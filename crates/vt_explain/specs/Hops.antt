-- The switches of a history, each at its time. This project's own.
use Rattle.std.specs.Prelude.{ℕ, ◌==◌, Bool, List, [], ◌∷◌, ◌++◌, map}
use Rattle.vt_switch.specs.Moments.{Moment, hops, trace}
use Rattle.vt_switch.specs.declared.hop.Hop.{Hop}

-- a switch, the moment that made it, and the moments before that, the newest first
pub record TimedHop : Type 0 where
  pub earlier : List Moment
  pub moment : Moment
  pub hop : Hop

abbrev pub at_time : List Moment → Moment → Hop → TimedHop
at_time earlier m hop = record { earlier = earlier; moment = m; hop = hop }

-- the switches of a history in their order; of the history itself the newest moment comes first
abbrev pub timed_hops : List Moment → List TimedHop
timed_hops [] = []
timed_hops (m ∷ earlier) = timed_hops earlier ++ map (at_time earlier m) (hops (trace m))

-- the switch was made in this entry
abbrev pub is_in : ℕ → TimedHop → Bool
is_in entry h = h.moment.entry == entry
