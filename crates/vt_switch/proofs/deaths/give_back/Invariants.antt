use Rattle.std.proofs.Common.{◌≡◌, ◌<◌, ◌≤◌, ℕ, None, get_or, length}
use Rattle.std.specs.Prelude.{option_map}
use Rattle.vt_switch.specs.Deaths.{left_by}
use Rattle.vt_switch.proofs.deaths.give_back.Given as goal

abbrev pub invariant-loop-n : goal.invariant-loop-n
invariant-loop-n l = record {
  places : length l.consoles ≡ length l.fn.consoles;
  given : (k : ℕ) → k < l.n
      → get_or l.consoles k None ≡ option_map (left_by l.p) (get_or l.fn.consoles k None);
  kept : (k : ℕ) → l.n ≤ k → get_or l.consoles k None ≡ get_or l.fn.consoles k None;
}
