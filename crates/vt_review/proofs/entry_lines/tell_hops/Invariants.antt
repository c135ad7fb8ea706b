use Rattle.std.proofs.Common.{◌≡◌, ◌++◌, drop, flat_map, map}
use Rattle.vt_review.specs.Announcements.{display_told}
use Rattle.vt_review.specs.Lines.{ear_lines}
use Rattle.vt_switch.specs.Moments.{hops}
use Rattle.vt_review.proofs.entry_lines.tell_hops.Given as goal

abbrev pub invariant-loop-mark : goal.invariant-loop-mark
invariant-loop-mark g l =
    l.text.bytes ++ flat_map (ear_lines 0 l.e l.ears) (map display_told (hops (drop l.mark-index l.trace)))
    ≡ l.fn.text.bytes ++ flat_map (ear_lines 0 l.e l.ears) (map display_told (hops l.trace))
