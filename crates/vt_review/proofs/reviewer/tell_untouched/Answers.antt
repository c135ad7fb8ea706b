use Rattle.std.proofs.Common.{◌++◌, ℕ, List, flat_map, map, ap, ◌∙◌, arith}
use Rattle.vt_review.proofs.Tellings.{told_elsewhere}
use Rattle.vt_review.specs.Announcements.{display_told}
use Rattle.vt_review.specs.Lines.{Told, ear_lines}
use Rattle.vt_switch.specs.Moments.{hops}
use Rattle.vt_switch.specs.declared.mark.Mark.{Mark}
use Rattle.vt_review.proofs.reviewer.tell_untouched.Goals as goal

pub returns : goal.returns
returns g c =
    let f : Told → List ℕ = ear_lines 0 c.args.change.place c.args.ears.now in
    told_elsewhere c.args.ears.now c.args.change.place c.args.change.before.now c.args.change.after.now c.args.text.now.bytes
    c.tell_hops.new.text.bytes c.requires
    (omega (arith, c.stays_in_range.ensures.low, c.display.ensures))
    (omega (arith, c.stays_in_range.ensures.high, c.display.ensures))
    (c.in_ok-tell_hops.ensures
    ∙ ap (λ (marks : List Mark). c.args.text.now.bytes ++ flat_map f (map display_told (hops marks))) c.trace.ensures.marks)
