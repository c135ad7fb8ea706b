use Rattle.std.proofs.Common.{◌≡◌, ◌++◌, ℕ, List, [], ◌∷◌, cond, flat_map, ltb, map, ap, ◌∙◌, arith}
use Rattle.vt_review.proofs.Tellings.{told_aside, told_at}
use Rattle.vt_review.specs.Announcements.{bell_told, display_told, rows_told}
use Rattle.vt_review.specs.Lines.{Told, ear_lines}
use Rattle.vt_switch.specs.Moments.{hops}
use Rattle.vt_switch.specs.declared.mark.Mark.{Mark}
use Rattle.vt_world.specs.State.{WorldState}
use Rattle.vt_review.proofs.reviewer.tell_touched.Goals as goal

pub returns-then-front-get : goal.returns-then-front-get
returns-then-front-get g c =
    let f : Told → List ℕ = ear_lines 0 c.args.change.place c.args.ears.now in
    let v : WorldState = c.args.change.after.now in
    told_aside c.args.ears.now c.args.change.place c.args.change.before.now v c.args.console c.args.text.now.bytes
    c.tell_hops.new.text.bytes c.tell_bell.new.text.bytes c.stays_in_range.ensures.low
    c.stays_in_range.ensures.high c.requires
    (omega (arith, c.get-front.ensures.same, c.get-front.ensures.low, c.display.ensures))
    (omega (arith, c.get-front.ensures.same, c.get-front.ensures.high, c.display.ensures))
    (λ (same : v.display.front ≡ c.args.console).
    absurd (omega (arith, same, c.get-front.ensures.same, c.get.ensures.same, c.display.ensures, c.if-front-get.true)))
    (c.in_ok-tell_hops.ensures
    ∙ ap (λ (marks : List Mark). c.args.text.now.bytes ++ flat_map f (map display_told (hops marks))) c.trace.ensures.marks)
    (c.in_ok-tell_bell.ensures
    ∙ (λ i. c.tell_hops.new.text.bytes ++ flat_map f (cond (ltb (c.bells-was.ensures i) (c.bells-rung.ensures i)) (bell_told c.args.console ∷ []) [])))

pub returns : goal.returns
returns g c =
    let f : Told → List ℕ = ear_lines 0 c.args.change.place c.args.ears.now in
    let w : WorldState = c.args.change.before.now in
    let v : WorldState = c.args.change.after.now in
    told_at c.args.ears.now c.args.change.place w v c.args.console c.args.text.now.bytes
    c.tell_hops.new.text.bytes c.tell_bell.new.text.bytes c.tell_screen.new.text.bytes
    c.stays_in_range.ensures.low c.stays_in_range.ensures.high c.requires
    (c.in_ok-tell_hops.ensures
    ∙ ap (λ (marks : List Mark). c.args.text.now.bytes ++ flat_map f (map display_told (hops marks))) c.trace.ensures.marks)
    (c.in_ok-tell_bell.ensures
    ∙ (λ i. c.tell_hops.new.text.bytes ++ flat_map f (cond (ltb (c.bells-was.ensures i) (c.bells-rung.ensures i)) (bell_told c.args.console ∷ []) [])))
    (c.in_ok-tell_screen.ensures
    ∙ ap (λ (n : ℕ). c.tell_bell.new.text.bytes ++ flat_map f (rows_told w v n))
    (omega (arith, c.get-front.ensures.same, c.get.ensures.same, c.display.ensures, c.if-front-get.false)))
