use Rattle.std.proofs.Common.{◌≡◌, ◌<◌, ◌==◌, ◌&&◌, not, Bool, true, ℕ, List, [], take, length, arith, sym, ap, ◌∙◌, if◌then◌else◌}
use Rattle.std.proofs.lemmas.Bool.{and_parts}
use Rattle.std.proofs.lemmas.List.{length-take-le}
use Rattle.vt_screen.proofs.Printed.{empty_is, rest_behind}
use Rattle.vt_screen.proofs.Quiet.{quiet_run}
use Rattle.vt_screen.proofs.FeedRuns.{behind_some, feeds_run}
use Rattle.vt_canvas.specs.Cursor.{newlines}
use Rattle.vt_screen.specs.Run.{run_from, with_outs}
use Rattle.vt_canvas.specs.Screen.{Screen, mode_of}
use Rattle.vt_units.proofs.Stated.{controls_are_units}
use Rattle.vt_units.specs.Bytes.{is_control}
use Rattle.vt_units.specs.Reading.{is_empty}
use Rattle.vt_units.specs.Rest.{Rest, fresh}
use Rattle.vt_units.specs.Run.{Reached, make_reached}
use Rattle.vt_units.specs.declared.mode.Mode.{Mode}
use Rattle.vt_screen.proofs.emu.Emu.scroll_linefeeds.Goals as goal

pub returns : goal.returns
returns c =
    let n : ℕ = c.line_feeds-count.result in
    let text : List ℕ = c.args.b.now in
    let bytes : List ℕ = take n text in
    let s : Screen = c.self.inside.canvas in
    let rest : Rest = c.self.inside.pending in
    let m : Mode = c.mode.result in
    let takes : c.take_control.result ≡ true = c.if-not-take_control.false in
    let parts = and_parts (is_empty rest.text && is_control m 0x0A) (not (0x0A == 0x1B)) (sym c.take_control.ensures.control ∙ takes) in
    let empty = and_parts (is_empty rest.text) (is_control m 0x0A) parts.0 in
    let nothing : rest.text ≡ [] = empty_is rest.text empty.0 in
    let len : length bytes ≡ n = length-take-le n text c.line_feeds-count.ensures.within in
    let left : c.take_control.new.self ≡ fresh m =
    c.take_control.ensures.rest ∙ ap (λ (b : Bool). if b then fresh m else rest) takes in
    let some : 0 < length bytes = omega (arith, len, c.if-count-eq0.false) in
    let drawn : newlines (length bytes) s ≡ c.scroll.new.self =
    ap (λ (k : ℕ). newlines k s) len ∙ sym c.scroll.ensures in
    let behind : rest_behind bytes (mode_of s) rest ≡ c.take_control.new.self =
    behind_some bytes (mode_of s) rest some ∙ ap fresh (sym c.mode.ensures) ∙ sym left in
    let ran : run_from c.args.self.now bytes ≡ with_outs [] (make_reached c.scroll.new.self c.take_control.new.self) =
    ap (λ (r : Reached Screen). run_from r bytes) (sym c.self.view_is)
    ∙ feeds_run controls_are_units bytes s rest c.line_feeds-count.ensures.feeds nothing
    ∙ (λ i. with_outs [] (make_reached (drawn i) (behind i))) in
    (c.line_feeds-count.ensures.within, ran, quiet_run c.args.self.now text n _ ran)
