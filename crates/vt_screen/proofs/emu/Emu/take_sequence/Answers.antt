use Rattle.std.proofs.Common.{◌≡◌, List, ℕ, Some, sym, ap, ◌∙◌}
use Rattle.vt_screen.proofs.Sequences.{sequence_run}
use Rattle.vt_canvas.specs.Effect.{effect}
use Rattle.vt_units.proofs.Stated.{sequences_are_units}
use Rattle.vt_units.specs.WholeSequence.{Sequence, rest_ahead, taken_ahead}
use Rattle.vt_units.specs.declared.unit.Unit.TheVariants.{Csi, Esc}
use Rattle.vt_screen.proofs.emu.Emu.take_sequence.Goals as goal

pub returns-in-Esc-clause-ran : goal.returns-in-Esc-clause-ran
returns-in-Esc-clause-ran c =
    let one : Sequence = record { unit = Esc c.in-Esc.mid c.in-Esc.last; count = c.in-Esc.count } in
    let found : taken_ahead c.self.inside.pending c.args.b.now ≡ Some one = sym c.in-Esc.ensures.sequence in
    sequence_run sequences_are_units c.args.b.now c.args.self.now c.self.inside.canvas c.escape.new.self
    c.self.inside.pending c.take_sequence.new.self c.mode.result one c.escape.new.said c.self.view_is c.mode.ensures found
    (c.in-Esc.ensures.rest ∙ ap (rest_ahead c.self.inside.pending c.mode.result) found) c.escape.ensures

pub returns-in-Csi-clause-ran : goal.returns-in-Csi-clause-ran
returns-in-Csi-clause-ran c =
    let one : Sequence = record { unit = Csi c.in-Csi.private c.take_sequence.new.params c.in-Csi.last; count = c.in-Csi.count } in
    let found : taken_ahead c.self.inside.pending c.args.b.now ≡ Some one = sym c.in-Csi.ensures.sequence in
    sequence_run sequences_are_units c.args.b.now c.args.self.now c.self.inside.canvas c.dispatch_sequence.new.self
    c.self.inside.pending c.take_sequence.new.self c.mode.result one c.dispatch_sequence.new.said c.self.view_is c.mode.ensures found
    (c.in-Csi.ensures.rest ∙ ap (rest_ahead c.self.inside.pending c.mode.result) found)
    (ap (λ (numbers : List ℕ). effect (Csi c.in-Csi.private numbers c.in-Csi.last) c.self.inside.canvas) (sym c.as_slice.ensures.numbers)
    ∙ c.dispatch_sequence.ensures)
