use Rattle.std.proofs.Common.{◌<◌, ℕ, List, length, sym, ap, ◌∙◌, subst, arith}
use Rattle.vt_units.proofs.Bodies.{body_quiet, body_stands}
use Rattle.vt_units.specs.Rest.{Rest}
use Rattle.vt_units.specs.ParserState.{Quiet, Stands, rest_of}
use Rattle.vt_units.specs.declared.mode.Mode.{Mode}
use Rattle.vt_units.specs.declared.parser_state.ParserState as stage
use Rattle.vt_units.proofs.pending.Pending.take_body.Goals as goal

pub invariant_of-self : goal.invariant_of-self
invariant_of-self c =
    let m : Mode = c.self.inside.mode in
    let text : List ℕ = c.self.inside.text in
    let stands : Stands stage.ParserState.Control m text = subst (λ at. Stands at m text) c.in-Control.is c.self.invariant in
    let room : length text < 256 = omega (arith, c.if-as_slice-ge-SEQUENCE_BYTES.false, ap length c.as_slice.ensures.bytes) in
    subst (λ (at : stage.ParserState). Stands at m c.push.new.self) (sym c.in-Control.is)
    (subst (λ (t : List ℕ). Stands stage.ParserState.Control m t) (sym c.push.ensures)
    (body_stands m text c.args.b stands (sym c.is_body.ensures ∙ c.if-not-is_body.false) room))

pub returns-clause-goes : goal.returns-clause-goes
returns-clause-goes c = λ is.
    let m : Mode = c.self.inside.mode in
    let text : List ℕ = c.self.inside.text in
    let stands : Stands stage.ParserState.Control m text = subst (λ at. Stands at m text) c.in-Control.is c.self.invariant in
    let room : length text < 256 = omega (arith, c.if-as_slice-ge-SEQUENCE_BYTES.false, ap length c.as_slice.ensures.bytes) in
    subst (λ (old : Rest). Quiet old c.args.b (rest_of m c.push.new.self)) c.self.view_is
    (subst (λ (t : List ℕ). Quiet (rest_of m text) c.args.b (rest_of m t)) (sym c.push.ensures)
    (body_quiet m text c.args.b stands (sym c.is_body.ensures ∙ c.if-not-is_body.false) room))
