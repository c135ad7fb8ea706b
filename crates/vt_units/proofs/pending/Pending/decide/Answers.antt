use Rattle.std.proofs.Common.{◌≡◌, ◌≤◌, ℕ, List, length, subst, refl, sym, ap, arith}
use Rattle.vt_units.proofs.Joined.{inside_outcome_of_text, part_whole}
use Rattle.vt_units.specs.Reading.{character}
use Rattle.vt_units.specs.Rest.{Rest}
use Rattle.vt_units.specs.ParserState.{Inside, Stands}
use Rattle.vt_units.specs.declared.mode.Mode.{Mode}
use Rattle.vt_units.specs.declared.parser_state.ParserState as stage
use Rattle.vt_units.proofs.pending.Pending.decide.Goals as goal

pub returns-in-Utf8 : goal.returns-in-Utf8
returns-in-Utf8 c =
    let m : Mode = c.self.inside.mode in
    let text : List ℕ = c.as_slice-text.result.now in
    let bytes : text ≡ c.self.inside.text = c.as_slice-text.ensures.bytes in
    let stands : Stands stage.ParserState.Utf8 m text =
    subst (λ (t : List ℕ). Stands stage.ParserState.Utf8 m t) (sym bytes)
    (subst (λ at. Stands at m c.self.inside.text) c.in-Utf8.is c.self.invariant) in
    let bound : length text ≤ 256 = omega (arith, c.as_slice-text.ensures.bound, ap length bytes) in
    subst (λ (old : Rest). Inside old.mode old.text c.args.b c.part.result.0 c.part.result.1) c.self.view_is
    (subst (λ (t : List ℕ). Inside m t c.args.b c.part.result.0 c.part.result.1) bytes
    (inside_outcome_of_text m text c.args.b bound character (part_whole m text stands.0 stands.1) refl refl
    c.part.result.0 c.part.result.1 c.part.ensures))
