use Rattle.std.proofs.Common.{◌∙◌, sym, subst}
use Rattle.vt_units.proofs.Settling.{palette_leaves, sequence_leaves, rest_before-character, rest_before_malformed, rest_before-unfinished}
use Rattle.vt_units.specs.ParserState.{IsSequence, Stands}
use Rattle.vt_units.specs.declared.parser_state.ParserState as stage
use Rattle.vt_units.proofs.pending.settling.Goals as goal

pub returns-in-Character : goal.returns-in-Character
returns-in-Character c =
    let stands : Stands stage.ParserState.Utf8 c.args.mode c.args.text.now =
    subst (λ at. Stands at c.args.mode c.args.text.now) c.in-Utf8.is c.requires.stands in
    rest_before-character c.args.mode c.args.now c.args.text.now c.args.b stands.0 stands.1
    c.in-Character.field-0 (sym c.decode.ensures ∙ c.in-Character.is)

pub returns-in-Unfinished : goal.returns-in-Unfinished
returns-in-Unfinished c =
    let stands : Stands stage.ParserState.Utf8 c.args.mode c.args.text.now =
    subst (λ at. Stands at c.args.mode c.args.text.now) c.in-Utf8.is c.requires.stands in
    rest_before-unfinished c.args.mode c.args.now c.args.text.now c.args.b stands.0 stands.1
    (sym c.decode.ensures ∙ c.in-Unfinished.is)

pub returns-in-Malformed : goal.returns-in-Malformed
returns-in-Malformed c =
    let stands : Stands stage.ParserState.Utf8 c.args.mode c.args.text.now =
    subst (λ at. Stands at c.args.mode c.args.text.now) c.in-Utf8.is c.requires.stands in
    rest_before_malformed c.args.mode c.args.now c.args.text.now c.args.b stands.0 stands.1
    (sym c.decode.ensures ∙ c.in-Malformed.is)

pub returns-in-Escape : goal.returns-in-Escape
returns-in-Escape c = rw c.broken.ensures (sequence_leaves c.args.stage c.args.mode c.args.now c.args.text.now c.args.b
    (subst IsSequence (sym c.in-Escape.is) tt) c.requires.stands c.requires.bound)

pub returns-in-Control : goal.returns-in-Control
returns-in-Control c = rw c.broken-in-Control.ensures (sequence_leaves c.args.stage c.args.mode c.args.now c.args.text.now c.args.b
    (subst IsSequence (sym c.in-Control.is) tt) c.requires.stands c.requires.bound)

pub returns-in-Palette : goal.returns-in-Palette
returns-in-Palette c = rw c.broken-in-Palette.ensures (palette_leaves c.args.stage c.args.mode c.args.now c.args.text.now c.args.b
    (subst (λ at. Stands at c.args.mode c.args.text.now) c.in-Palette.is c.requires.stands) c.requires.bound)
