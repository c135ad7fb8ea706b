use Rattle.std.proofs.Common.{◌∙◌, sym, arith}
use Rattle.std.proofs.lemmas.Bool.{eq-eqb, ne_eqb}
use Rattle.vt_units.proofs.Joined.{sequence-acts, sequence_full, sequence-outcome_of_text, sequence_vanishes}
use Rattle.vt_units.proofs.sequence.sequence.Goals as goal

pub returns-then-acts : goal.returns-then-acts
returns-then-acts c =
    sequence-acts c.args.stage c.args.mode c.args.text.now c.requires.sequence c.requires.stands
    c.requires.bound c.args.b (sym c.acts.ensures ∙ c.if-acts.true)

pub returns-then-b-eq127 : goal.returns-then-b-eq127
returns-then-b-eq127 c =
    sequence_vanishes c.args.stage c.args.mode c.args.text.now c.requires.sequence c.requires.stands
    c.requires.bound c.args.b (sym c.acts.ensures ∙ c.if-acts.false) (eq-eqb _ _ c.if-b-eq127.true)

pub returns-then-text-eq-SEQUENCE_BYTES : goal.returns-then-text-eq-SEQUENCE_BYTES
returns-then-text-eq-SEQUENCE_BYTES c =
    sequence_full c.args.stage c.args.mode c.args.text.now c.requires.sequence c.requires.stands
    c.requires.bound c.args.b (sym c.acts.ensures ∙ c.if-acts.false) (ne_eqb _ _ c.if-b-eq127.false) (omega arith)

pub returns-in-Escape : goal.returns-in-Escape
returns-in-Escape c =
    sequence-outcome_of_text c.args.stage c.args.mode c.args.text.now c.requires.sequence c.requires.stands
    c.requires.bound c.args.b (sym c.acts.ensures ∙ c.if-acts.false) (ne_eqb _ _ c.if-b-eq127.false)
    c.escape.result.0 c.escape.result.1 c.escape.ensures

pub returns-in-Control : goal.returns-in-Control
returns-in-Control c =
    sequence-outcome_of_text c.args.stage c.args.mode c.args.text.now c.requires.sequence c.requires.stands
    c.requires.bound c.args.b (sym c.acts.ensures ∙ c.if-acts.false) (ne_eqb _ _ c.if-b-eq127.false)
    c.control.result.0 c.control.result.1 c.control.ensures

pub returns-in_default : goal.returns-in_default
returns-in_default c =
    sequence-outcome_of_text c.args.stage c.args.mode c.args.text.now c.requires.sequence c.requires.stands
    c.requires.bound c.args.b (sym c.acts.ensures ∙ c.if-acts.false) (ne_eqb _ _ c.if-b-eq127.false)
    c.bracket.result.0 c.bracket.result.1 c.bracket.ensures
