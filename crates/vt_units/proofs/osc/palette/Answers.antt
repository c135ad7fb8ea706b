use Rattle.std.proofs.Common.{◌≡◌, ◌∙◌, ◌-◌, ◌++◌, ◌∷◌, [], sym, arith, ap, length, take, drop}
use Rattle.std.proofs.lemmas.List.{take_rest}
use Rattle.vt_units.proofs.Joined.{palette_dropped, palette_goes, palette_unit}
use Rattle.vt_units.specs.Answer.{make_outcome}
use Rattle.vt_units.specs.Rest.{fresh}
use Rattle.vt_units.specs.Sequences.{colour_unit}
use Rattle.vt_units.specs.declared.then.Then as then
use Rattle.vt_units.proofs.osc.palette.Goals as goal

pub returns-then-not-is_hex : goal.returns-then-not-is_hex
returns-then-not-is_hex c =
    palette_dropped c.args.mode c.args.text.now c.requires.0 c.requires.1 c.requires.2 c.requires.3
    c.args.b (sym c.acts.ensures ∙ c.if-acts.false) (sym c.is_hex.ensures ∙ c.if-not-is_hex.true)

pub returns-then-text : goal.returns-then-text
returns-then-text c =
    palette_goes c.args.mode c.args.text.now c.requires.0 c.requires.1 c.requires.2 c.requires.3
    c.args.b (sym c.acts.ensures ∙ c.if-acts.false) (sym c.is_hex.ensures ∙ c.if-not-is_hex.false)
    (omega (arith, ap length c.requires.1))

pub returns-else-text : goal.returns-else-text
returns-else-text c =
    let digits : take (length c.args.text.now - 3) (drop 3 c.args.text.now) ≡ c.requires.0 =
    take_rest c.args.text.now 3 ∙ ap (drop 3) c.requires.1 in
    let six : length c.requires.0 ≡ 6 = omega (arith, ap length c.requires.1) in
    palette_unit c.args.mode c.args.text.now c.requires.0 c.requires.1 c.requires.2 c.requires.3
    c.args.b (sym c.acts.ensures ∙ c.if-acts.false) (sym c.is_hex.ensures ∙ c.if-not-is_hex.false) six
    ∙ ap (λ xs. make_outcome (then.Then.Unit (colour_unit (xs ++ c.args.b ∷ []))) (fresh c.args.mode)) (sym digits)
    ∙ ap (λ u. make_outcome (then.Then.Unit u) (fresh c.args.mode)) (sym c.colour_unit.ensures)
