use Rattle.std.proofs.Common.{◌≡◌, ℕ, ◌-◌, List, length, take, drop, sym, ◌∙◌, arith, length-drop}
use Rattle.std.proofs.lemmas.List.{take_all}
use Rattle.vt_sgr.proofs.Sequences.{one_form}
use Rattle.vt_sgr.proofs.apply_sgr.apply_longer.Goals as goal

pub returns-in-38 : goal.returns-in-38
returns-in-38 c =
    let params = c.args.params.now in
    let rest : List ℕ = take (length params - 1) (drop 1 params) in
    let all : rest ≡ drop 1 params = take_all (length params - 1) (drop 1 params) (omega (arith, length-drop 1 params)) in
    c.set_fg_by.ensures
    ∙ sym (one_form params 38 rest c.args.p.now c.requires c.in-38.is all
    (sym c.colour_len.ensures.count ∙ c.if-colour_len-rest.true))

pub returns-in-48 : goal.returns-in-48
returns-in-48 c =
    let params = c.args.params.now in
    let rest : List ℕ = take (length params - 1) (drop 1 params) in
    let all : rest ≡ drop 1 params = take_all (length params - 1) (drop 1 params) (omega (arith, length-drop 1 params)) in
    c.set_bg_by.ensures
    ∙ sym (one_form params 48 rest c.args.p.now c.requires c.in-48.is all
    (sym c.colour_len.ensures.count ∙ c.if-colour_len-rest.true))
