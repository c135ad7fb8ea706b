use Rattle.std.proofs.Common.{rules, ◌≡◌, ℕ, ◌+◌, ◌<◌, List, ◌++◌, Ok, IfOk, arith, subst, sym, ap, ◌∙◌}
use Rattle.vt_base.specs.Bytes.{Text}
use Rattle.session_run.proofs.FinalTexts.{consoles_more}
use Rattle.session_run.specs.Final.{consoles_text, text_at}
use Rattle.session_run.proofs.final_map.add_parts.Goals as goal

pub loop-part-preserved : goal.loop-part-preserved
loop-part-preserved c =
    let w = c.args.world.now in
    let i = c.loop-part.part-index in
    let item = c.part-item.result in
    let within : i < 63 = omega (arith, c.loop-part-test.true, c.requires.len) in
    let given =
    subst (λ o. IfOk o (λ (part : Text). part.bytes ≡ text_at w (i + 1))) (sym c.part-item.is)
    (c.requires.each i item within) in
    let is : item ≡ Ok c.in-Ok.part = search rules in
    let part : c.in-Ok.part.bytes ≡ text_at w (i + 1) =
    subst (λ o. IfOk o (λ (part : Text). part.bytes ≡ text_at w (i + 1))) is given in
    consoles_more w (i + 1) c.loop-part.text.bytes c.add.new.text.bytes
    (c.args.text.now.bytes ++ consoles_text w 1 63) (omega (arith, within))
    (c.in_ok-add-in-Ok.ensures
    ∙ ap (λ (b : List ℕ). c.loop-part.text.bytes ++ b) (c.as_slice.ensures ∙ part))
    c.loop-part.invariant
