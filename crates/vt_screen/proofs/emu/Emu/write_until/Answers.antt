use Rattle.std.proofs.Common.{◌≡◌, ◌++◌, List, [], Option, None, Some, is_none, true, refl, ap, sym, subst, ◌∙◌, arith, length, length-drop}
use Rattle.std.proofs.lemmas.List.{take_rest}
use Rattle.vt_screen.proofs.Feeds.{runs_on}
use Rattle.vt_screen.proofs.Quiet.{quiet_on}
use Rattle.vt_screen.specs.Run.{IsQuietBefore, outs_of_option}
use Rattle.vt_canvas.specs.declared.out.Out.{Out}
use Rattle.vt_screen.proofs.emu.Emu.write_until.Goals as goal

no_outs : (said : Option Out) → is_none said ≡ true → outs_of_option said ≡ []
no_outs None none = refl
no_outs (Some out) none = absurd (let e : ⊥ = cc in e)

pub loop-at-preserved : goal.loop-at-preserved
loop-at-preserved c =
    let next =
    runs_on c.args.b.now c.loop-at.at c.take_prefix-at.result c.args.self.now c.loop-at.self c.take_prefix-at.new.self
    c.take_prefix-at.new.said c.loop-at.invariant.done c.take_prefix-at.ensures.ran in
    let nothing : outs_of_option c.loop-at.effect ≡ [] = no_outs c.loop-at.effect (sym c.is_none.ensures ∙ c.if-is_none.true) in
    record {
      within = omega (arith, c.take_prefix-at.ensures.ran.0, ap length (take_rest c.args.b.now c.loop-at.at), length-drop c.loop-at.at c.args.b.now);
      done = next.0;
      first =
          quiet_on c.args.b.now c.loop-at.at c.take_prefix-at.result c.args.self.now c.loop-at.self c.loop-at.invariant.done
          (sym (sym nothing ∙ c.loop-at.invariant.effect)) c.loop-at.invariant.first
          (subst (IsQuietBefore c.take_prefix-at.result c.loop-at.self) (take_rest c.args.b.now c.loop-at.at) c.take_prefix-at.ensures.ran.2);
      effect =
          ap (λ (outs : List Out). outs ++ outs_of_option c.take_prefix-at.new.said) (sym nothing ∙ c.loop-at.invariant.effect)
          ∙ next.1;
    }
