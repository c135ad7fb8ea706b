use Rattle.std.proofs.Common.{◌≡◌, ℕ, ◌+◌, ◌-◌, ◌++◌, List, take, drop, sym, ap, ◌∙◌, arith}
use Rattle.std.proofs.Math.Seq.{take-add}
use Rattle.vt_screen.specs.Run.{after}
use Rattle.example_screen.proofs.drawing.feed_all.Goals as goal

pub loop-at-preserved : goal.loop-at-preserved
loop-at-preserved c =
    let at : ℕ = c.loop-at.at in
    let end : ℕ = c.line_end-end.result in
    let text : List ℕ = c.args.text.now in
    let piece : List ℕ = take (end - at) (drop at text) in
    let count : at + (end - at) ≡ end = omega arith in
    let fed : take end text ≡ take at text ++ piece =
    ap (λ n. take n text) (sym count) ∙ take-add at (end - at) text in
    record {
      within = omega arith;
      done =
          c.write_with.ensures.screen
          ∙ ap (λ m. after m piece) c.loop-at.invariant.done
          ∙ sym (c.any_cut.ensures c.args.emu.now (take at text) piece).0
          ∙ ap (after c.args.emu.now) (sym fed);
    }
