use Rattle.std.proofs.Common.{◌≡◌, ℕ, ◌+◌, ◌++◌, List, ap, sym, ◌∙◌, arith, drop, length, length-drop, map, take}
use Rattle.screen_c.proofs.Pieces.{count_more, outs_more, places_more, room_more, screen_more}
use Rattle.screen_c.specs.Shown.{c_out}
use Rattle.screen_c.specs.declared.vt_out.VtOut.{VtOut}
use Rattle.vt_screen.proofs.Stated.{any_cut}
use Rattle.vt_screen.specs.Run.{outs_of_option, outs_of_run}
use Rattle.vt_canvas.specs.declared.out.Out.{Out}
use Rattle.screen_c.proofs.feeding.feed.Goals as goal

pub loop-n-preserved : goal.loop-n-preserved
loop-n-preserved c =
    let text : List ℕ = c.args.b.now in
    let start : List VtOut = c.args.places.now in
    let at : ℕ = c.loop-n.at in
    let n : ℕ = c.loop-n.n in
    let m : ℕ = c.write_until-at.result in
    let k : ℕ = c.put_effect-n.result in
    let before : List Out = outs_of_run c.args.emu.now (take at text) in
    let more : List Out = outs_of_option c.write_until-at.new.effect in
    let all : List Out = outs_of_run c.args.emu.now (take (at + m) text) in
    let whole : before ++ more ≡ all =
    ap (λ (xs : List Out). before ++ xs) c.write_until-at.ensures.effect
    ∙ outs_more any_cut c.args.emu.now c.loop-n.emu at m text c.loop-n.invariant.screen in
    record {
      within = omega (arith, c.write_until-at.ensures.within, length-drop at text);
      room =
          omega (
            arith,
            c.loop-n-test.true,
            c.put_effect-n.ensures.one,
            c.put_effect-n.ensures.size,
          );
      size = c.put_effect-n.ensures.size ∙ c.loop-n.invariant.size;
      screen =
          c.write_until-at.ensures.screen
          ∙ screen_more any_cut c.args.emu.now c.loop-n.emu at m text c.loop-n.invariant.screen;
      first =
          room_more any_cut c.args.emu.now c.loop-n.emu at m (length start) text c.loop-n.invariant.screen
          (omega (arith, c.loop-n-test.true, c.loop-n.invariant.count, c.loop-n.invariant.size)) c.loop-n.invariant.first
          c.write_until-at.ensures.first;
      count = count_more before more all n k c.loop-n.invariant.count c.put_effect-n.ensures.count whole;
      places =
          c.put_effect-n.ensures.places
          ∙ places_more before more all start c.loop-n.places n c.loop-n.invariant.count c.loop-n.invariant.places whole
          ∙ ap (λ (j : ℕ). map c_out all ++ drop (n + j) start) (sym c.put_effect-n.ensures.count);
    }
