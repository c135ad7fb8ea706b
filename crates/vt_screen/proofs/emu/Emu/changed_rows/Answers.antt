use Rattle.std.proofs.Common.{◌≡◌, true, [], refl, sym, ap, ◌∙◌, arith}
use Rattle.std.proofs.lemmas.List.Elements.{All-nil}
use Rattle.vt_grid.specs.Grid.{GridView}
use Rattle.vt_screen.proofs.Changes.{all_come, come_further}
use Rattle.vt_screen.specs.ChangedRows.{ReadsPlainly, is_plain_byte}
use Rattle.vt_screen.specs.Run.{with_outs}
use Rattle.vt_canvas.specs.declared.screen_state.ScreenState.{ScreenState}
use Rattle.vt_screen.proofs.emu.Emu.changed_rows.Goals as goal

pub loop-b-init : goal.loop-b-init
loop-b-init c =
    let is : c.state-state.result.now ≡ c.args.self.now.state.state = c.state-state.ensures.state in
    let whole = c.state-state.ensures.whole in
    let plain = c.if-not-reads_plainly.false in
    let plainly : ReadsPlainly c.args.self.now = record {
      text = c.reads_plainly.ensures.text plain;
      decoding = c.reads_plainly.ensures.decoding plain;
      wraps = c.reads_plainly.ensures.wraps plain;
      straight = c.reads_plainly.ensures.straight plain;
    } in
    let width = c.size-size.ensures.cols ∙ ap (λ (g : GridView). g.cols) c.grid-grid.ensures.cells in
    record {
      now = with_outs [] c.args.self.now;
      runs = refl;
      text = plainly.text;
      here = record {
        decoding = plainly.decoding;
        wraps = plainly.wraps;
        straight = plainly.straight;
        width = sym width;
        last = sym (ap (λ (s : ScreenState). s.bottom) is);
        region = omega (arith, whole.region, ap (λ (s : ScreenState). s.bottom) is);
        within = omega (arith, width, whole.column, ap (λ (s : ScreenState). s.x) is);
        column = sym (ap (λ (s : ScreenState). s.x) is);
        row = sym (ap (λ (s : ScreenState). s.y) is);
        pending = sym (ap (λ (s : ScreenState). s.wrap) is);
      };
      order = omega arith;
      same = λ k outside. refl;
      last = sym (ap (λ (s : ScreenState). s.bottom) is);
      plainly = plainly;
      plain = All-nil (λ b. is_plain_byte b ≡ true);
      above = λ k less. absurd (omega (arith, less));
    }

pub loop-b-preserved : goal.loop-b-preserved
loop-b-preserved c =
    come_further c.size-size.result.cols c.state-state.result.now.bottom c.state-state.result.now.y c.loop-b.at c.in-Some.next
    c.args.self.now c.args.bytes.now c.loop-b.b-index c.loop-b-test.true c.in-Some.ensures.moves
    (sym c.in-Some.ensures.known) c.loop-b.invariant

pub returns : goal.returns
returns c =
    let all =
    all_come c.size-size.result.cols c.state-state.result.now.bottom c.state-state.result.now.y c.loop-b.at
    c.args.self.now c.args.bytes.now c.loop-b.b-index (omega (arith, c.loop-b-test.false)) c.loop-b.invariant in
    record {
      rows = all.0;
      cursor = (ap (λ (s : ScreenState). s.y) c.state-state.ensures.state, sym all.1);
      known = ((λ some. all.2), (λ stays. refl));
    }
