use Rattle.std.proofs.Common.{rules, ◌≡◌}
use Rattle.vt_canvas.proofs.screen_state.ScreenState.same.Goals as goal

pub returns : goal.returns
returns c = λ is.
    let x : c.args.self.now.x ≡ c.args.other.now.x = search rules in
    let y : c.args.self.now.y ≡ c.args.other.now.y = search rules in
    let wrap : c.args.self.now.wrap ≡ c.args.other.now.wrap = search rules in
    let top : c.args.self.now.top ≡ c.args.other.now.top = search rules in
    let bottom : c.args.self.now.bottom ≡ c.args.other.now.bottom = search rules in
    let pen : c.args.self.now.pen ≡ c.args.other.now.pen = search rules in
    let g0 : c.args.self.now.g0 ≡ c.args.other.now.g0 = search rules in
    let g1 : c.args.self.now.g1 ≡ c.args.other.now.g1 = search rules in
    let shift : c.args.self.now.shift ≡ c.args.other.now.shift = search rules in
    let utf8 : c.args.self.now.utf8 ≡ c.args.other.now.utf8 = search rules in
    let stops : c.args.self.now.stops ≡ c.args.other.now.stops = search rules in
    let insert : c.args.self.now.insert ≡ c.args.other.now.insert = search rules in
    let newline : c.args.self.now.newline ≡ c.args.other.now.newline = search rules in
    let cursor : c.args.self.now.cursor ≡ c.args.other.now.cursor = search rules in
    let reverse : c.args.self.now.reverse ≡ c.args.other.now.reverse = search rules in
    let origin : c.args.self.now.origin ≡ c.args.other.now.origin = search rules in
    let autowrap : c.args.self.now.autowrap ≡ c.args.other.now.autowrap = search rules in
    let repeat : c.args.self.now.repeat ≡ c.args.other.now.repeat = search rules in
    let visible : c.args.self.now.visible ≡ c.args.other.now.visible = search rules in
    let keypad : c.args.self.now.keypad ≡ c.args.other.now.keypad = search rules in
    let saved : c.args.self.now.saved ≡ c.args.other.now.saved = search rules in
    let palette : c.args.self.now.palette ≡ c.args.other.now.palette = search rules in
    let map : c.args.self.now.map ≡ c.args.other.now.map = search rules in
    λ i. record {
      x = x i;
      y = y i;
      wrap = wrap i;
      top = top i;
      bottom = bottom i;
      pen = pen i;
      g0 = g0 i;
      g1 = g1 i;
      shift = shift i;
      utf8 = utf8 i;
      stops = stops i;
      insert = insert i;
      newline = newline i;
      cursor = cursor i;
      reverse = reverse i;
      origin = origin i;
      autowrap = autowrap i;
      repeat = repeat i;
      visible = visible i;
      keypad = keypad i;
      saved = saved i;
      palette = palette i;
      map = map i;
    }
