use Rattle.std.proofs.Common.{rules, ◌≡◌, sym, ◌∙◌}
use Rattle.vt_sgr.proofs.pen.Pen.same.Goals as goal

pub returns : goal.returns
returns c = λ is.
    let attr : c.self.inside.attr ≡ c.other.inside.attr = search rules in
    let look : c.self.inside.look ≡ c.other.inside.look = search rules in
    let def_fg : c.self.inside.def_fg ≡ c.other.inside.def_fg = search rules in
    let def_bg : c.self.inside.def_bg ≡ c.other.inside.def_bg = search rules in
    let alt : c.self.inside.alt ≡ c.other.inside.alt = search rules in
    let display : c.self.inside.display ≡ c.other.inside.display = search rules in
    let toggle : c.self.inside.toggle ≡ c.other.inside.toggle = search rules in
    sym c.self.view_is
    ∙ (λ i. record {
      attr = attr i;
      look = look i;
      def_fg = def_fg i;
      def_bg = def_bg i;
      alt = alt i;
      display = display i;
      toggle = toggle i;
    })
    ∙ c.other.view_is
