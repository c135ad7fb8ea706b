use Rattle.std.proofs.Common.{◌≡◌, ℕ, List, [], ap, sym, subst, ◌∙◌, arith, length}
use Rattle.vt_canvas.specs.Screen.{Screen}
use Rattle.vt_cells.specs.declared.cell.Cell.{Cell}
use Rattle.vt_screen.proofs.RowLengths.{cols_of_printed}
use Rattle.vt_screen.specs.Falling.{AreWide}
use Rattle.vt_units.specs.Run.{Reached}
use Rattle.vt_screen.proofs.emu.Emu.take_by_rows.Goals.{then-read, else-read}
use Rattle.vt_screen.proofs.emu.Emu.take_by_rows.Goals as goal

no_rows : (cols : ℕ) (rows : List (List Cell)) → rows ≡ [] → AreWide cols rows
no_rows cols rows none k d less = absurd (omega (arith, less, ap length none))

-- a row more of a screen with as many columns
still_wide : (cols other : ℕ) (old new : List (List Cell)) → other ≡ cols → (AreWide other old → AreWide other new)
    → AreWide cols old → AreWide cols new
still_wide cols other old new same keeps wide =
    subst (λ (n : ℕ). AreWide n new) same (keeps (subst (λ (n : ℕ). AreWide n old) (sym same) wide))

pub returns-in-Unit-clause-wide : goal.returns-in-Unit-clause-wide
returns-in-Unit-clause-wide c =
    let cols : ℕ = c.args.self.now.state.grid.cols in
    let before : c.self.inside.canvas.grid.cols ≡ cols =
    ap (λ (m : Reached Screen). m.state.grid.cols) c.self.view_is in
    let none : AreWide cols c.args.rows.now = no_rows cols c.args.rows.now c.requires in
    elim c.if-read.branch [
      | then-read w ↦
          still_wide cols c.if-read.self-inside.canvas.grid.cols c.if-read.rows c.keep-in-Unit.new.self
          ((λ i. (w.self-inside-is i).canvas.grid.cols)
          ∙ ap (λ (s : Screen). s.grid.cols) w.print.ensures
          ∙ cols_of_printed 0xFFFD c.self.inside.canvas
          ∙ before)
          c.keep-in-Unit.ensures.wide
          (subst (AreWide cols) (sym w.rows-is)
          (still_wide cols c.self.inside.canvas.grid.cols c.args.rows.now w.keep-then-read.new.self before
          w.keep-then-read.ensures.wide none))
      | else-read w ↦
          still_wide cols c.if-read.self-inside.canvas.grid.cols c.if-read.rows c.keep-in-Unit.new.self
          ((λ i. (w.self-inside-is i).canvas.grid.cols) ∙ before) c.keep-in-Unit.ensures.wide
          (subst (AreWide cols) (sym w.rows-is) none)
    ]

pub returns-in-Act-clause-wide : goal.returns-in-Act-clause-wide
returns-in-Act-clause-wide c =
    let cols : ℕ = c.args.self.now.state.grid.cols in
    let before : c.self.inside.canvas.grid.cols ≡ cols =
    ap (λ (m : Reached Screen). m.state.grid.cols) c.self.view_is in
    let none : AreWide cols c.args.rows.now = no_rows cols c.args.rows.now c.requires in
    elim c.if-read.branch [
      | then-read w ↦
          still_wide cols c.if-read.self-inside.canvas.grid.cols c.if-read.rows c.keep-in-Act.new.self
          ((λ i. (w.self-inside-is i).canvas.grid.cols)
          ∙ ap (λ (s : Screen). s.grid.cols) w.print.ensures
          ∙ cols_of_printed 0xFFFD c.self.inside.canvas
          ∙ before)
          c.keep-in-Act.ensures.wide
          (subst (AreWide cols) (sym w.rows-is)
          (still_wide cols c.self.inside.canvas.grid.cols c.args.rows.now w.keep-then-read.new.self before
          w.keep-then-read.ensures.wide none))
      | else-read w ↦
          still_wide cols c.if-read.self-inside.canvas.grid.cols c.if-read.rows c.keep-in-Act.new.self
          ((λ i. (w.self-inside-is i).canvas.grid.cols) ∙ before) c.keep-in-Act.ensures.wide
          (subst (AreWide cols) (sym w.rows-is) none)
    ]
