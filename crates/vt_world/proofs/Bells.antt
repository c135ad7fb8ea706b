-- The BELs of a text, counted piece by piece.
use Rattle.std.proofs.Common.{◌≡◌, ℕ, ◌+◌, min, List, ◌++◌, sym, ap, ◌∙◌, cond, arith}
use Rattle.std.specs.Prelude.{count_by}
use Rattle.std.proofs.lemmas.List.Sums.{sum_by-append}
use Rattle.vt_screen.specs.Run.{AnyCut, after, outs_of_run}
use Rattle.vt_canvas.specs.Screen.{Screen}
use Rattle.vt_canvas.specs.declared.out.Out.{Out}
use Rattle.vt_units.specs.Run.{Reached}
use Rattle.vt_world.specs.Terminals.{TerminalState, is_bell, bell_count_after, written_on}

bell_count_after_more : (bells : ℕ) (a b : List Out) → bell_count_after (bell_count_after bells a) b ≡ bell_count_after bells (a ++ b)
bell_count_after_more bells a b =
    let ones : Out → ℕ = λ out. cond (is_bell out) 1 0 in
    let joined : count_by is_bell (a ++ b) ≡ count_by is_bell a + count_by is_bell b = sum_by-append ones a b in
    let n : ℕ = count_by is_bell a in
    let m : ℕ = count_by is_bell b in
    let reckoned : min 4294967295 (min 4294967295 (bells + n) + m) ≡ min 4294967295 (bells + (n + m)) = omega arith in
    reckoned ∙ ap (λ (k : ℕ). min 4294967295 (bells + k)) (sym joined)

abbrev pub IsTerminal : Reached Screen → ℕ → TerminalState → Type 0
IsTerminal m bells t =
    let made : TerminalState = record { emu = m; bells = bells } in
    made ≡ t

pub written_more : AnyCut → (t : TerminalState) (a b : List ℕ) (m : Reached Screen) (bells : ℕ) (outs : List Out)
    → m ≡ after (written_on a t).emu b → outs ≡ outs_of_run (written_on a t).emu b
    → bells ≡ bell_count_after (written_on a t).bells outs
    → IsTerminal m bells (written_on (a ++ b) t)
written_more law t a b m bells outs ran heard counted =
    let cut = law t.emu a b in
    let screen : m ≡ after t.emu (a ++ b) = ran ∙ sym cut.0 in
    let count : bells ≡ bell_count_after t.bells (outs_of_run t.emu (a ++ b)) =
    counted ∙ ap (bell_count_after (written_on a t).bells) heard
    ∙ bell_count_after_more t.bells (outs_of_run t.emu a) (outs_of_run (after t.emu a) b)
    ∙ ap (bell_count_after t.bells) (sym cut.1) in
    λ i. record { emu = screen i; bells = count i }
