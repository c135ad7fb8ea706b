use Rattle.std.proofs.Common.{◌≡◌, ℕ, ◌+◌, ◌/◌, ◌%◌, ◌<◌, List, ◌∷◌, [], ◌++◌, sym, ap, ◌∙◌, append_assoc, arith}
use Rattle.vt_cells.specs.AttrByte.{vga}
use Rattle.vt_redraw.proofs.Digits.{byte_text_is}
use Rattle.vt_redraw.specs.Pending.{end_of_byte, start_of_byte}
use Rattle.vt_redraw.proofs.cells.add_byte.Goals as goal

pub returns : goal.returns
returns c =
    let b : ℕ = c.args.b in
    let before : List ℕ = c.args.text.now.bytes in
    let fg : c.vga-fg.result ≡ vga (b % 8) = c.vga-fg.ensures.value in
    let bg : c.vga-bg.result ≡ vga (b / 16 % 8) = c.vga-bg.ensures.value in
    let fg_small : vga (b % 8) < 8 = omega (arith, fg, c.vga-fg.ensures.small) in
    let bg_small : vga (b / 16 % 8) < 8 = omega (arith, bg, c.vga-bg.ensures.small) in
    c.in_ok-add-2.ensures
    ∙ (λ i. c.add.new.self.bytes ++ (0x30 + fg i) ∷ 0x3B ∷ 0x34 ∷ (0x30 + bg i) ∷ 0x6D ∷ [])
    ∙ ap (λ (text : List ℕ). text ++ end_of_byte b)
    (c.in_ok-add.ensures ∙ ap (λ (text : List ℕ). before ++ text) c.start_of_byte.ensures)
    ∙ append_assoc before (start_of_byte b) (end_of_byte b)
    ∙ ap (λ (text : List ℕ). before ++ text) (sym (byte_text_is b fg_small bg_small))
