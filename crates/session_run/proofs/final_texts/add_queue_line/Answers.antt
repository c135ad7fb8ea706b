use Rattle.std.proofs.Common.{ℕ, List, ◌∷◌, ◌++◌, decimal, ap, ◌∙◌, arith}
use Rattle.vt_journal.specs.Hex.{hex_text}
use Rattle.session_run.proofs.FinalTexts.{queue_pieces}
use Rattle.session_run.proofs.final_texts.add_queue_line.Goals as goal

pub returns : goal.returns
returns c =
    let queue = c.args.queue.now in
    queue_pieces (decimal c.args.n) (decimal queue.dropped) (hex_text queue.bytes)
    c.args.text.now.bytes c.add.new.text.bytes c.add_next.new.text.bytes c.add_next-2.new.text.bytes
    c.add-2.new.text.bytes c.add_hex.new.text.bytes c.add-3.new.text.bytes
    c.in_ok-add.ensures (grind arith)
    (c.in_ok-add_next-2.ensures
    ∙ ap (λ n. c.add_next.new.text.bytes ++ 0x20 ∷ decimal n) (c.from-2.ensures ∙ c.dropped.ensures))
    c.in_ok-add-2.ensures
    (c.in_ok-add_hex.ensures
    ∙ ap (λ (b : List ℕ). c.add-2.new.text.bytes ++ hex_text b)
    (c.as_slice.ensures ∙ c.in_ok-bytes.ensures))
    c.in_ok-add-3.ensures
