-- The final text, made piece by piece.
use Rattle.std.proofs.Common.{◌≡◌, ℕ, suc, ◌+◌, ◌-◌, ◌<◌, ◌≤◌, List, [], ◌∷◌, ◌++◌, codes, decimal, drop, get_or, length, map, arith, refl, ap, sym, ◌∙◌, append_assoc, append-nil}
use Rattle.std.proofs.lemmas.List.{drop_all}
use Rattle.std.proofs.lemmas.Option.{slice_get-get_or}
use Rattle.std.specs.List.{flat_map}
use Rattle.vt_journal.proofs.Lines.{joined_by_blanks-cons}
use Rattle.vt_journal.specs.Journal.{line_text}
use Rattle.vt_journal.specs.Text.{blank_before_each}
use Rattle.session_run.proofs.Texts.{text_more}
use Rattle.session_run.specs.Final.{consoles_text, console_part}
use Rattle.vt_world.specs.Inputs.{input_at}
use Rattle.vt_world.specs.State.{WorldState}
use Rattle.vt_world.specs.Terminals.{terminal_at}

-- the consoles from one on are that one and those from the next on
next_console : (w : WorldState) (n : ℕ) → n ≤ 63
    → consoles_text w n (64 - n)
    ≡ console_part n (terminal_at w.terminals n) (input_at w.inputs n).queue ++ consoles_text w (n + 1) (64 - (n + 1))
next_console w n within =
    let len : 64 - n ≡ suc (64 - (n + 1)) = omega (arith, within) in
    ap (consoles_text w n) len

-- the text so far and the rest stay the whole when the next console is added
pub consoles_more : (w : WorldState) (n : ℕ) (old new whole : List ℕ) → n ≤ 63
    → new ≡ old ++ console_part n (terminal_at w.terminals n) (input_at w.inputs n).queue
    → old ++ consoles_text w n (64 - n) ≡ whole
    → new ++ consoles_text w (n + 1) (64 - (n + 1)) ≡ whole
consoles_more w n old new whole within added so_far =
    ap (λ text. text ++ consoles_text w (n + 1) (64 - (n + 1))) added
    ∙ append_assoc old (console_part n (terminal_at w.terminals n) (input_at w.inputs n).queue) (consoles_text w (n + 1) (64 - (n + 1)))
    ∙ ap (λ more. old ++ more) (sym (next_console w n within))
    ∙ so_far

-- numbers, each after a blank
abbrev pub numbers_text : List ℕ → List ℕ
numbers_text ns = flat_map (λ n. 0x20 ∷ decimal n) ns

spaced_numbers : (ns : List ℕ) → numbers_text ns ≡ blank_before_each (map decimal ns)
spaced_numbers [] = refl
spaced_numbers (n ∷ ns) = ap (λ more. (0x20 ∷ decimal n) ++ more) (spaced_numbers ns)

-- the text so far and the numbers that are left stay the whole when the next one is added
pub numbers_more : (ns : List ℕ) (i : ℕ) (old new whole : List ℕ) → i < length ns
    → new ≡ old ++ 0x20 ∷ decimal (get_or ns i 0) → old ++ numbers_text (drop i ns) ≡ whole
    → new ++ numbers_text (drop (i + 1) ns) ≡ whole
numbers_more ns i old new whole within added so_far =
    text_more (λ n. 0x20 ∷ decimal n) ns i (get_or ns i 0) old new whole
    (slice_get-get_or ns i 0 within) added so_far

-- after the last number nothing is left
pub numbers_all : (ns : List ℕ) (i : ℕ) (old whole : List ℕ) → length ns ≤ i
    → old ++ numbers_text (drop i ns) ≡ whole → old ≡ whole
numbers_all ns i old whole past so_far =
    sym (append-nil old) ∙ ap (λ more. old ++ numbers_text more) (sym (drop_all i ns past)) ∙ so_far

-- a line of a name and numbers, made of its pieces
pub numbers_line : (name : List ℕ) (ns : List ℕ) (t0 t1 t2 t3 : List ℕ)
    → t1 ≡ t0 ++ name → t2 ≡ t1 ++ numbers_text ns → t3 ≡ t2 ++ 0x0A ∷ []
    → t3 ≡ t0 ++ line_text (name ∷ map decimal ns)
numbers_line name ns t0 t1 t2 t3 is1 is2 is3 =
    let whole = joined_by_blanks-cons name (map decimal ns) in
    rw whole (simp (is3, is2, is1, spaced_numbers, append_assoc))

-- the line of the display, made of its pieces
pub display_pieces : (front t0 t1 t2 t3 : List ℕ)
    → t1 ≡ t0 ++ codes "%display" → t2 ≡ t1 ++ 0x20 ∷ front → t3 ≡ t2 ++ codes "\n"
    → t3 ≡ t0 ++ line_text (codes "%display" ∷ front ∷ [])
display_pieces front t0 t1 t2 t3 is1 is2 is3 = simp (is3, is2, is1, append_assoc)

-- the final text, made of its pieces
pub final_pieces : (display consoles t0 t1 t2 t3 : List ℕ)
    → t1 ≡ t0 ++ display → t2 ≡ t1 ++ consoles → t3 ≡ t2 ++ codes "%done\n"
    → t3 ≡ t0 ++ (display ++ (consoles ++ line_text (codes "%done" ∷ [])))
final_pieces display consoles t0 t1 t2 t3 is1 is2 is3 = simp (is3, is2, is1, append_assoc)

last_word : (d b : List ℕ) → ((d ++ 0x20 ∷ []) ++ b) ++ 0x0A ∷ [] ≡ (d ++ 0x20 ∷ b) ++ 0x0A ∷ []
last_word [] b = refl
last_word (x ∷ d) b = ap (λ more. x ∷ more) (last_word d b)

two_words : (n d b : List ℕ)
    → (((n ++ 0x20 ∷ d) ++ 0x20 ∷ []) ++ b) ++ 0x0A ∷ [] ≡ (n ++ 0x20 ∷ (d ++ 0x20 ∷ b)) ++ 0x0A ∷ []
two_words [] d b = ap (λ more. 0x20 ∷ more) (last_word d b)
two_words (x ∷ n) d b = ap (λ more. x ∷ more) (two_words n d b)

three_words : (q n d b : List ℕ)
    → ((((q ++ 0x20 ∷ n) ++ 0x20 ∷ d) ++ 0x20 ∷ []) ++ b) ++ 0x0A ∷ []
    ≡ (q ++ 0x20 ∷ (n ++ 0x20 ∷ (d ++ 0x20 ∷ b))) ++ 0x0A ∷ []
three_words [] n d b = ap (λ more. 0x20 ∷ more) (two_words n d b)
three_words (x ∷ q) n d b = ap (λ more. x ∷ more) (three_words q n d b)

-- a line of four words after a text
four_words : (t q n d b : List ℕ)
    → (((((t ++ q) ++ 0x20 ∷ n) ++ 0x20 ∷ d) ++ 0x20 ∷ []) ++ b) ++ 0x0A ∷ []
    ≡ t ++ ((q ++ 0x20 ∷ (n ++ 0x20 ∷ (d ++ 0x20 ∷ b))) ++ 0x0A ∷ [])
four_words [] q n d b = three_words q n d b
four_words (x ∷ t) q n d b = ap (λ more. x ∷ more) (four_words t q n d b)

-- the line of a queue, made of its pieces
pub queue_pieces : (n dropped bytes t0 t1 t2 t3 t4 t5 t6 : List ℕ)
    → t1 ≡ t0 ++ codes "%queue" → t2 ≡ t1 ++ 0x20 ∷ n → t3 ≡ t2 ++ 0x20 ∷ dropped
    → t4 ≡ t3 ++ codes " " → t5 ≡ t4 ++ bytes → t6 ≡ t5 ++ codes "\n"
    → t6 ≡ t0 ++ line_text (codes "%queue" ∷ n ∷ dropped ∷ bytes ∷ [])
queue_pieces n dropped bytes t0 t1 t2 t3 t4 t5 t6 is1 is2 is3 is4 is5 is6 =
    is6
    ∙ ap (λ t. t ++ 0x0A ∷ []) (is5
    ∙ ap (λ t. t ++ bytes) (is4
    ∙ ap (λ t. t ++ 0x20 ∷ []) (is3
    ∙ ap (λ t. t ++ 0x20 ∷ dropped) (is2 ∙ ap (λ t. t ++ 0x20 ∷ n) is1))))
    ∙ four_words t0 (codes "%queue") n dropped bytes
