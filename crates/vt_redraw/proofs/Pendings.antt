-- Cells that are drawn one after another, and spaces that may be a blank end.
use Rattle.std.proofs.Common.{◌≡◌, ℕ, zero, suc, ◌<◌, ◌≤◌, ◌==◌, ◌&&◌, nat_lt, ltb, Bool, true, false, List, [], ◌∷◌, ◌++◌, replicate, refl, sym, ap, ◌∙◌, append_assoc, append-nil, arith}
use Rattle.std.specs.Char.{encode_utf8}
use Rattle.std.proofs.lemmas.Bool.{cond-true, cond-false, and_parts, eq-eqb, eqb-true, false≢true, lt-ltb, ltb-true, ne_eqb}
use Rattle.std.proofs.lemmas.Bool.Decides.{nat_tests}
use Rattle.vt_cells.specs.Width.{half, is_character, is_half}
use Rattle.vt_cells.specs.declared.cell.Cell.{Cell}
use Rattle.vt_redraw.specs.Cells.{are_spaces, byte_change, cells_text, glyph_text, is_blank_end, is_ground}
use Rattle.vt_redraw.specs.Pending.{pending_text, space_with}
use Rattle.vt_redraw.specs.Sequences.{erase_text}
use Rattle.vt_redraw.specs.declared.pending.Pending.{Pending}

and_none : (t : Bool) → (t && false) ≡ false
and_none true = refl
and_none false = refl

-- no change of the pen's byte
pub no_change : (b : ℕ) → byte_change b b ≡ []
no_change b = cond-true (b == b) _ _ (eq-eqb b b refl)

-- the text of a cell that no blank end begins at
pub other_text : (erases : Bool) (now : ℕ) (c : Cell) (more : List Cell) → (erases && is_blank_end (c ∷ more)) ≡ false → is_half c ≡ false
    → cells_text erases now (c ∷ more) ≡ byte_change now c.attr ++ (glyph_text c.code ++ cells_text erases c.attr more)
other_text erases now c more other is = cond-false _ _ _ other ∙ cond-false (is_half c) _ _ is

-- ASCII is written as it is
pub ascii_text : (b : ℕ) → b < 128 → glyph_text b ≡ b ∷ []
unfolding glyph_text encode_utf8
ascii_text b low =
    cond-true (is_character b) _ _ (grind (arith, nat_tests, low)) ∙ cond-true (ltb b 128) _ _ (lt-ltb b 128 low)

-- no blank end begins before a cell that is no blank of this byte
spaces_stop : (now n : ℕ) (c : Cell) (more : List Cell) → (c.code == 0x20 && c.attr == now) ≡ false
    → are_spaces now (replicate n (space_with now) ++ c ∷ more) ≡ false
spaces_stop now zero c more other = ap (λ (t : Bool). t && are_spaces now more) other
spaces_stop now (suc n) c more other =
    ap (λ (t : Bool). (0x20 == 0x20 && now == now) && t) (spaces_stop now n c more other) ∙ and_none (0x20 == 0x20 && now == now)

-- spaces before a cell that is no blank of their byte
pub spaces_before : (erases : Bool) (now n : ℕ) (c : Cell) (more : List Cell) → (c.code == 0x20 && c.attr == now) ≡ false
    → cells_text erases now (replicate n (space_with now) ++ c ∷ more) ≡ replicate n 0x20 ++ cells_text erases now (c ∷ more)
spaces_before erases now zero c more other = refl
spaces_before erases now (suc n) c more other =
    let rest : List Cell = replicate n (space_with now) ++ c ∷ more in
    other_text erases now (space_with now) rest
    (ap (λ (t : Bool). erases && (is_ground now && t)) (spaces_stop now (suc n) c more other)
    ∙ ap (λ (t : Bool). erases && t) (and_none (is_ground now)) ∙ and_none erases) refl
    ∙ (λ i. no_change now i ++ (ascii_text 0x20 (omega arith) i ++ spaces_before erases now n c more other i))

all_spaces : (now n : ℕ) → are_spaces now (replicate n (space_with now)) ≡ true
all_spaces now zero = refl
all_spaces now (suc n) = λ i. eq-eqb now now refl i && all_spaces now n i

-- spaces at the end of a row
pub spaces_erased : (erases : Bool) (now n : ℕ) → erases ≡ true → is_ground now ≡ true → 0 < n
    → cells_text erases now (replicate n (space_with now)) ≡ erase_text
spaces_erased erases now zero wanted ground some = absurd (let e : ⊥ = omega (arith, some) in e)
spaces_erased erases now (suc n) wanted ground some =
    cond-true (erases && is_blank_end (space_with now ∷ replicate n (space_with now))) _ _
    (λ i. wanted i && (ground i && all_spaces now (suc n) i))
    ∙ ap (λ (text : List ℕ). text ++ erase_text) (no_change now)

pub spaces_drawn : (erases : Bool) (now n : ℕ) → (erases && is_ground now) ≡ false
    → cells_text erases now (replicate n (space_with now)) ≡ replicate n 0x20
spaces_drawn erases now zero other = refl
spaces_drawn erases now (suc n) other =
    other_text erases now (space_with now) (replicate n (space_with now)) (none erases (is_ground now) other) refl
    ∙ (λ i. no_change now i ++ (ascii_text 0x20 (omega arith) i ++ spaces_drawn erases now n other i))
  where
    none : (e g : Bool) → (e && g) ≡ false → (e && (g && are_spaces now (replicate (suc n) (space_with now)))) ≡ false
    none true g is = ap (λ (t : Bool). t && are_spaces now (replicate (suc n) (space_with now))) is
    none false g is = refl

-- the pen's byte is set before a character
pub byte_before : (erases : Bool) (now : ℕ) (c : Cell) (more : List Cell) → is_half c ≡ false
    → cells_text erases now (c ∷ more) ≡ byte_change now c.attr ++ cells_text erases c.attr (c ∷ more)
byte_before erases now c more is = by (erases && is_blank_end (c ∷ more)) refl
  where
    by : (t : Bool) → (erases && is_blank_end (c ∷ more)) ≡ t
        → cells_text erases now (c ∷ more) ≡ byte_change now c.attr ++ cells_text erases c.attr (c ∷ more)
    by true test =
        cond-true _ _ _ test
        ∙ ap (λ (text : List ℕ). byte_change now c.attr ++ text)
        (sym (cond-true _ _ _ test ∙ ap (λ (text : List ℕ). text ++ erase_text) (no_change c.attr)))
    by false test =
        other_text erases now c more test is
        ∙ ap (λ (text : List ℕ). byte_change now c.attr ++ text)
        (sym (other_text erases c.attr c more test is
        ∙ ap (λ (text : List ℕ). text ++ (glyph_text c.code ++ cells_text erases c.attr more)) (no_change c.attr)))

no_end : (erases : Bool) (c : Cell) (more : List Cell) → (c.code == 0x20) ≡ false → (erases && is_blank_end (c ∷ more)) ≡ false
no_end erases c more other =
    ap (λ (t : Bool). erases && (is_ground c.attr && (t && c.attr == c.attr && are_spaces c.attr more))) other
    ∙ ap (λ (t : Bool). erases && t) (and_none (is_ground c.attr)) ∙ and_none erases

-- a character but the space, in the pen's byte
pub glyph_before : (erases : Bool) (c : Cell) (more : List Cell) → (c.code == 0x20) ≡ false → is_half c ≡ false
    → cells_text erases c.attr (c ∷ more) ≡ glyph_text c.code ++ cells_text erases c.attr more
glyph_before erases c more other is =
    other_text erases c.attr c more (no_end erases c more other) is
    ∙ ap (λ (text : List ℕ). text ++ (glyph_text c.code ++ cells_text erases c.attr more)) (no_change c.attr)

-- a half has no text
pub half_passed : (erases : Bool) (now : ℕ) (c : Cell) (more : List Cell) → (c.code == 0x20) ≡ false → is_half c ≡ true
    → cells_text erases now (c ∷ more) ≡ cells_text erases now more
half_passed erases now c more other is = cond-false _ _ _ (no_end erases c more other) ∙ cond-true (is_half c) _ _ is

-- a character but the space, or a half, in the pen's byte
pub code_before : (erases : Bool) (now code : ℕ) (more : List Cell) → (code == 0x20) ≡ false
    → cells_text erases now (record { code = code; attr = now } ∷ more) ≡ glyph_text code ++ cells_text erases now more
unfolding glyph_text
code_before erases now code more other = by (is_half cell) refl
  where
    cell : Cell
    cell = record { code = code; attr = now }

    by : (t : Bool) → is_half cell ≡ t
        → cells_text erases now (cell ∷ more) ≡ glyph_text code ++ cells_text erases now more
    by false is = glyph_before erases cell more other is
    by true is =
        half_passed erases now cell more other is
        ∙ ap (λ (text : List ℕ). text ++ cells_text erases now more)
        (sym (cond-false (is_character code) _ _ (ap is_character (eqb-true code half is))))

-- a character that follows no spaces
pub pushed_text : (erases : Bool) (old new : Pending) (code : ℕ) (more : List Cell) → (code == 0x20) ≡ false → old.blanks ≡ 0
    → new.front ≡ old.front ++ glyph_text code → new.blanks ≡ old.blanks → new.attr ≡ old.attr
    → pending_text erases new more ≡ pending_text erases old (record { code = code; attr = old.attr } ∷ more)
pushed_text erases old new code more other none front blanks attr =
    (λ i. front i ++ cells_text erases (attr i) (replicate ((blanks ∙ none) i) (space_with (attr i)) ++ more))
    ∙ append_assoc old.front (glyph_text code) (cells_text erases old.attr more)
    ∙ ap (λ (text : List ℕ). old.front ++ text) (sym (code_before erases old.attr code more other))
    ∙ (λ i. old.front ++ cells_text erases old.attr (replicate (sym none i) (space_with old.attr) ++ record { code = code; attr = old.attr } ∷ more))

-- a character of ASCII but the space, behind spaces
pub settled_text : (erases : Bool) (old new : Pending) (code : ℕ) (more : List Cell) → (code == 0x20) ≡ false → code < 128
    → new.front ≡ (old.front ++ replicate old.blanks 0x20) ++ code ∷ [] → new.blanks ≡ 0 → new.attr ≡ old.attr
    → pending_text erases new more ≡ pending_text erases old (record { code = code; attr = old.attr } ∷ more)
settled_text erases old new code more other low front blanks attr =
    let cell : Cell = record { code = code; attr = old.attr } in
    (λ i. front i ++ cells_text erases (attr i) (replicate (blanks i) (space_with (attr i)) ++ more))
    ∙ append_assoc (old.front ++ replicate old.blanks 0x20) (code ∷ []) (cells_text erases old.attr more)
    ∙ append_assoc old.front (replicate old.blanks 0x20) (code ∷ cells_text erases old.attr more)
    ∙ ap (λ (text : List ℕ). old.front ++ (replicate old.blanks 0x20 ++ text))
    (sym (code_before erases old.attr code more other
    ∙ ap (λ (text : List ℕ). text ++ cells_text erases old.attr more) (ascii_text code low)))
    ∙ ap (λ (text : List ℕ). old.front ++ text)
    (sym (spaces_before erases old.attr old.blanks cell more
    (ap (λ (t : Bool). t && old.attr == old.attr) other)))

-- a half has no text, and the spaces before it are no blank end
pub half_text : (erases : Bool) (old new : Pending) (c : Cell) (more : List Cell) → c.code ≡ half
    → new.front ≡ old.front ++ replicate old.blanks 0x20 → new.blanks ≡ 0 → new.attr ≡ old.attr
    → pending_text erases new more ≡ pending_text erases old (c ∷ more)
half_text erases old new c more is front blanks attr =
    let other : (c.code == 0x20) ≡ false = ap (λ (code : ℕ). code == 0x20) is in
    (λ i. front i ++ cells_text erases (attr i) (replicate (blanks i) (space_with (attr i)) ++ more))
    ∙ append_assoc old.front (replicate old.blanks 0x20) (cells_text erases old.attr more)
    ∙ ap (λ (text : List ℕ). old.front ++ (replicate old.blanks 0x20 ++ text))
    (sym (half_passed erases old.attr c more other (eq-eqb c.code half is)))
    ∙ ap (λ (text : List ℕ). old.front ++ text)
    (sym (spaces_before erases old.attr old.blanks c more (ap (λ (t : Bool). t && c.attr == old.attr) other)))

-- what is no ASCII in the pen's byte is no blank of it
no_blank : (attr : ℕ) (c : Cell) → (attr ≡ c.attr → 128 ≤ c.code) → (c.code == 0x20 && c.attr == attr) ≡ false
no_blank attr c other = by (c.attr == attr) refl
  where
    by : (t : Bool) → (c.attr == attr) ≡ t → (c.code == 0x20 && c.attr == attr) ≡ false
    by false is = ap (λ (t : Bool). c.code == 0x20 && t) is ∙ and_none (c.code == 0x20)
    by true is =
        let high : 128 ≤ c.code = other (sym (eqb-true c.attr attr is)) in
        ap (λ (t : Bool). t && c.attr == attr) (ne_eqb c.code 0x20 (λ e. let none : ⊥ = omega (arith, high, e) in none))

-- a cell that is no ASCII in the pen's byte, behind spaces: the pen's byte is set before it
pub changed_text : (erases : Bool) (old settled new : Pending) (c : Cell) (more : List Cell) (before after : List ℕ)
    → (old.attr ≡ c.attr → 128 ≤ c.code) → (c.code ≡ half → ⊥)
    → settled.front ≡ old.front ++ replicate old.blanks 0x20 → settled.blanks ≡ 0 → settled.attr ≡ old.attr
    → after ++ new.front ≡ before ++ (settled.front ++ byte_change settled.attr c.attr)
    → new.attr ≡ c.attr → new.blanks ≡ settled.blanks
    → after ++ pending_text erases new (record { code = c.code; attr = new.attr } ∷ more)
    ≡ before ++ pending_text erases old (c ∷ more)
changed_text erases old settled new c more before after other whole front blanks attr text set same =
    let here : List ℕ = cells_text erases c.attr (c ∷ more) in
    let change : List ℕ = byte_change old.attr c.attr in
    let spaces : List ℕ = replicate old.blanks 0x20 in
    (λ i. after ++ (new.front ++ cells_text erases (set i) (replicate ((same ∙ blanks) i) (space_with (set i)) ++ record { code = c.code; attr = set i } ∷ more)))
    ∙ sym (append_assoc after new.front here)
    ∙ ap (λ (t : List ℕ). t ++ here) text
    ∙ (λ i. (before ++ (front i ++ byte_change (attr i) c.attr)) ++ here)
    ∙ append_assoc before ((old.front ++ spaces) ++ change) here
    ∙ ap (λ (t : List ℕ). before ++ t)
    (append_assoc (old.front ++ spaces) change here
    ∙ append_assoc old.front spaces (change ++ here)
    ∙ ap (λ (t : List ℕ). old.front ++ (spaces ++ t)) (sym (byte_before erases old.attr c more (ne_eqb c.code half whole)))
    ∙ ap (λ (t : List ℕ). old.front ++ t) (sym (spaces_before erases old.attr old.blanks c more (no_blank old.attr c other))))

-- what is pending at the end of a row
pub last_erased : (erases : Bool) (p : Pending) → (erases && (is_ground p.attr && nat_lt 0 p.blanks)) ≡ true
    → pending_text erases p [] ≡ p.front ++ erase_text
last_erased erases p is =
    let whole = and_parts erases (is_ground p.attr && nat_lt 0 p.blanks) is in
    let parts = and_parts (is_ground p.attr) (nat_lt 0 p.blanks) whole.1 in
    ap (λ (cells : List Cell). p.front ++ cells_text erases p.attr cells) (append-nil (replicate p.blanks (space_with p.attr)))
    ∙ ap (λ (text : List ℕ). p.front ++ text) (spaces_erased erases p.attr p.blanks whole.0 parts.0 (ltb-true 0 p.blanks parts.1))

pub last_drawn : (erases : Bool) (p : Pending) → (erases && (is_ground p.attr && nat_lt 0 p.blanks)) ≡ false
    → pending_text erases p [] ≡ p.front ++ replicate p.blanks 0x20
last_drawn erases p other =
    ap (λ (cells : List Cell). p.front ++ cells_text erases p.attr cells) (append-nil (replicate p.blanks (space_with p.attr)))
    ∙ ap (λ (text : List ℕ). p.front ++ text) (by p.blanks other)
  where
    none : (e g s : Bool) → s ≡ true → (e && (g && s)) ≡ false → (e && g) ≡ false
    none true true s some is = absurd (false≢true (sym is ∙ some))
    none true false s some is = refl
    none false g s some is = refl

    by : (n : ℕ) → (erases && (is_ground p.attr && nat_lt 0 n)) ≡ false
        → cells_text erases p.attr (replicate n (space_with p.attr)) ≡ replicate n 0x20
    by zero is = refl
    by (suc n) is =
        spaces_drawn erases p.attr (suc n)
        (none erases (is_ground p.attr) (nat_lt 0 (suc n)) (lt-ltb 0 (suc n) (omega arith)) is)
