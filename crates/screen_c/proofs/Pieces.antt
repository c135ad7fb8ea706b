-- A text that is run piece by piece, and the places of its side effects.
use Rattle.screen_c.specs.Shown.{c_out}
use Rattle.screen_c.specs.declared.vt_out.VtOut.{VtOut}
use Rattle.std.proofs.Common.{◌≡◌, ℕ, ◌+◌, ◌-◌, ◌<◌, ◌≤◌, List, ◌∷◌, ◌++◌, Option, Some, add-one, set, length, map, take, drop, sym, ap, ◌∙◌, arith, length-drop, append-nil, append_assoc, ⊎_elim}
use Rattle.std.proofs.Math.Seq.{take-add, take-append_seam, drop-append-add, set_split}
use Rattle.std.proofs.lemmas.Bool.{cases_lt}
use Rattle.std.proofs.lemmas.List.{drop-drop, length-append, length-map, map-append, take_all}
use Rattle.vt_cells.specs.declared.cell.Cell.{Cell}
use Rattle.vt_screen.specs.Falling.{AnyRowCut, LosesNoRowBefore, rows_of_run}
use Rattle.vt_screen.specs.Run.{AnyCut, IsQuietBefore, after, outs_of_option, outs_of_run}
use Rattle.vt_canvas.specs.Screen.{Screen}
use Rattle.vt_canvas.specs.declared.out.Out.{Out}
use Rattle.vt_units.specs.Run.{Reached}

-- so many bytes behind the first
abbrev pub piece : ℕ → ℕ → List ℕ → List ℕ
piece at n text = take n (take (length text - at) (drop at text))

joined : (at n : ℕ) (text : List ℕ) → take at text ++ piece at n text ≡ take (at + n) text
joined at n text =
    ap (λ (bytes : List ℕ). take at text ++ take n bytes)
    (take_all (length text - at) (drop at text) (omega (arith, length-drop at text)))
    ∙ sym (take-add at n text)

pub screen_more : AnyCut → (start before : Reached Screen) (at n : ℕ) (text : List ℕ)
    → before ≡ after start (take at text) → after before (piece at n text) ≡ after start (take (at + n) text)
screen_more cut start before at n text done =
    ap (λ (m : Reached Screen). after m (piece at n text)) done
    ∙ sym (cut start (take at text) (piece at n text)).0
    ∙ ap (after start) (joined at n text)

pub outs_more : AnyCut → (start before : Reached Screen) (at n : ℕ) (text : List ℕ)
    → before ≡ after start (take at text)
    → outs_of_run start (take at text) ++ outs_of_run before (piece at n text) ≡ outs_of_run start (take (at + n) text)
outs_more cut start before at n text done =
    ap (λ (m : Reached Screen). outs_of_run start (take at text) ++ outs_of_run m (piece at n text)) done
    ∙ sym (cut start (take at text) (piece at n text)).1
    ∙ ap (outs_of_run start) (joined at n text)

-- the places behind the first n have what was said last
pub places_more : (said more all : List Out) (start before : List VtOut) (n : ℕ)
    → n ≡ length said → before ≡ map c_out said ++ drop n start → said ++ more ≡ all
    → take n before ++ (map c_out more ++ drop (n + length more) before)
    ≡ map c_out all ++ drop (n + length more) start
places_more said more all start before n count is whole =
    let first : List VtOut = map c_out said in
    let long : length first ≡ n = length-map said c_out ∙ sym count in
    let front : take n before ≡ first =
    ap (take n) is ∙ ap (λ k. take k (first ++ drop n start)) (sym long) ∙ take-append_seam first (drop n start) in
    let back : drop (n + length more) before ≡ drop (n + length more) start =
    ap (drop (n + length more)) is
    ∙ ap (λ k. drop (k + length more) (first ++ drop n start)) (sym long)
    ∙ drop-append-add first (drop n start) (length more)
    ∙ drop-drop (length more) n start in
    ap (λ xs. xs ++ (map c_out more ++ drop (n + length more) before)) front
    ∙ ap (λ xs. first ++ (map c_out more ++ xs)) back
    ∙ sym (append_assoc first (map c_out more) (drop (n + length more) start))
    ∙ ap (λ xs. xs ++ drop (n + length more) start) (sym (map-append c_out said more))
    ∙ ap (λ xs. map c_out xs ++ drop (n + length more) start) whole

pub count_more : (said more all : List Out) (n k : ℕ) → n ≡ length said → k ≡ length more → said ++ more ≡ all
    → n + k ≡ length all
count_more said more all n k count added whole =
    omega (arith, count, added, length-append said more, ap length whole)

-- a place was left before each of the first bytes, and so before each of n more
pub room_more : AnyCut → (start before : Reached Screen) (at n places : ℕ) (text : List ℕ)
    → before ≡ after start (take at text) → length (outs_of_run start (take at text)) < places
    → ((k : ℕ) → k < at → length (outs_of_run start (take k text)) < places)
    → IsQuietBefore n before (take (length text - at) (drop at text))
    → (k : ℕ) → k < at + n → length (outs_of_run start (take k text)) < places
room_more cut start before at n places text done room first quiet k less = ⊎_elim
    (λ (early : k < at). first k early)
    (λ late.
    let j : ℕ = k - at in
    let place : at + j ≡ k = omega (arith, late) in
    let same : outs_of_run start (take at text) ≡ outs_of_run start (take k text) =
    sym (append-nil (outs_of_run start (take at text)))
    ∙ ap (λ (more : List Out). outs_of_run start (take at text) ++ more) (sym (quiet j (omega (arith, late, less))))
    ∙ outs_more cut start before at j text done
    ∙ ap (λ (i : ℕ). outs_of_run start (take i text)) place in
    omega (arith, room, ap length same))
    (cases_lt k at)

-- a side effect at place n
pub one_put : (o : Option Out) (out : Out) (x : VtOut) (places : List VtOut) (n : ℕ) → o ≡ Some out → x ≡ c_out out
    → n < length places
    → set places n x
    ≡ take n places ++ (map c_out (outs_of_option o) ++ drop (n + length (outs_of_option o)) places)
one_put o out x places n is made room =
    set_split places n x room
    ∙ ap (λ k. take n places ++ (x ∷ drop k places)) (sym (add-one n))
    ∙ ap (λ y. take n places ++ (y ∷ drop (n + 1) places)) made
    ∙ ap (λ e. take n places ++ (map c_out (outs_of_option e) ++ drop (n + length (outs_of_option e)) places)) (sym is)

-- the rows of a piece stand behind those before it
pub rows_more : AnyRowCut → (start before : Reached Screen) (at n : ℕ) (text : List ℕ)
    → before ≡ after start (take at text)
    → rows_of_run start (take at text) ++ rows_of_run before (piece at n text) ≡ rows_of_run start (take (at + n) text)
rows_more cut start before at n text done =
    ap (λ (m : Reached Screen). rows_of_run start (take at text) ++ rows_of_run m (piece at n text)) done
    ∙ sym (cut start (take at text) (piece at n text))
    ∙ ap (rows_of_run start) (joined at n text)

-- two rows had room before each of the first bytes, and so before each of n more
pub rows_room_more : AnyRowCut → (start before : Reached Screen) (at n most : ℕ) (text : List ℕ)
    → before ≡ after start (take at text) → length (rows_of_run start (take at text)) + 2 ≤ most
    → ((k : ℕ) → k < at → length (rows_of_run start (take k text)) + 2 ≤ most)
    → LosesNoRowBefore n before (take (length text - at) (drop at text))
    → (k : ℕ) → k < at + n → length (rows_of_run start (take k text)) + 2 ≤ most
rows_room_more cut start before at n most text done room first no_loss k less = ⊎_elim
    (λ (early : k < at). first k early)
    (λ late.
    let j : ℕ = k - at in
    let place : at + j ≡ k = omega (arith, late) in
    let same : rows_of_run start (take at text) ≡ rows_of_run start (take k text) =
    sym (append-nil (rows_of_run start (take at text)))
    ∙ ap (λ (more : List (List Cell)). rows_of_run start (take at text) ++ more) (sym (no_loss j (omega (arith, late, less))))
    ∙ rows_more cut start before at j text done
    ∙ ap (λ (i : ℕ). rows_of_run start (take i text)) place in
    omega (arith, room, ap length same))
    (cases_lt k at)
