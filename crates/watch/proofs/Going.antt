-- Lists that a loop goes over, and the results of it, element by element.
use Rattle.std.proofs.Common.{◌≡◌, ℕ, ◌+◌, ◌<◌, ◌≤◌, zero, suc, List, [], ◌∷◌, ◌++◌, drop, map, length, get_or, refl, sym, ap, ◌∙◌, append_assoc, add-one, drop-cons, arith}
use Rattle.std.proofs.lemmas.List.{append-nil}
use Rattle.std.specs.List.{flat_map}
use Rattle.watch.specs.Facts.{count_after, mark_text, trace_text}
use Rattle.watch.specs.declared.form.Form.{Form}
use Rattle.vt_explain.specs.declared.hop_why.HopWhy.{HopWhy}
use Rattle.vt_switch.specs.declared.mark.Mark.{Mark}

-- the next element, and those that are left
pub next_drop : {A : Type 0} (xs : List A) (i : ℕ) (x : A) → i < length xs → x ≡ get_or xs i x
    → drop i xs ≡ x ∷ drop (i + 1) xs
next_drop xs i x within is =
    drop-cons xs i x within ∙ (λ j. sym is j ∷ drop (sym (add-one i) j) xs)

-- a list with one more piece, whose rest no longer has it, is the same whole
pub piece_more : {A : Type 0} (old piece rest all new whole : List A) → new ≡ old ++ piece → all ≡ piece ++ rest
    → old ++ all ≡ whole → new ++ rest ≡ whole
piece_more old piece rest all new whole added parts so_far =
    ap (λ (text : List _). text ++ rest) added
    ∙ append_assoc old piece rest
    ∙ ap (λ (text : List _). old ++ text) (sym parts)
    ∙ so_far

-- the text of one more element
pub text_more : {A : Type 0} (f : A → List ℕ) (xs : List A) (i : ℕ) (x : A) (old new whole : List ℕ)
    → i < length xs → x ≡ get_or xs i x → new ≡ old ++ f x → old ++ flat_map f (drop i xs) ≡ whole
    → new ++ flat_map f (drop (i + 1) xs) ≡ whole
text_more f xs i x old new whole within is added so_far =
    piece_more old (f x) (flat_map f (drop (i + 1) xs)) (flat_map f (drop i xs)) new whole added
    (ap (flat_map f) (next_drop xs i x within is)) so_far

-- the value of one more element
pub value_more : {A B : Type 0} (f : A → B) (xs : List A) (i : ℕ) (x : A) (old new whole : List B)
    → i < length xs → x ≡ get_or xs i x → new ≡ old ++ f x ∷ [] → old ++ map f (drop i xs) ≡ whole
    → new ++ map f (drop (i + 1) xs) ≡ whole
value_more f xs i x old new whole within is added so_far =
    piece_more old (f x ∷ []) (map f (drop (i + 1) xs)) (map f (drop i xs)) new whole added
    (ap (map f) (next_drop xs i x within is)) so_far

-- the fact of one more mark of a trace
pub mark_more : (f : Form) (caller : ℕ) (cert : List HopWhy) (count : ℕ) (marks : List Mark) (i : ℕ) (m : Mark)
    (old new whole : List ℕ)
    → i < length marks → m ≡ get_or marks i m → new ≡ old ++ mark_text f caller cert count m
    → old ++ trace_text f caller cert count (drop i marks) ≡ whole
    → new ++ trace_text f caller cert (count_after m count) (drop (i + 1) marks) ≡ whole
mark_more f caller cert count marks i m old new whole within is added so_far =
    piece_more old (mark_text f caller cert count m) (trace_text f caller cert (count_after m count) (drop (i + 1) marks))
    (trace_text f caller cert count (drop i marks)) new whole added
    (ap (trace_text f caller cert count) (next_drop marks i m within is)) so_far

-- past the end no element is left
pub past_end : {A : Type 0} (xs : List A) (i : ℕ) → length xs ≤ i → drop i xs ≡ []
past_end [] zero over = refl
past_end [] (suc i) over = refl
past_end (x ∷ xs) zero over = absurd (omega (arith, over))
past_end (x ∷ xs) (suc i) over = past_end xs i (omega (arith, over))

-- at the end all texts are there
pub all_texts : {A : Type 0} (f : A → List ℕ) (xs : List A) (i : ℕ) (made whole : List ℕ) → length xs ≤ i
    → made ++ flat_map f (drop i xs) ≡ whole → made ≡ whole
all_texts f xs i made whole over so_far =
    sym (append-nil made) ∙ ap (λ (rest : List _). made ++ flat_map f rest) (sym (past_end xs i over)) ∙ so_far
