-- The results of a walk through a list, with one item more.
use Rattle.std.proofs.Common.{◌≡◌, ℕ, ◌+◌, ◌<◌, List, [], ◌∷◌, ◌++◌, Result, Ok, Err, drop, get_or, length, map, refl, sym, ap, ◌∙◌}
use Rattle.std.proofs.lemmas.List.{at_drop_more, map-append}
use Rattle.table_fields.specs.Checked.{collect, ◌>>=◌}
use Rattle.table_fields.specs.Collecting.{found_before}
use Rattle.table_fields.specs.declared.fault.TableFault.{TableFault}
use Rattle.session_text.proofs.Saying.{behind_more}

put_before : {B : Type 0} (y : B) (r : Result (List B) TableFault)
    → found_before (y ∷ []) r ≡ (r >>= (λ ys. Ok (y ∷ ys)))
put_before y (Ok ys) = refl
put_before y (Err e) = refl

-- one item more, after those that were found
pub collected_more : {X Y A B : Type 0} (f : ℕ → A → Result B TableFault) (g : X → A) (h : Y → B) (xs : List X)
    (d : X) (i : ℕ) (found more : List Y) (y : Y) (whole : Result (List B) TableFault) → i < length xs
    → f (i + 1) (g (get_or xs i d)) ≡ Ok (h y) → more ≡ found ++ y ∷ []
    → found_before (map h found) (collect f (i + 1) (map g (drop i xs))) ≡ whole
    → found_before (map h more) (collect f (i + 1 + 1) (map g (drop (i + 1) xs))) ≡ whole
collected_more {B = B} f g h xs d i found more y whole within first added so_far =
    let rest : Result (List B) TableFault = collect f (i + 1 + 1) (map g (drop (i + 1) xs)) in
    let here : collect f (i + 1) (map g (drop i xs))
    ≡ (f (i + 1) (g (get_or xs i d)) >>= (λ b. rest >>= (λ bs. Ok (b ∷ bs)))) =
    ap (collect f (i + 1)) (at_drop_more (map g) xs i d within) in
    ap (λ ys. found_before ys rest) (ap (map h) added ∙ map-append h found (y ∷ []))
    ∙ sym (behind_more (map h found) (h y) rest)
    ∙ ap (found_before (map h found))
    (put_before (h y) rest
    ∙ sym (ap (λ (r : Result B TableFault). r >>= (λ b. rest >>= (λ bs. Ok (b ∷ bs)))) first)
    ∙ sym here)
    ∙ so_far
