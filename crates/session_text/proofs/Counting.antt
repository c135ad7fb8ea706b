-- How many values an array has, and how many keyboards there are.
use Rattle.std.proofs.Common.{◌≡◌, ℕ, ◌+◌, ◌≤◌, nat_le, Bool, true, false, map, arith, suc, List, [], ◌∷◌, Option, Some, None, Result, Ok, Err, length, ok_or, refl, ap, ◌∙◌}
use Rattle.std.proofs.lemmas.Bool.{leb-true}
use Rattle.std.proofs.lemmas.List.{length-map}
use Rattle.table_fields.specs.FaultCodes.{FURTHER_SCAN_BYTE, OUT_OF_RANGE, WRONG_KIND}
use Rattle.table_fields.specs.Fields.{bytes_of, few_items_of}
use Rattle.table_fields.specs.Arrays.{array_in, array_of, count_in, count_of, values_of}
use Rattle.table_fields.specs.Checked.{check, collect, fault, ◌>>=◌}
use Rattle.table_fields.specs.declared.fault.TableFault.{TableFault}
use Rattle.toml.specs.Data.{Data, Items, as_array, as_str}
use Rattle.vt_base.specs.Bytes.{Text}
use Rattle.vt_events.specs.Kinds.{text}
use Rattle.session_text.specs.Keyboards.{further_items_of, further_of, keyboards_of}

one_more : {B : Type 0} (r : Result B TableFault) (more : Result (List B) TableFault) (n : ℕ) (ys : List B)
    → ((zs : List B) → more ≡ Ok zs → length zs ≡ n)
    → (r >>= (λ y. more >>= (λ zs. Ok (y ∷ zs)))) ≡ Ok ys → length ys ≡ suc n
one_more (Ok y) (Ok zs) n ys count is =
    let same : ys ≡ y ∷ zs = cc in ap length same ∙ ap suc (count zs refl)
one_more (Ok y) (Err e) n ys count is = cc
one_more (Err e) more n ys count is = cc

pub length-collect : {A B : Type 0} (f : ℕ → A → Result B TableFault) (n : ℕ) (xs : List A) (ys : List B)
    → collect f n xs ≡ Ok ys → length ys ≡ length xs
length-collect f n [] ys is = let same : ys ≡ [] = cc in ap length same
length-collect f n (x ∷ xs) ys is =
    one_more (f n x) (collect f (n + 1) xs) (length xs) ys (length-collect f (n + 1) xs) is

-- an array that was read has as many values as there are
pub array_count : {A : Type 0} (as_kind : Data → Option A) (part key : ℕ) (d : Option Data) (xs : List A)
    → array_of as_kind part key d ≡ Ok xs → length xs ≡ count_of d
array_count as_kind part key None xs is = let same : xs ≡ [] = cc in ap length same
array_count as_kind part key (Some d) xs is = in_array (as_array d) is
  where
    in_array : (items : Option Items) → array_in as_kind (fault WRONG_KIND part key) items ≡ Ok xs
        → length xs ≡ count_in items
    in_array None is = cc
    in_array (Some items) is =
        length-collect (λ n d. ok_or (as_kind d) (fault WRONG_KIND part key)) 1 (values_of items) xs is

-- at most three texts were read, with as many lists of items as there are texts
checked_items : (texts : List (List ℕ)) (few : Bool) (items : List (List (List ℕ))) → nat_le (length texts) 3 ≡ few
    → (check few (fault OUT_OF_RANGE 0 12) >>= (λ _. collect (λ k text. few_items_of 0 12 text) 1 texts)) ≡ Ok items
    → (length items ≡ length texts) × (length texts ≤ 3)
checked_items texts true items few is =
    (length-collect (λ k text. few_items_of 0 12 text) 1 texts items is, leb-true (length texts) 3 few)
checked_items texts false items few is = cc

items_count : (d : Option Data) (texts : Result (List (List ℕ)) TableFault) (items : List (List (List ℕ)))
    → array_of as_str 0 12 d ≡ texts
    → (texts >>= (λ ts. check (nat_le (length ts) 3) (fault OUT_OF_RANGE 0 12) >>= (λ _. collect (λ k text. few_items_of 0 12 text) 1 ts)))
    ≡ Ok items
    → (length items ≡ count_of d) × (count_of d ≤ 3)
items_count d (Ok ts) items read is =
    let checked = checked_items ts (nat_le (length ts) 3) items refl is in
    let many = array_count as_str 0 12 d ts read in
    (checked.0 ∙ many, omega (arith, checked.1, many))
items_count d (Err e) items read is = cc

further_items : (d : Option Data) (items : Result (List (List (List ℕ))) TableFault) (further : List (List ℕ))
    → further_items_of d ≡ items → (items >>= collect (bytes_of FURTHER_SCAN_BYTE) 1) ≡ Ok further
    → (length further ≡ count_of d) × (count_of d ≤ 3)
further_items d (Ok items) further read is =
    let counted = items_count d (array_of as_str 0 12 d) items refl read in
    (length-collect (bytes_of FURTHER_SCAN_BYTE) 1 items further is ∙ counted.0, counted.1)
further_items d (Err e) further read is = cc

-- there are as many keyboards as the first one and the further ones that were read
pub further_count : (d : Option Data) (further : List (List ℕ)) (read : List Text) → further_of d ≡ Ok further
    → read ≡ map text further → keyboards_of d ≡ length read + 1
further_count d further read is are =
    let counted = further_items d (further_items_of d) further refl is in
    let long : length read ≡ length further = ap length are ∙ length-map further text in
    omega (arith, long, counted.0, counted.1)
