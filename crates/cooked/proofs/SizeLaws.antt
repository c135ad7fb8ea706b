-- Characters as bytes and sizes.
use Rattle.std.proofs.Common.{◌≡◌, inl, inr, ℕ, suc, ◌+◌, ◌-◌, ◌≤◌, List, [], ◌∷◌, ◌++◌, length, take, drop, refl, sym, ap, ◌∙◌, arith, append_assoc, length-append}
use Rattle.std.proofs.lemmas.List.{drop-append-le, length-drop, length-take, take_all, take-append-le, take-append-drop}
use Rattle.std.proofs.Math.Seq.{drop-append_seam, take-append_seam}
use Rattle.std.specs.List.{concat}
use Rattle.cooked.specs.KeptText.{but_last, last_of}
use Rattle.cooked.specs.Sizes.{EndsBy, parts, total, with_joined}

pub total_more : (sizes : List ℕ) (n : ℕ) → total (sizes ++ n ∷ []) ≡ total sizes + n
total_more [] n = omega arith
total_more (m ∷ sizes) n = omega (arith, total_more sizes n)

pub no_bytes : (bytes : List ℕ) → length bytes ≡ 0 → bytes ≡ []
no_bytes [] is = refl
no_bytes (b ∷ bytes) is = absurd (omega (arith, is))

-- one part more
pub parts_more : (sizes bytes c : List ℕ) → total sizes ≡ length bytes
    → parts (sizes ++ length c ∷ []) (bytes ++ c) ≡ parts sizes bytes ++ c ∷ []
parts_more [] bytes c whole =
    ap (λ bs. take (length c) (bs ++ c) ∷ []) (no_bytes bytes (sym whole))
    ∙ ap (λ t. t ∷ []) (take_all (length c) c (omega arith))
parts_more (n ∷ sizes) bytes c whole =
    let within : n ≤ length bytes = omega (arith, whole) in
    let left : total sizes ≡ length (drop n bytes) = omega (arith, whole, length-drop n bytes) in
    ap (λ bs. bs ∷ parts (sizes ++ length c ∷ []) (drop n (bytes ++ c))) (take-append-le n bytes c within)
    ∙ ap (λ bs. take n bytes ∷ parts (sizes ++ length c ∷ []) bs) (drop-append-le n bytes c within)
    ∙ ap (λ ps. take n bytes ∷ ps) (parts_more sizes (drop n bytes) c left)

-- all parts together are the bytes
pub parts_whole : (sizes bytes : List ℕ) → total sizes ≡ length bytes → concat (parts sizes bytes) ≡ bytes
parts_whole [] bytes whole = sym (no_bytes bytes (sym whole))
parts_whole (n ∷ sizes) bytes whole =
    let left : total sizes ≡ length (drop n bytes) = omega (arith, whole, length-drop n bytes) in
    ap (λ bs. take n bytes ++ bs) (parts_whole sizes (drop n bytes) left) ∙ take-append-drop n bytes

-- there are as many parts as sizes
pub parts_count : (sizes bytes : List ℕ) → length (parts sizes bytes) ≡ length sizes
parts_count [] bytes = refl
parts_count (n ∷ sizes) bytes = ap suc (parts_count sizes (drop n bytes))

pub last_of_more : (cs : List (List ℕ)) (c : List ℕ) → last_of (cs ++ c ∷ []) ≡ c
last_of_more [] c = refl
last_of_more (d ∷ []) c = refl
last_of_more (d ∷ g ∷ cs) c = last_of_more (g ∷ cs) c

pub but_last_of_more : (cs : List (List ℕ)) (c : List ℕ) → but_last (cs ++ c ∷ []) ≡ cs
but_last_of_more [] c = refl
but_last_of_more (d ∷ []) c = refl
but_last_of_more (d ∷ g ∷ cs) c = ap (λ xs. d ∷ xs) (but_last_of_more (g ∷ cs) c)

-- the last part and the bytes before it, from the last size and the sizes before it
pub record LastPart (sizes before : List ℕ) (size : ℕ) (bytes : List ℕ) : Type 0 where
  pub front : List ℕ
  pub last : List ℕ
  pub bytes_are : bytes ≡ front ++ last
  pub front_whole : total before ≡ length front
  pub last_size : length last ≡ size
  pub front_parts : parts before front ≡ but_last (parts sizes bytes)
  pub last_is : last ≡ last_of (parts sizes bytes)

module _ (sizes before bytes : List ℕ) (size : ℕ) (is : EndsBy sizes before size)
    (whole : total sizes ≡ length bytes) where
  last_part : (s : EndsBy sizes before size) → LastPart sizes before size bytes
  last_part (inl last_is) =
      let sum : total before + size ≡ length bytes = sym (total_more before size) ∙ ap total (sym last_is) ∙ whole in
      let front : List ℕ = take (total before) bytes in
      let last : List ℕ = drop (total before) bytes in
      let all : bytes ≡ front ++ last = sym (take-append-drop (total before) bytes) in
      let front_whole : total before ≡ length front = omega (arith, length-take (total before) bytes, sum) in
      let last_size : length last ≡ size = omega (arith, length-drop (total before) bytes, sum) in
      let all_parts : parts sizes bytes ≡ parts before front ++ last ∷ [] =
      ap (λ ns. parts ns bytes) last_is
      ∙ ap (λ n. parts (before ++ n ∷ []) bytes) (sym last_size)
      ∙ ap (parts (before ++ length last ∷ [])) all
      ∙ parts_more before front last front_whole in record {
        front = front;
        last = last;
        bytes_are = all;
        front_whole = front_whole;
        last_size = last_size;
        front_parts = sym (ap but_last all_parts ∙ but_last_of_more (parts before front) last);
        last_is = sym (ap last_of all_parts ∙ last_of_more (parts before front) last);
      }
  last_part (inr none) = record {
    front = [];
    last = [];
    bytes_are = no_bytes bytes (sym whole ∙ ap total none.0);
    front_whole = ap total none.1;
    last_size = sym none.2;
    front_parts = ap (λ ns. parts ns []) none.1 ∙ sym (ap (λ ns. but_last (parts ns bytes)) none.0);
    last_is = sym (ap (λ ns. last_of (parts ns bytes)) none.0);
  }

  pub the_last : LastPart sizes before size bytes
  the_last = last_part is

  lengths : length bytes ≡ length the_last.front + size
  lengths =
      ap length the_last.bytes_are
      ∙ length-append the_last.front the_last.last
      ∙ ap (λ n. length the_last.front + n) the_last.last_size

  pub size_within : size ≤ length bytes
  size_within = omega (arith, lengths)

  pub size_of_last : length (last_of (parts sizes bytes)) ≡ size
  size_of_last = ap length (sym the_last.last_is) ∙ the_last.last_size

  before-last : length bytes - size ≡ length the_last.front
  before-last = omega (arith, lengths)

  -- the bytes from there on
  pub last_bytes : take (length bytes - (length bytes - size)) (drop (length bytes - size) bytes) ≡ last_of (parts sizes bytes)
  last_bytes =
      let cut : drop (length bytes - size) bytes ≡ the_last.last =
      ap (λ n. drop n bytes) before-last
      ∙ ap (drop (length the_last.front)) the_last.bytes_are
      ∙ drop-append_seam the_last.front the_last.last in
      ap (take (length bytes - (length bytes - size))) cut
      ∙ take_all (length bytes - (length bytes - size)) the_last.last
      (omega (arith, lengths, the_last.last_size))
      ∙ the_last.last_is

  bytes-before : take (length bytes - size) bytes ≡ the_last.front
  bytes-before =
      ap (λ n. take n bytes) before-last
      ∙ ap (take (length the_last.front)) the_last.bytes_are
      ∙ take-append_seam the_last.front the_last.last

  pub dropped_whole : total before ≡ length (take (length bytes - size) bytes)
  dropped_whole = the_last.front_whole ∙ ap length (sym bytes-before)

  pub dropped_parts : parts before (take (length bytes - size) bytes) ≡ but_last (parts sizes bytes)
  dropped_parts = ap (parts before) bytes-before ∙ the_last.front_parts

  module _ (b : ℕ) where
    pub joined_whole : total (before ++ (size + 1) ∷ []) ≡ length (bytes ++ b ∷ [])
    joined_whole =
        omega (
          arith,
          total_more before (size + 1),
          the_last.front_whole,
          lengths,
          length-append bytes (b ∷ []),
        )

    pub joined_parts : parts (before ++ (size + 1) ∷ []) (bytes ++ b ∷ []) ≡ with_joined (parts sizes bytes) b
    joined_parts =
        let c : List ℕ = the_last.last ++ b ∷ [] in
        let long : size + 1 ≡ length c = omega (arith, length-append the_last.last (b ∷ []), the_last.last_size) in
        let all : bytes ++ b ∷ [] ≡ the_last.front ++ c =
        ap (λ bs. bs ++ b ∷ []) the_last.bytes_are ∙ append_assoc the_last.front the_last.last (b ∷ []) in
        ap (λ n. parts (before ++ n ∷ []) (bytes ++ b ∷ [])) long
        ∙ ap (parts (before ++ length c ∷ [])) all
        ∙ parts_more before the_last.front c the_last.front_whole
        ∙ ap (λ cs. cs ++ c ∷ []) the_last.front_parts
        ∙ ap (λ d. but_last (parts sizes bytes) ++ (d ++ b ∷ []) ∷ []) the_last.last_is

-- there are no more sizes before the last one
pub no_longer : (sizes before : List ℕ) (size : ℕ) → EndsBy sizes before size → length before ≤ length sizes
no_longer sizes before size (inl is) = omega (arith, ap length is, length-append before (size ∷ []))
no_longer sizes before size (inr none) = omega (arith, ap length none.1)

-- a part of one byte more
pub added_whole : (sizes bytes : List ℕ) (b : ℕ) → total sizes ≡ length bytes
    → total (sizes ++ 1 ∷ []) ≡ length (bytes ++ b ∷ [])
added_whole sizes bytes b whole =
    omega (arith, total_more sizes 1, whole, length-append bytes (b ∷ []))

pub added_parts : (sizes bytes : List ℕ) (b : ℕ) → total sizes ≡ length bytes
    → parts (sizes ++ 1 ∷ []) (bytes ++ b ∷ []) ≡ parts sizes bytes ++ (b ∷ []) ∷ []
added_parts sizes bytes b whole = parts_more sizes bytes (b ∷ []) whole
