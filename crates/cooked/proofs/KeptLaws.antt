-- The kept characters after one more byte.
use Rattle.std.proofs.Common.{◌≡◌, ◌≢◌, ◌⊎◌, ⊎_elim, inl, inr, ℕ, zero, suc, ◌<◌, Bool, true, false, cond, ◌==◌, not, List, [], ◌∷◌, ◌++◌, refl, sym, ap, ◌∙◌, subst, append_assoc}
use Rattle.std.proofs.lemmas.Bool.{cases_Bool, cases_eq, cond-true, cond-false, eq-eqb, ne_eqb}
use Rattle.cooked.specs.Cooked.{ends_open}
use Rattle.cooked.specs.KeptText.{Reading, but_last, is_erase, read_character, read_all, read_data}
use Rattle.vt_chars.specs.Characters.{AsciiCuts, ByteMore, characters, is_part, with_byte}

-- the characters that are kept
abbrev pub kept_by : ℕ → List (List ℕ) → List (List ℕ)
kept_by e cs = (read_all e cs).kept

-- two readings, of which the first has one erase more to its right
abbrev Less : Reading → Reading → Type 0
Less r s =
    ((r.kept ≡ []) × (s.kept ≡ []) × (r.debt ≡ suc s.debt))
    ⊎ ((r.kept ≡ but_last s.kept) × (s.kept ≢ []) × (r.debt ≡ s.debt))

less_kept : (r s : Reading) → Less r s → r.kept ≡ but_last s.kept
less_kept r s less = ⊎_elim
    (λ none. none.0 ∙ ap but_last (sym none.1))
    (λ some. some.0)
    less

but_first : (c : List ℕ) (cs : List (List ℕ)) → cs ≢ [] → but_last (c ∷ cs) ≡ c ∷ but_last cs
but_first c [] some = absurd (some refl)
but_first c (d ∷ cs) some = refl

some_first : (c : List ℕ) (cs : List (List ℕ)) → c ∷ cs ≢ []
some_first c cs e = cc

-- a character that isn't an erase keeps the difference
less_data : (c : List ℕ) (kr ks : List (List ℕ)) (dr ds : ℕ)
    → Less (record { kept = kr; debt = dr }) (record { kept = ks; debt = ds })
    → Less (read_data c kr dr) (read_data c ks ds)
less_data c kr ks dr zero less = ⊎_elim
    (λ none.
    inr (
      ap (λ d. (read_data c kr d).kept) none.2 ∙ none.0 ∙ ap (λ ks. but_last (c ∷ ks)) (sym none.1),
      some_first c ks,
      ap (λ d. (read_data c kr d).debt) none.2,
    ))
    (λ some.
    inr (
      ap (λ d. (read_data c kr d).kept) some.2 ∙ ap (λ cs. c ∷ cs) some.0 ∙ sym (but_first c ks some.1),
      some_first c ks,
      ap (λ d. (read_data c kr d).debt) some.2,
    ))
    less
less_data c kr ks dr (suc ds) less = ⊎_elim
    (λ none.
    inl (
      ap (λ d. (read_data c kr d).kept) none.2 ∙ none.0,
      none.1,
      ap (λ d. (read_data c kr d).debt) none.2,
    ))
    (λ some.
    inr (
      ap (λ d. (read_data c kr d).kept) some.2 ∙ some.0,
      some.1,
      ap (λ d. (read_data c kr d).debt) some.2,
    ))
    less

less_more : (e : ℕ) (c : List ℕ) (r s : Reading) → Less r s → Less (read_character e c r) (read_character e c s)
less_more e c r s less = ⊎_elim
    (λ (is : is_erase e c ≡ true).
    subst (λ q. Less q (read_character e c s)) (sym (cond-true _ _ _ is))
    (subst (λ q. Less (record { kept = r.kept; debt = suc r.debt }) q) (sym (cond-true _ _ _ is))
    (⊎_elim
    (λ none. inl (none.0, none.1, ap suc none.2))
    (λ some. inr (some.0, some.1, ap suc some.2))
    less)))
    (λ (other : is_erase e c ≡ false).
    subst (λ q. Less q (read_character e c s)) (sym (cond-false _ _ _ other))
    (subst (λ q. Less (read_data c r.kept r.debt) q) (sym (cond-false _ _ _ other))
    (less_data c r.kept s.kept r.debt s.debt less)))
    (cases_Bool (is_erase e c))

erase_more : (e : ℕ) (cs : List (List ℕ)) → Less (read_all e (cs ++ (e ∷ []) ∷ [])) (read_all e cs)
erase_more e [] =
    subst (λ r. Less r (read_all e [])) (sym (cond-true _ _ _ (eq-eqb e e refl))) (inl (refl, refl, refl))
erase_more e (c ∷ cs) =
    less_more e c (read_all e (cs ++ (e ∷ []) ∷ [])) (read_all e cs) (erase_more e cs)

-- one erase more at the end drops the last that is kept
pub kept_erase : (cuts : AsciiCuts) (e : ℕ) (f : List ℕ) → e < 0x80
    → kept_by e (characters (f ++ e ∷ [])) ≡ but_last (kept_by e (characters f))
kept_erase cuts e f low =
    ap (kept_by e) (cuts f e [] low)
    ∙ less_kept _ _ (erase_more e (characters f))

-- a character more that isn't an erase is kept
abbrev with_kept : Reading → List ℕ → Reading
with_kept r c = record { kept = r.kept ++ c ∷ []; debt = r.debt }

data_passes : (c d : List ℕ) (kept : List (List ℕ)) (debt : ℕ)
    → read_data c (kept ++ d ∷ []) debt ≡ with_kept (read_data c kept debt) d
data_passes c d kept zero = refl
data_passes c d kept (suc debt) = refl

read_character_passes : (e : ℕ) (c d : List ℕ) (r : Reading) → read_character e c (with_kept r d) ≡ with_kept (read_character e c r) d
read_character_passes e c d r = by_test (is_erase e c)
  where
    by_test : (test : Bool)
        → cond test (record { kept = r.kept ++ d ∷ []; debt = suc r.debt }) (read_data c (r.kept ++ d ∷ []) r.debt)
        ≡ with_kept (cond test (record { kept = r.kept; debt = suc r.debt }) (read_data c r.kept r.debt)) d
    by_test true = refl
    by_test false = data_passes c d r.kept r.debt

data_more : (e : ℕ) (cs : List (List ℕ)) (d : List ℕ) → is_erase e d ≡ false
    → read_all e (cs ++ d ∷ []) ≡ with_kept (read_all e cs) d
data_more e [] d other = cond-false _ _ _ other
data_more e (c ∷ cs) d other =
    ap (read_character e c) (data_more e cs d other) ∙ read_character_passes e c d (read_all e cs)

kept_more : (e : ℕ) (cs : List (List ℕ)) (d : List ℕ) → is_erase e d ≡ false
    → kept_by e (cs ++ d ∷ []) ≡ kept_by e cs ++ d ∷ []
kept_more e cs d other = ap (λ (r : Reading). r.kept) (data_more e cs d other)

-- a character that ends with another byte is no erase
not_erase : (e : ℕ) (c : List ℕ) (b : ℕ) → b ≢ e → is_erase e (c ++ b ∷ []) ≡ false
not_erase e [] b other = ne_eqb b e other
not_erase e (a ∷ []) b other = refl
not_erase e (a ∷ d ∷ c) b other = refl

-- one more byte goes on with the last character of two or more, or of one
with_last : (cs : List (List ℕ)) (c : List ℕ) (b : ℕ)
    → with_byte (cs ++ c ∷ []) b
    ≡ cond (is_part (c ++ b ∷ [])) (cs ++ (c ++ b ∷ []) ∷ []) ((cs ++ c ∷ []) ++ (b ∷ []) ∷ [])
with_last [] c b = refl
with_last (d ∷ []) c b = push-in (is_part (c ++ b ∷ []))
  where
    push-in : (p : Bool)
        → d ∷ cond p ((c ++ b ∷ []) ∷ []) (c ∷ (b ∷ []) ∷ [])
        ≡ cond p (d ∷ (c ++ b ∷ []) ∷ []) (d ∷ c ∷ (b ∷ []) ∷ [])
    push-in true = refl
    push-in false = refl
with_last (d ∷ g ∷ cs) c b =
    ap (λ xs. d ∷ xs) (with_last (g ∷ cs) c b) ∙ push-in (is_part (c ++ b ∷ []))
  where
    push-in : (p : Bool)
        → d ∷ cond p ((g ∷ cs) ++ (c ++ b ∷ []) ∷ []) (((g ∷ cs) ++ c ∷ []) ++ (b ∷ []) ∷ [])
        ≡ cond p ((d ∷ g ∷ cs) ++ (c ++ b ∷ []) ∷ []) (((d ∷ g ∷ cs) ++ c ∷ []) ++ (b ∷ []) ∷ [])
    push-in true = refl
    push-in false = refl

-- the last of characters with a byte more ends with that byte
pub record EndsWith (cs : List (List ℕ)) (b : ℕ) : Type 0 where
  pub before : List (List ℕ)
  pub front : List ℕ
  pub whole : cs ≡ before ++ (front ++ b ∷ []) ∷ []

ends_with : (cs : List (List ℕ)) (b : ℕ) → EndsWith (with_byte cs b) b
ends_with [] b = record { before = []; front = []; whole = refl }
ends_with (c ∷ []) b = ⊎_elim
    (λ (is : is_part (c ++ b ∷ []) ≡ true). record { before = []; front = c; whole = cond-true _ _ _ is })
    (λ (other : is_part (c ++ b ∷ []) ≡ false).
    record { before = c ∷ []; front = []; whole = cond-false _ _ _ other })
    (cases_Bool (is_part (c ++ b ∷ [])))
ends_with (c ∷ d ∷ cs) b =
    let rest = ends_with (d ∷ cs) b in
    record { before = c ∷ rest.before; front = rest.front; whole = ap (λ xs. c ∷ xs) rest.whole }

-- kept characters with a byte of data more
abbrev pub with_data : Bool → List (List ℕ) → ℕ → List (List ℕ)
with_data open_end cs b = cond open_end (with_byte cs b) (cs ++ (b ∷ []) ∷ [])

-- after data that isn't erased the byte may go on with it
after_data : (bytes : ByteMore) (e : ℕ) (g : List ℕ) (x b : ℕ) → x ≢ e → b ≢ e
    → kept_by e (characters ((g ++ x ∷ []) ++ b ∷ [])) ≡ with_byte (kept_by e (characters (g ++ x ∷ []))) b
after_data bytes e g x b stays other_byte =
    let ends : EndsWith (characters (g ++ x ∷ [])) x =
    subst (λ cs. EndsWith cs x) (sym (bytes g x)) (ends_with (characters g) x) in
    let c : List ℕ = ends.front ++ x ∷ [] in
    let cs : List (List ℕ) = ends.before in
    let last : is_erase e c ≡ false = not_erase e ends.front x stays in
    let alone : is_erase e (b ∷ []) ≡ false = ne_eqb b e other_byte in
    let goes_on : kept_by e (cs ++ c ∷ []) ≡ kept_by e cs ++ c ∷ [] = kept_more e cs c last in
    ap (kept_by e) (bytes (g ++ x ∷ []) b ∙ ap (λ xs. with_byte xs b) ends.whole ∙ with_last cs c b)
    ∙ by_test c cs alone goes_on (is_part (c ++ b ∷ []))
    ∙ sym (with_last (kept_by e cs) c b)
    ∙ ap (λ xs. with_byte xs b) (sym goes_on ∙ ap (kept_by e) (sym ends.whole))
  where
    by_test : (c : List ℕ) (cs : List (List ℕ)) → is_erase e (b ∷ []) ≡ false
        → kept_by e (cs ++ c ∷ []) ≡ kept_by e cs ++ c ∷ []
        → (p : Bool)
        → kept_by e (cond p (cs ++ (c ++ b ∷ []) ∷ []) ((cs ++ c ∷ []) ++ (b ∷ []) ∷ []))
        ≡ cond p (kept_by e cs ++ (c ++ b ∷ []) ∷ []) ((kept_by e cs ++ c ∷ []) ++ (b ∷ []) ∷ [])
    by_test c cs alone goes_on true = kept_more e cs (c ++ b ∷ []) (not_erase e c b other_byte)
    by_test c cs alone goes_on false =
        kept_more e (cs ++ c ∷ []) (b ∷ []) alone ∙ ap (λ xs. xs ++ (b ∷ []) ∷ []) goes_on

-- after an erase the byte is a character of its own
after_erase : (cuts : AsciiCuts) (bytes : ByteMore) (e : ℕ) (g : List ℕ) (b : ℕ) → e < 0x80 → b ≢ e
    → kept_by e (characters ((g ++ e ∷ []) ++ b ∷ [])) ≡ kept_by e (characters (g ++ e ∷ [])) ++ (b ∷ []) ∷ []
after_erase cuts bytes e g b low other_byte =
    let here : characters (g ++ e ∷ []) ≡ characters g ++ (e ∷ []) ∷ [] = cuts g e [] low in
    let whole : characters ((g ++ e ∷ []) ++ b ∷ []) ≡ characters (g ++ e ∷ []) ++ (b ∷ []) ∷ [] =
    ap characters (append_assoc g (e ∷ []) (b ∷ []))
    ∙ cuts g e (b ∷ []) low
    ∙ ap (λ cs. characters g ++ (e ∷ []) ∷ cs) (bytes [] b)
    ∙ sym (append_assoc (characters g) ((e ∷ []) ∷ []) ((b ∷ []) ∷ []))
    ∙ ap (λ cs. cs ++ (b ∷ []) ∷ []) (sym here) in
    ap (kept_by e) whole ∙ kept_more e (characters (g ++ e ∷ [])) (b ∷ []) (ne_eqb b e other_byte)

split_last : (a : ℕ) (f : List ℕ) → (g : List ℕ) × (x : ℕ) × (a ∷ f ≡ g ++ x ∷ [])
split_last a [] = ([], a, refl)
split_last a (b ∷ f) =
    let rest = split_last b f in
    (a ∷ rest.0, rest.1, ap (λ xs. a ∷ xs) rest.2)

pub open-end : (e : ℕ) (g : List ℕ) (x : ℕ) → ends_open e (g ++ x ∷ []) ≡ not (x == e)
open-end e [] x = refl
open-end e (a ∷ []) x = refl
open-end e (a ∷ c ∷ g) x = open-end e (c ∷ g) x

data_after : (cuts : AsciiCuts) (bytes : ByteMore) (e : ℕ) (g : List ℕ) (x b : ℕ) → e < 0x80 → b ≢ e
    → kept_by e (characters ((g ++ x ∷ []) ++ b ∷ []))
    ≡ with_data (ends_open e (g ++ x ∷ [])) (kept_by e (characters (g ++ x ∷ []))) b
data_after cuts bytes e g x b low other_byte = ⊎_elim
    (λ (is : x ≡ e).
    let shut : ends_open e (g ++ x ∷ []) ≡ false = open-end e g x ∙ ap not (eq-eqb x e is) in
    ap (λ y. kept_by e (characters ((g ++ y ∷ []) ++ b ∷ []))) is
    ∙ after_erase cuts bytes e g b low other_byte
    ∙ ap (λ y. kept_by e (characters (g ++ y ∷ [])) ++ (b ∷ []) ∷ []) (sym is)
    ∙ sym (cond-false _ _ _ shut))
    (λ (other : x ≢ e).
    let open_end : ends_open e (g ++ x ∷ []) ≡ true = open-end e g x ∙ ap not (ne_eqb x e other) in
    after_data bytes e g x b other other_byte ∙ sym (cond-true _ _ _ open_end))
    (cases_eq x e)

-- a byte of data more is a character, or goes on with the last one
pub kept_data : (cuts : AsciiCuts) (bytes : ByteMore) (e : ℕ) (f : List ℕ) (b : ℕ) → e < 0x80 → b ≢ e
    → kept_by e (characters (f ++ b ∷ [])) ≡ with_data (ends_open e f) (kept_by e (characters f)) b
kept_data cuts bytes e [] b low other_byte =
    ap (kept_by e) (bytes [] b) ∙ kept_more e [] (b ∷ []) (ne_eqb b e other_byte)
kept_data cuts bytes e (a ∷ f) b low other_byte =
    let last = split_last a f in
    subst
    (λ xs. kept_by e (characters (xs ++ b ∷ [])) ≡ with_data (ends_open e xs) (kept_by e (characters xs)) b)
    (sym last.2)
    (data_after cuts bytes e last.0 last.1 b low other_byte)
