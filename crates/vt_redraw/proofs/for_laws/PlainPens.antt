-- SGR leaves the pen's colours below 8, and changes a byte's high bit in the null mapping alone.
use Rattle.std.proofs.Common.{◌≡◌, ℕ, zero, suc, ◌+◌, ◌-◌, ◌==◌, ◌<◌, Bool, true, false, List, [], ◌∷◌, Option, Some, None, nat_lt, nat_le, refl, sym, subst, cond, arith}
use Rattle.std.specs.Prelude.{IsTrue}
use Rattle.std.proofs.lemmas.Bool.{and_parts, false≢true, leb-true}
use Rattle.vt_cells.specs.Colours.{Rgb, fold_bg, fold_fg, hue, is_dark_grey, parts_above}
use Rattle.vt_cells.specs.Rendition.{Rendition}
use Rattle.vt_cells.specs.declared.intensity.Intensity.{Intensity}
use Rattle.vt_cells.specs.declared.intensity.Intensity.TheVariants.{Bold, Dim, Normal}
use Rattle.vt_sgr.specs.PenState.{PenState, plain, with_attributes, with_bg, with_bright, with_fg, with_mapping}
use Rattle.vt_sgr.specs.Sgr.{colour_of, is_of, sgr, sgr_skipping, taken_by, with_bg_colour, with_fg_colour, with_form}

-- colours that SGR has numbers for
abbrev pub IsPlain : Rendition → Type 0
IsPlain a = (a.fg < 8) × (a.bg < 8)

unfoldable pub PlainPen : PenState → Type 0
PlainPen p = IsPlain p.attr × (p.def_fg < 8) × (p.def_bg < 8) × (IsTrue p.toggle → p.alt ≡ true)

-- SGR
pen-either : (test : Bool) (p q : PenState) → PlainPen p → PlainPen q → PlainPen (cond test p q)
pen-either true p q first second = first
pen-either false p q first second = second

pen-either-if : (test : Bool) (p q : PenState) → (test ≡ true → PlainPen p) → PlainPen q → PlainPen (cond test p q)
pen-either-if true p q first second = first refl
pen-either-if false p q first second = second

three-parts : (a b c : Bool) → cond a 1 0 + cond b 2 0 + cond c 4 0 < 8
three-parts true true true = omega arith
three-parts true true false = omega arith
three-parts true false true = omega arith
three-parts true false false = omega arith
three-parts false true true = omega arith
three-parts false true false = omega arith
three-parts false false true = omega arith
three-parts false false false = omega arith

parts-few : (level r g b : ℕ) → parts_above level r g b < 8
parts-few level r g b = three-parts (nat_lt level r) (nat_lt level g) (nat_lt level b)

dark-few : (test : Bool) (n : ℕ) → n < 8 → cond test 0 n < 8
dark-few true n few = omega arith
dark-few false n few = few

fg-few : (r g b : ℕ) → (fold_fg r g b).0 < 8
fg-few r g b = dark-few (is_dark_grey r g b) (hue r g b) (parts-few _ r g b)

with-fg : (p : PenState) (n : ℕ) → n < 8 → PlainPen p → PlainPen (with_fg p n)
unfolding PlainPen
with-fg p n few h = ((few, h.0.1), h.1, h.2, h.3)

with-bg : (p : PenState) (n : ℕ) → n < 8 → PlainPen p → PlainPen (with_bg p n)
unfolding PlainPen
with-bg p n few h = ((h.0.0, few), h.1, h.2, h.3)

with-bright : (p : PenState) (n : ℕ) (intensity : Intensity) → n < 8 → PlainPen p → PlainPen (with_bright p n intensity)
unfolding PlainPen
with-bright p n intensity few h = ((few, h.0.1), h.1, h.2, h.3)

fg-coloured : (p : PenState) (rgb : Option Rgb) → PlainPen p → PlainPen (with_fg_colour p rgb)
fg-coloured p None h = h
fg-coloured p (Some (r, g, b)) h =
    with-bright p (fold_fg r g b).0 (cond (fold_fg r g b).1 Bold Normal) (fg-few r g b) h

bg-coloured : (p : PenState) (rgb : Option Rgb) → PlainPen p → PlainPen (with_bg_colour p rgb)
bg-coloured p None h = h
bg-coloured p (Some (r, g, b)) h = with-bg p (fold_bg r g b) (parts-few 127 r g b) h

of-eight : (low n : ℕ) → is_of low n ≡ true → n - low < 8
of-eight low n is =
    let high = leb-true n (low + 7) (and_parts (nat_le low n) (nat_le n (low + 7)) is).1 in omega (arith, high)

pen-plain : (p : PenState) → PlainPen p → PlainPen (plain p)
unfolding PlainPen
pen-plain p h = ((h.1, h.2), h.1, h.2, h.3)

-- the forms that leave the colours
attr-kept : (p : PenState) (a : Rendition) → a.fg ≡ p.attr.fg → a.bg ≡ p.attr.bg → PlainPen p → PlainPen (with_attributes p a)
unfolding PlainPen
attr-kept p a fg bg h = ((subst (λ n. n < 8) (sym fg) h.0.0, subst (λ n. n < 8) (sym bg) h.0.1), h.1, h.2, h.3)

mapped : (p : PenState) (alt display toggle : Bool) → (IsTrue toggle → alt ≡ true) → PlainPen p → PlainPen (with_mapping p alt display toggle)
unfolding PlainPen
mapped p alt display toggle fits h = (h.0, h.1, h.2, fits)

default-fg : (p : PenState) → PlainPen p → PlainPen (with_fg p p.def_fg)
unfolding PlainPen
default-fg p h = ((h.1, h.0.1), h.1, h.2, h.3)

default-bg : (p : PenState) → PlainPen p → PlainPen (with_bg p p.def_bg)
unfolding PlainPen
default-bg p h = ((h.0.0, h.2), h.1, h.2, h.3)

form-keeps : (n : ℕ) (rest : List ℕ) (p : PenState) → PlainPen p → PlainPen (with_form n rest p)
form-keeps n rest p h =
    pen-either (n == 0) _ _ (pen-plain p h)
    (pen-either (n == 1) _ _ (attr-kept p (record p.attr { intensity = Bold }) refl refl h)
    (pen-either (n == 2) _ _ (attr-kept p (record p.attr { intensity = Dim }) refl refl h)
    (pen-either (n == 3) _ _ (attr-kept p (record p.attr { italic = true }) refl refl h)
    (pen-either (n == 4) _ _ (attr-kept p (record p.attr { underline = true }) refl refl h)
    (pen-either (n == 5) _ _ (attr-kept p (record p.attr { blink = true }) refl refl h)
    (pen-either (n == 7) _ _ (attr-kept p (record p.attr { reverse = true }) refl refl h)
    (pen-either (n == 10) _ _ (mapped p false false false (λ o. absurd (false≢true o)) h)
    (pen-either (n == 11) _ _ (mapped p true true false (λ o. absurd (false≢true o)) h)
    (pen-either (n == 12) _ _ (mapped p true true true (λ o. refl) h)
    (pen-either (n == 21) _ _ (attr-kept p (record p.attr { underline = true }) refl refl h)
    (pen-either (n == 22) _ _ (attr-kept p (record p.attr { intensity = Normal }) refl refl h)
    (pen-either (n == 23) _ _ (attr-kept p (record p.attr { italic = false }) refl refl h)
    (pen-either (n == 24) _ _ (attr-kept p (record p.attr { underline = false }) refl refl h)
    (pen-either (n == 25) _ _ (attr-kept p (record p.attr { blink = false }) refl refl h)
    (pen-either (n == 27) _ _ (attr-kept p (record p.attr { reverse = false }) refl refl h)
    (pen-either-if (is_of 30 n) _ _ (λ is. with-fg p (n - 30) (of-eight 30 n is) h)
    (pen-either (n == 38) _ _ (fg-coloured p (colour_of rest) h)
    (pen-either (n == 39) _ _ (default-fg p h)
    (pen-either-if (is_of 40 n) _ _ (λ is. with-bg p (n - 40) (of-eight 40 n is) h)
    (pen-either (n == 48) _ _ (bg-coloured p (colour_of rest) h)
    (pen-either (n == 49) _ _ (default-bg p h)
    (pen-either-if (is_of 90 n) _ _ (λ is. with-bright p (n - 90) Bold (of-eight 90 n is) h)
    (pen-either-if (is_of 100 n) _ p (λ is. with-bg p (n - 100) (of-eight 100 n is) h) h)))))))))))))))))))))))

skipping-keeps : (taken : ℕ) (params : List ℕ) (p : PenState) → PlainPen p → PlainPen (sgr_skipping taken params p)
skipping-keeps taken [] p h = h
skipping-keeps (suc taken) (n ∷ rest) p h = skipping-keeps taken rest p h
skipping-keeps zero (n ∷ rest) p h =
    skipping-keeps (taken_by n rest) rest (with_form n rest p) (form-keeps n rest p h)

pub sgr-keeps : (params : List ℕ) (p : PenState) → PlainPen p → PlainPen (sgr params p)
sgr-keeps [] p h = form-keeps 0 [] p h
sgr-keeps (n ∷ rest) p h = skipping-keeps 0 (n ∷ rest) p h
